use Rattle.std.proofs.Common.{◌≡◌, false, length}
use Rattle.uri_resolver.specs.Plain.{is_plain_reference_path}
use Rattle.uri_resolver.proofs.plain.reference_goes_on_plain.Given as goal

-- what is left decides
abbrev pub invariant-loop-byte : goal.invariant-loop-byte
invariant-loop-byte l = is_plain_reference_path false l.rest ≡ is_plain_reference_path false l.bytes

abbrev pub decreases-loop-byte : goal.decreases-loop-byte
decreases-loop-byte l = length l.rest
