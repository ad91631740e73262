-- Resources of plain references.
use Rattle.std.proofs.Common.{◌≡◌, ℕ, List, ◌++◌, true, ap, subst}
use Rattle.std.specs.Prelude.{Ok, Option, Some, IfSome}
use Rattle.url.specs.Parts.{Parts}
use Rattle.playlist_model.specs.declared.FaultKind.TheVariants as fault
use Rattle.spec_words.specs.Outcomes.{or_fault}
use Rattle.playlist_model.specs.Said.{uri_of}
use Rattle.uri_resolver.specs.declared.BaseFront.{BaseFront}
use Rattle.uri_resolver.specs.Fronts.{is_plain_after}
use Rattle.uri_resolver.specs.Plain.{StandsBefore}

-- such a one is the text that stands before the reference, and then the reference
pub joined : (own base : Parts) (front : BaseFront) (text reference : List ℕ) → own ≡ base → StandsBefore own (is_plain_after front) text → is_plain_after front reference ≡ true → uri_of base reference ≡ Ok (text ++ reference)
joined own base front text reference same stands plain = subst (λ b. uri_of b reference ≡ Ok (text ++ reference)) same (ap (or_fault fault.BadUri) (stands reference plain))

-- the same of the text of a front that is known to be this one
pub joined_known : (own base : Parts) (known : Option BaseFront) (front : BaseFront) (text reference : List ℕ) → own ≡ base → IfSome known (λ k. StandsBefore own (is_plain_after k) text) → known ≡ Some front → is_plain_after front reference ≡ true → uri_of base reference ≡ Ok (text ++ reference)
joined_known own base known front text reference same stands is plain = joined own base front text reference same (subst (λ o. IfSome o (λ k. StandsBefore own (is_plain_after k) text)) is stands) plain
