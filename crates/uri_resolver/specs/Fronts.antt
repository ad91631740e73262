-- Which references a front of a base stands before.
use Rattle.std.specs.Prelude.{ℕ, Bool, List}
use Rattle.uri_resolver.specs.declared.BaseFront.{BaseFront}
use Rattle.uri_resolver.specs.declared.BaseFront.TheVariants.{Directory, Origin}
use Rattle.uri_resolver.specs.Plain.{is_relative_reference, is_rooted_reference}

-- a reference that is resolved by putting this front of the base before it
abbrev pub is_plain_after : BaseFront → List ℕ → Bool
is_plain_after Directory reference = is_relative_reference reference
is_plain_after Origin reference = is_rooted_reference reference
