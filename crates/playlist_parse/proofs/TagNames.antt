-- Tags and their names.
use Rattle.std.proofs.Common.{◌≡◌, ℕ, List, [], ◌∷◌, refl, sym, ap, true, false, arith}
use Rattle.std.specs.Prelude.{◌≢◌, Bool, Some, None, Result, Ok, Err, MatchResult, bytes_eq, if◌then◌else◌}
use Rattle.std.specs.List.{find}
use Rattle.std.proofs.lemmas.Slice.Eq.{bytes_eq-Decides}
use Rattle.playlist_model.specs.declared.FaultKind.{FaultKind}
use Rattle.playlist_model.specs.declared.FaultKind.TheVariants as fault
use Rattle.playlist_model.specs.Lines.{tag}
use Rattle.playlist_model.specs.Said.{Said, Name, unknown_tag, Outcome}
use Rattle.playlist_model.specs.Reading.{tag_names, name_found, name_of, said_by_kind, said_by_tag, limited}
use Rattle.playlist_parse.specs.declared.tag.Tag.{Tag}
use Rattle.playlist_parse.specs.declared.tag.Tag.TheVariants.{Unknown}
use Rattle.playlist_parse.specs.Inner.LineViews.{tag_view}
use Rattle.playlist_parse.specs.Inner.Progress.{Progress, TakesLine, TakesLineExactly, TakesTag, TakesTagExactly}

-- the text is no row's name
abbrev pub NoneIs : List ℕ → List (List ℕ × Bool × Name) → Type 0
NoneIs text [] = Unit {0}
NoneIs text (row ∷ rows) = (text ≢ row.0) × NoneIs text rows

differs : (a b : List ℕ) (same : Bool) → bytes_eq a b ≡ same → a ≢ b → same ≡ false
differs a b true e n = absurd (n ((bytes_eq-Decides a b).0 e))
differs a b false e n = refl

no_row : (text : List ℕ) (rows : List (List ℕ × Bool × Name)) → NoneIs text rows → find (λ (row : List ℕ × Bool × Name). bytes_eq text row.0) rows ≡ None
no_row text [] n = refl
no_row text (row ∷ rows) n = let other = differs text row.0 (bytes_eq text row.0) refl n.0 in rw other (no_row text rows n.1)

pub unnamed : (text : List ℕ) (colon : Bool) → NoneIs text tag_names → unknown_tag ≡ name_of text colon
unnamed text colon n = sym (ap (name_found colon) (no_row text tag_names n))

-- a flag with a colon is unknown
pub flagged : (found : Tag) (colon : Bool) → tag_view (if colon then Unknown else found) ≡ name_found colon (Some ([], true, tag_view found))
flagged found true = refl
flagged found false = refl

-- what takes a tag with no memory, takes it
pub exactly : (name : Name) (rest : List ℕ) (old new : Progress) (result : Result (Unit {0}) FaultKind) → TakesTagExactly name rest old new result → TakesTag name rest old new result
exactly name rest old new result takes = grind arith

-- what a tag of this name does, the tag does whose text has it
pub takes_named : (text rest : List ℕ) (colon : Bool) (name : Name) (old new : Progress) (result : Result (Unit {0}) FaultKind) → name ≡ name_of text colon → TakesLine (λ base before. said_by_tag limited base before name rest) old new result → TakesLine (λ base before. said_by_kind limited base before (tag text rest colon)) old new result
takes_named text rest colon name old new result h takes = grind arith

pub named_exactly : (text rest : List ℕ) (colon : Bool) (name : Name) (old new : Progress) (result : Result (Unit {0}) FaultKind) → name ≡ name_of text colon → TakesTagExactly name rest old new result → TakesLineExactly (λ base before. said_by_kind limited base before (tag text rest colon)) old new result
named_exactly text rest colon name old new result h takes = grind arith
