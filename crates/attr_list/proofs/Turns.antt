-- One turn of the loop that reads a list, with the attributes that it keeps.
use Rattle.std.proofs.Common.{◌≡◌, ◌≢◌, ℕ, ◌-◌, ◌<◌, ◌≤◌, List, [], ◌∷◌, ◌++◌, map, length, ap, sym, ◌∙◌, arith, Ok, Err, Some, Result}
use Rattle.std.proofs.lemmas.List.{map-append}
use Rattle.std.proofs.Common.{length-append}
use Rattle.std.proofs.lemmas.Grind.{common_steps}
use Rattle.std.proofs.lemmas.Bool.Decides.{nat_tests}
use Rattle.attr_list.specs.declared.AttrFault.{AttrFault}
use Rattle.attr_list.specs.declared.attr.Attr.{Attr}
use Rattle.attr_list.specs.Attributes.{Pair, pair_spelling, pieces, pair_of, pairs_from, spans_from}
use Rattle.attr_list.specs.Attrs.{attr_pair, attr_span}
use Rattle.attr_list.specs.Scanning.{first_piece}
use Rattle.attr_list.specs.Inner.Scanning.{StartsWithPair}
use Rattle.attr_list.proofs.Steps.{first_pair, read_on, read_last, ends_empty, span_on, span_last}

-- the attributes with the one at the front of the text
pub record IsTurn (whole text after : List ℕ) (pair : Pair) (attrs items : List Attr) (attr : Attr) : Type 0 where
  pub starts : StartsWithPair text pair after
  pub is_read : pair_of (Some 64) (map attr_pair attrs) (pair_spelling pair) ≡ Ok pair
  pub said : attr_pair attr ≡ pair
  pub stands : attr_span attr ≡ (length whole - length text, length whole - length after)
  pub kept : items ≡ attrs ++ attr ∷ []
  pub within : length text ≤ length whole

pairs_kept : (attrs items : List Attr) (attr : Attr) (pair : Pair) → attr_pair attr ≡ pair → items ≡ attrs ++ attr ∷ [] → map attr_pair items ≡ map attr_pair attrs ++ pair ∷ []
pairs_kept attrs items attr pair said kept = ap (map attr_pair) kept ∙ map-append attr_pair attrs (attr ∷ []) ∙ ap (λ p. map attr_pair attrs ++ p ∷ []) said

spans_kept : (attrs items : List Attr) (attr : Attr) (span : ℕ × ℕ) → attr_span attr ≡ span → items ≡ attrs ++ attr ∷ [] → map attr_span items ≡ map attr_span attrs ++ span ∷ []
spans_kept attrs items attr span stands kept = ap (map attr_span) kept ∙ map-append attr_span attrs (attr ∷ []) ∙ ap (λ p. map attr_span attrs ++ p ∷ []) stands

pub rest_within : (whole text after next : List ℕ) (pair : Pair) (attrs items : List Attr) (attr : Attr) → IsTurn whole text after pair attrs items attr → after ≡ 44 ∷ next → (length next < length text) × (length next ≤ length whole)
rest_within whole text after next pair attrs items attr t e = grind (arith, length-append)

pub pairs_on : (whole text after next : List ℕ) (pair : Pair) (attrs items : List Attr) (attr : Attr) (all : Result (List Pair) AttrFault) → IsTurn whole text after pair attrs items attr → after ≡ 44 ∷ next
    → pairs_from (Some 64) (map attr_pair attrs) (pieces text) ≡ all → pairs_from (Some 64) (map attr_pair items) (pieces next) ≡ all
pairs_on whole text after next pair attrs items attr all t e h =
    grind (arith, common_steps, nat_tests, pairs_kept, read_on)

pub spans_on : (whole text after next : List ℕ) (pair : Pair) (attrs items : List Attr) (attr : Attr) (all : List (ℕ × ℕ)) → IsTurn whole text after pair attrs items attr → after ≡ 44 ∷ next
    → map attr_span attrs ++ spans_from (length whole - length text) (pieces text) ≡ all → map attr_span items ++ spans_from (length whole - length next) (pieces next) ≡ all
spans_on whole text after next pair attrs items attr all t e h =
    grind (arith, common_steps, nat_tests, span_on, spans_kept)

pub pairs_end : (whole text after : List ℕ) (pair : Pair) (attrs items : List Attr) (attr : Attr) (all : Result (List Pair) AttrFault) → IsTurn whole text after pair attrs items attr → ((rest : List ℕ) → after ≢ 44 ∷ rest)
    → pairs_from (Some 64) (map attr_pair attrs) (pieces text) ≡ all → all ≡ Ok (map attr_pair items)
pairs_end whole text after pair attrs items attr all t other h =
    sym h ∙ read_last (Some 64) (map attr_pair attrs) text pair after t.starts (ends_empty after t.starts.ended other) t.is_read ∙ ap Ok (sym (pairs_kept attrs items attr pair t.said t.kept))

pub spans_end : (whole text after : List ℕ) (pair : Pair) (attrs items : List Attr) (attr : Attr) (all : List (ℕ × ℕ)) → IsTurn whole text after pair attrs items attr → ((rest : List ℕ) → after ≢ 44 ∷ rest)
    → map attr_span attrs ++ spans_from (length whole - length text) (pieces text) ≡ all → map attr_span items ≡ all
spans_end whole text after pair attrs items attr all t other h = grind (arith, span_last, spans_kept)

abbrev failed : AttrFault → Result Pair AttrFault
failed e = Err e

-- the first attribute was read, so it has no fault
pub first_is_read : (whole text after : List ℕ) (pair : Pair) (attrs : List Attr) (e : AttrFault) → StartsWithPair text pair after → pair_of (Some 64) (map attr_pair attrs) (pair_spelling pair) ≡ Ok pair
    → ((f : AttrFault) → pair_of (Some 64) [] (first_piece whole) ≡ Err f → (attrs ≡ []) × (text ≡ whole)) → pair_of (Some 64) [] (first_piece whole) ≢ Err e
first_is_read whole text after pair attrs e starts is_read first fault =
    let still = first e fault in
    let piece : first_piece whole ≡ pair_spelling pair = ap first_piece (sym still.1) ∙ first_pair text pair after starts in
    let read : pair_of (Some 64) [] (pair_spelling pair) ≡ Ok pair = ap (λ (xs : List Attr). pair_of (Some 64) (map attr_pair xs) (pair_spelling pair)) (sym still.0) ∙ is_read in
    let both : failed e ≡ Ok pair = sym fault ∙ ap (pair_of (Some 64) []) piece ∙ read in
    cc
