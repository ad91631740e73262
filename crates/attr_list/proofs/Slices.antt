-- The slices of a text at its places are its pieces.
use Rattle.std.proofs.Common.{◌≡◌, ℕ, false, ◌+◌, List, [], ◌∷◌, ◌++◌, length, refl, ap, sym, ◌∙◌, arith, append_assoc, length-append}
use Rattle.std.specs.Prelude.{slice_range}
use Rattle.std.specs.List.{join_with_byte}
use Rattle.std.proofs.lemmas.List.{take_at, drop_at}
use Rattle.std.proofs.lemmas.Grind.{common_steps}
use Rattle.attr_list.specs.Attributes.{pieces, spans_from, slices_at}
use Rattle.attr_list.proofs.Grammar.{pieces_joined}

slice_middle : (front middle back : List ℕ) (start : ℕ) → length front ≡ start → slice_range (front ++ (middle ++ back)) start (start + length middle) ≡ middle
slice_middle front middle back start e = grind (arith, drop_at, take_at)

pub slices_are : (parts : List (List ℕ)) (front : List ℕ) (start : ℕ) → length front ≡ start → slices_at (front ++ join_with_byte 44 parts) (spans_from start parts) ≡ parts
slices_are [] front start e = refl
slices_are (piece ∷ []) front start e = grind (arith, common_steps)
slices_are (piece ∷ next ∷ parts) front start e =
    let rest = join_with_byte 44 (next ∷ parts) in
    let whole : front ++ (piece ++ 44 ∷ rest) ≡ (front ++ (piece ++ 44 ∷ [])) ++ rest = ap (λ l. front ++ l) (sym (append_assoc piece (44 ∷ []) rest)) ∙ sym (append_assoc front (piece ++ 44 ∷ []) rest) in
    let size : length (front ++ (piece ++ 44 ∷ [])) ≡ start + length piece + 1 = omega (arith, length-append front (piece ++ 44 ∷ []), length-append piece (44 ∷ [])) in
    let later = ap (λ t. slices_at t (spans_from (start + length piece + 1) (next ∷ parts))) whole ∙ slices_are (next ∷ parts) (front ++ (piece ++ 44 ∷ [])) (start + length piece + 1) size in
    ap (λ p. p ∷ slices_at (front ++ (piece ++ 44 ∷ rest)) (spans_from (start + length piece + 1) (next ∷ parts))) (slice_middle front piece (44 ∷ rest) start e)
    ∙ ap (λ ps. piece ∷ ps) later

pub slices_are_pieces : (text : List ℕ) → slices_at text (spans_from 0 (pieces text)) ≡ pieces text
slices_are_pieces text = ap (λ t. slices_at t (spans_from 0 (pieces text))) (sym (pieces_joined false text)) ∙ slices_are (pieces text) [] 0 refl
