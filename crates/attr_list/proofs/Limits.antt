-- The limit of a list's length only refuses.
use Rattle.std.proofs.Common.{◌≡◌, ℕ, ◌+◌, ◌<◌, ◌≤◌, true, false, List, [], ◌∷◌, ◌++◌, map, length, refl, ap, sym, ◌∙◌, subst, arith, inl, inr, ◌⊎◌, length-append, Ok, Err, Some, None, Result}
use Rattle.std.specs.Prelude.{IsErr}
use Rattle.std.proofs.lemmas.Bool.{lt-leb, le-leb, cases_lt}
use Rattle.std.proofs.lemmas.List.{length-map}
use Rattle.attr_list.specs.declared.AttrFault.{AttrFault}
use Rattle.attr_list.specs.declared.AttrFault.TheVariants.{TooMany}
use Rattle.attr_list.specs.Attributes.{Pair, is_full, pair_spelling, pieces, pair_of, add_pair, pairs_from, attributes_of, are_attributes, IsAttributeList}
use Rattle.attr_list.proofs.Grammar.{pairs_are, pieces_are_spellings, read_is_list, list_is_read, ok_same}

room : (most : ℕ) (before : List Pair) → length before < most → is_full (Some most) (length before) ≡ false
room most before h = lt-leb most (length before) h

same_pair : (most : ℕ) (before : List Pair) (piece : List ℕ) → length before < most → pair_of (Some most) before piece ≡ pair_of None before piece
same_pair most before piece h = rw (room most before h) refl

pub within_limit : (most : ℕ) (parts : List (List ℕ)) (before : List Pair) → length before + length parts ≤ most → pairs_from (Some most) before parts ≡ pairs_from None before parts
within_limit most [] before h = refl
within_limit most (piece ∷ parts) before h =
    ap (λ r. add_pair before r (λ pairs. pairs_from (Some most) pairs parts)) (same_pair most before piece (omega arith))
    ∙ step (pair_of None before piece) (λ pair. within_limit most parts (before ++ pair ∷ []) (omega (arith, length-append before (pair ∷ []))))
  where
    step : (r : Result Pair AttrFault) → ((pair : Pair) → pairs_from (Some most) (before ++ pair ∷ []) parts ≡ pairs_from None (before ++ pair ∷ []) parts)
        → add_pair before r (λ pairs. pairs_from (Some most) pairs parts) ≡ add_pair before r (λ pairs. pairs_from None pairs parts)
    step (Ok pair) h = h pair
    step (Err fault) h = refl

full_pair : (most : ℕ) (before : List Pair) (piece : List ℕ) → most ≤ length before → pair_of (Some most) before piece ≡ Err TooMany
full_pair most before piece h = let full = le-leb most (length before) h in rw full refl

after_pair : (most : ℕ) (before : List Pair) (parts : List (List ℕ)) (r : Result Pair AttrFault) → ((pair : Pair) → IsErr (pairs_from (Some most) (before ++ pair ∷ []) parts))
    → IsErr (add_pair before r (λ pairs. pairs_from (Some most) pairs parts))
after_pair most before parts (Ok pair) h = h pair
after_pair most before parts (Err fault) h = refl

pub past_limit : (most : ℕ) (parts : List (List ℕ)) (before : List Pair) → length before ≤ most → most < length before + length parts → IsErr (pairs_from (Some most) before parts)
past_limit most [] before few many = absurd (omega arith)
past_limit most (piece ∷ parts) before few many = step (cases_lt (length before) most) (λ l pair. past_limit most parts (before ++ pair ∷ []) (omega (arith, length-append before (pair ∷ []))) (omega (arith, length-append before (pair ∷ []))))
  where
    step : (length before < most) ⊎ (most ≤ length before) → (length before < most → (pair : Pair) → IsErr (pairs_from (Some most) (before ++ pair ∷ []) parts)) → IsErr (pairs_from (Some most) before (piece ∷ parts))
    step (inl l) next = after_pair most before parts (pair_of (Some most) before piece) (next l)
    step (inr h) next = subst (λ r. IsErr (add_pair before r (λ pairs. pairs_from (Some most) pairs parts))) (sym (full_pair most before piece h)) refl

pub within_is_same : (most : ℕ) (text : List ℕ) → length (pieces text) ≤ most → attributes_of (Some most) text ≡ attributes_of None text
within_is_same most text h = within_limit most (pieces text) [] (omega arith)

pub past_is_refused : (most : ℕ) (text : List ℕ) → most < length (pieces text) → IsErr (attributes_of (Some most) text)
past_is_refused most text h = past_limit most (pieces text) [] (omega arith) (omega arith)

-- what is read has as many attributes as pieces
pub pieces_count : (text : List ℕ) (pairs : List Pair) → attributes_of None text ≡ Ok pairs → length (pieces text) ≡ length pairs
pieces_count text pairs h = ap length (pieces_are_spellings text pairs h) ∙ length-map pairs pair_spelling

no_err : (r : Result (List Pair) AttrFault) (pairs : List Pair) → IsErr r → r ≡ Ok pairs → ⊥
no_err r pairs h e = grind arith

pub limited_is_read : (most : ℕ) (text : List ℕ) (pairs : List Pair) → attributes_of (Some most) text ≡ Ok pairs → (attributes_of None text ≡ Ok pairs) × (length (pieces text) ≤ most)
limited_is_read most text pairs h = step (cases_lt most (length (pieces text)))
  where
    step : (most < length (pieces text)) ⊎ (length (pieces text) ≤ most) → (attributes_of None text ≡ Ok pairs) × (length (pieces text) ≤ most)
    step (inl many) = absurd (no_err _ pairs (past_is_refused most text many) h)
    step (inr few) = (sym (within_is_same most text few) ∙ h, few)

pub read_is_limited : (most : ℕ) (text : List ℕ) (pairs : List Pair) → attributes_of None text ≡ Ok pairs → length (pieces text) ≤ most → attributes_of (Some most) text ≡ Ok pairs
read_is_limited most text pairs h few = within_is_same most text few ∙ h

pub limited_is_list : (most : ℕ) (text : List ℕ) (pairs : List Pair) → attributes_of (Some most) text ≡ Ok pairs → IsAttributeList text pairs
limited_is_list most text pairs h = read_is_list text pairs (limited_is_read most text pairs h).0

pub limited_are_apart : (most : ℕ) (text : List ℕ) (pairs : List Pair) → attributes_of (Some most) text ≡ Ok pairs → are_attributes pairs ≡ true
limited_are_apart most text pairs h =
    let r = pairs_are (pieces text) [] pairs (limited_is_read most text pairs h).0 in subst (λ ps. are_attributes ps ≡ true) (sym r.whole) r.apart

pub list_is_limited : (most : ℕ) (text : List ℕ) (pairs : List Pair) → IsAttributeList text pairs → length pairs ≤ most → attributes_of (Some most) text ≡ Ok pairs
list_is_limited most text pairs list few =
    let h = list_is_read text pairs list in
    let count = pieces_count text pairs h in
    read_is_limited most text pairs h (omega arith)

pub same_pairs : (most : ℕ) (text : List ℕ) (pairs others : List Pair) → attributes_of (Some most) text ≡ Ok pairs → IsAttributeList text others → length others ≤ most → pairs ≡ others
same_pairs most text pairs others h list few = ok_same (attributes_of (Some most) text) pairs others h (list_is_limited most text others list few)

-- a list within the limit has no fault
pub no_fault : (most : ℕ) (text : List ℕ) (pairs : List Pair) (fault : AttrFault) → attributes_of (Some most) text ≡ Err fault → IsAttributeList text pairs → length pairs ≤ most → ⊥
no_fault most text pairs fault h list few = grind (arith, list_is_limited)

pub limited_pieces : (most : ℕ) (text : List ℕ) (pairs : List Pair) → attributes_of (Some most) text ≡ Ok pairs → pieces text ≡ map pair_spelling pairs
limited_pieces most text pairs h = pieces_are_spellings text pairs (limited_is_read most text pairs h).0
