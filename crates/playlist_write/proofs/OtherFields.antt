-- What a key's text of other attributes says (RFC 8216, section 4.3.2.4).
use Rattle.std.proofs.Common.{◌≡◌, ◌≢◌, ℕ, true, false, List, [], ◌∷◌, ◌++◌, refl, ap, sym, ◌∙◌, subst, Ok, Err, None, append_assoc, arith}
use Rattle.std.specs.Prelude.{◌==◌, Result, find, codes}
use Rattle.std.specs.List.{list_any}
use Rattle.std.proofs.lemmas.Bool.{and_parts, or_parts, not-true, eqb-true}
use Rattle.attr_list.specs.declared.AttrFault.{AttrFault}
use Rattle.attr_list.specs.Attributes.{Pair, attributes_of, attributes_text, are_attributes, is_named, pieces}
use Rattle.attr_list.proofs.Grammar.{pairs_are, read_is_list}
use Rattle.playlist_model.specs.Carried.{after_commas, are_others, carried, is_carried, is_key_attribute}
use Rattle.playlist_model.proofs.Carried.{attributes_are, commas_append}

pub record OtherPairs (text : List ℕ) : Type 0 where
  pub pairs : List Pair
  pub spelled : text ≡ after_commas pairs
  pub apart : are_attributes pairs ≡ true
  pub none_own : list_any is_key_attribute pairs ≡ false

-- a list of attributes is that of the first and, each after a comma, the others
after_first : (list : List ℕ) (pairs : List Pair) → attributes_of None list ≡ Ok pairs → 44 ∷ list ≡ after_commas pairs
after_first list pairs h = let r = read_is_list list pairs h in by pairs r.some r.spelled
  where
    by : (pairs : List Pair) → pairs ≢ [] → list ≡ attributes_text pairs → 44 ∷ list ≡ after_commas pairs
    by [] some e = absurd (some refl)
    by (pair ∷ pairs) some e = ap (λ t. 44 ∷ t) (e ∙ attributes_are pair pairs)

pub other_pairs : (text : List ℕ) → are_others text ≡ true → OtherPairs text
other_pairs [] h = record { pairs = []; spelled = refl; apart = refl; none_own = refl }
other_pairs (b ∷ list) h =
    let a : ((b == 44) ≡ true) × (is_carried (attributes_of None list) ≡ true) = and_parts _ _ h in
    let comma : b ≡ 44 = eqb-true b 44 a.0 in
    step (attributes_of None list) refl a.1 comma
  where
    step : (r : Result (List Pair) AttrFault) → attributes_of None list ≡ r → is_carried r ≡ true → b ≡ 44 → OtherPairs (b ∷ list)
    step (Ok pairs) e n comma =
        let read = pairs_are (pieces list) [] pairs e in record {
          pairs = pairs;
          spelled = ap (λ c. c ∷ list) comma ∙ after_first list pairs e;
          apart = subst (λ ps. are_attributes ps ≡ true) (sym read.whole) read.apart;
          none_own = not-true _ n;
        }
    step (Err e) g n comma = cc

-- after other attributes they stand in one list
pub others_after : (pair : Pair) (pairs others : List Pair) → attributes_text (pair ∷ pairs) ++ after_commas others ≡ attributes_text (pair ∷ pairs ++ others)
others_after pair pairs others = grind (arith, attributes_are, append_assoc, commas_append)

-- a name that is none of a key's own
pub record IsOther (pair : Pair) : Type 0 where
  pub method : is_named (codes "METHOD") pair ≡ false
  pub uri : is_named (codes "URI") pair ≡ false
  pub iv : is_named (codes "IV") pair ≡ false
  pub format : is_named (codes "KEYFORMAT") pair ≡ false

pub is_other : (pair : Pair) → is_key_attribute pair ≡ false → IsOther pair
is_other pair h = grind (arith, or_parts)

pub carried_others : (others : List Pair) → list_any is_key_attribute others ≡ false → carried others ≡ others
carried_others [] h = refl
carried_others (pair ∷ others) h = let a : (is_key_attribute pair ≡ false) × (list_any is_key_attribute others ≡ false) = or_parts _ _ h in rw a.0 (ap (λ xs. pair ∷ xs) (carried_others others a.1))

pub none_found : (name : List ℕ) (others : List Pair) → list_any is_key_attribute others ≡ false → ((pair : Pair) → IsOther pair → is_named name pair ≡ false) → find (is_named name) others ≡ None
none_found name [] h f = refl
none_found name (pair ∷ others) h f = let a = or_parts _ _ h in rw (f pair (is_other pair a.0)) (none_found name others a.1 f)
