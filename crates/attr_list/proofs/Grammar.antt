-- What the reading gives is in the grammar, and what is in the grammar is read.
use Rattle.std.proofs.Common.{◌≡◌, ◌≢◌, ℕ, zero, suc, ◌+◌, ◌<◌, Bool, true, false, not, cond, List, [], ◌∷◌, ◌++◌, map, take, drop, length, get_or, refl, ap, sym, ◌∙◌, subst, arith, append_assoc, length-append, Ok, Err, None, Result}
use Rattle.std.specs.Prelude.{◌||◌, All, AllPairs}
use Rattle.std.specs.List.{list_any, join_with_byte, position_or_len}
use Rattle.std.proofs.lemmas.Bool.{and_parts, and_from, or_parts, not-true, not-false, not_from_false, eqb-true, false_from_ne_true, both_ways}
use Rattle.std.proofs.lemmas.List.{append-nil, get_or_at, get_or_append_left, drop_all}
use Rattle.std.proofs.lemmas.List.Elements.{All-head, All-tail, All-nil, All-cons}
use Rattle.std.proofs.lemmas.List.Quantifiers.{all_pairs_push}
use Rattle.std.proofs.lemmas.List.Folds.{list_any_none}
use Rattle.std.proofs.lemmas.Slice.Eq.{bytes_eq-Decides}
use Rattle.attr_list.specs.declared.AttrFault.{AttrFault}
use Rattle.attr_list.specs.Attributes.{Pair, is_quote, is_name, is_value, is_pair, are_apart, is_named, value_spelling, pair_spelling, attributes_text, IsPair, IsAttributeList, pieces_from, pieces, piece_name, piece_value, has_equals, quoted_value, plain_value, value_pair, pair_of_value, pair_of, add_pair, pairs_from, attributes_of}
use Rattle.attr_list.specs.Inner.Scanning.{ends_attribute_pair, StartsWithPair}
use Rattle.attr_list.proofs.Cuts.{before_has_none}
use Rattle.attr_list.proofs.Pieces.{pieces_are}
use Rattle.attr_list.proofs.Steps.{pieces_of_pair, pair_read}

-- ---- the pieces with commas between them are the text

pub pieces_joined : (quoted : Bool) (text : List ℕ) → join_with_byte 44 (pieces_from quoted text) ≡ text
pieces_joined quoted [] = refl
pieces_joined quoted (b ∷ bytes) = grind (arith, pieces_joined (cond (is_quote b) (not quoted) quoted) bytes)

-- ---- a piece that gives a pair is its spelling

guard_ok : {A : Type 0} (b : Bool) (fault : AttrFault) (r : Result A AttrFault) (x : A) → cond b (Err fault) r ≡ Ok x → (b ≡ false) × (r ≡ Ok x)
guard_ok b fault r x h = grind arith

-- what is cut at the first element that passes, and that element
abbrev SplitAt : {X : Type 0} → (X → Bool) → List X → ℕ → Type 0
SplitAt {X} p xs n = (x : X) × (p x ≡ true) × (xs ≡ take n xs ++ x ∷ drop (n + 1) xs)

split_later : {X : Type 0} (p : X → Bool) (x : X) (xs : List X) (n : ℕ) → SplitAt p xs n → SplitAt p (x ∷ xs) (1 + n)
split_later p x xs n s = grind arith

split_first : {X : Type 0} (p : X → Bool) (xs : List X) → list_any p xs ≡ true → SplitAt p xs (position_or_len p xs)
split_first p [] h = absurd (both_ways _ refl h)
split_first {X} p (x ∷ xs) h = step (p x) refl h (λ g. split_first p xs g)
  where
    step : (b : Bool) → p x ≡ b → (b || list_any p xs) ≡ true → (list_any p xs ≡ true → SplitAt p xs (position_or_len p xs)) → SplitAt p (x ∷ xs) (cond (not b) (1 + position_or_len p xs) 0)
    step true e h rest = (x, e, refl)
    step false e h rest = split_later p x xs (position_or_len p xs) (rest h)

-- `name=` at the front of a piece
named_split : (piece : List ℕ) → has_equals piece ≡ true → piece ≡ piece_name piece ++ 61 ∷ piece_value piece
named_split piece h = grind (arith, split_first)

quoted_ok : (text value : List ℕ) → quoted_value text ≡ Ok value → (list_any is_quote value ≡ false) × (text ≡ value ++ 34 ∷ [])
quoted_ok text value h = grind (arith, before_has_none, drop_all, eqb-true, guard_ok, split_first)

plain_ok : (text value : List ℕ) → plain_value text ≡ Ok value → (is_value false text ≡ true) × (text ≡ value)
plain_ok text value h = grind arith

pair_made : (name : List ℕ) (q : Bool) (r : Result (List ℕ) AttrFault) (pair : Pair) → value_pair name q r ≡ Ok pair → (value : List ℕ) × (r ≡ Ok value) × (record { name = name; value = value; quoted = q } ≡ pair)
pair_made name q r pair h = grind arith

abbrev IsValueOf : List ℕ → List ℕ → Pair → Type 0
IsValueOf name text pair = (pair.name ≡ name) × (is_value pair.quoted pair.value ≡ true) × (text ≡ value_spelling pair.quoted pair.value)

value_is : (name text : List ℕ) (pair : Pair) → pair_of_value name text ≡ Ok pair → IsValueOf name text pair
value_is name [] pair h = grind arith
value_is name (b ∷ text) pair h = step (is_quote b) refl h
  where
    step : (c : Bool) → is_quote b ≡ c → cond c (value_pair name true (quoted_value text)) (value_pair name false (plain_value (b ∷ text))) ≡ Ok pair → IsValueOf name (b ∷ text) pair
    step true e h =
        let m = pair_made name true (quoted_value text) pair h in
        let v = quoted_ok text m.0 m.1 in
        subst (IsValueOf name (b ∷ text)) m.2 (refl, not_from_false _ v.0, ap (λ c. c ∷ text) (eqb-true b 34 e) ∙ ap (λ l. 34 ∷ l) v.1)
    step false e h =
        let m = pair_made name false (plain_value (b ∷ text)) pair h in
        let v = plain_ok (b ∷ text) m.0 m.1 in
        subst (IsValueOf name (b ∷ text)) m.2 (refl, ap (is_value false) (sym v.1) ∙ v.0, v.1)

-- what a pair is that was read after others
pub record IsRead (before : List Pair) (piece : List ℕ) (pair : Pair) : Type 0 where
  pub fits : is_pair pair ≡ true
  pub new : list_any (is_named pair.name) before ≡ false
  pub spelled : piece ≡ pair_spelling pair

pub pair_is : (before : List Pair) (piece : List ℕ) (pair : Pair) → pair_of None before piece ≡ Ok pair → IsRead before piece pair
pair_is before piece pair h =
    let a = guard_ok (not (is_name (piece_name piece))) _ _ pair h in
    let b = guard_ok (not (has_equals piece)) _ _ pair a.1 in
    let c = guard_ok (list_any (is_named (piece_name piece)) before) _ _ pair b.1 in
    let v = value_is (piece_name piece) (piece_value piece) pair c.1 in
    let name : piece_name piece ≡ pair.name = sym v.0 in record {
      fits = and_from _ _ (ap is_name v.0 ∙ not-false _ a.0) v.1;
      new = ap (λ n. list_any (is_named n) before) v.0 ∙ c.0;
      spelled = named_split piece (not-false _ b.0) ∙ ap (λ l. piece_name piece ++ 61 ∷ l) v.2 ∙ ap (λ n. n ++ 61 ∷ value_spelling pair.quoted pair.value) name;
    }

-- ---- the pieces that give pairs are their spellings

pub record AreRead (before : List Pair) (parts : List (List ℕ)) (all : List Pair) : Type 0 where
  pub new : List Pair
  pub whole : all ≡ before ++ new
  pub apart : are_apart before new ≡ true
  pub spelled : parts ≡ map pair_spelling new

pub pairs_are : (parts : List (List ℕ)) (before all : List Pair) → pairs_from None before parts ≡ Ok all → AreRead before parts all
pairs_are [] before all h = record { new = []; whole = let e : before ≡ all = cc in sym e ∙ sym (append-nil before); apart = refl; spelled = refl }
pairs_are (piece ∷ parts) before all h = step (pair_of None before piece) refl h (λ pair g. pairs_are parts (before ++ pair ∷ []) all g)
  where
    step : (r : Result Pair AttrFault) → pair_of None before piece ≡ r → add_pair before r (λ pairs. pairs_from None pairs parts) ≡ Ok all
        → ((pair : Pair) → pairs_from None (before ++ pair ∷ []) parts ≡ Ok all → AreRead (before ++ pair ∷ []) parts all) → AreRead before (piece ∷ parts) all
    step (Ok pair) e h next =
        let one = pair_is before piece pair e in
        let rest = next pair h in record {
          new = pair ∷ rest.new;
          whole = rest.whole ∙ append_assoc before (pair ∷ []) rest.new;
          apart = and_from _ _ (and_from _ _ one.fits (not_from_false _ one.new)) rest.apart;
          spelled = ap (λ p. p ∷ parts) one.spelled ∙ ap (λ ps. pair_spelling pair ∷ ps) rest.spelled;
        }
    step (Err fault) e h next = absurd (no h)
      where
        no : {fault : AttrFault} → Err fault ≡ Ok all → ⊥
        no h = cc

-- ---- names apart, by a test and by places

abbrev NamesDiffer : Pair → Pair → Type 0
NamesDiffer a b = a.name ≢ b.name

unnamed : (name : List ℕ) (pairs : List Pair) → list_any (is_named name) pairs ≡ false → (k : ℕ) (d : Pair) → k < length pairs → (get_or pairs k d).name ≢ name
unnamed name [] h k d l e = absurd (omega arith)
unnamed name (pair ∷ pairs) h zero d l e = grind (arith, bytes_eq-Decides)
unnamed name (pair ∷ pairs) h (suc k) d l e = unnamed name pairs (or_parts _ _ h).1 k d (omega arith) e

-- pairs that are apart, in the words of the grammar
pub record AreSpelled (before new : List Pair) : Type 0 where
  pub each : All IsPair new
  pub names : AllPairs NamesDiffer (before ++ new)

apart_are : (before new : List Pair) → AllPairs NamesDiffer before → are_apart before new ≡ true → AreSpelled before new
apart_are before [] names h = record { each = All-nil IsPair; names = subst (AllPairs NamesDiffer) (sym (append-nil before)) names }
apart_are before (pair ∷ new) names h =
    let a = and_parts _ _ h in let b : (is_pair pair ≡ true) × (not (list_any (is_named pair.name) before) ≡ true) = and_parts _ _ a.0 in
    let more = all_pairs_push NamesDiffer before pair names (λ k d l. unnamed pair.name before (not-true _ b.1) k d l) in
    let rest = apart_are (before ++ pair ∷ []) new more a.1 in record {
      each = All-cons IsPair pair new (and_parts _ _ b.0) rest.each;
      names = subst (AllPairs NamesDiffer) (append_assoc before (pair ∷ []) new) rest.names;
    }

no_pairs : AllPairs NamesDiffer []
no_pairs i j d h l = absurd (omega arith)

not_none : (pair : Pair) (pairs : List Pair) → pair ∷ pairs ≢ []
not_none pair pairs h = cc

some_spelled : (text : List ℕ) (pairs : List Pair) → pieces text ≡ map pair_spelling pairs → pairs ≢ []
some_spelled text [] h e = grind (arith, pieces_are)
some_spelled text (pair ∷ pairs) h e = absurd (not_none pair pairs e)

-- what the reading gives is in the grammar
pub read_is_list : (text : List ℕ) (pairs : List Pair) → attributes_of None text ≡ Ok pairs → IsAttributeList text pairs
read_is_list text pairs h =
    let r = pairs_are (pieces text) [] pairs h in
    let s = apart_are [] r.new no_pairs r.apart in
    subst (IsAttributeList text) (sym r.whole) (record {
      some = some_spelled text r.new r.spelled;
      each = s.each;
      names = s.names;
      spelled = sym (pieces_joined false text) ∙ ap (join_with_byte 44) r.spelled;
    })

-- ---- what is in the grammar is read

new_name : (before : List Pair) (pair : Pair) (later : List Pair) → AllPairs NamesDiffer (before ++ pair ∷ later) → list_any (is_named pair.name) before ≡ false
new_name before pair later names =
    list_any_none (is_named pair.name) before (λ k d l. false_from_ne_true _ (λ e.
    names k (length before) d l (omega (arith, length-append before (pair ∷ later)))
    (ap (λ p. p.name) (get_or_append_left before (pair ∷ later) d k l) ∙ sym ((bytes_eq-Decides pair.name (get_or before k d).name).0 e) ∙ sym (ap (λ p. p.name) (get_or_at before pair later d (length before) refl)))))

apart_from : (before new : List Pair) → All IsPair new → AllPairs NamesDiffer (before ++ new) → are_apart before new ≡ true
apart_from before [] each names = refl
apart_from before (pair ∷ new) each names =
    let one = All-head IsPair pair new each in
    and_from _ _ (and_from _ _ (and_from _ _ one.0 one.1) (not_from_false _ (new_name before pair new names)))
    (apart_from (before ++ pair ∷ []) new (All-tail IsPair pair new each) (subst (AllPairs NamesDiffer) (sym (append_assoc before (pair ∷ []) new)) names))

starts : (pair : Pair) (after : List ℕ) → is_pair pair ≡ true → ends_attribute_pair after ≡ true → StartsWithPair (pair_spelling pair ++ after) pair after
starts pair after h e = record { fits = h; spelled = refl; ended = e }

pub pieces_of_text : (pair : Pair) (pairs before : List Pair) → are_apart before (pair ∷ pairs) ≡ true → pieces (attributes_text (pair ∷ pairs)) ≡ map pair_spelling (pair ∷ pairs)
pieces_of_text pair [] before h =
    let a = and_parts _ _ h in let b = and_parts _ _ a.0 in
    ap pieces (sym (append-nil (pair_spelling pair))) ∙ pieces_of_pair (pair_spelling pair ++ []) pair [] (starts pair [] b.0 refl)
pieces_of_text pair (next ∷ pairs) before h =
    let a = and_parts _ _ h in let b = and_parts _ _ a.0 in
    pieces_of_pair (attributes_text (pair ∷ next ∷ pairs)) pair (44 ∷ attributes_text (next ∷ pairs)) (starts pair (44 ∷ attributes_text (next ∷ pairs)) b.0 refl)
    ∙ ap (λ ps. pair_spelling pair ∷ ps) (pieces_of_text next pairs (before ++ pair ∷ []) a.1)

pairs_read : (pairs before : List Pair) → are_apart before pairs ≡ true → pairs_from None before (map pair_spelling pairs) ≡ Ok (before ++ pairs)
pairs_read [] before h = ap Ok (sym (append-nil before))
pairs_read (pair ∷ pairs) before h =
    let a = and_parts _ _ h in let b : (is_pair pair ≡ true) × (not (list_any (is_named pair.name) before) ≡ true) = and_parts _ _ a.0 in
    let e = pair_read None before pair b.0 refl (not-true _ b.1) in
    ap (λ r. add_pair before r (λ ps. pairs_from None ps (map pair_spelling pairs))) e
    ∙ pairs_read pairs (before ++ pair ∷ []) a.1 ∙ ap Ok (append_assoc before (pair ∷ []) pairs)

-- the attributes of a text that spells them are these
pub written_is_read : (pairs : List Pair) → pairs ≢ [] → are_apart [] pairs ≡ true → attributes_of None (attributes_text pairs) ≡ Ok pairs
written_is_read [] some h = absurd (some refl)
written_is_read (pair ∷ pairs) some h = ap (pairs_from None []) (pieces_of_text pair pairs [] h) ∙ pairs_read (pair ∷ pairs) [] h

pub list_is_read : (text : List ℕ) (pairs : List Pair) → IsAttributeList text pairs → attributes_of None text ≡ Ok pairs
list_is_read text pairs list = ap (attributes_of None) list.spelled ∙ written_is_read pairs list.some (apart_from [] pairs list.each list.names)

pub ok_same : (r : Result (List Pair) AttrFault) (a b : List Pair) → r ≡ Ok a → r ≡ Ok b → a ≡ b
ok_same r a b e f = cc

-- a text has at most one list
pub one_list : (text : List ℕ) (a b : List Pair) → IsAttributeList text a → IsAttributeList text b → a ≡ b
one_list text a b x y = ok_same (attributes_of None text) a b (list_is_read text a x) (list_is_read text b y)

pub pieces_are_spellings : (text : List ℕ) (pairs : List Pair) → attributes_of None text ≡ Ok pairs → pieces text ≡ map pair_spelling pairs
pieces_are_spellings text pairs h = let r = pairs_are (pieces text) [] pairs h in r.spelled ∙ ap (map pair_spelling) (sym r.whole)
