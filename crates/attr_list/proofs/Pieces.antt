-- How a text is cut into pieces.
use Rattle.std.proofs.Common.{◌≡◌, ℕ, Bool, true, false, not, cond, List, [], ◌∷◌, ◌++◌, refl, ap, arith, append_assoc}
use Rattle.std.specs.Prelude.{◌&&◌, ◌||◌}
use Rattle.std.specs.List.{list_any}
use Rattle.std.proofs.lemmas.Bool.{and_parts, or_parts, not-true}
use Rattle.std.proofs.lemmas.List.{append-nil}
use Rattle.std.proofs.lemmas.Bool.Decides.{nat_tests}
use Rattle.attr_list.specs.Attributes.{is_comma, is_equals, is_quote, is_attribute_name_byte, is_name, is_value, ends_plain, value_spelling, pieces_from}
use Rattle.attr_list.specs.Scanning.{first_from, first_piece}
use Rattle.attr_list.specs.Inner.Scanning.{ends_attribute_pair}
use Rattle.attr_list.proofs.Elements.{none_from, fewer}

-- the pieces after the first
abbrev pub later_from : Bool → List ℕ → List (List ℕ)
later_from quoted [] = []
later_from quoted (b ∷ bytes) = cond (is_comma b && not quoted) (pieces_from false bytes) (later_from (cond (is_quote b) (not quoted) quoted) bytes)

pub pieces_are : (quoted : Bool) (text : List ℕ) → pieces_from quoted text ≡ first_from quoted text ∷ later_from quoted text
pieces_are quoted [] = refl
pieces_are quoted (b ∷ bytes) = grind (arith, pieces_are (cond (is_quote b) (not quoted) quoted) bytes)

abbrev pub stops : ℕ → Bool
stops b = is_comma b || is_quote b

-- a run without commas and quotes
pub first_past : (s rest : List ℕ) → list_any stops s ≡ false → first_from false (s ++ rest) ≡ s ++ first_from false rest
first_past [] rest h = refl
first_past (b ∷ s) rest h =
    let a = or_parts _ _ h in let c : (is_comma b ≡ false) × (is_quote b ≡ false) = or_parts _ _ a.0 in
    rw (c.0, c.1) (ap (λ l. b ∷ l) (first_past s rest a.1))

pub later_past : (s rest : List ℕ) → list_any stops s ≡ false → later_from false (s ++ rest) ≡ later_from false rest
later_past [] rest h = refl
later_past (b ∷ s) rest h =
    let a = or_parts _ _ h in let c : (is_comma b ≡ false) × (is_quote b ≡ false) = or_parts _ _ a.0 in
    rw (c.0, c.1) (later_past s rest a.1)

never : (t : Bool) → (t && false) ≡ false
never true = refl
never false = refl

-- a run without quotes, between quotes
pub first_inside : (s rest : List ℕ) → list_any is_quote s ≡ false → first_from true (s ++ rest) ≡ s ++ first_from true rest
first_inside [] rest h = refl
first_inside (b ∷ s) rest h =
    let a = or_parts _ _ h in let c : is_quote b ≡ false = a.0 in
    rw (never (is_comma b), c) (ap (λ l. b ∷ l) (first_inside s rest a.1))

pub later_inside : (s rest : List ℕ) → list_any is_quote s ≡ false → later_from true (s ++ rest) ≡ later_from true rest
later_inside [] rest h = refl
later_inside (b ∷ s) rest h =
    let a = or_parts _ _ h in let c : is_quote b ≡ false = a.0 in
    rw (never (is_comma b), c) (later_inside s rest a.1)

-- ---- names and values are such runs

name_byte_is : (b : ℕ) → is_attribute_name_byte b ≡ true → (stops b ≡ false) × (is_equals b ≡ false)
name_byte_is b h = (grind (arith, nat_tests), grind (arith, nat_tests))

pub name_runs : (name : List ℕ) → is_name name ≡ true → list_any stops name ≡ false
name_runs name h = let a = and_parts _ _ h in none_from is_attribute_name_byte stops name a.1 (λ b g. (name_byte_is b g).0)

pub name_without_equals : (name : List ℕ) → is_name name ≡ true → list_any is_equals name ≡ false
name_without_equals name h = let a = and_parts _ _ h in none_from is_attribute_name_byte is_equals name a.1 (λ b g. (name_byte_is b g).1)

pub plain_runs : (value : List ℕ) → list_any ends_plain value ≡ false → list_any stops value ≡ false
plain_runs value h = fewer ends_plain stops value h (λ b g. (or_parts _ _ g).0)

-- ---- the front of a text that begins with a spelling

pub first_named : (name rest : List ℕ) → is_name name ≡ true → first_piece (name ++ 61 ∷ rest) ≡ name ++ 61 ∷ first_piece rest
first_named name rest h = first_past name (61 ∷ rest) (name_runs name h)

pub later_named : (name rest : List ℕ) → is_name name ≡ true → later_from false (name ++ 61 ∷ rest) ≡ later_from false rest
later_named name rest h = later_past name (61 ∷ rest) (name_runs name h)

-- where a pair may end there is no more of its piece
pub first_ended : (after : List ℕ) → ends_attribute_pair after ≡ true → first_piece after ≡ []
first_ended [] h = refl
first_ended (b ∷ after) h = rw h refl

pub first_valued : (q : Bool) (value after : List ℕ) → is_value q value ≡ true → ends_attribute_pair after ≡ true → first_piece (value_spelling q value ++ after) ≡ value_spelling q value
first_valued q value after h e = grind (arith, append-nil, append_assoc, first_inside, first_past, not-true, plain_runs)

pub later_valued : (q : Bool) (value after : List ℕ) → is_value q value ≡ true → later_from false (value_spelling q value ++ after) ≡ later_from false after
later_valued q value after h = grind (arith, append_assoc, later_inside, later_past, not-true, plain_runs)
