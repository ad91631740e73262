-- Ranges with and without an offset.
use Rattle.std.proofs.Common.{◌≡◌, ◌<◌, ◌^◌, ℕ, Bool, true, false, List, [], ◌∷◌, length, refl, arith, Some, None, Ok, Err, Result}
use Rattle.std.specs.Prelude.{◌==◌, ◌&&◌, nat_lt, Option, if◌then◌else◌}
use Rattle.std.specs.Option.{ok_or}
use Rattle.std.specs.Char.{is_ascii_digit}
use Rattle.std.specs.Str.Parse.{digits_value}
use Rattle.std.proofs.lemmas.Bool.{and_parts}
use Rattle.std.proofs.lemmas.Bool.Decides.{nat_tests}
use Rattle.std.specs.List.{list_all, position_or_len, before_first, after_first}
use Rattle.std.proofs.lemmas.List.{take_all}
use Rattle.attr_list.specs.Numbers.{decimal_of, has_up_to}
use Rattle.playlist_model.specs.declared.FaultKind.TheVariants as fault
use Rattle.spec_words.specs.Outcomes.{or_fault, ◌>>=◌}
use Rattle.playlist_model.specs.Said.{byte_range_of, stated_byte_range}
use Rattle.playlist_model.proofs.ListTests.{none_passes, some_passes}

no_at : (c : ℕ) → is_ascii_digit c ≡ true → (c == 64) ≡ false
no_at c h = grind (arith, nat_tests)

-- no `@` stands among digits
among_digits : (text : List ℕ) → list_all is_ascii_digit text ≡ true → position_or_len (λ b. b == 64) text ≡ length text
among_digits [] h = refl
among_digits (c ∷ cs) h = let d = and_parts _ _ h in rw (no_at c d.0) (omega (arith, among_digits cs d.1))

read_digits : (size digits below : Bool) (v n : ℕ) → (if size && digits && below then Some v else None) ≡ Some n → digits ≡ true
read_digits true true b v n h = refl
read_digits true false b v n h = absurd (cc h)
read_digits false d b v n h = absurd (cc h)

decimal_is : {E : Type 0} (o : Option ℕ) (e : E) (n : ℕ) → Ok n ≡ ok_or o e → o ≡ Some n
decimal_is None e n h = absurd (cc h)
decimal_is (Some m) e n h = cc h

decimal_is_none : {E : Type 0} (o : Option ℕ) (e : E) (r : Result ℕ E) → r ≡ ok_or o e → ((n : ℕ) → r ≡ Ok n → ⊥) → o ≡ None
decimal_is_none None e r h n = refl
decimal_is_none (Some m) e r h n = absurd (n m h)

-- a decimal is the length
pub decimal_byte_range : {E : Type 0} (text : List ℕ) (e : E) (n : ℕ) → Ok n ≡ ok_or (decimal_of text) e → byte_range_of text ≡ Ok (n, None)
decimal_byte_range text e n h =
    let d = decimal_is (decimal_of text) e n h in
    let at = among_digits text (read_digits (has_up_to 20 text) (list_all is_ascii_digit text) (nat_lt (digits_value 10 text) (2 ^ 64)) (digits_value 10 text) n d) in
    let none = none_passes (λ b. b == 64) text at in
    let front : before_first (λ b. b == 64) text ≡ text = take_all _ text (omega (arith, at)) in
    rw (none, front, d) refl

-- without an `@`, the whole text would be the length
pub no_byte_range : {E : Type 0} (text : List ℕ) (e : E) (r : Result ℕ E) → position_or_len (λ b. b == 64) text ≡ length text → r ≡ ok_or (decimal_of text) e → ((n : ℕ) → r ≡ Ok n → ⊥) → byte_range_of text ≡ Err fault.BadRange
no_byte_range text e r at h n =
    let d = decimal_is_none (decimal_of text) e r h n in
    let front : before_first (λ b. b == 64) text ≡ text = take_all _ text (omega (arith, at)) in
    rw (front, d) refl

-- with an `@`, the length stands before it and the offset after it
pub byte_range_with_offset : (text front back : List ℕ) → position_or_len (λ b. b == 64) text < length text → front ≡ before_first (λ b. b == 64) text → back ≡ after_first (λ b. b == 64) text → byte_range_of text ≡ (or_fault fault.BadRange (decimal_of front) >>= λ n. or_fault fault.BadRange (decimal_of back) >>= stated_byte_range n)
byte_range_with_offset text front back h f b =
    let any = some_passes (λ b. b == 64) text h in
    rw (f, b, any) refl
