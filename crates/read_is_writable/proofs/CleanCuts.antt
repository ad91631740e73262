-- The parts of a text without control characters that is cut at an ASCII byte.
use Rattle.std.proofs.Common.{◌≡◌, ℕ, suc, ◌+◌, ◌-◌, ◌<◌, Bool, true, false, not, cond, List, [], ◌∷◌, ◌++◌, take, drop, length, get_or, refl, ap, sym, ◌∙◌, subst, arith, length-append}
use Rattle.std.specs.Prelude.{◌==◌, ◌||◌}
use Rattle.std.specs.List.{list_any, position_or_len, after_first, join_with_byte, slice_split, AllByRecursion}
use Rattle.std.specs.Char.{is_control}
use Rattle.std.specs.Str.{IsUtf8, chars, is_utf8}
use Rattle.std.specs.Str.Lines.{lines, lines_of_parts, strip_carriage_return}
use Rattle.std.proofs.lemmas.Bool.{and_from, and_parts, or_parts, eqb-true, not_from_false, not-true}
use Rattle.std.proofs.lemmas.List.{take_at}
use Rattle.std.proofs.lemmas.List.Folds.{list_any-append}
use Rattle.std.proofs.lemmas.List.Splits.{join_with_byte-slice_split}
use Rattle.std.proofs.lemmas.Str.{IsUtf8-take, IsUtf8-drop, IsUtf8-nil, chars-nil, IsUtf8-from_ascii, IsUtf8-from_is_utf8, is_utf8-from_IsUtf8, IsCharBoundary-before_ascii, IsCharBoundary-after_ascii, chars-append}
use Rattle.std.proofs.lemmas.Str.Ascii.{IsAscii-nil, IsAscii-cons}
use Rattle.attr_list.proofs.Cuts.{after_none}
use Rattle.writable.specs.Fitting.{is_clean}
use Rattle.playlist_write.proofs.CleanTexts.{Clean}

pub clean_is : (text : List ℕ) → Clean text → is_clean text ≡ true
clean_is text c = and_from _ _ (is_utf8-from_IsUtf8 text c.utf8) (not_from_false _ c.free)

pub is_is_clean : (text : List ℕ) → is_clean text ≡ true → Clean text
is_is_clean text h = grind (arith, and_parts, IsUtf8-from_is_utf8, not-true)

pub clean_nil : Clean []
clean_nil = record { utf8 = IsUtf8-nil; free = ap (list_any is_control) chars-nil }

module _ (xs : List ℕ) (b : ℕ) (ys : List ℕ) (low : b < 128) where
  at_cut : get_or (xs ++ b ∷ ys) (length xs) 0 ≡ b
  at_cut = by xs
    where
      by : (xs : List ℕ) → get_or (xs ++ b ∷ ys) (length xs) 0 ≡ b
      by [] = refl
      by (x ∷ xs) = by xs

  past : drop (length xs + 1) (xs ++ b ∷ ys) ≡ ys
  past = by xs
    where
      by : (xs : List ℕ) → drop (length xs + 1) (xs ++ b ∷ ys) ≡ ys
      by [] = refl
      by (x ∷ xs) = let e : length (x ∷ xs) + 1 ≡ suc (length xs + 1) = omega arith in ap (λ n. drop n (x ∷ (xs ++ b ∷ ys))) e ∙ by xs

  pub utf8_cut : IsUtf8 (xs ++ b ∷ ys) → IsUtf8 xs × IsUtf8 ys
  utf8_cut u =
      let l : length xs < length (xs ++ b ∷ ys) = omega (arith, length-append xs (b ∷ ys)) in
      let small : get_or (xs ++ b ∷ ys) (length xs) 0 < 128 = omega (arith, at_cut, low) in
      let front = IsUtf8-take (xs ++ b ∷ ys) (length xs) u (IsCharBoundary-before_ascii (xs ++ b ∷ ys) (length xs) l small) in
      let back = IsUtf8-drop (xs ++ b ∷ ys) (length xs + 1) u (IsCharBoundary-after_ascii (xs ++ b ∷ ys) (length xs) u l small) in
      (subst IsUtf8 (take_at xs (b ∷ ys) (length xs) refl) front, subst IsUtf8 past back)

  pub clean_cut : Clean (xs ++ b ∷ ys) → Clean xs × Clean ys
  clean_cut c =
      let u = utf8_cut c.utf8 in
      let one = IsAscii-cons b [] low IsAscii-nil in
      let whole : chars (xs ++ b ∷ ys) ≡ chars xs ++ (chars (b ∷ []) ++ chars ys) =
      chars-append xs (b ∷ ys) u.0 ∙ ap (λ cs. chars xs ++ cs) (chars-append (b ∷ []) ys (IsUtf8-from_ascii (b ∷ []) one)) in
      let none : (list_any is_control (chars xs) || list_any is_control (chars (b ∷ []) ++ chars ys)) ≡ false =
      sym (list_any-append is_control (chars xs) (chars (b ∷ []) ++ chars ys)) ∙ sym (ap (list_any is_control) whole) ∙ c.free in
      let a = or_parts _ _ none in
      let rest : (list_any is_control (chars (b ∷ [])) || list_any is_control (chars ys)) ≡ false = sym (list_any-append is_control (chars (b ∷ [])) (chars ys)) ∙ a.1 in
      (record { utf8 = u.0; free = a.0 }, record { utf8 = u.1; free = (or_parts _ _ rest).1 })

-- ---- what stands after the first byte that passes a test

-- a text with such a byte is a front, the byte and what stands after it
record IsCut (p : ℕ → Bool) (text : List ℕ) : Type 0 where
  front : List ℕ
  byte : ℕ
  whole : text ≡ front ++ byte ∷ after_first p text
  passes : p byte ≡ true

cut_at : (p : ℕ → Bool) (text : List ℕ) → list_any p text ≡ true → IsCut p text
cut_at p [] h = cc
cut_at p (b ∷ text) h = step (p b) refl h (λ g. cut_at p text g)
  where
    later : (n : ℕ) → drop (cond (not false) (1 + n) 0 + 1) (b ∷ text) ≡ drop (n + 1) text
    later n = let e : 1 + n + 1 ≡ suc (n + 1) = omega arith in ap (λ m. drop m (b ∷ text)) e

    step : (c : Bool) → p b ≡ c → (c || list_any p text) ≡ true → (list_any p text ≡ true → IsCut p text) → IsCut p (b ∷ text)
    step true e h next = record { front = []; byte = b; whole = ap (λ c. b ∷ drop (cond (not c) (1 + position_or_len p text) 0 + 1) (b ∷ text)) (sym e); passes = e }
    step false e h next =
        let r = next h in
        let same : after_first p (b ∷ text) ≡ after_first p text = ap (λ c. drop (cond (not c) (1 + position_or_len p text) 0 + 1) (b ∷ text)) e ∙ later (position_or_len p text) in
        record { front = b ∷ r.front; byte = r.byte; whole = ap (λ t. b ∷ t) (r.whole ∙ ap (λ t. r.front ++ r.byte ∷ t) (sym same)); passes = r.passes }

pub clean_after : (p : ℕ → Bool) (text : List ℕ) → ((b : ℕ) → p b ≡ true → b < 128) → Clean text → Clean (after_first p text)
clean_after p text low c = by (list_any p text) refl
  where
    by : (b : Bool) → list_any p text ≡ b → Clean (after_first p text)
    by true e = let r = cut_at p text e in (clean_cut r.front r.byte (after_first p text) (low r.byte r.passes) (subst Clean r.whole c)).1
    by false e = subst Clean (sym (after_none p text e)) clean_nil

-- the same after the first byte
pub clean_after_first : (p : ℕ → Bool) (text : List ℕ) → ((b : ℕ) → p b ≡ true → b < 128) → Clean text → Clean (after_first p (drop 1 text))
clean_after_first p [] low c = clean_nil
clean_after_first p (b ∷ text) low c = by (list_any p text) refl
  where
    by : (d : Bool) → list_any p text ≡ d → Clean (after_first p text)
    by true e = let r = cut_at p text e in (clean_cut (b ∷ r.front) r.byte (after_first p text) (low r.byte r.passes) (subst Clean (ap (λ t. b ∷ t) r.whole) c)).1
    by false e = subst Clean (sym (after_none p text e)) clean_nil

-- ---- texts that are joined

pub clean_parts : (c : ℕ) (parts : List (List ℕ)) → c < 128 → Clean (join_with_byte c parts) → AllByRecursion Clean parts
clean_parts c [] low h = tt
clean_parts c (part ∷ []) low h = (h, tt)
clean_parts c (part ∷ next ∷ parts) low h = let a = clean_cut part c (join_with_byte c (next ∷ parts)) low h in (a.0, clean_parts c (next ∷ parts) low a.1)

utf8_parts : (c : ℕ) (parts : List (List ℕ)) → c < 128 → IsUtf8 (join_with_byte c parts) → AllByRecursion IsUtf8 parts
utf8_parts c [] low h = tt
utf8_parts c (part ∷ []) low h = (h, tt)
utf8_parts c (part ∷ next ∷ parts) low h = let a = utf8_cut part c (join_with_byte c (next ∷ parts)) low h in (a.0, utf8_parts c (next ∷ parts) low a.1)

-- ---- lines

stripped : (line : List ℕ) → IsUtf8 line → IsUtf8 (strip_carriage_return line)
stripped [] u = u
stripped (b ∷ line) u = by (length (b ∷ line) - 1) (omega arith) (get_or (b ∷ line) (length (b ∷ line) - 1) 0 == 13) refl
  where
    by : (n : ℕ) → n < length (b ∷ line) → (c : Bool) → (get_or (b ∷ line) n 0 == 13) ≡ c → IsUtf8 (cond c (take n (b ∷ line)) (b ∷ line))
    by n l true e =
        let feed : get_or (b ∷ line) n 0 ≡ 13 = eqb-true _ _ e in IsUtf8-take (b ∷ line) n u (IsCharBoundary-before_ascii (b ∷ line) n l (omega (arith, feed)))
    by n l false e = u

lines_utf8 : (parts : List (List ℕ)) → AllByRecursion IsUtf8 parts → AllByRecursion IsUtf8 (lines_of_parts parts)
lines_utf8 [] h = tt
lines_utf8 (part ∷ []) h = grind arith
lines_utf8 (part ∷ next ∷ parts) h = (stripped part h.0, lines_utf8 (next ∷ parts) h.1)

pub lines_are_utf8 : (bytes : List ℕ) → is_utf8 bytes ≡ true → AllByRecursion IsUtf8 (lines bytes)
lines_are_utf8 bytes h =
    lines_utf8 (slice_split (λ b. b == 10) bytes) (utf8_parts 10 (slice_split (λ b. b == 10) bytes) (omega arith)
    (subst IsUtf8 (sym (join_with_byte-slice_split 10 bytes)) (IsUtf8-from_is_utf8 bytes h)))
