-- Texts that a line can hold, and the lines of a text.
use Rattle.std.proofs.Common.{◌≡◌, ℕ, ◌-◌, ◌<◌, true, false, List, [], ◌∷◌, ◌++◌, length, get_or, refl, ap, ◌∙◌, arith, subst}
use Rattle.std.specs.Prelude.{◌==◌}
use Rattle.std.specs.List.{list_any, list_all, slice_split}
use Rattle.std.specs.Char.{is_control}
use Rattle.std.specs.Str.{IsUtf8, chars, NonePass}
use Rattle.std.specs.Str.Lines.{lines, lines_of_parts, strip_carriage_return}
use Rattle.std.proofs.lemmas.Bool.{or_parts, or_from, ne_eqb, cond-false}
use Rattle.std.proofs.lemmas.List.{get_or_default}
use Rattle.std.proofs.lemmas.List.Splits.{slice_split_at}
use Rattle.std.proofs.lemmas.List.Folds.{list_any-append}
use Rattle.std.proofs.lemmas.Str.{IsUtf8-append, IsUtf8-from_ascii, chars-append, encodes-chars, NoCharPasses-byte, IsUtf8-nil}
use Rattle.std.proofs.lemmas.Str.Ascii.{IsAscii-nil, IsAscii-cons}
use Rattle.playlist_model.specs.Lines.{has_control}
use Rattle.playlist_model.specs.Inner.Lines.{is_printable_playlist_byte}
use Rattle.playlist_model.proofs.Printable.{ascii, printable_has_no_control}

pub record Clean (bytes : List ℕ) : Type 0 where
  pub utf8 : IsUtf8 bytes
  pub free : has_control bytes ≡ false

pub clean-append : (xs ys : List ℕ) → Clean xs → Clean ys → Clean (xs ++ ys)
clean-append xs ys a b = grind (arith, IsUtf8-append, chars-append, list_any-append, or_from)

pub clean_printable : (bs : List ℕ) → list_all is_printable_playlist_byte bs ≡ true → Clean bs
clean_printable bs h = grind (arith, IsUtf8-from_ascii, ascii, printable_has_no_control)

-- ---- lines

-- each line with a line feed
abbrev pub text : List (List ℕ) → List ℕ
text [] = []
text (line ∷ lines) = line ++ (10 ∷ text lines)

none_pass : (cs : List ℕ) → list_any is_control cs ≡ false → NonePass is_control cs
none_pass [] h = tt
none_pass (c ∷ cs) h = let a = or_parts _ _ h in (a.0, none_pass cs a.1)

-- no byte of a clean text is this control character
free_of : (c : ℕ) (bs : List ℕ) → Clean bs → is_control c ≡ true → c < 128 → (i : ℕ) → i < length bs → (get_or bs i 0 == c) ≡ false
free_of c bs h is low i l =
    ne_eqb _ _ (λ e. both (get_or bs i 0) c e is (NoCharPasses-byte is_control bs i (chars bs, encodes-chars bs h.utf8, none_pass (chars bs) h.free) l (omega arith)))
  where
    both : (b c : ℕ) → b ≡ c → is_control c ≡ true → is_control b ≡ false → ⊥
    both b c e h g = cc

strips : (bs : List ℕ) → Clean bs → strip_carriage_return bs ≡ bs
strips [] h = refl
strips (b ∷ bs) h = cond-false _ _ _ (free_of 13 (b ∷ bs) h refl (omega arith) (length (b ∷ bs) - 1) (omega arith))

abbrev pub AllClean : List (List ℕ) → Type 0
AllClean [] = Unit {0}
AllClean (line ∷ lines) = Clean line × AllClean lines

split_text : (texts : List (List ℕ)) → AllClean texts → slice_split (λ b. b == 10) (text texts) ≡ texts ++ ([] ∷ [])
split_text [] h = refl
split_text (line ∷ texts) h =
    slice_split_at (λ b. b == 10) line 10 (text texts) (λ i d l. subst (λ n. (n == 10) ≡ false) (get_or_default line i 0 d l) (free_of 10 line h.0 refl (omega arith) i l)) refl
    ∙ ap (λ ps. line ∷ ps) (split_text texts h.1)

joined : (texts : List (List ℕ)) → AllClean texts → lines_of_parts (texts ++ ([] ∷ [])) ≡ texts
joined [] h = refl
joined (line ∷ []) h = ap (λ l. l ∷ []) (strips line h.0)
joined (line ∷ next ∷ texts) h = grind (arith, strips, joined (next ∷ texts) h.1)

-- the lines of a text are those that it was made of
pub lines_of_text : (texts : List (List ℕ)) → AllClean texts → lines (text texts) ≡ texts
lines_of_text texts h = ap lines_of_parts (split_text texts h) ∙ joined texts h

newline : IsUtf8 (10 ∷ [])
newline = IsUtf8-from_ascii (10 ∷ []) (IsAscii-cons 10 [] (omega arith) IsAscii-nil)

pub utf8_text : (texts : List (List ℕ)) → AllClean texts → IsUtf8 (text texts)
utf8_text [] h = IsUtf8-nil
utf8_text (line ∷ texts) h = IsUtf8-append line (10 ∷ text texts) h.0.utf8 (IsUtf8-append (10 ∷ []) (text texts) newline (utf8_text texts h.1))
