-- Texts that grow one after another.
use Rattle.std.proofs.Common.{◌≡◌, ℕ, List, [], ◌++◌, ap, ◌∙◌, sym, append_assoc, append-nil}

-- grown by one text, and then by another
pub grown2 : (s a b : List ℕ) {t u : List ℕ} → t ≡ s ++ a → u ≡ t ++ b → u ≡ s ++ (a ++ b)
grown2 s a b {t} {u} h g = g ∙ ap (λ x. x ++ b) h ∙ append_assoc s a b

pub grown3 : (s a b c : List ℕ) {t u v : List ℕ} → t ≡ s ++ a → u ≡ t ++ b → v ≡ u ++ c → v ≡ s ++ (a ++ (b ++ c))
grown3 s a b c {t} h g f = grown2 s a (b ++ c) h (grown2 t b c g f)

pub grown4 : (s a b c d : List ℕ) {t u v w : List ℕ} → t ≡ s ++ a → u ≡ t ++ b → v ≡ u ++ c → w ≡ v ++ d → w ≡ s ++ (a ++ (b ++ (c ++ d)))
grown4 s a b c d {t} h g f e = grown2 s a (b ++ (c ++ d)) h (grown3 t b c d g f e)

-- the same text in other words
pub as_text : (s : List ℕ) {t a b : List ℕ} → t ≡ s ++ a → a ≡ b → t ≡ s ++ b
as_text s h e = h ∙ ap (λ x. s ++ x) e

-- nothing was added
pub unchanged : (s a : List ℕ) → a ≡ [] → s ≡ s ++ a
unchanged s a e = sym (append-nil s) ∙ ap (λ x. s ++ x) (sym e)
