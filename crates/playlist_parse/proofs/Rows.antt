-- The segments that were read, with those that were taken over among them.
use Rattle.std.proofs.Common.{◌≡◌, ◌∙◌, ◌≤◌, ℕ, List, [], ◌∷◌, ◌++◌, take, drop, length, ap, sym, append_assoc, append-nil}
use Rattle.std.proofs.Math.Seq.{take-length, drop-length}
use Rattle.std.proofs.lemmas.List.{take-append-le, drop-append-le}
use Rattle.playlist_model.specs.Segments.{Segment}
use Rattle.playlist_kept.specs.Kept.{with_taken}
use Rattle.playlist_kept.proofs.Parts.{none_between}

-- one is read after them
pub one_more : (front : ℕ) (read taken : List Segment) (s : Segment) → front ≤ length read → with_taken front (read ++ s ∷ []) taken ≡ with_taken front read taken ++ s ∷ []
one_more front read taken s h =
    ap (λ l. l ++ (taken ++ drop front (read ++ s ∷ []))) (take-append-le front read (s ∷ []) h)
    ∙ ap (λ l. take front read ++ (taken ++ l)) (drop-append-le front read (s ∷ []) h)
    ∙ ap (λ l. take front read ++ l) (sym (append_assoc taken (drop front read) (s ∷ [])))
    ∙ sym (append_assoc (take front read) (taken ++ drop front read) (s ∷ []))

-- others are taken over after all of them
pub gone_on : (front : ℕ) (read taken none : List Segment) → length none ≡ 0 → with_taken (length read) read taken ≡ with_taken front read none ++ taken
gone_on front read taken none h =
    ap (λ l. l ++ (taken ++ drop (length read) read)) (take-length read) ∙ ap (λ l. read ++ (taken ++ l)) (drop-length read) ∙ ap (λ l. read ++ l) (append-nil taken)
    ∙ ap (λ l. l ++ taken) (sym (none_between front read none h))
