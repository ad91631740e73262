use Rattle.std.proofs.Common.{◌≡◌, ℕ, List, ◌++◌, take, drop, ap, sym, ◌∙◌}
use Rattle.std.specs.Cmp.Lexicographic.{same_text}
use Rattle.std.proofs.lemmas.List.{take-append-drop}
use Rattle.playlist_parse.proofs.line.text_after_lines.Goals as goal

parts : (text front same later : List ℕ) (n : ℕ) → same ≡ take n text → later ≡ drop n text → same ≡ front → text ≡ front ++ later
parts text front same later n f b s =
    sym (take-append-drop n text) ∙ ap (λ x. x ++ drop n text) (sym f ∙ s) ∙ ap (λ y. front ++ y) (sym b)

pub returns-in-Some : goal.returns-in-Some
returns-in-Some c =
    parts _ _ _ _ _ c.in-Some.ensures.front c.in-Some.ensures.back
    (same_text c.in-Some.same.now c.args.front.now (sym c.if-eq.true ∙ c.eq.ensures))
