use Rattle.std.proofs.Common.{rules, ◌≡◌, ℕ, List, true, ◌++◌, take, drop, ap, sym, ◌∙◌}
use Rattle.std.specs.Str.Lines.{lines}
use Rattle.std.proofs.lemmas.List.{take-append-drop}
use Rattle.playlist_parse.proofs.JoinedLines.{joined_lines}
use Rattle.playlist_parse.proofs.line.cut_after_segment_lines.Goals as goal

parts : (text front back : List ℕ) (n : ℕ) → front ≡ take n text → back ≡ drop n text → text ≡ front ++ back
parts text front back n f b = sym (take-append-drop n text) ∙ ap (λ x. x ++ drop n text) (sym f) ∙ ap (λ y. front ++ y) (sym b)

pub returns-in-Some : goal.returns-in-Some
returns-in-Some c =
    let yes : c.ends_in_line_feed.result ≡ true = search rules in
    ap lines (parts _ _ _ _ c.in-Some.ensures.front c.in-Some.ensures.back)
    ∙ joined_lines _ _ (c.ends_in_line_feed.ensures yes)
