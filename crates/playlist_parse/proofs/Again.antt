-- A line of EXTINF that is taken again.
use Rattle.std.proofs.Common.{◌≡◌, ℕ, ◌+◌, ◌≤◌, length, arith, true, false, List, [], ◌∷◌, ◌++◌, map, refl, ap, sym, ◌∙◌, Ok, subst}
use Rattle.std.specs.Prelude.{Result, IsOk, codes}
use Rattle.std.specs.Str.Lines.{lines}
use Rattle.url.specs.Parts.{Parts}
use Rattle.playlist_model.specs.declared.FaultKind.{FaultKind}
use Rattle.playlist_model.specs.Lines.{has_control}
use Rattle.playlist_model.specs.Said.{duration_tag}
use Rattle.playlist_model.specs.Reading.{said_by, said_by_tag, limited}
use Rattle.playlist_model.specs.Segments.{Segment}
use Rattle.segment_state.specs.Running.{Running}
use Rattle.segment_state.specs.Repeated.{IsLineOf, IsRepeated}
use Rattle.playlist_parse.specs.LineViews.{lines_from}
use Rattle.std.specs.List.{list_all}
use Rattle.std.proofs.lemmas.Bool.{and_parts, not-true}
use Rattle.std.proofs.lemmas.List.{length-append}
use Rattle.playlist_parse.specs.Inner.LineViews.{is_free, line_text}
use Rattle.playlist_model.specs.Reading.{Fault}
use Rattle.playlist_parse.specs.Inner.Reached.{Reached, Telling}
use Rattle.playlist_parse.proofs.Reached.{next, taken_ok}
use Rattle.playlist_parse.specs.Inner.Source.{EndsInFeed}
use Rattle.playlist_model.specs.LookBack.{with_said}
use Rattle.playlist_parse.specs.Inner.Progress.{Progress, progress_at, TakesLine, IsLineAgain}
use Rattle.playlist_parse.proofs.JoinedLines.{after_front}
use Rattle.playlist_parse.proofs.LineLemmas.{duration_line, duration_tag as names_duration}
use Rattle.playlist_parse.proofs.Light.{told_first}
use Rattle.playlist_parse.specs.Light.{IsLightKind, IsLight}
use Rattle.playlist_parse.proofs.Kept.{running_of, with_running, takes_tag, duration_tag_says}

-- a line that is the only one of its text
pub line_states : (line first stated : List ℕ) (all left : List ((ℕ × ℕ) × List ℕ)) (view : (ℕ × ℕ) × List ℕ)
    → map (λ (l : (ℕ × ℕ) × List ℕ). l.1) all ≡ lines line → all ≡ view ∷ left → left ≡ [] → view.1 ≡ first → first ≡ codes "#EXTINF:" ++ stated
    → EndsInFeed line → IsLineOf line stated
line_states line first stated all left view texts cut none is says ends = grind arith

-- a line of EXTINF takes memory
heavy : (line stated : List ℕ) → line ≡ codes "#EXTINF:" ++ stated → IsLight line → ⊥
heavy line stated h light = subst IsLightKind (sym (names_duration line stated h)) light

one_less : (line : List ℕ) (old later : List (List ℕ)) (l : List ℕ) → old ≡ lines line ++ later → lines line ≡ l ∷ [] → old ≡ l ∷ later
one_less line old later l h e = h ∙ ap (λ ls. ls ++ later) e

says_line : (old new : Progress) (line stated : List ℕ) → line ≡ codes "#EXTINF:" ++ stated → has_control line ≡ false
    → (let done : Result (Unit {0}) FaultKind = Ok (record {}) in TakesLine (λ base before. said_by_tag limited base before duration_tag stated) old new done)
    → (let done : Result (Unit {0}) FaultKind = Ok (record {}) in TakesLine (λ base before. said_by limited base before line) old new done)
says_line old new line stated is free takes = λ before e.
    subst (λ o. IsOk o × (new ≡ progress_at old.base (with_said before o))) (sym (duration_line old.base before line stated is free)) (takes before e)

-- the line that is passed, with what it says
pub line_again : (p q : Progress) (rows segments : List Segment) (new : Running) (start more : ℕ) (left later : List ℕ) (ls later_lines : List ((ℕ × ℕ) × List ℕ))
    → ls ≡ lines_from start left → later_lines ≡ lines_from more later → p ≡ q → segments ≡ p.segments → IsRepeated left later (running_of p rows) new
    → IsLineAgain ls later_lines q (with_running p new segments)
line_again p q rows segments new start more left later ls later_lines lines_are later_are is same r = record {
  line = codes "#EXTINF:" ++ r.stated;
  cut = one_less r.line _ _ _
      (ap (map line_text) lines_are ∙ after_front start more left r.line later r.is (record { front = r.is_line.front; is = r.is_line.ends }) ∙ ap (λ xs. lines r.line ++ map line_text xs) (sym later_are))
      r.is_line.is;
  heavy = heavy (codes "#EXTINF:" ++ r.stated) r.stated refl;
  takes = λ free. says_line q (with_running p new segments) (codes "#EXTINF:" ++ r.stated) r.stated refl free
      (takes_tag (λ base before. said_by_tag limited base before duration_tag r.stated) p q rows segments new (Ok (record {})) is same (λ base before. duration_tag_says limited base before r.stated) r.takes);
}

pub shorter : (left line later : List ℕ) → left ≡ line ++ later → length later ≤ length left
shorter left line later h = let e = ap length h ∙ length-append line later in omega (arith, e)

-- what is reached after the line
pub reached_again : {base : Parts} {old new : Progress} {number : ℕ} {lines later : List ((ℕ × ℕ) × List ℕ)} (tail all : List (List ℕ))
    → list_all is_free (map line_text lines) ≡ true → IsLineAgain lines later old new → Reached base old number (map line_text lines ++ tail) all
    → Reached base new (number + 1) (map line_text later ++ tail) all
reached_again {base = base} {old = old} {new = new} {number = number} {lines = lines} {later = later} tail all free a r = grind (arith, and_parts, next, taken_ok, not-true)

-- no fault of lines that take no memory is still to be met
pub told_again : {base : Parts} {old new : Progress} {number : ℕ} {lines later : List ((ℕ × ℕ) × List ℕ)} (tail : List (List ℕ)) (e : Fault)
    → IsLineAgain lines later old new → Telling base old number (map line_text lines ++ tail) e → ⊥
told_again {base = base} {old = old} {number = number} tail e a t = a.heavy (told_first (subst (λ left. Telling base old number (left ++ tail) e) a.cut t))
