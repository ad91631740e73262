-- What a line of EXTINF says that is taken again.
use Rattle.std.proofs.Common.{◌≡◌, ℕ, List, Option, Some, Ok, refl, ap, ◌∙◌}
use Rattle.std.specs.Prelude.{IsOk}
use Rattle.playlist_model.specs.Said.{Said, duration, duration_said}
use Rattle.playlist_model.specs.LookBack.{with_said}
use Rattle.segment_state.specs.Running.{Running, after_lines}
use Rattle.segment_state.specs.Repeated.{IsTakenAgain, IsRepeated}

-- the state with the duration and the title of the next segment
abbrev with_due : Option (ℕ × List ℕ) → Running → Running
with_due due old = record old { standing = record old.standing { duration = due } }

taken : (old : Running) (before : List Said) (stated : List ℕ) (nanos : ℕ) (title : List ℕ) → duration_said stated ≡ Ok (duration nanos title)
    → IsOk (duration_said stated) × (with_due (Some (nanos, title)) (after_lines old before) ≡ after_lines old (with_said before (duration_said stated)))
taken old before stated nanos title h = rw h (refl, refl)

pub repeated : (left later : List ℕ) (old new : Running) (due : Option (ℕ × List ℕ)) → IsTakenAgain left later due → new ≡ with_due due old
    → IsRepeated left later old new
repeated left later old new due t n = record {
  line = t.line;
  stated = t.restates.stated;
  is = t.is;
  is_line = t.restates.is_line;
  takes = λ before e.
      let all = taken old before t.restates.stated t.own.0 t.own.1 t.restates.says in
      (all.0, n ∙ ap (λ d. with_due d old) t.due_is ∙ ap (λ s. with_due (Some t.own) (record old { standing = s })) e ∙ all.1);
}
