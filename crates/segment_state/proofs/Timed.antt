-- What a line with an instant says.
use Rattle.std.proofs.Common.{◌≡◌, List, refl, ap, ◌∙◌, Ok, Err, Some, None}
use Rattle.std.specs.Prelude.{ℕ, ℤ, Option, Result, IsOk}
use Rattle.std.specs.Option.{ok_or}
use Rattle.url.specs.Parts.{Parts}
use Rattle.playlist_model.specs.declared.FaultKind.TheVariants as fault
use Rattle.date_times.specs.Instant.{instant_of}
use Rattle.spec_words.specs.Outcomes.{or_fault, ◌>>=◌}
use Rattle.playlist_model.specs.Said.{Said, time, time_tag}
use Rattle.playlist_model.specs.LookBack.{standing_at, with_said}
use Rattle.playlist_model.specs.Reading.{said_by_tag, limited}
use Rattle.segment_state.specs.Running.{Running, after_lines}

pub stated : {E : Type 0} (o : Option ℤ) (e : E) (t : ℤ) → Ok t ≡ ok_or o e → o ≡ Some t
stated None e t h = absurd (cc h)
stated (Some u) e t h = cc h

pub unstated : {E : Type 0} (o : Option ℤ) (e : E) (r : Result ℤ E) → r ≡ ok_or o e → ((t : ℤ) → r ≡ Ok t → ⊥) → o ≡ None
unstated None e r h n = refl
unstated (Some t) e r h n = absurd (n t h)

-- the state with the instant of the next segment
abbrev pub with_time : ℤ → Running → Running
with_time t old = record old { standing = record old.standing { program_date_time = Some t } }

taken : (old : Running) (before : List Said) (o : Option ℤ) (t : ℤ) → o ≡ Some t
    → IsOk (or_fault fault.BadTime o >>= λ x. Ok (time x)) × (with_time t (after_lines old before) ≡ after_lines old (with_said before (or_fault fault.BadTime o >>= λ x. Ok (time x))))
taken old before o t h = rw h (refl, refl)

pub timed : (rest : List ℕ) (t : ℤ) (old new : Running) → instant_of rest ≡ Some t → new ≡ with_time t old → (before : List Said) → old.standing ≡ standing_at before
    → IsOk (said_by_tag limited old.base before time_tag rest) × (new ≡ after_lines old (with_said before (said_by_tag limited old.base before time_tag rest)))
timed rest t old new h n before e =
    let all = taken old before (instant_of rest) t h in
    (all.0, n ∙ ap (λ s. with_time t (record old { standing = s })) e ∙ all.1)

no_time : (o : Option ℤ) → o ≡ None → (or_fault fault.BadTime o >>= λ x. Ok (time x)) ≡ Err fault.BadTime
no_time o h = rw h refl

pub untimed : (base : Parts) (before : List Said) (rest : List ℕ) → instant_of rest ≡ None → said_by_tag limited base before time_tag rest ≡ Err fault.BadTime
untimed base before rest h = no_time (instant_of rest) h
