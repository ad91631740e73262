-- A tag that changes what stands and nothing else of a reading.
use Rattle.std.proofs.Common.{◌≡◌, ◌≢◌, ℕ, Bool, true, false, List, ◌∷◌, refl, ap, sym, ◌∙◌, subst, arith}
use Rattle.std.specs.Prelude.{Result, Ok, Err, IsOk, MatchResult}
use Rattle.url.specs.Parts.{Parts}
use Rattle.playlist_model.specs.declared.FaultKind.{FaultKind}
use Rattle.spec_words.specs.Outcomes.{◌>>=◌, refuse_if}
use Rattle.playlist_model.specs.Said.{Reader, key_tag, init_section_tag, time_tag, duration_tag, Said, Outcome, key_said}
use Rattle.playlist_model.specs.declared.FaultKind.TheVariants as fault
use Rattle.playlist_model.specs.LookBack.{Standing, standing_at, with_said}
use Rattle.playlist_model.specs.Reading.{said_by_tag}
use Rattle.playlist_model.specs.Segments.{Segment}
use Rattle.segment_state.specs.Running.{Running, after_lines, Takes as StateTakes, TakesExactly}
use Rattle.playlist_parse.specs.Inner.Progress.{Progress, progress_at, TakesLine}

abbrev with_standing : Progress → Standing → Progress
with_standing p standing = record p { standing = standing }

-- a line that says this changes what stands alone
abbrev Keeps : Said → Type 0
Keeps said = (base : Parts) (before : List Said) → progress_at base (said ∷ before) ≡ with_standing (progress_at base before) (standing_at (said ∷ before))

abbrev pub Says : Outcome Said → Type 0
Says (Ok said) = Keeps said
Says (Err e) = Unit {0}

says_then : {A : Type 0} (o : Outcome A) (f : A → Outcome Said) → ((x : A) → Says (f x)) → Says (o >>= f)
says_then (Ok x) f h = h x
says_then (Err e) f h = record {}

says_after : (o : Outcome Said) (f : Said → Outcome Said) → Says o → ((said : Said) → Keeps said → Says (f said)) → Says (o >>= f)
says_after (Ok said) f o_says h = h said o_says
says_after (Err e) f o_says h = record {}

says_unless : (b : Bool) (e : FaultKind) (o : Outcome Said) → Says o → Says (refuse_if b e o)
says_unless true e o h = record {}
says_unless false e o h = h

says_key : (reader : Reader) (base : Parts) (rest : List ℕ) → Says (key_said reader base rest)
says_key reader base rest = grind arith

pub key_tag_says : (reader : Reader) (base : Parts) (before : List Said) (rest : List ℕ) → Says (said_by_tag reader base before key_tag rest)
key_tag_says reader base before rest = grind (arith, says_after, says_key, says_unless)

pub init_section_tag_says : (reader : Reader) (base : Parts) (before : List Said) (rest : List ℕ) → Says (said_by_tag reader base before init_section_tag rest)
init_section_tag_says reader base before rest = grind arith

pub time_tag_says : (reader : Reader) (base : Parts) (before : List Said) (rest : List ℕ) → Says (said_by_tag reader base before time_tag rest)
time_tag_says reader base before rest = grind (arith, says_then)

pub duration_tag_says : (reader : Reader) (base : Parts) (before : List Said) (rest : List ℕ) → Says (said_by_tag reader base before duration_tag rest)
duration_tag_says reader base before rest = grind arith

goes : (base : Parts) (before : List Said) (o : Outcome Said) → Says o → progress_at base (with_said before o) ≡ with_standing (progress_at base before) (standing_at (with_said before o))
goes base before (Ok said) h = h base before
goes base before (Err e) h = refl

abbrev pub running_of : Progress → List Segment → Running
running_of p rows = record { base = p.base; standing = p.standing; segments = rows }

-- the reading in which this stands, and these are the segments
abbrev pub with_running : Progress → Running → List Segment → Progress
with_running p r segments = record p { base = r.base; standing = r.standing; segments = segments }

finish : (p : Progress) (rows segments : List Segment) (new : Running) (before : List Said) (o : Outcome Said) → p ≡ progress_at p.base before → segments ≡ p.segments → Says o → new ≡ after_lines (running_of p rows) (with_said before o)
    → with_running p new segments ≡ progress_at p.base (with_said before o)
finish p rows segments new before o e same says is =
    ap (with_running p new) same ∙ ap (λ r. with_running p r p.segments) is ∙ ap (λ q. with_standing q (standing_at (with_said before o))) e ∙ sym (goes p.base before o says)

takes_of : (p : Progress) (rows segments : List Segment) (new : Running) (result : Result (Unit {0}) FaultKind) (before : List Said) (o : Outcome Said) (refuses : FaultKind → Type 0) (kept : FaultKind → Type 0) → p ≡ progress_at p.base before → segments ≡ p.segments → Says o
    → MatchResult result (λ _. IsOk o × (new ≡ after_lines (running_of p rows) (with_said before o))) (λ e. refuses e × kept e)
    → MatchResult result (λ _. IsOk o × (with_running p new segments ≡ progress_at p.base (with_said before o))) refuses
takes_of p rows segments new (Ok x) before o refuses kept e same says h = (h.0, finish p rows segments new before o e same says h.1)
takes_of p rows segments new (Err fault) before o refuses kept e same says h = h.0

-- what the state takes, the reading takes
pub takes_tag : (outcome : Parts → List Said → Outcome Said) (p q : Progress) (rows segments : List Segment) (new : Running) (result : Result (Unit {0}) FaultKind) → p ≡ q → segments ≡ p.segments
    → ((base : Parts) (before : List Said) → Says (outcome base before)) → StateTakes outcome (running_of p rows) new result → TakesLine outcome q (with_running p new segments) result
takes_tag outcome p q rows segments new result is same says takes =
    subst (λ (x : Progress). TakesLine outcome x (with_running p new segments) result) is
    (λ before e. takes_of p rows segments new result before (outcome p.base before) _ _ e same (says p.base before) (takes before (ap (λ (x : Progress). x.standing) e)))

refused_so : (result : Result (Unit {0}) FaultKind) (P : Type 0) (o : Outcome Said) (kept : Type 0) → MatchResult result (λ _. P) (λ e. (o ≡ Err e) × kept) → MatchResult result (λ _. P) (λ e. (e ≢ fault.OutOfMemory → o ≡ Err e) × kept)
refused_so (Ok x) P o kept h = h
refused_so (Err e) P o kept h = (λ _. h.0, h.1)

-- what the state takes with no memory, the reading takes
pub takes_tag_exactly : (outcome : Parts → List Said → Outcome Said) (p q : Progress) (rows segments : List Segment) (new : Running) (result : Result (Unit {0}) FaultKind) → p ≡ q → segments ≡ p.segments
    → ((base : Parts) (before : List Said) → Says (outcome base before)) → TakesExactly outcome (running_of p rows) new result → TakesLine outcome q (with_running p new segments) result
takes_tag_exactly outcome p q rows segments new result is same says takes = takes_tag outcome p q rows segments new result is same says (λ before e. refused_so result _ (outcome p.base before) _ (takes before e))
