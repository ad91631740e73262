-- A run keeps its pod, a fallback fills what has no pod of its own, and an open run's written end is near.
use Rattle.std.proofs.Common.{◌≡◌, ℕ, ◌-◌, ◌<◌, ◌≤◌, Bool, true, false, cond, List, [], ◌∷◌, ◌++◌, length, reverse, refl, ap, sym, ◌∙◌, subst, arith}
use Rattle.std.proofs.lemmas.Bool.{leb-false, and_from, or_parts}
use Rattle.std.specs.Prelude.{Option, Some, None, is_none, nat_le, find}
use Rattle.std.specs.List.{AllByRecursion, list_any}
use Rattle.playlist_model.specs.declared.Playlist.{Playlist}
use Rattle.pod_store.specs.Pods.{Pod}
use Rattle.pod_store.specs.Marks.{Mark, Marked, newest_mark, are_one}
use Rattle.stitcher.specs.Stitched.{Piece, pod_pieces, stitched}
use Rattle.stitcher.specs.Paced.{older, run_length, due, newest_pieces}
use Rattle.break_finder.specs.Breaks.{Break}
use Rattle.break_finder.specs.Known.{Accepted, is_this_break}
use Rattle.channel_spec.specs.Marking.{last_entered}
use Rattle.channel_spec.specs.declared.fault.RefreshFault.{RefreshFault}
use Rattle.channel_spec.specs.Live.{Event, decided, refreshed, Told, told, happens, refusal, after_refresh}
use Rattle.channel_spec.specs.LiveLaws.{GoesOn, Linked}
use Rattle.channel_spec.specs.BreakLaws.{RunsKeepTheirPods, FallbackFills, lasts, EndsNear, WrittenEndIsNear}
use Rattle.channel_spec.proofs.Growth.{goes_nowhere, goes_on_through, history_grows}
use Rattle.channel_spec.proofs.Fills.{IsGood, IsAlike}
use Rattle.channel_spec.proofs.EachWindow.{WindowOf, holds, fresh}
use Rattle.channel_spec.proofs.Linked.{histories_are_linked, last_is}
use Rattle.channel_spec.proofs.DueCut.{due_newest}

-- ---- a run keeps its pod

refresh_grows : (tolerance : ℕ) (t : Told) (playlist : Playlist) (o : Option RefreshFault) → GoesOn t.history (cond (is_none o) (after_refresh tolerance t playlist) t).history
refresh_grows tolerance t playlist None = grind (arith, history_grows)
refresh_grows tolerance t playlist (Some fault) = goes_nowhere t.history

event_grows : (tolerance : ℕ) (t : Told) (event : Event) → GoesOn t.history (happens tolerance t event).history
event_grows tolerance t (decided decisions) = goes_nowhere t.history
event_grows tolerance t (refreshed playlist) = refresh_grows tolerance t playlist (refusal tolerance t playlist)

all_grow : (tolerance : ℕ) (later before : List Event) → GoesOn (told tolerance before).history (told tolerance (later ++ before)).history
all_grow tolerance [] before = goes_nowhere (told tolerance before).history
all_grow tolerance (event ∷ later) before =
    goes_on_through (told tolerance before).history (told tolerance (later ++ before)).history (told tolerance (event ∷ (later ++ before))).history
    (all_grow tolerance later before) (event_grows tolerance (told tolerance (later ++ before)) event)

pub runs_keep_their_pods : RunsKeepTheirPods
runs_keep_their_pods tolerance later before = (all_grow tolerance later before, histories_are_linked tolerance (later ++ before))

-- ---- the fallback

found_after : (test : Break → Bool) (earlier after : List Break) (b : Break) → list_any test earlier ≡ false → test b ≡ true → find test (earlier ++ (b ∷ after)) ≡ Some b
found_after test [] after b n e = ap (λ t. cond t (Some b) (find test after)) e
found_after test (x ∷ earlier) after b n e =
    let p = or_parts _ _ n in
    ap (λ t. cond t (Some x) (find test (earlier ++ (b ∷ after)))) p.0 ∙ found_after test earlier after b p.1 e

runs_apart : (id : List ℕ) (pod : Pod) (before : List Marked) (o : Option Mark) → newest_mark before ≡ o → is_this_break id (last_entered before) ≡ false → are_one (Some (record { id = id; pod = pod })) o ≡ false
runs_apart id pod before None e h = refl
runs_apart id pod before (Some f) e h = ap (is_this_break id) (sym (last_is before f e)) ∙ h

pub fallback_fills : FallbackFills
fallback_fills m before s later b pod h own fallback fits = grind (arith, and_from, found_after, runs_apart, fresh, reverse)

-- ---- the written end

record Ends (n : ℕ) (pieces : List Piece) : Type 0 where
  front : List Piece
  last : Piece
  is : due n pieces ≡ front ++ (last ∷ [])
  near : lasts front ≤ n

due_ends : (n : ℕ) (pieces : List Piece) → 0 < length pieces → Ends n pieces
due_ends n [] h = absurd (omega (arith, h))
due_ends n (p ∷ pieces) h = step (nat_le n p.segment.duration) refl pieces (due_ends (n - p.segment.duration) pieces)
  where
    step : (b : Bool) → nat_le n p.segment.duration ≡ b → (pieces : List Piece) → (0 < length pieces → Ends (n - p.segment.duration) pieces) → Ends n (p ∷ pieces)
    step true e pieces rec = record { front = []; last = p; is = ap (λ b. p ∷ cond b [] (due (n - p.segment.duration) pieces)) e; near = omega arith }
    step false e [] rec = record { front = []; last = p; is = ap (λ b. p ∷ cond b [] []) e; near = omega arith }
    step false e (q ∷ pieces) rec =
        let k = rec (omega arith) in
        record {
          front = p ∷ k.front;
          last = k.last;
          is = ap (λ b. p ∷ cond b [] (due (n - p.segment.duration) (q ∷ pieces))) e ∙ ap (λ xs. p ∷ xs) k.is;
          near = omega (arith, k.near, leb-false n p.segment.duration e);
        }

ends_near : (m : Bool) (history : List Marked) (mark : Mark) → Linked history → AllByRecursion (IsAlike m) history → newest_mark history ≡ Some mark → EndsNear history mark
unfolding IsGood
ends_near m [] mark l a e = absurd (cc)
ends_near m (x ∷ before) mark l a e =
    let n = run_length (x ∷ before) in
    let good : IsGood m (Some mark) = subst (λ o. IsGood m o) e a.0.mark in
    let k = due_ends n (pod_pieces mark) good.some in
    record {
      front = k.front;
      last = k.last;
      stands = due_newest false n x before l ∙ ap (λ xs. xs ++ stitched (older (x ∷ before))) (ap (newest_pieces false n x) e ∙ ap reverse k.is);
      near = k.near;
    }

open_end : (accepted : List Accepted) (history : List Marked) (start : ℕ) (mark : Mark) → WindowOf accepted history start → Linked history → newest_mark history ≡ Some mark → EndsNear history mark
unfolding WindowOf
open_end accepted history start mark w l e = grind (arith, ends_near)

pub written_end_is_near : WrittenEndIsNear
written_end_is_near tolerance events mark sound goes_on e =
    let t = told tolerance events in
    open_end t.accepted t.history t.start mark (holds tolerance events sound).standing (histories_are_linked tolerance events) e
