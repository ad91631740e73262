-- A segment that goes on a run has its very fill.
use Rattle.std.proofs.Common.{◌≡◌, ℕ, Bool, true, false, cond, List, [], ◌∷◌, refl, subst, arith}
use Rattle.std.specs.Prelude.{Option, Some, None, ℤ}
use Rattle.playlist_model.specs.Segments.{Segment}
use Rattle.playlist_model.specs.LookBack.{or_earlier}
use Rattle.pod_store.specs.Marks.{Mark, Marked, newest_mark, are_one}
use Rattle.channel_spec.specs.Marking.{Moment, last_entered, continued, is_inside, entered, segment_instant, next_shown, show_all}
use Rattle.channel_spec.specs.Live.{Event, Told, told, happens}
use Rattle.break_finder.specs.Known.{is_this_break}
use Rattle.channel_spec.specs.LiveLaws.{Linked, HistoriesAreLinked, MarksFollow}
use Rattle.channel_spec.proofs.Entries.{IsEntered, entered_is}

NotLast : Option (List ℕ) → Option Mark → Type 0
NotLast last None = Unit {0}
NotLast last (Some f) = is_this_break f.id last ≡ false

other : (m : Moment) (last : Option (List ℕ)) (o : Option Mark) → IsEntered m last o → NotLast last o
unfolding NotLast IsEntered
other m last None h = tt
other m last (Some f) h = h.other

entered_other : (m : Moment) (instant : Option ℤ) (last : Option (List ℕ)) → NotLast last (entered m instant last)
entered_other m instant last = other m last (entered m instant last) (entered_is m instant last)

apart : (o : Option Mark) (g : Mark) → NotLast (Some g.id) o → are_one o (Some g) ≡ true → ⊥
unfolding NotLast
apart None g h e = cc
apart (Some f) g h e = cc

pub last_is : (before : List Marked) (g : Mark) → newest_mark before ≡ Some g → last_entered before ≡ Some g.id
last_is [] g e = absurd (cc)
last_is (s ∷ before) g e = rw e refl

one_none : (o : Option Mark) → are_one o None ≡ true → ⊥
one_none None e = cc
one_none (Some f) e = cc

pub link_step : (m : Moment) (before : List Marked) (instant : Option ℤ) (o : Option Mark) → newest_mark before ≡ o
    → are_one (or_earlier (continued m instant o) (entered m instant (last_entered before))) o ≡ true → or_earlier (continued m instant o) (entered m instant (last_entered before)) ≡ o
link_step m before instant None e h = absurd (one_none (entered m instant (last_entered before)) h)
link_step m before instant (Some g) e h = step (is_inside m instant g) h
  where
    step : (b : Bool) → are_one (or_earlier (cond b (Some g) None) (entered m instant (last_entered before))) (Some g) ≡ true → or_earlier (cond b (Some g) None) (entered m instant (last_entered before)) ≡ Some g
    step true k = refl
    step false k = absurd (apart (entered m instant (last_entered before)) g (subst (λ l. NotLast l (entered m instant (last_entered before))) (last_is before g e) (entered_other m instant (last_entered before))) k)

pub link_all : (m : Moment) (history : List Marked) (segments : List Segment) → Linked history → Linked (show_all m history segments)
link_all m history [] h = h
link_all m history (s ∷ later) h = link_all m (next_shown m history s later ∷ history) later (link_step m history (segment_instant history s later) (newest_mark history) refl, h)

either : (b : Bool) (t u : Told) → Linked t.history → Linked u.history → Linked (cond b t u).history
either true t u h k = h
either false t u h k = k

event_linked : (tolerance : ℕ) (t : Told) (event : Event) → Linked t.history → Linked (happens tolerance t event).history
event_linked tolerance t event h = grind (arith, either, link_all)

pub histories_are_linked : HistoriesAreLinked
histories_are_linked tolerance [] = tt
histories_are_linked tolerance (event ∷ before) = event_linked tolerance (told tolerance before) event (histories_are_linked tolerance before)

pub marks_follow : MarksFollow
marks_follow m newest before other s later e = grind arith
