-- The mark of the newest segment is known.
use Rattle.std.proofs.Common.{◌≡◌, ℕ, ◌+◌, ◌<◌, Bool, true, false, cond, List, [], ◌∷◌, refl, ap, arith}
use Rattle.std.specs.Prelude.{Option, Some, None, IsSome, option_map, ℤ, filter}
use Rattle.std.specs.List.{list_any}
use Rattle.playlist_model.specs.Segments.{Segment}
use Rattle.playlist_model.specs.declared.Playlist.{Playlist}
use Rattle.playlist_model.specs.LookBack.{or_earlier}
use Rattle.pod_store.specs.Marks.{Mark, Marked, newest_mark}
use Rattle.channel_spec.specs.Marking.{Moment, continued, entered, mark_of, segment_instant, next_shown, show_all, is_new}
use Rattle.channel_spec.specs.Live.{Event, decided, refreshed, Told, told, happens, after_refresh, moment, acceptance}
use Rattle.break_finder.specs.Known.{known, known_ids, age, stands, is_this_break, is_tag_of}
use Rattle.break_finder.specs.Breaks.{Break, break_of}
use Rattle.break_finder.specs.Laws.{CarriesKnown}
use Rattle.channel_spec.specs.LiveLaws.{MarksAreKnown}
use Rattle.break_finder.proofs.Carried.{stood_known, known_stood, in_some, some_in, same_bytes, or_right}
use Rattle.channel_spec.proofs.Entries.{IsEntered, entered_is}

Known : List Break → Option Mark → Type 0
Known breaks None = Unit {0}
Known breaks (Some f) = IsSome (break_of breaks f.id)

or_known : (breaks : List Break) (a b : Option Mark) → Known breaks a → Known breaks b → Known breaks (or_earlier a b)
or_known breaks None b f g = g
or_known breaks (Some x) b f g = f

continued_known : (m : Moment) (instant : Option ℤ) (o : Option Mark) → Known m.breaks (continued m instant o)
unfolding Known
continued_known m instant o = grind arith

entry_known : (m : Moment) (last : Option (List ℕ)) (o : Option Mark) → IsEntered m last o → Known m.breaks o
unfolding Known IsEntered
entry_known m last None h = tt
entry_known m last (Some f) h = h.known

entered_known : (m : Moment) (instant : Option ℤ) (last : Option (List ℕ)) → Known m.breaks (entered m instant last)
entered_known m instant last = entry_known m last (entered m instant last) (entered_is m instant last)

fill_known : (m : Moment) (before : List Marked) (instant : Option ℤ) → Known m.breaks (mark_of m before instant)
fill_known m before instant = grind (arith, or_known, continued_known, entered_known)

show_known : (m : Moment) (history : List Marked) (segments : List Segment) → Known m.breaks (newest_mark history) → Known m.breaks (newest_mark (show_all m history segments))
show_known m history [] h = h
show_known m history (s ∷ later) h = show_known m (next_shown m history s later ∷ history) later (fill_known m history (segment_instant history s later))

-- the newest mark before a refresh is still known at it
still_known : (t : Told) (playlist : Playlist) (o : Option Mark) → newest_mark t.history ≡ o → CarriesKnown (acceptance t playlist ∷ t.accepted) → Known (known t.accepted) o → Known (known (acceptance t playlist ∷ t.accepted)) o
unfolding Known
still_known t playlist None e c k = tt
still_known t playlist (Some f) e c k =
    let r = acceptance t playlist in
    let carried : is_this_break f.id r.carried ≡ true = rw e (same_bytes f.id) in
    let s : stands r f.id ≡ true = or_right (list_any (is_tag_of f.id) playlist.date_ranges) (is_this_break f.id r.carried) carried in
    let old : 0 < age t.accepted f.id = known_stood t.accepted f.id (some_in t.accepted f.id (known_ids t.accepted) k) in
    let a : age (r ∷ t.accepted) f.id ≡ age t.accepted f.id + 1 = ap (λ b. cond b (age t.accepted f.id + 1) 0) s in
    in_some (r ∷ t.accepted) f.id (known_ids (r ∷ t.accepted)) (stood_known (r ∷ t.accepted) f.id c (omega (arith, a)))

record Carried (t : Told) : Type 0 where
  carries : CarriesKnown t.accepted
  newest : Known (known t.accepted) (newest_mark t.history)

carried_known : (breaks : List Break) (o : Option Mark) → Known breaks o → (id : List ℕ) → option_map (λ (f : Mark). f.id) o ≡ Some id → IsSome (break_of breaks id)
unfolding Known
carried_known breaks o k id e = grind arith

refresh_carries : (tolerance : ℕ) (t : Told) (playlist : Playlist) → Carried t → Carried (after_refresh tolerance t playlist)
refresh_carries tolerance t playlist h =
    let c : CarriesKnown (acceptance t playlist ∷ t.accepted) = (carried_known (known t.accepted) (newest_mark t.history) h.newest, h.carries) in
    let m = moment tolerance t playlist in
    record { carries = c; newest = show_known m t.history (filter (is_new t.history) playlist.segments) (still_known t playlist (newest_mark t.history) refl c h.newest) }

either : (b : Bool) (t u : Told) → Carried t → Carried u → Carried (cond b t u)
either true t u h k = h
either false t u h k = k

event_carries : (tolerance : ℕ) (t : Told) (event : Event) → Carried t → Carried (happens tolerance t event)
event_carries tolerance t (decided ds) h = record { carries = h.carries; newest = h.newest }
event_carries tolerance t (refreshed playlist) h = grind (arith, either, refresh_carries)

all_carried : (tolerance : ℕ) (events : List Event) → Carried (told tolerance events)
unfolding Known
all_carried tolerance [] = record { carries = tt; newest = tt }
all_carried tolerance (event ∷ before) = event_carries tolerance (told tolerance before) event (all_carried tolerance before)

pub marks_are_known : MarksAreKnown
marks_are_known tolerance events = (all_carried tolerance events).carries
