-- Until when segments stay in a break, and how much of its run's length counts, as it is looked up once for a run.
use Rattle.std.specs.Prelude.{◌≡◌, ◌+◌, ◌<◌, ◌≤◌, ◌++◌, min, length, ℕ, ℤ, Bool, true, false, List, [], ◌∷◌, Option, Some, None}
use Rattle.std.specs.List.{All, slice_get}
use Rattle.playlist_model.specs.LookBack.{or_earlier}
use Rattle.pod_store.specs.Store.{Store}
use Rattle.stitcher.specs.declared.marked.MarkedSegment.{MarkedSegment as Held}
use Rattle.break_finder.specs.Stays.{stays_at}
use Rattle.break_finder.specs.Entering as entering
use Rattle.break_finder.specs.Entrances.{Entrance, entrances_in, is_within}
use Rattle.break_finder.specs.Places.{IsPlacedAt}
use Rattle.break_finder.specs.declared.spans.TimesWithin.{TimesWithin}
use Rattle.channel_spec.specs.Marking.{Moment, limits}
use Rattle.channel_window.specs.declared.marking.Terms.{Terms}
use Rattle.channel_window.specs.declared.marking.KnownBreak.{KnownBreak}
use Rattle.channel_window.specs.declared.marking.Run.{Run}
use Rattle.channel_window.specs.Marking.{stays, capped_in, length_before}

-- a segment that begins at this instant stays in the break
abbrev pub window_segment_stays_in : Option Terms → Option ℤ → Bool
window_segment_stays_in None instant = false
window_segment_stays_in (Some terms) instant = stays_at terms.stay instant

-- as much of this length counts
abbrev pub window_run_length_capped_at : Option Terms → ℕ → ℕ
window_run_length_capped_at None length = 0
window_run_length_capped_at (Some terms) length = min length terms.most

-- so it is for the run of a segment of this mark
pub record AreTerms (m : Moment) (mark : Option (List ℕ)) (terms : Option Terms) : Type 0 where
  pub stays : (instant : Option ℤ) → window_segment_stays_in terms instant ≡ stays m mark instant
  pub capped : (length : ℕ) → window_run_length_capped_at terms length ≡ capped_in m.store mark length

-- ---- what is known of breaks that were entered

-- the breaks that can be entered
abbrev pub window_entrances : Moment → List Entrance
window_entrances m = entrances_in m.target_duration m.with_init_sections m.store m.breaks

-- the terms that are known are those of the break at their place
abbrev pub HasKnownTerms : Moment → Option KnownBreak → Type 0
HasKnownTerms m None = Unit {0}
HasKnownTerms m (Some k) = (e : Entrance) → slice_get (window_entrances m) k.place ≡ Some e → AreTerms m (Some e.id) k.terms

-- of these segments, the one at this place, if there is one, has this mark; and there may be one
abbrev pub StoodAt : List Held → ℕ → Option (List ℕ) → Type 0
StoodAt done place mark = (place ≤ length done) × ((before : Held) → slice_get done place ≡ Some before → mark ≡ before.mark)

-- a segment was marked by the break at its place when it was entered last
pub record StoodWhenKnown (m : Moment) (done : List Held) (k : KnownBreak) : Type 0 where
  pub within : k.at < length done
  pub mark : (e : Entrance) (before : Held) → slice_get (window_entrances m) k.place ≡ Some e → slice_get done k.at ≡ Some before → before.mark ≡ Some e.id

abbrev pub HasStood : Moment → List Held → Option KnownBreak → Type 0
HasStood m done None = Unit {0}
HasStood m done (Some k) = StoodWhenKnown m done k

-- a segment of this mark that comes after these says rightly how many places before it one of them has its mark
pub record IsMarkedAgain (done : List Held) (again : ℕ) (mark : Option (List ℕ)) : Type 0 where
  pub within : again ≤ length done
  pub same : (before : Held) (place : ℕ) → place + again ≡ length done → slice_get done place ≡ Some before → mark ≡ before.mark

-- the next segment, after so many, has this mark and says so, and what is known of breaks is still so after it
pub record IsTold (m : Moment) (count : ℕ) (old new : Run) (mark : Option (List ℕ)) (again : ℕ) : Type 0 where
  pub marked : (done : List Held) → length done ≡ count → All (HasStood m done) old.known.items → IsMarkedAgain done again mark
  pub stood : (done : List Held) (next : Held) → length done ≡ count → All (HasStood m done) old.known.items → next.mark ≡ mark → All (HasStood m (done ++ next ∷ [])) new.known.items

-- a break that marks the next segment, and is at this place, was noted as the last one entered
pub record IsNoted (m : Moment) (place : Option ℕ) (mark : Option (List ℕ)) (old new : Run) : Type 0 where
  pub entered : new.entered ≡ mark
  pub placed : new.place ≡ place
  pub terms : AreTerms m mark new.terms
  pub known : All (HasKnownTerms m) new.known.items

-- ---- runs

-- an instant is one of these
abbrev pub is_window_time_among : Option TimesWithin → Option ℤ → Bool
is_window_time_among None instant = false
is_window_time_among (Some times) None = false
is_window_time_among (Some times) (Some instant) = is_within times.from times.to instant

-- the terms are those of the run; its break, if any, is the last one entered, which is at its place; what is known of breaks is so;
-- and no break is entered after the last one at the quiet instants
pub record HasItsTerms (m : Moment) (run : Run) : Type 0 where
  pub terms : AreTerms m run.before run.terms
  pub entered : or_earlier run.before run.entered ≡ run.entered
  pub placed : IsPlacedAt (window_entrances m) run.place run.entered
  pub known : All (HasKnownTerms m) run.known.items
  pub quiet : (instant : Option ℤ) → is_window_time_among run.quiet instant ≡ true → entering.entered (limits m run.entered) m.store m.breaks instant ≡ None

-- a run, with one segment more of this duration and this mark
pub record IsExtended (store : Store) (duration : ℕ) (mark : Option (List ℕ)) (old new : Run) : Type 0 where
  pub before : new.before ≡ mark
  pub entered : new.entered ≡ or_earlier mark old.entered
  pub so_far : new.so_far ≡ capped_in store mark (duration + length_before mark old.before old.so_far)

-- the last break entered with these segments, if it was this one before them
abbrev pub entered_after : Option (List ℕ) → List Held → Option (List ℕ)
entered_after last [] = last
entered_after last (m ∷ later) = entered_after (or_earlier m.mark last) later
