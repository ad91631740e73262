-- Laws of the live definitions.
use Rattle.std.specs.Prelude.{◌≡◌, ◌↔◌, ◌≤◌, ℕ, Bool, true, List, [], ◌∷◌, ◌++◌, Option, Some, None}
use Rattle.playlist_model.specs.Segments.{Segment}
use Rattle.playlist_model.specs.declared.Playlist.{Playlist}
use Rattle.break_finder.specs.Known.{Accepted}
use Rattle.break_finder.specs.Laws.{CarriesKnown}
use Rattle.pod_store.specs.Marks.{Mark, Marked, newest_mark, continues}
use Rattle.channel_spec.specs.Marking.{Moment, next_shown, last_mark, last_entered}
use Rattle.stitcher.specs.Stitched.{Piece, Numbers, numbers_at, can_be_numbered, numbered}
use Rattle.stitcher.specs.Paced.{PodRest}
use Rattle.channel_spec.specs.Live.{Event, refreshed, told, whole_stitched_list, last_playlist, refusal, rest_by, in_use, owed, owed_for}
use Rattle.std.specs.List.{AllByRecursion, list_all}
use Rattle.channel_spec.specs.Successor.{MayFollow, successor_fault, first_number}
use Rattle.pod_store.specs.Store.{Store, entry_for, is_used}
use Rattle.channel_spec.specs.Sound.{IsSoundPlaylist, IsSoundEvent}

-- a list whose newest stands first goes on another
abbrev pub GoesOn : {A : Type 0} → List A → List A → Type 0
GoesOn {A} old new = (more : List A) × (new ≡ more ++ old)

-- the stitched list, numbers included, only grows
abbrev pub OnlyGrows : Type 0
OnlyGrows = (tolerance : ℕ) (later before : List Event) → AllByRecursion IsSoundEvent (later ++ before) →
    GoesOn (whole_stitched_list (told tolerance before)) (whole_stitched_list (told tolerance (later ++ before)))

-- each written playlist succeeds the one written before it
abbrev pub EachSucceeds : Type 0
EachSucceeds = (tolerance : ℕ) (playlist : Playlist) (before : List Event) (old : Playlist) →
    AllByRecursion IsSoundEvent (refreshed playlist ∷ before) → refusal tolerance (told tolerance before) playlist ≡ None →
    owed (told tolerance before) ≡ Some old → MayFollow (owed_for (told tolerance (refreshed playlist ∷ before)) playlist) old

-- ---- what the next mark and the next window follow from

-- a segment's instant and mark follow from the refresh, the segment before and the last break entered alone
abbrev pub MarksFollow : Type 0
MarksFollow = (m : Moment) (newest : Marked) (before other : List Marked) (s : Segment) (later : List Segment) →
    last_entered (newest ∷ before) ≡ last_entered (newest ∷ other) → next_shown m (newest ∷ before) s later ≡ next_shown m (newest ∷ other) s later

-- a segment that goes on a run has its very fill
abbrev pub Linked : List Marked → Type 0
Linked [] = Unit {0}
Linked (s ∷ before) = (continues s before ≡ true → s.mark ≡ newest_mark before) × Linked before

abbrev pub HistoriesAreLinked : Type 0
HistoriesAreLinked = (tolerance : ℕ) (events : List Event) → Linked (told tolerance events).history

-- each carried mark was known, after any events
abbrev pub MarksAreKnown : Type 0
MarksAreKnown = (tolerance : ℕ) (events : List Event) → CarriesKnown (told tolerance events).accepted

-- a playlist succeeds another exactly if it has no fault
abbrev pub NoFaultSucceeds : Type 0
NoFaultSucceeds = (old new : Playlist) → IsSoundPlaylist old → IsSoundPlaylist new → (successor_fault old new ≡ None) ↔ MayFollow new old

-- the numbers of a list fit if those of its newest item do
abbrev pub NewestFits : Type 0
NewestFits = (first : Numbers) (p : Piece) (before : List Piece) →
    list_all can_be_numbered (numbered first (p ∷ before)) ≡ can_be_numbered (record { piece = p; numbers = numbers_at first p before })

-- ---- the pods of marks

-- the store has exactly the pod of this mark, used: one that a decision gave it, or a copy of the fallback that it was
-- entered with
abbrev pub HasPod : Store → Option Mark → Type 0
HasPod store None = Unit {0}
HasPod store (Some mark) = (copied : Bool) × (entry_for store mark.id ≡ Some (record { id = mark.id; pod = mark.pod; used = true; copied = copied }))

-- it has those of the segments that are shown from a number on
abbrev pub ShownHavePods : Store → ℕ → List Marked → Type 0
ShownHavePods store first history = AllByRecursion (λ (s : Marked). first ≤ s.segment.media_sequence → HasPod store s.mark) history

abbrev pub first_shown : List Accepted → ℕ
first_shown [] = 0
first_shown (refresh ∷ before) = first_number refresh.playlist.segments

abbrev pub rest_mark : Option PodRest → Option Mark
rest_mark None = None
rest_mark (Some rest) = Some rest.mark

-- the pod of each mark of a shown segment, of the last break entered, and of the rest that the window starts with, is in the
-- store, used
abbrev pub MarksHavePods : Type 0
MarksHavePods = (tolerance : ℕ) (events : List Event) → AllByRecursion IsSoundEvent events →
    ShownHavePods (told tolerance events).store (first_shown (told tolerance events).accepted) (told tolerance events).history
    × (HasPod (told tolerance events).store (last_mark (told tolerance events).history)
    × HasPod (told tolerance events).store (rest_mark (rest_by (last_playlist (told tolerance events).accepted) (told tolerance events).start (told tolerance events).history)))

-- a break is used in the store exactly if it is in use
abbrev pub UsedAreInUse : Type 0
UsedAreInUse = (tolerance : ℕ) (events : List Event) (id : List ℕ) → AllByRecursion IsSoundEvent events →
    is_used (told tolerance events).store id ≡ in_use (told tolerance events).start (first_shown (told tolerance events).accepted) (told tolerance events).history id
