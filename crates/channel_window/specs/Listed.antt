-- What is kept, as the segments stand that a channel holds, the oldest first.
use Rattle.std.specs.Prelude.{◌≡◌, ◌≤◌, ◌+◌, ℕ, length, map, Some, None, Bool, List, ◌∷◌, [], Option, is_some}
use Rattle.playlist_model.specs.Segments.{Segment}
use Rattle.stitcher.specs.Stitched.{Numbers}
use Rattle.stitcher.specs.declared.OutSegment.{OutSegment}
use Rattle.stitcher.specs.declared.marked.MarkedSegment.{MarkedSegment as Held}
use Rattle.stitcher.specs.declared.ends.Rest.{Rest}
use Rattle.stitcher.specs.StitchedSegments.{IsDecided}
use Rattle.pod_store.specs.Store.{Store}
use Rattle.channel_spec.specs.Successor.{first_number}
use Rattle.channel_spec.specs.declared.fault.RefreshFault.{RefreshFault}
use Rattle.channel_spec.specs.declared.fault.RefreshFault.TheVariants.{NumberRange, OutOfMemory}

-- the store has the pod of the rest, if there is one
abbrev pub IsRestDecided : Store → Option Rest → Type 0
IsRestDecided store None = Unit {0}
IsRestDecided store (Some rest) = IsDecided store (Some rest.id)

abbrev pub writes_time : OutSegment → Bool
writes_time out = is_some out.program_date_time

-- the numbers of the first of these
abbrev pub head_of : List OutSegment → Numbers
head_of [] = record { media_sequence = 0; discontinuity_sequence = 0; discontinuities = 0 }
head_of (out ∷ later) = record { media_sequence = out.media_sequence; discontinuity_sequence = out.discontinuity_sequence; discontinuities = out.discontinuities }

-- a number does not fit, or an allocation failed
abbrev pub RefusesList : RefreshFault → Type 0 → Type 0
RefusesList NumberRange OutOfRange = OutOfRange
RefusesList OutOfMemory OutOfRange = Unit {0}
RefusesList _ OutOfRange = ⊥

-- the segments that are held
abbrev pub held_segment : Held → Segment
held_segment m = m.segment

abbrev pub window_segments_in : List Held → List Segment
window_segments_in held = map held_segment held

-- their numbers rise by one, from this number on
abbrev pub RiseByOne : ℕ → List Held → Type 0
RiseByOne number [] = Unit {0}
RiseByOne number (m ∷ later) = (m.segment.media_sequence ≡ number) × RiseByOne (number + 1) later

abbrev pub AreRising : List Held → Type 0
AreRising held = (first : ℕ) × RiseByOne first held

-- so do they, and a playlist of these segments leaves no number out after them
pub record RisesOn (held : List Held) (segments : List Segment) : Type 0 where
  pub first : ℕ
  pub rise : RiseByOne first held
  pub near : first_number segments ≤ first + length held
  pub anew : length held ≡ 0 → first + length held ≡ first_number segments
