-- What a run from an input to an output did.
use Rattle.std.specs.Prelude.{◌≡◌, ℕ, List, ◌∷◌, Option, Some, None, option_map, Result, Ok, Err, IsOk, IsSome}
use Rattle.url.specs.Parts.{Parts}
use Rattle.playlist_model.specs.declared.Playlist.{Playlist}
use Rattle.playlist_model.specs.Reading.{Fault, Denotes, reading, limited}
use Rattle.playlist_model.specs.Uri.{base_of}
use Rattle.byte_streams.specs.Stands.{SourceStand, SinkStand, GaveAll, TookAll, FailedAfterFront}
use Rattle.channel_spec.specs.declared.fault.RefreshFault.{RefreshFault}
use Rattle.channel_spec.specs.Live.{Event, refreshed, Told, told, refusal, owed_for}
use Rattle.channel_spec.specs.Limits.{default_tolerance}
use Rattle.owed_is_denoted.specs.Owed.{owed_text}
use Rattle.vod_run.specs.declared.fault.VodFault.{VodFault}
use Rattle.vod_run.specs.declared.fault.VodFault.TheVariants.{BadBase, Decision, Playlist as PlaylistOf, NumberRange, Read, TooManyReads, Write, OutOfMemory}
use Rattle.vod_run.specs.Events.{events_of}

-- what is read of an input under the base that a text says, if it says one
abbrev pub read_under : List ℕ → List ℕ → Option (Result Playlist Fault)
read_under base input = option_map (λ b. reading limited b input) (base_of base)

-- the source gave an input to its end, of which this is read under the base
pub record HasRead (base : List ℕ) (old new : SourceStand) (outcome : Result Playlist Fault) : Type 0 where
  pub input : List ℕ
  pub given : GaveAll old new input
  pub read : read_under base input ≡ Some outcome

-- the decision file, if any, tells these events, a playlist was read, and this is why it is refused, if it is
pub record HasJudged (base : List ℕ) (file : Option (List ℕ)) (old new : SourceStand) (outcome : Option RefreshFault) : Type 0 where
  pub events : List Event
  pub decided : events_of file ≡ Ok events
  pub playlist : Playlist
  pub read : HasRead base old new (Ok playlist)
  pub judged : refusal default_tolerance (told default_tolerance events) playlist ≡ outcome

-- what is told once the playlist is accepted as the first refresh after these events
abbrev pub told_with : List Event → Playlist → Told
told_with events playlist = told default_tolerance (refreshed playlist ∷ events)

-- a playlist was read and accepted, and the sink took its owed text. Under every base that text denotes the playlist that
-- was read with the window of the stitched list in place of its segments
pub record Writes (base : List ℕ) (file : Option (List ℕ)) (source_old source_new : SourceStand) (sink_old sink_new : SinkStand) : Type 0 where
  pub accepted : HasJudged base file source_old source_new None
  pub written : TookAll sink_old sink_new (owed_text (told_with accepted.events accepted.playlist) accepted.playlist)
  pub denotes : (other : Parts) →
      Denotes other (owed_text (told_with accepted.events accepted.playlist) accepted.playlist) (owed_for (told_with accepted.events accepted.playlist) accepted.playlist)

-- a playlist was read and accepted, and the sink took a front of its owed text, and failed
pub record WritesFront (base : List ℕ) (file : Option (List ℕ)) (source_old source_new : SourceStand) (sink_old sink_new : SinkStand) : Type 0 where
  pub accepted : HasJudged base file source_old source_new None
  pub written : FailedAfterFront sink_old sink_new (owed_text (told_with accepted.events accepted.playlist) accepted.playlist)

-- the base is judged first, then the decision file: what stands before a fault is well
abbrev pub IsInOrder : VodFault → List ℕ → Option (List ℕ) → Type 0
IsInOrder BadBase base file = base_of base ≡ None
IsInOrder (Decision fault) base file = IsSome (base_of base) × (events_of file ≡ Err fault)
IsInOrder OutOfMemory base file = Unit {0}
IsInOrder _ base file = IsSome (base_of base) × IsOk (events_of file)

-- a fault of the base, of the decision file, of reading or of what was read
abbrev pub IsOfInput : VodFault → Type 0
IsOfInput BadBase = Unit {0}
IsOfInput (Decision fault) = Unit {0}
IsOfInput (PlaylistOf fault) = Unit {0}
IsOfInput Read = Unit {0}
IsOfInput TooManyReads = Unit {0}
IsOfInput OutOfMemory = Unit {0}
IsOfInput _ = ⊥

-- a fault of the input, of its numbers, or of writing
abbrev pub IsOfVod : VodFault → Type 0
IsOfVod Write = Unit {0}
IsOfVod NumberRange = Unit {0}
IsOfVod e = IsOfInput e
