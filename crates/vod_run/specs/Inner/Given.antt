-- What proofs and inner functions say with the definitions of `Given`.
use Rattle.vod_run.specs.Given.{given_by}
use Rattle.std.specs.Prelude.{◌≡◌, ℕ, List, ◌∷◌, Option, Some, None, Ok, Err}
use Rattle.playlist_model.specs.declared.Playlist.{Playlist}
use Rattle.playlist_model.specs.Reading.{reading, limited}
use Rattle.playlist_model.specs.Uri.{base_of}
use Rattle.byte_streams.specs.Stands.{SourceStand, GaveAll}
use Rattle.channel_spec.specs.declared.fault.RefreshFault.TheVariants.{NumberRange as PassesRange}
use Rattle.channel_spec.specs.Live.{refusal}
use Rattle.channel_spec.specs.Limits.{default_tolerance}
use Rattle.live_channel.specs.Channel as channel
use Rattle.live_channel.specs.Channel.{Channel, Given, refreshed, Represents, told_by}
use Rattle.vod_run.specs.declared.fault.VodFault.{VodFault}
use Rattle.vod_run.specs.declared.fault.VodFault.TheVariants.{BadBase, Decision, Playlist as PlaylistOf, NumberRange, OutOfMemory}
use Rattle.vod_run.specs.Events.{events_of}
use Rattle.vod_run.specs.Inner.Vod.{IsOfReading}

-- ---- the decision file

-- the channel of a base, which was given the decision file, if there is one
pub record IsGivenFile (text : List ℕ) (file : Option (List ℕ)) (c : Channel) : Type 0 where
  pub base : base_of text ≡ Some c.base
  pub tolerance : c.tolerance ≡ default_tolerance
  pub said : events_of file ≡ Ok (channel.events_of c.base (given_by file))
  pub stands : Represents c (given_by file)

-- a fault of the base or of the decision file
abbrev pub IsOfBeginning : VodFault → Type 0
IsOfBeginning BadBase = Unit {0}
IsOfBeginning (Decision fault) = Unit {0}
IsOfBeginning OutOfMemory = Unit {0}
IsOfBeginning _ = ⊥

-- ---- the refresh

-- the bytes are read as a playlist that is accepted after what was given
pub record IsRefreshed (old : Channel) (bytes : List ℕ) (given : List Given) (new : Channel) : Type 0 where
  pub playlist : Playlist
  pub read : reading limited old.base bytes ≡ Ok playlist
  pub accepted : refusal old.tolerance (told_by old.base old.tolerance given) playlist ≡ None
  pub stands : Represents new (refreshed bytes ∷ given)
  pub base : new.base ≡ old.base
  pub tolerance : new.tolerance ≡ old.tolerance

-- they are read as a playlist with a number that passes its range then
pub record PassesItsRange (old : Channel) (bytes : List ℕ) (given : List Given) : Type 0 where
  pub playlist : Playlist
  pub read : reading limited old.base bytes ≡ Ok playlist
  pub refused : refusal old.tolerance (told_by old.base old.tolerance given) playlist ≡ Some PassesRange

-- the fault is that of the bytes, or of a number, or an allocation failed
abbrev pub RefusesRefresh : VodFault → Channel → List ℕ → List Given → Type 0
RefusesRefresh (PlaylistOf fault) old bytes given = reading limited old.base bytes ≡ Err fault
RefusesRefresh NumberRange old bytes given = PassesItsRange old bytes given
RefusesRefresh OutOfMemory old bytes given = Unit {0}
RefusesRefresh _ old bytes given = ⊥

-- whatever the file was
abbrev pub RefreshesWhateverFile : Channel → List ℕ → Channel → Type 0
RefreshesWhateverFile old bytes new = (file : Option (List ℕ)) → Represents old (given_by file) → IsRefreshed old bytes (given_by file) new

abbrev pub RefusesBytes : VodFault → Channel → List ℕ → Type 0
RefusesBytes e old bytes = (file : Option (List ℕ)) → Represents old (given_by file) → RefusesRefresh e old bytes (given_by file)

-- ---- the input of a source as the refresh

-- the source gave an input to its end, and the channel is refreshed by it
pub record RefreshesFrom (source_old source_new : SourceStand) (old new : Channel) : Type 0 where
  pub input : List ℕ
  pub given : GaveAll source_old source_new input
  pub refreshed : RefreshesWhateverFile old input new

-- the source gave an input to its end, which has this fault
pub record RefusesInput (e : VodFault) (source_old source_new : SourceStand) (old : Channel) : Type 0 where
  pub input : List ℕ
  pub given : GaveAll source_old source_new input
  pub refused : RefusesBytes e old input

-- the fault is one of the whole input, or of reading it
abbrev pub RefusesFrom : VodFault → SourceStand → SourceStand → Channel → Type 0
RefusesFrom (PlaylistOf fault) source_old source_new old = RefusesInput (PlaylistOf fault) source_old source_new old
RefusesFrom NumberRange source_old source_new old = RefusesInput NumberRange source_old source_new old
RefusesFrom e source_old source_new old = IsOfReading e
