-- A channel that is given a decision file, if there is one, and one refresh.
use Rattle.std.specs.Prelude.{◌≡◌, ℕ, List, [], ◌∷◌, Option, Some, None}
use Rattle.playlist_model.specs.Uri.{base_of}
use Rattle.byte_streams.specs.Stands.{SourceStand, GaveAll}
use Rattle.channel_spec.specs.declared.fault.RefreshFault.{RefreshFault}
use Rattle.channel_spec.specs.declared.fault.RefreshFault.TheVariants.{Playlist as Unreadable, OutOfMemory as NoMemory}
use Rattle.channel_spec.specs.Limits.{default_tolerance}
use Rattle.live_channel.specs.declared.channel.ChannelFault.{ChannelFault}
use Rattle.live_channel.specs.declared.channel.ChannelFault.TheVariants as made
use Rattle.live_channel.specs.Channel.{Channel, Given, decided, refreshed, Represents}
use Rattle.vod_run.specs.declared.fault.VodFault.{VodFault}
use Rattle.vod_run.specs.declared.fault.VodFault.TheVariants.{BadBase, Playlist as PlaylistOf, NumberRange, OutOfMemory}

-- ---- the decision file

abbrev pub given_by : Option (List ℕ) → List Given
given_by None = []
given_by (Some bytes) = decided bytes ∷ []

-- ---- the channel

-- why no channel is made: its tolerance is the default, so that it is made for its base alone or not
abbrev pub fault_of_channel : ChannelFault → VodFault
fault_of_channel made.OutOfMemory = OutOfMemory
fault_of_channel _ = BadBase

-- ---- the refresh

-- why the first refresh is refused: there is no playlist that it has to follow
abbrev pub fault_of_refresh : RefreshFault → VodFault
fault_of_refresh (Unreadable fault) = PlaylistOf fault
fault_of_refresh NoMemory = OutOfMemory
fault_of_refresh _ = NumberRange

-- ---- the input of a source as the refresh

-- the channel of a base, which was given the decision file, if there is one, and then the input that a source gave, to its end
pub record IsGivenAll (text : List ℕ) (file : Option (List ℕ)) (source_old source_new : SourceStand) (c : Channel) : Type 0 where
  pub base : base_of text ≡ Some c.base
  pub tolerance : c.tolerance ≡ default_tolerance
  pub input : List ℕ
  pub given : GaveAll source_old source_new input
  pub stands : Represents c (refreshed input ∷ given_by file)
