-- What a channel was given, and what it owes for that.
use Rattle.std.specs.Prelude.{◌≡◌, ℕ, List, ◌∷◌, Option}
use Rattle.url.specs.Parts.{Parts}
use Rattle.channel_spec.specs.Live.{Told}
use Rattle.live_channel.specs.Channel.{Channel, told_by, text_after, Represents}
use Rattle.live_channel.specs.Channel as channel

-- what it was made with, and the decisions and refreshes since, the newest first
pub record GivenChannel : Type 0 where
  pub base : Parts
  pub tolerance : ℕ
  pub events : List channel.Given

abbrev pub with_event : channel.Given → GivenChannel → GivenChannel
with_event event given = record given { events = event ∷ given.events }

-- all that it was told
abbrev pub told_of : GivenChannel → Told
told_of given = told_by given.base given.tolerance given.events

-- the text of the playlist that is owed: none before the first accepted refresh
abbrev pub owed_playlist_text : GivenChannel → Option (List ℕ)
owed_playlist_text given = text_after (told_of given)

-- a channel stands for what it was given
pub record IsGiven (c : Channel) (given : GivenChannel) : Type 0 where
  pub base : c.base ≡ given.base
  pub tolerance : c.tolerance ≡ given.tolerance
  pub stands : Represents c given.events
