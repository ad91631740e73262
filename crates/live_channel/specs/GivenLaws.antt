-- What a channel was given makes sense: the laws of channel_spec take no other events.
use Rattle.std.specs.List.{AllByRecursion}
use Rattle.std.specs.Prelude.{List}
use Rattle.url.specs.Parts.{Parts}
use Rattle.channel_spec.specs.Sound.{IsSoundEvent}
use Rattle.live_channel.specs.Channel.{Given, events_of}

-- whatever a channel is given under a base: each playlist in it has segments with rising numbers, and each pod an ad with segments
abbrev pub GivenIsSound : Type 0
GivenIsSound = (base : Parts) (given : List Given) → AllByRecursion IsSoundEvent (events_of base given)
