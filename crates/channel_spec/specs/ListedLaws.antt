-- What is shown is what the origin lists.
use Rattle.std.specs.Prelude.{◌≡◌, ℕ, List, map, Some}
use Rattle.playlist_model.specs.declared.Playlist.{Playlist}
use Rattle.playlist_model.specs.Same.{kept_parts}
use Rattle.channel_spec.specs.Live.{Event, told}
use Rattle.channel_spec.specs.Kept.{listed, shown_by}
use Rattle.channel_spec.specs.OwedLaws.{IsOwed}

-- The segments that are shown from the first number of the last accepted playlist on are those that it lists, one for one. Each
-- has its numbers, resource, byte range, keys, initialisation section and duration: it is the same in all but title, time and
-- steps.
abbrev pub ShownAreListed : Type 0
ShownAreListed = (tolerance : ℕ) (events : List Event) (last now : Playlist) → IsOwed tolerance events last now →
    map kept_parts (listed (shown_by (Some last) (told tolerance events).history)) ≡ map kept_parts last.segments
