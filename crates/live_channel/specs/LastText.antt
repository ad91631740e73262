-- The text that a channel wrote last.
use Rattle.std.specs.Prelude.{◌≡◌, map, reverse, Option, Some, None}
use Rattle.stitcher.specs.Written.{written_item}
use Rattle.channel_spec.specs.Kept.{Kept}
use Rattle.channel_spec.specs.LastWindow.{last_items}
use Rattle.playlist_write.specs.declared.resumed.WrittenText.{WrittenText}
use Rattle.playlist_write.specs.Laid.{IsLaid}

-- the lines of the last window stand in the text; there is none before the first refresh
abbrev pub IsLaidOut : Kept → Option WrittenText → Type 0
IsLaidOut kept None = kept.last ≡ None
IsLaidOut kept (Some w) = IsLaid (map written_item (reverse (last_items kept))) w
