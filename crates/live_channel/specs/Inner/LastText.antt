-- The text that a channel wrote last, and the window whose lines stand in it.
use Rattle.std.specs.Prelude.{◌≡◌, ℕ, List, map, reverse, take, length, Option, Some, None}
use Rattle.playlist_model.specs.declared.Playlist.{Playlist}
use Rattle.stitcher.specs.Stitched.{Item}
use Rattle.stitcher.specs.Written.{written_item}
use Rattle.stitcher.specs.declared.OutSegment.{OutSegment}
use Rattle.channel_spec.specs.Kept.{Kept, kept_succession, kept_items}
use Rattle.channel_spec.specs.LastWindow.{last_items, last_pieces}
use Rattle.channel_spec.specs.LiveLaws.{GoesOn}
use Rattle.playlist_write.specs.declared.resumed.WrittenText.{WrittenText}
use Rattle.playlist_write.specs.Laid.{IsLaid, StandsAgain}
use Rattle.live_channel.specs.declared.next.Again.{Again}

-- how many segments it has the lines of
abbrev pub count_in_live_text : Option WrittenText → ℕ
count_in_live_text None = 0
count_in_live_text (Some w) = w.count

-- as many of the first of these segments stand in it
abbrev pub Stood : List OutSegment → Option WrittenText → Type 0
Stood segments None = Unit {0}
Stood segments (Some w) = IsLaid (take w.count segments) w

-- it has the last window, with which these items begin
pub record StoodIn (kept : Kept) (items : List Item) (written : Option WrittenText) : Type 0 where
  pub count : count_in_live_text written ≡ length (last_pieces kept.last kept)
  pub stood : Stood (map written_item (reverse items)) written
  pub on : GoesOn (last_items kept) items

-- the same of a refresh, if it may follow the last one
abbrev pub StoodBefore : ℕ → Kept → Playlist → Option WrittenText → Type 0
StoodBefore tolerance kept p written = kept_succession kept p ≡ None → StoodIn kept (kept_items tolerance kept p) written

-- some of the first of these segments stand in a text
abbrev pub StandIn : List OutSegment → Option Again → Type 0
StandIn segments None = Unit {0}
StandIn segments (Some a) = StandsAgain segments a.last.now a.length a.count
