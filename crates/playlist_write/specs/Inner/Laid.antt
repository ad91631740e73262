-- The lines of a text before those of its segments.
use Rattle.std.specs.Prelude.{ℕ, List, ◌++◌, codes}
use Rattle.playlist_write.specs.declared.OutPlaylist.{OutPlaylist}
use Rattle.playlist_write.specs.Owed.{said_text, with_feed, header_owed, date_ranges_text}

-- what stands before the segments
unfoldable pub front_text : OutPlaylist → List ℕ
front_text p = with_feed (codes "#EXTM3U") ++ (said_text (header_owed p) ++ date_ranges_text p.date_ranges)
