-- How much room the text of a playlist is given before it is made. No clause of a public call speaks of room: these bounds keep
-- one long text from claiming room for all others.
use Rattle.std.specs.Prelude.{ℕ, ◌+◌, ◌*◌, List, length, map, sum}
use Rattle.playlist_write.specs.declared.OutPlaylist.{OutPlaylist}

-- a segment is given so many bytes at the most
abbrev pub most_room : ℕ
most_room = 1024

-- what the line of a date range takes, with 24 bytes for the tag's name and the line's end
abbrev pub date_range_room : List ℕ → ℕ
date_range_room text = length text + 24

-- what a text is given at the most: 256 bytes for the header, that of its date ranges, and that of each segment
abbrev pub text_room : OutPlaylist → ℕ
text_room playlist = 256 + sum (map date_range_room playlist.date_ranges) + length playlist.segments * most_room
