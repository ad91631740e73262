-- A large playlist: five of each, long texts, and lines of no meaning between tags.
use Rattle.std.specs.Prelude.{ℕ, true, false, pos, List, [], ◌∷◌, ◌++◌, codes, Some, None, Ok}
use Rattle.playlist_model.specs.declared.Key.{Key}
use Rattle.playlist_model.specs.declared.InitSection.{InitSection}
use Rattle.playlist_model.specs.declared.Playlist.{Playlist}
use Rattle.playlist_model.specs.Reading.{limited, unlimited}
use Rattle.worked_examples.specs.Pods.{long}
use Rattle.worked_examples.specs.Playlists.{of_format, read_by}
use Rattle.worked_examples.specs.Tables.{HasValues}

-- keys of five formats, sorted
abbrev pub large_keys : List Key
large_keys = of_format (codes "a") (codes "a:5") ∷ of_format (codes "b") (codes "a:4") ∷ of_format (codes "c") (codes "a:3") ∷ of_format (codes "d") (codes "a:2") ∷ of_format (codes "e") (codes "a:" ++ long 98) ∷ []

abbrev pub large_init_section : InitSection
large_init_section = record { uri = codes "a:" ++ long 98; byte_range = Some (record { length = 9; offset = 1 }); keys = large_keys }

abbrev pub lines : List (List ℕ)
lines =
    codes "#EXTM3U"
    ∷ codes "#EXT-X-VERSION:7"
    ∷ codes "#EXT-X-TARGETDURATION:10"
    ∷ codes "#EXT-X-MEDIA-SEQUENCE:7"
    ∷ codes "#EXT-X-DISCONTINUITY-SEQUENCE:3"
    ∷ (codes "#EXT-X-DATERANGE:ID=\"" ++ (long 98 ++ codes "\""))
    ∷ codes "#EXT-X-DATERANGE:ID=\"c\""
    ∷ codes "#EXT-X-DATERANGE:ID=\"d\""
    ∷ codes "#EXT-X-DATERANGE:ID=\"e\""
    ∷ codes "#EXT-X-DATERANGE:ID=\"f\""
    ∷ (codes "#EXT-X-KEY:METHOD=A,URI=\"a:" ++ (long 98 ++ codes "\",KEYFORMAT=\"e\""))
    ∷ codes "#EXT-X-KEY:METHOD=A,URI=\"a:2\",KEYFORMAT=\"d\""
    ∷ codes "#EXT-X-KEY:METHOD=A,URI=\"a:3\",KEYFORMAT=\"c\""
    ∷ codes "#EXT-X-KEY:METHOD=A,URI=\"a:4\",KEYFORMAT=\"b\""
    ∷ codes "#EXT-X-KEY:METHOD=A,URI=\"a:5\",KEYFORMAT=\"a\""
    ∷ (codes "#EXT-X-MAP:URI=\"a:" ++ (long 98 ++ codes "\",BYTERANGE=\"9@1\""))
    ∷ (codes "#EXTINF:10," ++ long 98)
    ∷ codes "#EXT-X-BYTERANGE:100@5"
    ∷ (codes "a:" ++ long 98)
    ∷ codes "#EXTINF:10,two"
    ∷ codes "# 1"
    ∷ codes "# 2"
    ∷ codes "# 3"
    ∷ codes "# 4"
    ∷ codes "#EXT-X-BYTERANGE:50"
    ∷ (codes "a:" ++ long 98)
    ∷ codes "#EXT-X-PROGRAM-DATE-TIME:1970-01-01T00:00:01Z"
    ∷ codes "#EXT-X-DISCONTINUITY"
    ∷ codes "#EXT-X-BYTERANGE:00000000000000000025@00000000000000000001"
    ∷ codes "#EXTINF:10,"
    ∷ codes "# 1"
    ∷ codes "# 2"
    ∷ codes "# 3"
    ∷ codes "# 4"
    ∷ (codes "a:" ++ long 98)
    ∷ codes "#EXTINF:10,"
    ∷ codes "a:t"
    ∷ codes "#EXT-X-START:TIME-OFFSET=1"
    ∷ codes "#EXTINF:9,"
    ∷ codes "#EXTINF:10,"
    ∷ codes "a:u"
    ∷ codes "#EXT-X-ENDLIST"
    ∷ codes "# 1"
    ∷ codes "# 2"
    ∷ codes "# 3"
    ∷ codes "# 4" ∷ []

abbrev pub large : Playlist
large = record {
  version = 7;
  target_duration = 10;
  playlist_type = None;
  independent_segments = false;
  end_list = true;
  date_ranges =
      record { id = long 98; start = None; end = None; duration = None; planned_duration = None; scte35_out = None; scte35_in = None; attributes = codes "ID=\"" ++ (long 98 ++ codes "\"") }
      ∷ record { id = codes "c"; start = None; end = None; duration = None; planned_duration = None; scte35_out = None; scte35_in = None; attributes = codes "ID=\"c\"" }
      ∷ record { id = codes "d"; start = None; end = None; duration = None; planned_duration = None; scte35_out = None; scte35_in = None; attributes = codes "ID=\"d\"" }
      ∷ record { id = codes "e"; start = None; end = None; duration = None; planned_duration = None; scte35_out = None; scte35_in = None; attributes = codes "ID=\"e\"" }
      ∷ record { id = codes "f"; start = None; end = None; duration = None; planned_duration = None; scte35_out = None; scte35_in = None; attributes = codes "ID=\"f\"" } ∷ [];
  segments =
      record { media_sequence = 7; discontinuity_sequence = 3; discontinuities = 0; uri = codes "a:" ++ long 98; byte_range = Some (record { length = 100; offset = 5 }); keys = large_keys; init_section = Some large_init_section; duration = 10000000000; title = long 98; program_date_time = None }
      ∷ record { media_sequence = 8; discontinuity_sequence = 3; discontinuities = 0; uri = codes "a:" ++ long 98; byte_range = Some (record { length = 50; offset = 105 }); keys = large_keys; init_section = Some large_init_section; duration = 10000000000; title = codes "two"; program_date_time = None }
      ∷ record { media_sequence = 9; discontinuity_sequence = 4; discontinuities = 1; uri = codes "a:" ++ long 98; byte_range = Some (record { length = 25; offset = 1 }); keys = large_keys; init_section = Some large_init_section; duration = 10000000000; title = []; program_date_time = Some (pos 1000000000) }
      ∷ record { media_sequence = 10; discontinuity_sequence = 4; discontinuities = 0; uri = codes "a:t"; byte_range = None; keys = large_keys; init_section = Some large_init_section; duration = 10000000000; title = []; program_date_time = None }
      ∷ record { media_sequence = 11; discontinuity_sequence = 4; discontinuities = 0; uri = codes "a:u"; byte_range = None; keys = large_keys; init_section = Some large_init_section; duration = 10000000000; title = []; program_date_time = None } ∷ [];
}

-- RFC 8216, 4.3.2: tags apply to the next segment, whatever lines stand between; of an EXTINF that stands twice the last counts
abbrev pub LargePlaylistsAreRead : Type 0
LargePlaylistsAreRead = HasValues (read_by limited) ((lines, Some (Ok large)) ∷ [])

-- the same without limits
abbrev pub LargePlaylistsAreDenoted : Type 0
LargePlaylistsAreDenoted = HasValues (read_by unlimited) ((lines, Some (Ok large)) ∷ [])
