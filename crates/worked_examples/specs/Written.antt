-- How a playlist is spelled.
use Rattle.std.specs.Prelude.{ℕ, true, false, List, [], ◌∷◌, ◌++◌, codes, pos, Option, Some, None}
use Rattle.playlist_model.specs.Segments.{Segment}
use Rattle.playlist_model.specs.declared.Key.{Key}
use Rattle.playlist_model.specs.declared.PlaylistKind.TheVariants.{Event, Vod}
use Rattle.playlist_model.specs.Said.{nothing, version, target, sequence, discontinuity_sequence, playlist_type, ended, independent, duration, byte_range, discontinuity, no_keys, key, init_section, time, date_range, media}
use Rattle.playlist_write.specs.Spelling.{spelled}
use Rattle.stitcher.specs.declared.OutSegment.{OutSegment}
use Rattle.playlist_write.specs.Owed.{none_yet, playlist_text}
use Rattle.playlist_write.specs.Laid.{after_segments, current_of}
use Rattle.playlist_write.specs.declared.OutPlaylist.{OutPlaylist}
use Rattle.worked_examples.specs.Playlists.{text, identity}
use Rattle.playlist_model.specs.declared.InitSection.{InitSection}
use Rattle.worked_examples.specs.Pods.{long}
use Rattle.worked_examples.specs.Tables.{HasValues}

abbrev pub drm : Key
drm = record { format = codes "f"; method = codes "SAMPLE-AES"; uri = codes "skd://k"; iv = None; other_attributes = codes ",KEYFORMATVERSIONS=\"1\"" }

-- a key of long texts, and its line
abbrev pub long_key : ℕ → Key
long_key byte = record { format = long byte; method = long 77; uri = codes "a:" ++ long byte; iv = Some 1; other_attributes = [] }

abbrev pub long_key_line : ℕ → List ℕ
long_key_line byte =
    codes "#EXT-X-KEY:METHOD=" ++ (long 77 ++ (codes ",URI=\"a:" ++ (long byte ++ (codes "\",IV=0x00000000000000000000000000000001,KEYFORMAT=\"" ++ (long byte ++ codes "\"")))))

-- keys of four formats, and of five
abbrev pub four_keys : List Key
four_keys = long_key 97 ∷ long_key 98 ∷ long_key 99 ∷ long_key 100 ∷ []

abbrev pub five_keys : List Key
five_keys = four_keys ++ long_key 101 ∷ []

abbrev pub four_key_lines : List (List ℕ)
four_key_lines = long_key_line 97 ∷ long_key_line 98 ∷ long_key_line 99 ∷ long_key_line 100 ∷ []

-- RFC 8216, 4.1 and 4.3: one line each
abbrev pub LinesAreSpelled : Type 0
LinesAreSpelled = HasValues spelled (
    (nothing, [])
    ∷ (version 6, codes "#EXT-X-VERSION:6")
    ∷ (target 10, codes "#EXT-X-TARGETDURATION:10")
    ∷ (sequence 7, codes "#EXT-X-MEDIA-SEQUENCE:7")
    ∷ (discontinuity_sequence 3, codes "#EXT-X-DISCONTINUITY-SEQUENCE:3")
    ∷ (playlist_type Event, codes "#EXT-X-PLAYLIST-TYPE:EVENT")
    ∷ (playlist_type Vod, codes "#EXT-X-PLAYLIST-TYPE:VOD")
    ∷ (ended, codes "#EXT-X-ENDLIST")
    ∷ (independent, codes "#EXT-X-INDEPENDENT-SEGMENTS")
    ∷ (duration 9500000000 (codes "one, two"), codes "#EXTINF:9.5,one, two")
    ∷ (byte_range 100 (Some 5), codes "#EXT-X-BYTERANGE:100@5")
    ∷ (byte_range 100 None, codes "#EXT-X-BYTERANGE:100")
    ∷ (discontinuity, codes "#EXT-X-DISCONTINUITY")
    ∷ (no_keys, codes "#EXT-X-KEY:METHOD=NONE")
    ∷ (key (identity (codes "a:k") (Some 31)), codes "#EXT-X-KEY:METHOD=AES-128,URI=\"a:k\",IV=0x0000000000000000000000000000001F")
    ∷ (key drm, codes "#EXT-X-KEY:METHOD=SAMPLE-AES,URI=\"skd://k\",KEYFORMAT=\"f\",KEYFORMATVERSIONS=\"1\"")
    ∷ (key (record drm { format = codes "identitys" }), codes "#EXT-X-KEY:METHOD=SAMPLE-AES,URI=\"skd://k\",KEYFORMAT=\"identitys\",KEYFORMATVERSIONS=\"1\"")
    ∷ (key (record drm { format = codes "xdentity" }), codes "#EXT-X-KEY:METHOD=SAMPLE-AES,URI=\"skd://k\",KEYFORMAT=\"xdentity\",KEYFORMATVERSIONS=\"1\"")
    ∷ (init_section (codes "a:i") None, codes "#EXT-X-MAP:URI=\"a:i\"")
    ∷ (init_section (codes "a:i") (Some (record { length = 100; offset = 5 })), codes "#EXT-X-MAP:URI=\"a:i\",BYTERANGE=\"100@5\"")
    ∷ (time (pos 1714564800000000000), codes "#EXT-X-PROGRAM-DATE-TIME:2024-05-01T12:00:00.000Z")
    ∷ (date_range (record { id = codes "b"; start = None; end = None; duration = None; planned_duration = None; scte35_out = None; scte35_in = None; attributes = codes "ID=\"b\",X=1" }), codes "#EXT-X-DATERANGE:ID=\"b\",X=1")
    ∷ (media (codes "a:s"), codes "a:s")
    ∷ (media (codes "a:" ++ long 98), codes "a:" ++ long 98)
    ∷ (key (long_key 98), long_key_line 98)
    ∷ (init_section (codes "a:" ++ long 98) None, codes "#EXT-X-MAP:URI=\"a:" ++ (long 98 ++ codes "\""))
    ∷ (
      date_range (record { id = codes "b"; start = None; end = None; duration = None; planned_duration = None; scte35_out = None; scte35_in = None; attributes = codes "ID=\"b\",X=" ++ long 98 }),
      codes "#EXT-X-DATERANGE:ID=\"b\",X=" ++ long 98,
    ) ∷ [])

abbrev pub first : Segment
first = record { media_sequence = 0; discontinuity_sequence = 0; discontinuities = 0; uri = codes "a:s"; byte_range = Some (record { length = 100; offset = 5 }); keys = identity (codes "a:k") (Some 1) ∷ []; init_section = Some (record { uri = codes "a:i"; byte_range = None; keys = identity (codes "a:k") (Some 1) ∷ [] }); duration = 9500000000; title = codes "one"; program_date_time = None }

abbrev pub second : Segment
second = record first { uri = codes "a:t"; byte_range = None; keys = []; duration = 10000000000; title = [] }

abbrev pub nobody : OutPlaylist
nobody = record { version = 6; target_duration = 10; playlist_type = None; independent_segments = false; end_list = false; date_ranges = []; segments = [] }

-- the header, the date ranges, the segments and the end. The first discontinuity number is the one before the first segment's
-- own EXT-X-DISCONTINUITY (4.3.3.3), an initialisation section has a line where it changes, under its keys (4.3.2.5), and a key where it
-- changes (4.3.2.4)
abbrev pub PlaylistsAreWritten : Type 0
PlaylistsAreWritten = HasValues playlist_text ((
  record {
    version = 6;
    target_duration = 10;
    playlist_type = Some Vod;
    independent_segments = true;
    end_list = true;
    date_ranges = codes "ID=\"b\"" ∷ [];
    segments =
        record { segment = first; media_sequence = 7; discontinuity_sequence = 3; discontinuities = 1; program_date_time = Some (pos 1714564800000000000) }
        ∷ record { segment = second; media_sequence = 8; discontinuity_sequence = 3; discontinuities = 0; program_date_time = None }
        ∷ record { segment = first; media_sequence = 9; discontinuity_sequence = 5; discontinuities = 2; program_date_time = None } ∷ [];
  },
  text (
      codes "#EXTM3U"
      ∷ codes "#EXT-X-VERSION:6"
      ∷ codes "#EXT-X-TARGETDURATION:10"
      ∷ codes "#EXT-X-MEDIA-SEQUENCE:7"
      ∷ codes "#EXT-X-DISCONTINUITY-SEQUENCE:2"
      ∷ codes "#EXT-X-PLAYLIST-TYPE:VOD"
      ∷ codes "#EXT-X-INDEPENDENT-SEGMENTS"
      ∷ codes "#EXT-X-DATERANGE:ID=\"b\""
      ∷ codes "#EXT-X-DISCONTINUITY"
      ∷ codes "#EXT-X-KEY:METHOD=AES-128,URI=\"a:k\",IV=0x00000000000000000000000000000001"
      ∷ codes "#EXT-X-MAP:URI=\"a:i\""
      ∷ codes "#EXT-X-PROGRAM-DATE-TIME:2024-05-01T12:00:00.000Z"
      ∷ codes "#EXTINF:9.5,one"
      ∷ codes "#EXT-X-BYTERANGE:100@5"
      ∷ codes "a:s"
      ∷ codes "#EXT-X-KEY:METHOD=NONE"
      ∷ codes "#EXTINF:10,"
      ∷ codes "a:t"
      ∷ codes "#EXT-X-DISCONTINUITY"
      ∷ codes "#EXT-X-DISCONTINUITY"
      ∷ codes "#EXT-X-KEY:METHOD=AES-128,URI=\"a:k\",IV=0x00000000000000000000000000000001"
      ∷ codes "#EXTINF:9.5,one"
      ∷ codes "#EXT-X-BYTERANGE:100@5"
      ∷ codes "a:s"
      ∷ codes "#EXT-X-ENDLIST" ∷ []),
)
    ∷ (nobody, text (codes "#EXTM3U" ∷ codes "#EXT-X-VERSION:6" ∷ codes "#EXT-X-TARGETDURATION:10" ∷ codes "#EXT-X-MEDIA-SEQUENCE:0" ∷ codes "#EXT-X-DISCONTINUITY-SEQUENCE:0" ∷ [])) ∷ [])

-- ---- what is in force

abbrev pub out : Segment → OutSegment
out s = record { segment = s; media_sequence = 5; discontinuity_sequence = 6; discontinuities = 7; program_date_time = None }

-- 4.3.2.4 and 4.3.2.5: the keys of the last segment, and the last initialisation section that a segment has
abbrev pub WrittenLinesAreInForce : Type 0
WrittenLinesAreInForce = HasValues (after_segments none_yet) (
    ([], record { keys = []; init_section = None })
    ∷ (out first ∷ [], record { keys = first.keys; init_section = first.init_section })
    ∷ (out first ∷ out (record first { keys = []; init_section = None }) ∷ [], record { keys = []; init_section = first.init_section }) ∷ [])

abbrev pub WrittenTextsTellWhatIsInForce : Type 0
WrittenTextsTellWhatIsInForce = HasValues current_of ((
  record { text = codes "x"; from = 0; till = 1; count = 1; keys = first.keys; init_section = first.init_section },
  record { keys = first.keys; init_section = first.init_section },
) ∷ [])

-- ---- a large playlist

abbrev pub under : List Key → Option InitSection → Segment
under keys section = record { media_sequence = 0; discontinuity_sequence = 0; discontinuities = 0; uri = codes "a:" ++ long 98; byte_range = None; keys = keys; init_section = section; duration = 10000000000; title = []; program_date_time = None }

abbrev pub one : Option InitSection
one = Some (record { uri = codes "a:" ++ long 98; byte_range = None; keys = five_keys })

abbrev pub other : Option InitSection
other = Some (record { uri = codes "a:j"; byte_range = None; keys = four_keys })

abbrev pub plain_out : Segment → OutSegment
plain_out s = record { segment = s; media_sequence = 7; discontinuity_sequence = 0; discontinuities = 0; program_date_time = None }

abbrev pub large : OutPlaylist
large = record nobody {
  date_ranges = long 98 ∷ codes "b" ∷ codes "c" ∷ codes "d" ∷ codes "e" ∷ [];
  segments =
      plain_out (under five_keys one) ∷ plain_out (under five_keys one) ∷ plain_out (under four_keys one) ∷ plain_out (under five_keys other) ∷ plain_out (under five_keys None) ∷ plain_out (under five_keys other) ∷ [];
}

abbrev pub its_lines : List (List ℕ)
its_lines = codes "#EXTINF:10," ∷ (codes "a:" ++ long 98) ∷ []

-- five date ranges and six segments: under five keys, four, which takes an end of all, and five again, with two initialisation sections
abbrev pub LargePlaylistsAreWritten : Type 0
LargePlaylistsAreWritten = HasValues playlist_text ((
  large,
  text (
      (codes "#EXTM3U" ∷ codes "#EXT-X-VERSION:6" ∷ codes "#EXT-X-TARGETDURATION:10" ∷ codes "#EXT-X-MEDIA-SEQUENCE:7" ∷ codes "#EXT-X-DISCONTINUITY-SEQUENCE:0" ∷ [])
      ++ ((codes "#EXT-X-DATERANGE:" ++ long 98) ∷ codes "#EXT-X-DATERANGE:b" ∷ codes "#EXT-X-DATERANGE:c" ∷ codes "#EXT-X-DATERANGE:d" ∷ codes "#EXT-X-DATERANGE:e" ∷ [])
      ++ (four_key_lines ++ (long_key_line 101 ∷ (codes "#EXT-X-MAP:URI=\"a:" ++ (long 98 ++ codes "\"")) ∷ its_lines))
      ++ its_lines
      ++ (codes "#EXT-X-KEY:METHOD=NONE" ∷ (four_key_lines ++ its_lines))
      ++ (codes "#EXT-X-MAP:URI=\"a:j\"" ∷ long_key_line 101 ∷ its_lines)
      ++ its_lines
      ++ its_lines),
) ∷ [])

abbrev pub LargeListsAreInForce : Type 0
LargeListsAreInForce = HasValues (after_segments none_yet) (
    (large.segments, record { keys = five_keys; init_section = other })
    ∷ (large.segments ++ plain_out (under four_keys one) ∷ [], record { keys = four_keys; init_section = one }) ∷ [])
