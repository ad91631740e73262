-- What the bytes of a playlist denote, or their first fault; when segments begin, and which are the same.
use Rattle.std.specs.Prelude.{ℕ, Bool, true, false, ℤ, pos, negsuc, List, [], ◌∷◌, ◌++◌, codes, Option, Some, None, option_map, Result, Ok, Err}
use Rattle.playlist_model.specs.declared.FaultKind.{FaultKind}
use Rattle.playlist_model.specs.declared.FaultKind.TheVariants as fault
use Rattle.playlist_model.specs.declared.PlaylistFault.{PlaylistFault}
use Rattle.playlist_model.specs.declared.PlaylistKind.TheVariants.{Event}
use Rattle.playlist_model.specs.declared.Playlist.{Playlist}
use Rattle.playlist_model.specs.Segments.{Segment}
use Rattle.playlist_model.specs.declared.in_common.KeyPlaces.{KeyPlaces}
use Rattle.playlist_model.specs.InCommon.{all_places, both_places, init_section_keys, is_place_of, key_at, no_places}
use Rattle.playlist_model.specs.declared.Key.{Key}
use Rattle.playlist_model.specs.declared.InitSection.{InitSection}
use Rattle.playlist_model.specs.Said as said
use Rattle.playlist_model.specs.Said.{Reader, key, no_keys, nothing}
use Rattle.playlist_model.specs.EffectiveKeys.{effective_key}
use Rattle.playlist_model.specs.FaultTexts.{fault_text}
use Rattle.playlist_model.specs.Instants.{begins_at, ends_at, instants_of}
use Rattle.playlist_model.specs.LookBack.{keys_at, Standing, standing_at}
use Rattle.playlist_model.specs.Reading.{reading, limited, unlimited}
use Rattle.playlist_model.specs.Same.{same_segment, kept_parts}
use Rattle.playlist_model.specs.Uri.{base_of}
use Rattle.worked_examples.specs.Pods.{long}
use Rattle.worked_examples.specs.Tables.{HasValues}

-- each line with a line feed
abbrev pub text : List (List ℕ) → List ℕ
text [] = []
text (line ∷ lines) = line ++ (10 ∷ text lines)

abbrev pub Read : Type 0
Read = Option (Result Playlist PlaylistFault)

-- what these lines are read as by a reader, under the base http://h/
abbrev pub read_by : Reader → List (List ℕ) → Read
read_by reader lines = option_map (λ base. reading reader base (text lines)) (base_of (codes "http://h/"))

abbrev pub refused_at : ℕ → FaultKind → Read
refused_at line kind = Some (Err (record { kind = kind; line = line }))

abbrev pub identity : List ℕ → Option ℕ → Key
identity resource iv = record { format = codes "identity"; method = codes "AES-128"; uri = resource; iv = iv; other_attributes = [] }

-- a key of another format, with an attribute that has no meaning here
abbrev pub drm : Key
drm = record { format = codes "com.example.drm"; method = codes "SAMPLE-AES"; uri = codes "skd://k"; iv = None; other_attributes = codes ",X=\"y\"" }

abbrev pub under_key_1 : InitSection
under_key_1 = record { uri = codes "a:i"; byte_range = None; keys = identity (codes "a:1") (Some 1) ∷ [] }

-- RFC 8216, 4.3: the tags of the whole playlist, and of three segments. The first number is the stated one (4.3.3.2), the
-- discontinuity number goes up with each EXT-X-DISCONTINUITY (4.3.3.3), a byte range without an offset begins where the one
-- before ended (4.3.2.2), a key is in force until another one or NONE (4.3.2.4) and has the segment's number as IV (5.2), and
-- an initialisation section has the keys in force at its own line (4.3.2.5). Keys stand in the order of their formats, a
-- reference is resolved against the base (4.1). A tag of a segment may stand between its EXTINF and its URI (4.3.2), and
-- a tag of the whole playlist anywhere (4.3.3, 4.3.5); of two
-- EXTINF, EXT-X-BYTERANGE or EXT-X-PROGRAM-DATE-TIME of a segment the last one counts (docs/CONFORMANCE.md)
abbrev pub WholePlaylistIsRead : Type 0
WholePlaylistIsRead = HasValues (read_by limited) ((
  codes "#EXTM3U"
      ∷ codes "#EXT-X-VERSION:6"
      ∷ codes "#EXT-X-TARGETDURATION:10"
      ∷ codes "#EXT-X-MEDIA-SEQUENCE:7"
      ∷ codes "#EXT-X-DISCONTINUITY-SEQUENCE:3"
      ∷ codes "#EXT-X-PLAYLIST-TYPE:EVENT"
      ∷ codes "#EXT-X-INDEPENDENT-SEGMENTS"
      ∷ codes "#EXT-X-DATERANGE:ID=\"b\""
      ∷ codes "#EXT-X-KEY:METHOD=AES-128,URI=\"a:1\",IV=0x1"
      ∷ codes "#EXT-X-MAP:URI=\"a:i\""
      ∷ codes "#EXT-X-KEY:METHOD=AES-128,URI=\"a:2\""
      ∷ codes "#EXT-X-PROGRAM-DATE-TIME:1970-01-01T00:00:01Z"
      ∷ codes "#EXTINF:9.5,first"
      ∷ codes "#EXT-X-BYTERANGE:100@5"
      ∷ codes "a:s"
      ∷ codes "#EXT-X-DISCONTINUITY"
      ∷ codes "#EXT-X-DISCONTINUITY"
      ∷ codes "#EXTINF:10,"
      ∷ codes "#EXT-X-BYTERANGE:50"
      ∷ codes "a:s"
      ∷ codes "#EXT-X-KEY:METHOD=NONE"
      ∷ codes "#EXTINF:10,"
      ∷ codes "a:t"
      ∷ codes "#EXT-X-ENDLIST" ∷ [],
  Some (Ok (record {
    version = 6;
    target_duration = 10;
    playlist_type = Some Event;
    independent_segments = true;
    end_list = true;
    date_ranges = record { id = codes "b"; start = None; end = None; duration = None; planned_duration = None; scte35_out = None; scte35_in = None; attributes = codes "ID=\"b\"" } ∷ [];
    segments =
        record { media_sequence = 7; discontinuity_sequence = 3; discontinuities = 0; uri = codes "a:s"; byte_range = Some (record { length = 100; offset = 5 }); keys = identity (codes "a:2") (Some 7) ∷ []; init_section = Some under_key_1; duration = 9500000000; title = codes "first"; program_date_time = Some (pos 1000000000) }
        ∷ record { media_sequence = 8; discontinuity_sequence = 5; discontinuities = 2; uri = codes "a:s"; byte_range = Some (record { length = 50; offset = 105 }); keys = identity (codes "a:2") (Some 8) ∷ []; init_section = Some under_key_1; duration = 10000000000; title = []; program_date_time = None }
        ∷ record { media_sequence = 9; discontinuity_sequence = 5; discontinuities = 0; uri = codes "a:t"; byte_range = None; keys = []; init_section = Some under_key_1; duration = 10000000000; title = []; program_date_time = None }
        ∷ [];
  })),
)
    ∷ (
      codes "#EXTM3U" ∷ codes "#EXT-X-TARGETDURATION:10" ∷ codes "#EXTINF:10," ∷ codes "a:s" ∷ [],
      Some (Ok (record {
        version = 1;
        target_duration = 10;
        playlist_type = None;
        independent_segments = false;
        end_list = false;
        date_ranges = [];
        segments = record { media_sequence = 0; discontinuity_sequence = 0; discontinuities = 0; uri = codes "a:s"; byte_range = None; keys = []; init_section = None; duration = 10000000000; title = []; program_date_time = None } ∷ [];
      })),
    )
    ∷ (
      codes "#EXTM3U"
          ∷ codes "#EXT-X-TARGETDURATION:10"
          ∷ codes "#EXT-X-MEDIA-SEQUENCE:7"
          ∷ codes "#EXT-X-KEY:METHOD=AES-128,URI=\"k1\""
          ∷ codes "#EXT-X-KEY:METHOD=SAMPLE-AES,URI=\"skd://k\",KEYFORMAT=\"com.example.drm\",X=\"y\""
          ∷ codes "#EXT-X-DISCONTINUITY"
          ∷ codes "#EXTINF:10,a,b"
          ∷ codes "s0.ts"
          ∷ codes "#EXTINF:5,"
          ∷ codes "#EXT-X-KEY:METHOD=NONE"
          ∷ codes "#EXTINF:10,"
          ∷ codes "#EXT-X-PROGRAM-DATE-TIME:2024-05-01T14:00:10.25+02:00"
          ∷ codes "s1.ts" ∷ [],
      Some (Ok (record {
        version = 1;
        target_duration = 10;
        playlist_type = None;
        independent_segments = false;
        end_list = false;
        date_ranges = [];
        segments =
            record { media_sequence = 7; discontinuity_sequence = 1; discontinuities = 1; uri = codes "http://h/s0.ts"; byte_range = None; keys = drm ∷ identity (codes "http://h/k1") (Some 7) ∷ []; init_section = None; duration = 10000000000; title = codes "a,b"; program_date_time = None }
            ∷ record { media_sequence = 8; discontinuity_sequence = 1; discontinuities = 0; uri = codes "http://h/s1.ts"; byte_range = None; keys = []; init_section = None; duration = 10000000000; title = []; program_date_time = Some (pos 1714564810250000000) }
            ∷ [];
      })),
    )
    ∷ (
      codes "#EXTM3U"
          ∷ codes "#EXT-X-TARGETDURATION:10"
          ∷ codes "#EXTINF:10,"
          ∷ codes "#EXT-X-DISCONTINUITY"
          ∷ codes "#EXT-X-KEY:METHOD=AES-128,URI=\"a:1\",IV=0x1"
          ∷ codes "#EXT-X-MAP:URI=\"a:i\""
          ∷ codes "a:s" ∷ [],
      Some (Ok (record {
        version = 1;
        target_duration = 10;
        playlist_type = None;
        independent_segments = false;
        end_list = false;
        date_ranges = [];
        segments = record { media_sequence = 0; discontinuity_sequence = 1; discontinuities = 1; uri = codes "a:s"; byte_range = None; keys = identity (codes "a:1") (Some 1) ∷ []; init_section = Some under_key_1; duration = 10000000000; title = []; program_date_time = None } ∷ [];
      })),
    )
    ∷ (
      codes "#EXTM3U"
          ∷ codes "#EXT-X-TARGETDURATION:10"
          ∷ codes "#EXTINF:10,"
          ∷ codes "#EXT-X-MAP:URI=\"a:i\""
          ∷ codes "#EXT-X-KEY:METHOD=AES-128,URI=\"a:1\",IV=0x1"
          ∷ codes "#EXT-X-DISCONTINUITY"
          ∷ codes "a:s" ∷ [],
      Some (Ok (record {
        version = 1;
        target_duration = 10;
        playlist_type = None;
        independent_segments = false;
        end_list = false;
        date_ranges = [];
        segments = record { media_sequence = 0; discontinuity_sequence = 1; discontinuities = 1; uri = codes "a:s"; byte_range = None; keys = identity (codes "a:1") (Some 1) ∷ []; init_section = Some (record { uri = codes "a:i"; byte_range = None; keys = [] }); duration = 10000000000; title = []; program_date_time = None } ∷ [];
      })),
    )
    ∷ (
      codes "#EXTM3U"
          ∷ codes "#EXT-X-TARGETDURATION:10"
          ∷ codes "#EXTINF:10,"
          ∷ codes "#EXT-X-DISCONTINUITY"
          ∷ codes "#EXT-X-MAP:URI=\"a:i\""
          ∷ codes "#EXT-X-KEY:METHOD=AES-128,URI=\"a:1\",IV=0x1"
          ∷ codes "a:s" ∷ [],
      Some (Ok (record {
        version = 1;
        target_duration = 10;
        playlist_type = None;
        independent_segments = false;
        end_list = false;
        date_ranges = [];
        segments = record { media_sequence = 0; discontinuity_sequence = 1; discontinuities = 1; uri = codes "a:s"; byte_range = None; keys = identity (codes "a:1") (Some 1) ∷ []; init_section = Some (record { uri = codes "a:i"; byte_range = None; keys = [] }); duration = 10000000000; title = []; program_date_time = None } ∷ [];
      })),
    )
    ∷ (
      codes "#EXTM3U"
          ∷ codes "#EXT-X-TARGETDURATION:10"
          ∷ codes "#EXTINF:10,"
          ∷ codes "a:s"
          ∷ codes "#EXT-X-VERSION:3" ∷ [],
      Some (Ok (record {
        version = 3;
        target_duration = 10;
        playlist_type = None;
        independent_segments = false;
        end_list = false;
        date_ranges = [];
        segments = record { media_sequence = 0; discontinuity_sequence = 0; discontinuities = 0; uri = codes "a:s"; byte_range = None; keys = []; init_section = None; duration = 10000000000; title = []; program_date_time = None } ∷ [];
      })),
    )
    ∷ (
      codes "#EXTM3U"
          ∷ codes "#EXTINF:10,"
          ∷ codes "a:s"
          ∷ codes "#EXT-X-TARGETDURATION:10" ∷ [],
      Some (Ok (record {
        version = 1;
        target_duration = 10;
        playlist_type = None;
        independent_segments = false;
        end_list = false;
        date_ranges = [];
        segments = record { media_sequence = 0; discontinuity_sequence = 0; discontinuities = 0; uri = codes "a:s"; byte_range = None; keys = []; init_section = None; duration = 10000000000; title = []; program_date_time = None } ∷ [];
      })),
    )
    ∷ (
      codes "#EXTM3U"
          ∷ codes "#EXT-X-TARGETDURATION:10"
          ∷ codes "#EXTINF:10,"
          ∷ codes "a:s"
          ∷ codes "#EXT-X-PLAYLIST-TYPE:EVENT" ∷ [],
      Some (Ok (record {
        version = 1;
        target_duration = 10;
        playlist_type = Some Event;
        independent_segments = false;
        end_list = false;
        date_ranges = [];
        segments = record { media_sequence = 0; discontinuity_sequence = 0; discontinuities = 0; uri = codes "a:s"; byte_range = None; keys = []; init_section = None; duration = 10000000000; title = []; program_date_time = None } ∷ [];
      })),
    )
    ∷ (
      codes "#EXTM3U"
          ∷ codes "#EXT-X-TARGETDURATION:10"
          ∷ codes "#EXTINF:10,"
          ∷ codes "a:s"
          ∷ codes "#EXT-X-INDEPENDENT-SEGMENTS" ∷ [],
      Some (Ok (record {
        version = 1;
        target_duration = 10;
        playlist_type = None;
        independent_segments = true;
        end_list = false;
        date_ranges = [];
        segments = record { media_sequence = 0; discontinuity_sequence = 0; discontinuities = 0; uri = codes "a:s"; byte_range = None; keys = []; init_section = None; duration = 10000000000; title = []; program_date_time = None } ∷ [];
      })),
    )
    ∷ (
      codes "#EXTM3U"
          ∷ codes "#EXT-X-TARGETDURATION:10"
          ∷ codes "#EXTINF:10,"
          ∷ codes "a:s"
          ∷ codes "#EXT-X-DATERANGE:ID=\"b\"" ∷ [],
      Some (Ok (record {
        version = 1;
        target_duration = 10;
        playlist_type = None;
        independent_segments = false;
        end_list = false;
        date_ranges = record { id = codes "b"; start = None; end = None; duration = None; planned_duration = None; scte35_out = None; scte35_in = None; attributes = codes "ID=\"b\"" } ∷ [];
        segments = record { media_sequence = 0; discontinuity_sequence = 0; discontinuities = 0; uri = codes "a:s"; byte_range = None; keys = []; init_section = None; duration = 10000000000; title = []; program_date_time = None } ∷ [];
      })),
    )
    ∷ (
      codes "#EXTM3U"
          ∷ codes "#EXT-X-TARGETDURATION:10"
          ∷ codes "#EXT-X-KEY:METHOD=AES-128,URI=\"a:1\""
          ∷ codes "#EXTINF:10,"
          ∷ codes "#EXT-X-MEDIA-SEQUENCE:7"
          ∷ codes "a:s" ∷ [],
      Some (Ok (record {
        version = 1;
        target_duration = 10;
        playlist_type = None;
        independent_segments = false;
        end_list = false;
        date_ranges = [];
        segments = record { media_sequence = 7; discontinuity_sequence = 0; discontinuities = 0; uri = codes "a:s"; byte_range = None; keys = identity (codes "a:1") (Some 7) ∷ []; init_section = None; duration = 10000000000; title = []; program_date_time = None } ∷ [];
      })),
    )
    ∷ (
      codes "#EXTM3U"
          ∷ codes "#EXT-X-TARGETDURATION:10"
          ∷ codes "#EXT-X-PROGRAM-DATE-TIME:1970-01-01T00:00:01Z"
          ∷ codes "#EXT-X-PROGRAM-DATE-TIME:1970-01-01T00:00:02Z"
          ∷ codes "#EXT-X-BYTERANGE:100@5"
          ∷ codes "#EXT-X-BYTERANGE:50@7"
          ∷ codes "#EXTINF:10,"
          ∷ codes "a:s" ∷ [],
      Some (Ok (record {
        version = 1;
        target_duration = 10;
        playlist_type = None;
        independent_segments = false;
        end_list = false;
        date_ranges = [];
        segments = record { media_sequence = 0; discontinuity_sequence = 0; discontinuities = 0; uri = codes "a:s"; byte_range = Some (record { length = 50; offset = 7 }); keys = []; init_section = None; duration = 10000000000; title = []; program_date_time = Some (pos 2000000000) } ∷ [];
      })),
    )
    ∷ [])

-- what lines are read as after `#EXTM3U` and a target duration of 10 s
abbrev pub read_on : List (List ℕ) → Read
read_on lines = read_by limited (codes "#EXTM3U" ∷ codes "#EXT-X-TARGETDURATION:10" ∷ lines)

-- a tag of the whole playlist stands once; the first numbers stand before the first segment, and the discontinuity's before any
-- EXT-X-DISCONTINUITY (4.3.3.2, 4.3.3.3); a playlist of I-frames or a master playlist is none that is read. Of two faults of a line a
-- control character is told first, then that its tag stands twice, then that it is misplaced, then that its value is wrong
abbrev pub TagsArePlaced : Type 0
TagsArePlaced = HasValues read_on (
    (codes "#EXT-X-VERSION:3" ∷ codes "#EXT-X-VERSION:3" ∷ [], refused_at 4 fault.Repeated)
    ∷ (codes "#EXT-X-TARGETDURATION:10" ∷ [], refused_at 3 fault.Repeated)
    ∷ (codes "#EXT-X-MEDIA-SEQUENCE:1" ∷ codes "#EXT-X-MEDIA-SEQUENCE:1" ∷ [], refused_at 4 fault.Repeated)
    ∷ (codes "#EXTINF:1," ∷ codes "a:s" ∷ codes "#EXT-X-MEDIA-SEQUENCE:1" ∷ [], refused_at 5 fault.Misplaced)
    ∷ (codes "#EXT-X-DISCONTINUITY" ∷ codes "#EXT-X-MEDIA-SEQUENCE:1" ∷ [], refused_at 0 fault.NoSegments)
    ∷ (codes "#EXT-X-DISCONTINUITY-SEQUENCE:1" ∷ codes "#EXT-X-DISCONTINUITY-SEQUENCE:1" ∷ [], refused_at 4 fault.Repeated)
    ∷ (codes "#EXTINF:1," ∷ codes "a:s" ∷ codes "#EXT-X-DISCONTINUITY-SEQUENCE:1" ∷ [], refused_at 5 fault.Misplaced)
    ∷ (codes "#EXT-X-DISCONTINUITY" ∷ codes "#EXT-X-DISCONTINUITY-SEQUENCE:1" ∷ [], refused_at 4 fault.Misplaced)
    ∷ (codes "#EXT-X-PLAYLIST-TYPE:VOD" ∷ codes "#EXT-X-PLAYLIST-TYPE:VOD" ∷ [], refused_at 4 fault.Repeated)
    ∷ (codes "#EXT-X-ENDLIST" ∷ codes "#EXT-X-ENDLIST" ∷ [], refused_at 4 fault.Repeated)
    ∷ (codes "#EXT-X-INDEPENDENT-SEGMENTS" ∷ codes "#EXT-X-INDEPENDENT-SEGMENTS" ∷ [], refused_at 0 fault.NoSegments)
    ∷ (codes "#EXT-X-I-FRAMES-ONLY" ∷ [], refused_at 3 fault.IFramesOnly)
    ∷ (codes "#EXT-X-STREAM-INF:BANDWIDTH=1" ∷ [], refused_at 3 fault.MasterPlaylist)
    ∷ (codes "#EXT-X-PROGRAM-DATE-TIME:now" ∷ [], refused_at 3 fault.BadTime)
    ∷ (codes "#EXT-X-VERSION:3" ∷ codes "#EXT-X-VERSION:x" ∷ [], refused_at 4 fault.Repeated)
    ∷ (codes "#EXT-X-TARGETDURATION:x" ∷ [], refused_at 3 fault.Repeated)
    ∷ (codes "#EXT-X-MEDIA-SEQUENCE:1" ∷ codes "#EXTINF:1," ∷ codes "a:s" ∷ codes "#EXT-X-MEDIA-SEQUENCE:x" ∷ [], refused_at 6 fault.Repeated)
    ∷ (codes "#EXTINF:1," ∷ codes "a:s" ∷ codes "#EXT-X-MEDIA-SEQUENCE:x" ∷ [], refused_at 5 fault.Misplaced)
    ∷ (codes "#EXT-X-DISCONTINUITY" ∷ codes "#EXT-X-DISCONTINUITY-SEQUENCE:x" ∷ [], refused_at 4 fault.Misplaced)
    ∷ (codes "#EXT-X-PLAYLIST-TYPE:VOD" ∷ codes "#EXT-X-PLAYLIST-TYPE:x" ∷ [], refused_at 4 fault.Repeated)
    ∷ ((codes "#EXT-X-VERSION:x" ++ 7 ∷ []) ∷ [], refused_at 3 fault.Control)
    ∷ ((97 ∷ 7 ∷ []) ∷ [], refused_at 3 fault.Control)
    ∷ ((7 ∷ []) ∷ [], refused_at 3 fault.Control)
    ∷ ((97 ∷ 13 ∷ 98 ∷ []) ∷ [], refused_at 3 fault.Control)
    ∷ ((codes "#EXTINF:1," ++ 9 ∷ []) ∷ [], refused_at 3 fault.Control)
    ∷ ((codes "# " ++ 127 ∷ []) ∷ [], refused_at 3 fault.Control)
    ∷ ((codes "# " ++ 194 ∷ 133 ∷ []) ∷ [], refused_at 3 fault.Control)
    ∷ ((codes "# " ++ 194 ∷ 160 ∷ []) ∷ [], refused_at 0 fault.NoSegments)
    ∷ ((codes "# " ++ long 7) ∷ [], refused_at 3 fault.Control)
    ∷ (codes "#EXT-X-DISCONTINUITY-SEQUENCE:1" ∷ codes "#EXT-X-DISCONTINUITY" ∷ codes "#EXT-X-DISCONTINUITY-SEQUENCE:1" ∷ [], refused_at 5 fault.Repeated) ∷ [])

-- the same with four lines between the two
abbrev pub apart : List ℕ → List ℕ → List (List ℕ)
apart line later = line ∷ codes "# 1" ∷ codes "# 2" ∷ codes "# 3" ∷ codes "# 4" ∷ later ∷ []

abbrev pub TagsApartArePlaced : Type 0
TagsApartArePlaced = HasValues (λ (it : List ℕ × List ℕ). read_on (apart it.0 it.1)) (
    ((codes "#EXT-X-VERSION:3", codes "#EXT-X-VERSION:3"), refused_at 8 fault.Repeated)
    ∷ ((codes "#", codes "#EXT-X-TARGETDURATION:10"), refused_at 8 fault.Repeated)
    ∷ ((codes "#EXT-X-MEDIA-SEQUENCE:1", codes "#EXT-X-MEDIA-SEQUENCE:1"), refused_at 8 fault.Repeated)
    ∷ ((codes "#EXT-X-DISCONTINUITY-SEQUENCE:1", codes "#EXT-X-DISCONTINUITY-SEQUENCE:1"), refused_at 8 fault.Repeated)
    ∷ ((codes "#EXT-X-DISCONTINUITY", codes "#EXT-X-DISCONTINUITY-SEQUENCE:1"), refused_at 8 fault.Misplaced)
    ∷ ((codes "#EXT-X-PLAYLIST-TYPE:VOD", codes "#EXT-X-PLAYLIST-TYPE:VOD"), refused_at 8 fault.Repeated)
    ∷ ((codes "#EXT-X-ENDLIST", codes "#EXT-X-ENDLIST"), refused_at 8 fault.Repeated)
    ∷ ((codes "#EXT-X-DISCONTINUITY-SEQUENCE:18446744073709551615", codes "#EXT-X-DISCONTINUITY"), refused_at 8 fault.BadValue)
    ∷ ((codes "#EXT-X-KEY:METHOD=AES-128,URI=\"a:k\"", codes "#EXT-X-MAP:URI=\"a:i\""), refused_at 8 fault.MapWithoutIv) ∷ [])

-- after a segment, and four lines
abbrev pub TagsAfterSegmentsArePlaced : Type 0
TagsAfterSegmentsArePlaced = HasValues (λ (line : List ℕ). read_on (codes "#EXTINF:1," ∷ apart (codes "a:s") line)) (
    (codes "#EXT-X-MEDIA-SEQUENCE:1", refused_at 9 fault.Misplaced)
    ∷ (codes "#EXT-X-DISCONTINUITY-SEQUENCE:1", refused_at 9 fault.Misplaced) ∷ [])

-- a segment has an EXTINF of its own (4.3.2.1), numbers have 64 bits, a byte range without an offset follows one of the same
-- resource (4.3.2.2), EXT-X-MAP under AES-128 needs an IV (4.3.2.5), and either all segments have an initialisation section or none has.
-- Of two faults of a segment a missing EXTINF is told first, then its number, then its URI, then its byte range
abbrev pub SegmentsAreChecked : Type 0
SegmentsAreChecked = HasValues read_on (
    (codes "a:s" ∷ [], refused_at 3 fault.NoDuration)
    ∷ (codes "#EXTINF:1," ∷ codes "a:s" ∷ codes "a:t" ∷ [], refused_at 5 fault.NoDuration)
    ∷ (codes "#EXT-X-MEDIA-SEQUENCE:18446744073709551615" ∷ codes "#EXTINF:1," ∷ codes "a:s" ∷ codes "#EXTINF:1," ∷ codes "a:t" ∷ [], refused_at 7 fault.BadValue)
    ∷ (codes "#EXT-X-DISCONTINUITY-SEQUENCE:18446744073709551615" ∷ codes "#EXT-X-DISCONTINUITY" ∷ [], refused_at 4 fault.BadValue)
    ∷ (codes "#EXTINF:1," ∷ codes "#EXT-X-BYTERANGE:5" ∷ codes "a:s" ∷ [], refused_at 5 fault.RangeNoStart)
    ∷ (codes "#EXTINF:1," ∷ codes "#EXT-X-BYTERANGE:5@0" ∷ codes "a:s" ∷ codes "#EXTINF:1," ∷ codes "#EXT-X-BYTERANGE:5" ∷ codes "a:t" ∷ [], refused_at 8 fault.RangeNoStart)
    ∷ (codes "#EXTINF:1," ∷ codes "#EXT-X-BYTERANGE:5@0" ∷ codes "b:s" ∷ codes "#EXTINF:1," ∷ codes "#EXT-X-BYTERANGE:5" ∷ codes "a:s" ∷ [], refused_at 8 fault.RangeNoStart)
    ∷ (codes "#EXTINF:1," ∷ codes "#EXT-X-BYTERANGE:5@0" ∷ codes "a:/segment-1" ∷ codes "#EXTINF:1," ∷ codes "#EXT-X-BYTERANGE:5" ∷ codes "a:/segment-2" ∷ [], refused_at 8 fault.RangeNoStart)
    ∷ (codes "#EXTINF:1," ∷ codes "a:s" ∷ codes "#EXTINF:1," ∷ codes "#EXT-X-BYTERANGE:5" ∷ codes "a:s" ∷ [], refused_at 7 fault.RangeNoStart)
    ∷ (codes "#EXTINF:1," ∷ codes "#EXT-X-BYTERANGE:5@0" ∷ codes "a:s" ∷ codes "#EXTINF:1," ∷ codes "a:s" ∷ codes "#EXTINF:1," ∷ codes "#EXT-X-BYTERANGE:5" ∷ codes "a:s" ∷ [], refused_at 10 fault.RangeNoStart)
    ∷ (codes "#EXTINF:1," ∷ codes "#EXT-X-BYTERANGE:5@0" ∷ codes "a:s" ∷ codes "#EXTINF:1," ∷ codes "#EXT-X-BYTERANGE:5" ∷ codes "#" ∷ codes "a:s" ∷ codes "a:t" ∷ [], refused_at 10 fault.NoDuration)
    ∷ (codes "#EXTINF:1," ∷ codes "#EXT-X-BYTERANGE:1@18446744073709551613" ∷ codes "a:s" ∷ codes "#EXTINF:1," ∷ codes "#EXT-X-BYTERANGE:1" ∷ codes "a:s" ∷ codes "a:t" ∷ [], refused_at 9 fault.NoDuration)
    ∷ (codes "#EXTINF:1," ∷ codes "#EXT-X-BYTERANGE:1@18446744073709551614" ∷ codes "a:s" ∷ codes "#EXTINF:1," ∷ codes "#EXT-X-BYTERANGE:1" ∷ codes "a:s" ∷ [], refused_at 8 fault.BadRange)
    ∷ (codes "//[/x" ∷ [], refused_at 3 fault.NoDuration)
    ∷ (codes "#EXT-X-MEDIA-SEQUENCE:18446744073709551615" ∷ codes "#EXTINF:1," ∷ codes "a:s" ∷ codes "#EXTINF:1," ∷ codes "//[/x" ∷ [], refused_at 7 fault.BadValue)
    ∷ (codes "#EXTINF:1," ∷ codes "#EXT-X-BYTERANGE:5" ∷ codes "//[/x" ∷ [], refused_at 5 fault.BadUri)
    ∷ (codes "#EXT-X-KEY:METHOD=AES-128,URI=\"a:k\"" ∷ codes "#EXT-X-MAP:URI=\"a:i\"" ∷ [], refused_at 4 fault.MapWithoutIv)
    ∷ (codes "#EXT-X-KEY:METHOD=AES-128,URI=\"a:k\"" ∷ codes "#EXT-X-MAP:URI=\"//[/x\"" ∷ [], refused_at 4 fault.BadUri)
    ∷ (codes "#EXT-X-KEY:METHOD=SAMPLE-AES,URI=\"a:d\",KEYFORMAT=\"f\"" ∷ codes "#EXT-X-KEY:METHOD=AES-128,URI=\"a:k\"" ∷ codes "#EXT-X-MAP:URI=\"a:i\"" ∷ [], refused_at 5 fault.MapWithoutIv)
    ∷ (codes "#EXT-X-KEY:METHOD=AES-128,URI=\"a:k\",KEYFORMAT=\"f\"" ∷ codes "#EXT-X-KEY:METHOD=SAMPLE-AES,URI=\"a:d\"" ∷ codes "#EXT-X-MAP:URI=\"a:i\"" ∷ [], refused_at 5 fault.MapWithoutIv)
    ∷ (codes "#EXT-X-KEY:METHOD=AES-129,URI=\"a:k\"" ∷ codes "#EXT-X-MAP:URI=\"a:i\"" ∷ [], refused_at 0 fault.NoSegments)
    ∷ (codes "#EXT-X-KEY:METHOD=XES-128,URI=\"a:k\"" ∷ codes "#EXT-X-MAP:URI=\"a:i\"" ∷ [], refused_at 0 fault.NoSegments)
    ∷ (codes "#EXT-X-KEY:METHOD=SAMPLE-AES,URI=\"a:k\"" ∷ codes "#EXT-X-MAP:URI=\"a:i\"" ∷ [], refused_at 0 fault.NoSegments)
    ∷ (codes "#EXTINF:1," ∷ codes "a:s" ∷ codes "#EXT-X-MAP:URI=\"a:i\"" ∷ codes "#EXTINF:1," ∷ codes "a:t" ∷ [], refused_at 0 fault.MixedMaps)
    ∷ (
      codes "#EXTINF:1," ∷ codes "a:s" ∷ codes "#EXTINF:1," ∷ codes "a:s" ∷ codes "#EXTINF:1," ∷ codes "a:s" ∷ codes "#EXTINF:1," ∷ codes "a:s" ∷ codes "#EXT-X-MAP:URI=\"a:i\"" ∷ codes "#EXTINF:1," ∷ codes "a:t" ∷ [],
      refused_at 0 fault.MixedMaps,
    )
    ∷ (codes "#EXT-X-MEDIA-SEQUENCE:18446744073709551615" ∷ codes "#EXTINF:1," ∷ codes "a:s" ∷ codes "a:t" ∷ [], refused_at 6 fault.NoDuration)
    ∷ (codes "#EXT-X-DISCONTINUITY-SEQUENCE:18446744073709551614" ∷ codes "#EXT-X-DISCONTINUITY" ∷ [], refused_at 0 fault.NoSegments)
    ∷ (codes "#EXTINF:1," ∷ codes "#EXT-X-BYTERANGE:1@9223372036854775807" ∷ codes "a:s" ∷ codes "#EXTINF:1," ∷ codes "#EXT-X-BYTERANGE:1" ∷ codes "a:s" ∷ codes "a:t" ∷ [], refused_at 9 fault.NoDuration)
    ∷ (
      codes "#EXTINF:1," ∷ codes "#EXT-X-BYTERANGE:100@5" ∷ (codes "a:" ++ long 98)
          ∷ codes "#EXTINF:1," ∷ codes "#EXT-X-BYTERANGE:50" ∷ codes "# 1" ∷ codes "# 2" ∷ codes "# 3" ∷ codes "# 4" ∷ (codes "a:" ++ long 98)
          ∷ codes "#EXTINF:1," ∷ codes "#EXT-X-BYTERANGE:30" ∷ (codes "a:" ++ long 98) ∷ codes "a:t" ∷ [],
      refused_at 16 fault.NoDuration,
    ) ∷ [])

-- 4.3.1.1 and 4.3.3.1: EXTM3U is the first line, and EXT-X-TARGETDURATION is required; 4.1: a playlist is UTF-8, and its lines
-- may end with CR LF. What the whole
-- playlist lacks is told after the faults of its lines, the target duration first
abbrev pub HeadersAreChecked : Type 0
HeadersAreChecked = HasValues (read_by limited) (
    ([], refused_at 1 fault.NoHeader)
    ∷ (codes "#EXTM3U8" ∷ [], refused_at 1 fault.NoHeader)
    ∷ (codes "#EXTM3V" ∷ [], refused_at 1 fault.NoHeader)
    ∷ (codes "xEXTM3U" ∷ [], refused_at 1 fault.NoHeader)
    ∷ (codes "" ∷ codes "#EXTM3U" ∷ [], refused_at 1 fault.NoHeader)
    ∷ (codes "#EXTM3U" ∷ codes "#EXTINF:1," ∷ codes "a:s" ∷ [], refused_at 0 fault.NoTarget)
    ∷ (codes "#EXTM3U" ∷ codes "#EXT-X-TARGETDURATION:1" ∷ [], refused_at 0 fault.NoSegments)
    ∷ (codes "#EXTM3U" ∷ [], refused_at 0 fault.NoTarget)
    ∷ (codes "#EXTM3U" ∷ codes "#EXT-X-VERSION:x" ∷ [], refused_at 2 fault.BadVersion)
    ∷ (codes "#EXTM3U" ∷ codes "#EXT-X-TARGETDURATION:x" ∷ [], refused_at 2 fault.BadValue)
    ∷ (codes "#EXTM3U" ∷ codes "#EXTINF:1," ∷ codes "a:s" ∷ codes "#EXT-X-MAP:URI=\"a:i\"" ∷ codes "#EXTINF:1," ∷ codes "a:t" ∷ [], refused_at 0 fault.NoTarget)
    ∷ ((codes "#EXTM3U" ++ (13 ∷ [])) ∷ (codes "#EXT-X-VERSION:9" ++ (13 ∷ [])) ∷ [], refused_at 2 fault.Version)
    ∷ (codes "#EXTM3U" ∷ (128 ∷ []) ∷ [], refused_at 0 fault.NotUtf8)
    ∷ (codes "#EXTM3U" ∷ (194 ∷ []) ∷ [], refused_at 0 fault.NotUtf8)
    ∷ ((128 ∷ []) ∷ [], refused_at 0 fault.NotUtf8) ∷ [])

abbrev pub small : Reader
small = record { bytes = Some 90; attributes = Some 3; formats = Some 1; segments = Some 1 }

-- a reader's limits
abbrev pub ReadersAreLimited : Type 0
ReadersAreLimited = HasValues (read_by small) (
    (codes "#EXTM3U" ∷ codes "#EXTINF:1," ∷ codes "a:s" ∷ codes "#EXTINF:1," ∷ codes "a:t" ∷ [], refused_at 5 fault.TooMany)
    ∷ (codes "#EXTM3U" ∷ codes "#EXT-X-DATERANGE:ID=\"b\",X=1,Y=2,Z=3" ∷ [], refused_at 2 fault.BadAttributes)
    ∷ (codes "#EXTM3U" ∷ codes "#EXT-X-KEY:METHOD=A,URI=\"a:k\"" ∷ codes "#EXT-X-KEY:METHOD=A,URI=\"a:l\"" ∷ [], refused_at 0 fault.NoTarget)
    ∷ (codes "#EXTM3U" ∷ codes "#EXT-X-KEY:METHOD=A,URI=\"a:k\"" ∷ codes "#EXT-X-KEY:METHOD=A,URI=\"a:l\",KEYFORMAT=\"f\"" ∷ [], refused_at 3 fault.TooMany)
    ∷ (codes "#EXTM3U" ∷ codes "#        10        20        30        40        50        60        70        80" ∷ [], refused_at 0 fault.NoTarget)
    ∷ (codes "#EXTM3U" ∷ codes "#        10        20        30        40        50        60        70        80." ∷ [], refused_at 0 fault.TooLong)
    ∷ (codes "#EXTM3U" ∷ codes "#        10        20        30        40        50        60        70        80" ∷ codes "#" ∷ [], refused_at 0 fault.TooLong)
    ∷ (codes "#EXTM3U" ∷ codes "#        10        20        30        40        50        60        70        80" ∷ (128 ∷ []) ∷ [], refused_at 0 fault.NotUtf8)
    ∷ (codes "#EXTM3U" ∷ codes "#EXTINF:1," ∷ codes "a:s" ∷ codes "a:t" ∷ [], refused_at 4 fault.TooMany)
    ∷ (codes "#EXTM3U" ∷ codes "#EXTINF:1," ∷ codes "a:s" ∷ codes "#" ∷ codes "#" ∷ codes "#" ∷ codes "#EXTINF:1," ∷ codes "a:t" ∷ [], refused_at 8 fault.TooMany)
    ∷ (codes "#EXTM3U" ∷ codes "#EXT-X-KEY:METHOD=A,URI=\"a:k\"" ∷ codes "#" ∷ codes "#" ∷ codes "#" ∷ codes "#EXT-X-KEY:METHOD=A,URI=\"a:l\",KEYFORMAT=\"f\"" ∷ [], refused_at 6 fault.TooMany) ∷ [])

abbrev pub limits_of : Reader → Option ℕ × Option ℕ × Option ℕ × Option ℕ
limits_of r = (r.bytes, r.attributes, r.formats, r.segments)

-- docs/OPERATING.md: 4,194,304 bytes, 64 attributes, 16 key formats and 10,000 segments; the denotation keeps to nothing
abbrev pub LimitsAreStated : Type 0
LimitsAreStated = HasValues limits_of (
    (limited, (Some 4194304, Some 64, Some 16, Some 10000)) ∷ (unlimited, (None, None, None, None)) ∷ [])

abbrev pub of_format : List ℕ → List ℕ → Key
of_format format resource = record { format = format; method = codes "A"; uri = resource; iv = None; other_attributes = [] }

-- 4.3.2.4: of each format the last one since NONE is in force; here sorted by format. The newest line stands first
abbrev pub KeysAreInForce : Type 0
KeysAreInForce = HasValues keys_at ((
  key (of_format (codes "b") (codes "a:3")) ∷ key (of_format (codes "a") (codes "a:2")) ∷ key (of_format (codes "b") (codes "a:1")) ∷ [],
  of_format (codes "a") (codes "a:2") ∷ of_format (codes "b") (codes "a:3") ∷ [],
)
    ∷ (nothing ∷ key (of_format (codes "a") (codes "a:2")) ∷ no_keys ∷ key (of_format (codes "b") (codes "a:1")) ∷ [], of_format (codes "a") (codes "a:2") ∷ [])
    ∷ (no_keys ∷ key (of_format (codes "a") (codes "a:2")) ∷ [], [])
    ∷ (
      nothing ∷ nothing ∷ nothing ∷ nothing ∷ key (of_format (codes "e") (codes "a:6")) ∷ key (of_format (codes "a") (codes "a:5")) ∷ key (of_format (codes "b") (codes "a:4")) ∷ key (of_format (codes "c") (codes "a:3")) ∷ key (of_format (codes "d") (codes "a:2")) ∷ key (of_format (codes "e") (codes "a:1")) ∷ [],
      of_format (codes "a") (codes "a:5") ∷ of_format (codes "b") (codes "a:4") ∷ of_format (codes "c") (codes "a:3") ∷ of_format (codes "d") (codes "a:2") ∷ of_format (codes "e") (codes "a:6") ∷ [],
    )
    ∷ (
      key (of_format (codes "f") (codes "a:6")) ∷ key (of_format (codes "a") (codes "a:5")) ∷ key (of_format (codes "b") (codes "a:4")) ∷ key (of_format (codes "c") (codes "a:3")) ∷ key (of_format (codes "d") (codes "a:2")) ∷ key (of_format (codes "e") (codes "a:1")) ∷ [],
      of_format (codes "a") (codes "a:5") ∷ of_format (codes "b") (codes "a:4") ∷ of_format (codes "c") (codes "a:3") ∷ of_format (codes "d") (codes "a:2") ∷ of_format (codes "e") (codes "a:1") ∷ of_format (codes "f") (codes "a:6") ∷ [],
    )
    ∷ (key (of_format (long 98) (codes "a:2")) ∷ key (of_format (long 99) (codes "a:1")) ∷ [], of_format (long 98) (codes "a:2") ∷ of_format (long 99) (codes "a:1") ∷ [])
    ∷ (key (of_format (long 98) (codes "a:2")) ∷ key (of_format (long 98) (codes "a:1")) ∷ [], of_format (long 98) (codes "a:2") ∷ []) ∷ [])

-- what stands at a line after these lines, the last of which stands first: the stated numbers and what was counted since, what
-- the next segment has of its own, and what is in force (4.3.2, 4.3.3.2, 4.3.3.3)
abbrev pub LinesStand : Type 0
LinesStand = HasValues standing_at ((
  [],
  record { media_sequence = 0; discontinuity_sequence = 0; media_count = 0; discontinuity_count = 0; discontinuities = 0; duration = None; byte_range = None; program_date_time = None; keys = []; init_section = None; extent = None },
)
    ∷ (
      said.time (pos 9) ∷ said.byte_range 50 None ∷ said.duration 6 [] ∷ said.discontinuity ∷ said.media (codes "a:s") ∷ said.byte_range 100 (Some 5) ∷ said.duration 5 (codes "t") ∷ said.discontinuity ∷ said.init_section (codes "a:i") None ∷ key (identity (codes "a:1") (Some 1)) ∷ said.discontinuity_sequence 3 ∷ said.sequence 7 ∷ [],
      record {
        media_sequence = 7;
        discontinuity_sequence = 3;
        media_count = 1;
        discontinuity_count = 2;
        discontinuities = 1;
        duration = Some (6, []);
        byte_range = Some (50, None);
        program_date_time = Some (pos 9);
        keys = identity (codes "a:1") (Some 1) ∷ [];
        init_section = Some under_key_1;
        extent = Some (record { uri = codes "a:s"; byte_range = record { length = 100; offset = 5 } });
      },
    ) ∷ [])

-- nothing was said
abbrev pub nothing_stands : Standing
nothing_stands = record { media_sequence = 0; discontinuity_sequence = 0; media_count = 0; discontinuity_count = 0; discontinuities = 0; duration = None; byte_range = None; program_date_time = None; keys = []; init_section = None; extent = None }

-- one line each, and four lines of no meaning after the tags of a segment
abbrev pub TagsStand : Type 0
TagsStand = HasValues standing_at ((said.sequence 7 ∷ [], record nothing_stands { media_sequence = 7 })
    ∷ (said.discontinuity_sequence 7 ∷ [], record nothing_stands { discontinuity_sequence = 7 })
    ∷ (said.media (codes "a:s") ∷ [], record nothing_stands { media_count = 1 })
    ∷ (said.media (codes "a:s") ∷ said.byte_range 5 (Some 1) ∷ [], record nothing_stands { media_count = 1; extent = Some (record { uri = codes "a:s"; byte_range = record { length = 5; offset = 1 } }) })
    ∷ (said.discontinuity ∷ [], record nothing_stands { discontinuity_count = 1; discontinuities = 1 })
    ∷ (said.duration 6 [] ∷ [], record nothing_stands { duration = Some (6, []) })
    ∷ (said.byte_range 50 None ∷ [], record nothing_stands { byte_range = Some (50, None) })
    ∷ (key (of_format (codes "a") (codes "a:2")) ∷ [], record nothing_stands { keys = of_format (codes "a") (codes "a:2") ∷ [] })
    ∷ (said.init_section (codes "a:i") None ∷ [], record nothing_stands { init_section = Some (record { uri = codes "a:i"; byte_range = None; keys = [] }) })
    ∷ (
      nothing ∷ nothing ∷ nothing ∷ nothing ∷ said.time (pos 9) ∷ said.byte_range 50 None ∷ said.duration 6 [] ∷ said.duration 5 [] ∷ [],
      record { media_sequence = 0; discontinuity_sequence = 0; media_count = 0; discontinuity_count = 0; discontinuities = 0; duration = Some (6, []); byte_range = Some (50, None); program_date_time = Some (pos 9); keys = []; init_section = None; extent = None },
    ) ∷ [])

-- 5.2: the Media Sequence Number is the IV of a key that states none; of the format `identity` alone
abbrev pub KeysHaveTheirIvs : Type 0
KeysHaveTheirIvs = HasValues (effective_key 7) (
    (identity (codes "a:k") None, identity (codes "a:k") (Some 7))
    ∷ (identity (codes "a:k") (Some 1), identity (codes "a:k") (Some 1))
    ∷ (of_format (codes "identitx") (codes "a:k"), of_format (codes "identitx") (codes "a:k"))
    ∷ (of_format (codes "xdentity") (codes "a:k"), of_format (codes "xdentity") (codes "a:k"))
    ∷ (of_format (codes "identitys") (codes "a:k"), of_format (codes "identitys") (codes "a:k"))
    ∷ (of_format (codes "f") (codes "a:k"), of_format (codes "f") (codes "a:k")) ∷ [])

abbrev pub stands_at : ℕ × List Key → Option Key
stands_at it = key_at it.0 it.1

-- 5.2: an IV that no tag states differs from segment to segment, and so a key that stays is the same but for its IV. The first
-- place is 0, and past the last key there is none
abbrev pub KeysStayButForTheirIvs : Type 0
KeysStayButForTheirIvs = HasValues stands_at (
    ((0, identity (codes "a:1") (Some 7) ∷ identity (codes "a:2") None ∷ []), Some (identity (codes "a:1") None))
    ∷ ((1, identity (codes "a:1") (Some 7) ∷ of_format (codes "f") (codes "a:2") ∷ []), Some (of_format (codes "f") (codes "a:2")))
    ∷ ((2, identity (codes "a:1") (Some 7) ∷ identity (codes "a:2") None ∷ []), None)
    ∷ ((0, []), None) ∷ [])

abbrev pub is_among : KeyPlaces × ℕ → Bool
is_among it = is_place_of it.0 it.1

-- places as bits, the lowest for the first: 5 is the first and the third, 32768 the sixteenth. No place has a bit in none, and
-- each of 16 has one in all
abbrev pub PlacesAreBits : Type 0
PlacesAreBits = HasValues is_among (
    ((record { bits = 5 }, 0), true)
    ∷ ((record { bits = 5 }, 1), false)
    ∷ ((record { bits = 5 }, 2), true)
    ∷ ((record { bits = 0 }, 0), false)
    ∷ ((record { bits = 32768 }, 15), true)
    ∷ ((record { bits = 32768 }, 14), false)
    ∷ ((record { bits = 65535 }, 16), false)
    ∷ ((no_places, 0), false)
    ∷ ((no_places, 15), false)
    ∷ ((all_places, 0), true)
    ∷ ((all_places, 7), true)
    ∷ ((all_places, 15), true)
    ∷ ((all_places, 16), false) ∷ [])

abbrev pub among_both : KeyPlaces × KeyPlaces → KeyPlaces
among_both it = both_places it.0 it.1

-- a place is in both if it is in each: 13 is the places 0, 2 and 3, 7 is 0, 1 and 2, and 5 is 0 and 2
abbrev pub PlacesAreAmongBoth : Type 0
PlacesAreAmongBoth = HasValues among_both (
    ((record { bits = 13 }, record { bits = 7 }), record { bits = 5 })
    ∷ ((record { bits = 7 }, record { bits = 13 }), record { bits = 5 })
    ∷ ((record { bits = 5 }, record { bits = 2 }), record { bits = 0 })
    ∷ ((record { bits = 32769 }, record { bits = 32770 }), record { bits = 32768 })
    ∷ ((record { bits = 9 }, record { bits = 65535 }), record { bits = 9 })
    ∷ ((all_places, record { bits = 9 }), record { bits = 9 })
    ∷ ((all_places, all_places), record { bits = 65535 })
    ∷ ((record { bits = 9 }, no_places), record { bits = 0 }) ∷ [])

-- keys of four formats, in their order
abbrev pub four_keys : List Key
four_keys = of_format (codes "e") (codes "a:1") ∷ of_format (codes "f") (codes "a:2") ∷ of_format (codes "g") (codes "a:3") ∷ identity (codes "a:4") None ∷ []

-- 4.3.2.5: the keys of an initialisation section, if a segment has one
abbrev pub SectionsHaveTheirKeys : Type 0
SectionsHaveTheirKeys = HasValues init_section_keys (
    (Some under_key_1, identity (codes "a:1") (Some 1) ∷ [])
    ∷ (Some (record under_key_1 { keys = four_keys }), four_keys)
    ∷ (None, []) ∷ [])

-- a segment that lasts so long, and states this time
abbrev pub lasting : ℕ → Option ℤ → Segment
lasting nanos time = record { media_sequence = 0; discontinuity_sequence = 0; discontinuities = 0; uri = codes "a:s"; byte_range = None; keys = []; init_section = None; duration = nanos; title = []; program_date_time = time }

abbrev pub begins : Option ℤ × Segment × List Segment → Option ℤ
begins it = begins_at it.0 it.1 it.2

-- 4.3.2.6: a segment begins at the time that it states; else where the one before it ended; else back from the first time
-- that is stated after it, as docs/CONFORMANCE.md says, within the years 1900 to 2199
abbrev pub SegmentsBegin : Type 0
SegmentsBegin = HasValues begins (
    ((Some (pos 50), lasting 10 (Some (pos 70)), lasting 10 (Some (pos 90)) ∷ []), Some (pos 70))
    ∷ ((Some (pos 50), lasting 10 None, lasting 10 (Some (pos 90)) ∷ []), Some (pos 50))
    ∷ ((None, lasting 10 None, lasting 20 None ∷ lasting 40 (Some (pos 90)) ∷ lasting 10 (Some (pos 500)) ∷ []), Some (pos 60))
    ∷ ((None, lasting 10 None, lasting 20 None ∷ []), None)
    ∷ ((Some (pos 7258118400000000000), lasting 10 None, []), None)
    ∷ ((None, lasting 10 None, lasting 10 (Some (negsuc 2208988799999999999)) ∷ []), None)
    ∷ ((Some (pos 7258118399999999999), lasting 10 None, []), Some (pos 7258118399999999999)) ∷ [])

-- the same of each segment of a list: a time that is stated later or anew, one that is stated nowhere, a segment that ends after
-- the year 2199, and one that begins before 1900
abbrev pub InstantsFollow : Type 0
InstantsFollow = HasValues instants_of (
    (lasting 10 None ∷ lasting 10 (Some (pos 70)) ∷ lasting 9 None ∷ [], Some (pos 60) ∷ Some (pos 70) ∷ Some (pos 80) ∷ [])
    ∷ (lasting 10 (Some (pos 50)) ∷ lasting 10 (Some (pos 61)) ∷ [], Some (pos 50) ∷ Some (pos 61) ∷ [])
    ∷ (lasting 10 None ∷ [], None ∷ [])
    ∷ (
      lasting 10 (Some (pos 7258118399999999995)) ∷ lasting 10 None ∷ lasting 10 None ∷ lasting 10 (Some (pos 70)) ∷ [],
      Some (pos 7258118399999999995) ∷ None ∷ Some (pos 60) ∷ Some (pos 70) ∷ [],
    )
    ∷ (lasting 10 None ∷ lasting 10 (Some (negsuc 2208988799999999994)) ∷ [], None ∷ Some (negsuc 2208988799999999994) ∷ []) ∷ [])

abbrev pub SegmentsEnd : Type 0
SegmentsEnd = HasValues (λ (begun : Option ℤ). ends_at begun 30) ((Some (pos 50), Some (pos 80)) ∷ (None, None) ∷ [])

abbrev pub sample : Segment
sample = record { media_sequence = 7; discontinuity_sequence = 3; discontinuities = 0; uri = codes "a:s"; byte_range = Some (record { length = 100; offset = 5 }); keys = identity (codes "a:2") (Some 7) ∷ []; init_section = Some under_key_1; duration = 9500000000; title = codes "first"; program_date_time = Some (pos 1) }

-- a segment except for its title, time and steps
abbrev pub PartsAreKept : Type 0
PartsAreKept = HasValues kept_parts ((
  sample,
  record { media_sequence = 7; discontinuity_sequence = 3; discontinuities = 0; uri = codes "a:s"; byte_range = Some (record { length = 100; offset = 5 }); keys = identity (codes "a:2") (Some 7) ∷ []; init_section = Some under_key_1; duration = 9500000000; title = []; program_date_time = None },
)
    ∷ (record sample { discontinuities = 2 }, record sample { discontinuities = 0; title = []; program_date_time = None }) ∷ [])

-- 6.2.1: a segment of one number doesn't change. What is looked at: numbers, resource, byte range, duration, keys and initialisation section
abbrev pub SegmentsAreCompared : Type 0
SegmentsAreCompared = HasValues (same_segment sample) (
    (sample, true)
    ∷ (record sample { title = [] }, true)
    ∷ (record sample { program_date_time = None }, true)
    ∷ (record sample { discontinuities = 1 }, true)
    ∷ (record sample { media_sequence = 8 }, false)
    ∷ (record sample { media_sequence = 6 }, false)
    ∷ (record sample { discontinuity_sequence = 2 }, false)
    ∷ (record sample { byte_range = Some (record { length = 99; offset = 5 }) }, false)
    ∷ (record sample { byte_range = Some (record { length = 100; offset = 4 }) }, false)
    ∷ (record sample { duration = 9499999999 }, false)
    ∷ (record sample { discontinuity_sequence = 4 }, false)
    ∷ (record sample { uri = codes "a:t" }, false)
    ∷ (record sample { byte_range = None }, false)
    ∷ (record sample { byte_range = Some (record { length = 101; offset = 5 }) }, false)
    ∷ (record sample { byte_range = Some (record { length = 100; offset = 6 }) }, false)
    ∷ (record sample { duration = 9500000001 }, false)
    ∷ (record sample { keys = [] }, false)
    ∷ (record sample { keys = identity (codes "a:2") (Some 8) ∷ [] }, false)
    ∷ (record sample { keys = identity (codes "a:3") (Some 7) ∷ [] }, false)
    ∷ (record sample { keys = record (identity (codes "a:2") (Some 7)) { method = codes "SAMPLE-AES" } ∷ [] }, false)
    ∷ (record sample { keys = record (identity (codes "a:2") (Some 7)) { format = codes "f" } ∷ [] }, false)
    ∷ (record sample { keys = record (identity (codes "a:2") (Some 7)) { other_attributes = codes ",X=1" } ∷ [] }, false)
    ∷ (record sample { init_section = None }, false)
    ∷ (record sample { init_section = Some (record under_key_1 { uri = codes "a:j" }) }, false)
    ∷ (record sample { init_section = Some (record under_key_1 { byte_range = Some (record { length = 1; offset = 0 }) }) }, false)
    ∷ (record sample { init_section = Some (record under_key_1 { keys = [] }) }, false) ∷ [])

abbrev pub long_key : Key
long_key = record { format = codes "com.example.f"; method = codes "SAMPLE-AES"; uri = codes "a:/key-0001"; iv = Some 7; other_attributes = codes ",X-VERSION=1" }

abbrev pub long_texts : Segment
long_texts = record sample { uri = codes "a:/segment-1"; keys = long_key ∷ []; init_section = Some (record under_key_1 { uri = codes "a:/section-1" }) }

-- its texts are compared to their last byte
abbrev pub LongTextsAreCompared : Type 0
LongTextsAreCompared = HasValues (same_segment long_texts) (
    (long_texts, true)
    ∷ (record long_texts { uri = codes "a:/segment-2" }, false)
    ∷ (record long_texts { init_section = Some (record under_key_1 { uri = codes "a:/section-2" }) }, false)
    ∷ (record long_texts { init_section = Some (record under_key_1 { uri = codes "b:/section-1" }) }, false)
    ∷ (record long_texts { keys = record long_key { format = codes "com.example.g" } ∷ [] }, false)
    ∷ (record long_texts { keys = record long_key { method = codes "SAMPLE-AEX" } ∷ [] }, false)
    ∷ (record long_texts { keys = record long_key { method = codes "XAMPLE-AES" } ∷ [] }, false)
    ∷ (record long_texts { keys = record long_key { uri = codes "a:/key-0002" } ∷ [] }, false)
    ∷ (record long_texts { keys = record long_key { uri = codes "b:/key-0001" } ∷ [] }, false)
    ∷ (record long_texts { keys = record long_key { other_attributes = codes ",X-VERSION=2" } ∷ [] }, false)
    ∷ (record long_texts { keys = record long_key { other_attributes = codes ";X-VERSION=1" } ∷ [] }, false) ∷ [])

abbrev pub at_line : ℕ → FaultKind → PlaylistFault
at_line line kind = record { kind = kind; line = line }

-- docs/OPERATING.md, "Faults"
abbrev pub FaultsAreTold : Type 0
FaultsAreTold = HasValues fault_text (
    (at_line 0 fault.NotUtf8, codes "P1 NotUtf8")
    ∷ (at_line 0 fault.TooLong, codes "P2 TooLong")
    ∷ (at_line 1 fault.NoHeader, codes "P3 NoHeader line 1")
    ∷ (at_line 12 fault.Control, codes "P4 Control line 12")
    ∷ (at_line 2 fault.BadVersion, codes "P5 BadVersion line 2")
    ∷ (at_line 2 fault.Version, codes "P6 Version line 2")
    ∷ (at_line 2 fault.Repeated, codes "P7 Repeated line 2")
    ∷ (at_line 2 fault.Misplaced, codes "P8 Misplaced line 2")
    ∷ (at_line 2 fault.BadValue, codes "P9 BadValue line 2")
    ∷ (at_line 2 fault.BadDuration, codes "P10 BadDuration line 2")
    ∷ (at_line 2 fault.BadAttributes, codes "P11 BadAttributes line 2")
    ∷ (at_line 2 fault.MissingAttribute, codes "P12 MissingAttribute line 2")
    ∷ (at_line 2 fault.BadRange, codes "P13 BadRange line 2")
    ∷ (at_line 2 fault.RangeNoStart, codes "P14 RangeNoStart line 2")
    ∷ (at_line 2 fault.BadTime, codes "P15 BadTime line 2")
    ∷ (at_line 2 fault.BadUri, codes "P16 BadUri line 2")
    ∷ (at_line 2 fault.NoDuration, codes "P17 NoDuration line 2")
    ∷ (at_line 0 fault.NoTarget, codes "P18 NoTarget")
    ∷ (at_line 2 fault.MasterPlaylist, codes "P19 MasterPlaylist line 2")
    ∷ (at_line 2 fault.IFramesOnly, codes "P20 IFramesOnly line 2")
    ∷ (at_line 0 fault.NoSegments, codes "P21 NoSegments")
    ∷ (at_line 0 fault.MixedMaps, codes "P22 MixedMaps")
    ∷ (at_line 2 fault.MapWithoutIv, codes "P23 MapWithoutIv line 2")
    ∷ (at_line 2 fault.TooMany, codes "P24 TooMany line 2")
    ∷ (at_line 0 fault.OutOfMemory, codes "P25 OutOfMemory") ∷ [])
