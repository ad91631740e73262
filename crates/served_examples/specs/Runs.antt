-- A run over one playlist, and what a channel was given.
use Rattle.std.specs.Prelude.{ℕ, ◌-◌, ◌^◌, Bool, true, false, List, [], ◌∷◌, ◌++◌, map, replicate, codes, pos, Option, Some, None, option_map, Result, Ok, Err}
use Rattle.url.specs.Parts.{Parts}
use Rattle.byte_streams.specs.Devices.{next_count}
use Rattle.pod_store.specs.declared.Decisions.TheVariants.{Breaks, Withdraw}
use Rattle.pod_store.specs.declared.fault.DecisionKind.TheVariants as fault
use Rattle.playlist_model.specs.Uri.{base_of}
use Rattle.playlist_model.specs.Reading.{Fault}
use Rattle.playlist_model.specs.declared.Playlist.{Playlist}
use Rattle.playlist_model.specs.declared.DateRange.{DateRange}
use Rattle.pod_store.specs.Marks.{Mark, Marked}
use Rattle.channel_spec.specs.Live as live
use Rattle.live_channel.specs.Channel.{Given, decided, withdrawn, refreshed, events_of}
use Rattle.playlist_model.specs.Segments.{Segment}
use Rattle.playlist_model.specs.declared.Key.{Key}
use Rattle.read_is_writable.specs.Limits.{line_keeps}
use Rattle.read_is_writable.specs.Read.{numbers_read, segment_can_be_written}
use Rattle.vod_run.specs.Events as vod
use Rattle.writable.specs.Fitting.{uri_fits, quoted_uri_fits}
use Rattle.vod_run.specs.Given.{given_by}
use Rattle.byte_streams.specs.Fair.{most_reads}
use Rattle.vod_run.specs.Vod.{read_under, told_with}
use Rattle.worked_examples.specs.Channels.{b, decide_b, plays, segments}
use Rattle.worked_examples.specs.Playlists.{text}
use Rattle.worked_examples.specs.Pods.{fault_at, long, nowhere}
use Rattle.worked_examples.specs.Tables.{HasValues}

-- docs/OPERATING.md: 65,536 reads at most; a counter stays at 2^64 - 1
abbrev pub ReadsAreLimited : Type 0
ReadsAreLimited = HasValues (λ (n : ℕ). n) ((most_reads, 65536) ∷ (next_count 5, 6) ∷ (next_count (2 ^ 64 - 1), 2 ^ 64 - 1) ∷ [])

-- a decision file's first fault, of what it says and then of a store in which nothing is decided; without one nothing is told
abbrev pub FilesAreTold : Type 0
FilesAreTold = HasValues vod.events_of (
    (None, Ok [])
    ∷ (Some (codes "{\"breaks\":[]}"), Ok (live.decided (Breaks []) ∷ []))
    ∷ (Some (codes "{\"breaks\":[],\"x\":\"" ++ (long 98 ++ codes "\"}")), Ok (live.decided (Breaks []) ∷ []))
    ∷ (Some (codes "{"), Err (fault_at nowhere fault.NotJson))
    ∷ (Some (codes "{\"withdraw\":\"b\"}"), Err (fault_at nowhere fault.Unknown)) ∷ [])

abbrev pub FilesAreGiven : Type 0
FilesAreGiven = HasValues given_by ((None, []) ∷ (Some (codes "{"), decided (codes "{") ∷ []) ∷ [])

abbrev pub told : List Given → Option (List live.Event)
told given = option_map (λ (base : Parts). events_of base given) (base_of (codes "http://h/"))

-- bytes that don't read are no event, and neither are those that say no decisions
abbrev pub BytesAreTold : Type 0
BytesAreTold = HasValues told (
    ([], Some [])
    ∷ (withdrawn (codes "b") ∷ decided (codes "{\"breaks\":[]}") ∷ [], Some (live.decided (Withdraw (codes "b")) ∷ live.decided (Breaks []) ∷ []))
    ∷ (decided (codes "{") ∷ refreshed [] ∷ [], Some []) ∷ [])

abbrev pub key : List ℕ → Key
key resource = record { format = codes "f"; method = codes "A"; uri = resource; iv = None; other_attributes = [] }

abbrev pub segment : Segment
segment = record { media_sequence = 0; discontinuity_sequence = 0; discontinuities = 0; uri = codes "a:s"; byte_range = None; keys = []; init_section = None; duration = 1; title = []; program_date_time = None }

-- a whole URI in UTF-8 and without a control character is written, and between quotes one without a quote (4.1, 4.2, 4.3.2.4); 255
-- is no byte of UTF-8
abbrev pub are_written : List ℕ → Bool × Bool
are_written uri = (uri_fits uri, quoted_uri_fits uri)

abbrev pub UrisAreWhole : Type 0
UrisAreWhole = HasValues are_written (
    (codes "http://h/a", (true, true)) ∷ (codes "s0.ts", (false, false)) ∷ (codes "http://h/" ++ (127 ∷ []), (false, false)) ∷ (codes "http://h/\"", (true, false))
    ∷ (codes "http://h/" ++ (255 ∷ []), (false, false)) ∷ [])

-- 4.3.3.2 and 4.3.3.3: a playlist has a segment, and numbers go up by one and by the discontinuities between
abbrev pub ReadNumbersRise : Type 0
ReadNumbersRise = HasValues numbers_read (
    ([], false)
    ∷ (segment ∷ record segment { media_sequence = 1; discontinuity_sequence = 1; discontinuities = 1 } ∷ [], true)
    ∷ (segment ∷ record segment { media_sequence = 1; discontinuity_sequence = 1 } ∷ [], false)
    ∷ (segment ∷ record segment { media_sequence = 2 } ∷ [], false)
    ∷ (record segment { discontinuities = 1 } ∷ [], false) ∷ [])

-- a segment that is read can be written: its URIs are whole and UTF-8, its byte range ends below 2^64, and it lasts less than
-- 1,000,000 s (4.1, 4.3.2.1, 4.3.2.2)
abbrev pub ReadSegmentsAreWritten : Type 0
ReadSegmentsAreWritten = HasValues segment_can_be_written (
    (segment, true)
    ∷ (record segment { byte_range = Some (record { length = 5; offset = 3 }); keys = key (codes "a:k") ∷ []; title = codes "first"; program_date_time = Some (pos 0) }, true)
    ∷ (record segment { uri = codes "s" }, false)
    ∷ (record segment { uri = codes "a:" ++ (255 ∷ []) }, false)
    ∷ (record segment { keys = key (codes "a:" ++ (255 ∷ [])) ∷ [] }, false)
    ∷ (record segment { init_section = Some (record { uri = codes "a:i"; byte_range = None; keys = key (codes "a:k") ∷ [] }) }, true)
    ∷ (record segment { init_section = Some (record { uri = codes "a:" ++ (255 ∷ []); byte_range = None; keys = [] }) }, false)
    ∷ (record segment { init_section = Some (record { uri = codes "a:i"; byte_range = None; keys = key (codes "a:" ++ (255 ∷ [])) ∷ [] }) }, false)
    ∷ (record segment { byte_range = Some (record { length = 2; offset = 2 ^ 64 - 2 }) }, false)
    ∷ (record segment { duration = 10 ^ 15 }, false) ∷ [])

-- docs/OPERATING.md: a tag of attributes has 64 at most; EXTINF has none
abbrev pub LinesKeepTheirLimit : Type 0
LinesKeepTheirLimit = HasValues line_keeps (
    (codes "#EXT-X-KEY:METHOD=AES-128,URI=\"k\"", true)
    ∷ (codes "#EXT-X-MAP:" ++ replicate 63 44, true)
    ∷ (codes "#EXT-X-MAP:" ++ replicate 64 44, false)
    ∷ (codes "#EXTINF:" ++ replicate 64 44, true) ∷ [])

abbrev pub uris_of : Result Playlist Fault → Option (List (List ℕ))
uris_of (Ok p) = Some (map (λ (s : Segment). s.uri) p.segments)
uris_of (Err fault) = None

-- the URIs of what is read under a base; twice None: the base is none, once None: the bytes are refused
abbrev pub uris_under : List ℕ × List ℕ → Option (Option (List (List ℕ)))
uris_under it = option_map uris_of (read_under it.0 it.1)

abbrev pub one_segment : List ℕ
one_segment = text (codes "#EXTM3U" ∷ codes "#EXT-X-TARGETDURATION:10" ∷ codes "#EXTINF:10," ∷ codes "s" ∷ [])

-- RFC 3986, 5.2: a reference is resolved against the base, which is of http or https
abbrev pub InputsAreReadUnderBases : Type 0
InputsAreReadUnderBases = HasValues uris_under (
    ((codes "http://h/a/b", one_segment), Some (Some (codes "http://h/a/s" ∷ [])))
    ∷ ((codes "http://h/" ++ (long 98 ++ codes "/b"), one_segment), Some (Some ((codes "http://h/" ++ (long 98 ++ codes "/s")) ∷ [])))
    ∷ ((codes "ftp://h/", one_segment), None)
    ∷ ((codes "http://h/", []), Some None) ∷ [])

abbrev pub marked_with : Marked → Option (List ℕ)
marked_with s = option_map (λ (m : Mark). m.id) s.mark

-- with which breaks two segments are marked, the newest first, if one date range is listed and b is decided
abbrev pub marks_told : DateRange → List (Option (List ℕ))
marks_told one = map marked_with (told_with (decide_b ∷ []) (plays (one ∷ []) (segments 0 2))).history

-- docs/OPERATING.md: `vod` takes a segment that begins within 100 ms of a break's start
abbrev pub RunsAreTold : Type 0
RunsAreTold = HasValues marks_told (
    (b, Some (codes "b") ∷ None ∷ [])
    ∷ (record b { start = Some (pos 1714564810100000000) }, Some (codes "b") ∷ None ∷ [])
    ∷ (record b { start = Some (pos 1714564810100000001) }, None ∷ None ∷ []) ∷ [])
