-- What one line of a playlist says.
use Rattle.std.specs.Prelude.{ℕ, Bool, true, false, pos, List, [], ◌∷◌, ◌++◌, replicate, codes, Option, Some, None, option_map, Ok, Err}
use Rattle.url.specs.Parts.{Parts}
use Rattle.playlist_model.specs.declared.FaultKind.TheVariants.{BadVersion, Version, BadValue, BadDuration, BadAttributes, MissingAttribute, BadRange, BadTime, BadUri}
use Rattle.playlist_model.specs.declared.PlaylistKind.TheVariants.{Event, Vod}
use Rattle.playlist_model.specs.declared.Key.{Key}
use Rattle.playlist_model.specs.Lines.{ignored, uri, tag, kind_of, placed_lines}
use Rattle.playlist_model.specs.Uri.{base_of, can_be_written, has_scheme, text_of_join, resolved}
use Rattle.playlist_model.specs.Said.{Name, version_tag, target_tag, sequence_tag, discontinuity_sequence_tag, type_tag, ended_tag, independent_tag, frames_tag, master_tag, duration_tag, byte_range_tag, discontinuity_tag, key_tag, init_section_tag, time_tag, date_range_tag, unknown_tag, duration, no_keys, key, init_section, date_range, version_of, playlist_type_of, duration_said, byte_range_of, key_said, init_section_said, date_range_said}
use Rattle.playlist_model.specs.Reading.{name_of, limited}
use Rattle.worked_examples.specs.Pods.{long}
use Rattle.worked_examples.specs.Tables.{HasValues}

-- RFC 8216, 4.1: a line ends with LF or CR LF; a CR that no LF follows is part of its line. Each line stands with its place
abbrev pub LinesArePlaced : Type 0
LinesArePlaced = HasValues placed_lines (
    ([], [])
    ∷ (codes "#EXTM3U" ++ (13 ∷ 10 ∷ codes "a b" ++ (10 ∷ 10 ∷ codes "c" ++ (13 ∷ []))), (0, codes "#EXTM3U") ∷ (9, codes "a b") ∷ (13, []) ∷ (14, codes "c" ++ (13 ∷ [])) ∷ [])
    ∷ (codes "a" ++ (13 ∷ codes "b" ++ (10 ∷ [])), (0, codes "a" ++ (13 ∷ codes "b")) ∷ []) ∷ [])

-- RFC 8216, 4.1: a line is a URI, is blank, or begins with `#`; a tag begins with `#EXT`, in that case
abbrev pub LinesHaveTheirKinds : Type 0
LinesHaveTheirKinds = HasValues kind_of (
    ([], ignored)
    ∷ (codes "  ", ignored)
    ∷ (codes "# EXTINF", ignored)
    ∷ (codes "#extinf:1", ignored)
    ∷ (codes "#EXTM3U", tag (codes "EXTM3U") [] false)
    ∷ (codes "#EXTINF:10,a:b", tag (codes "EXTINF") (codes "10,a:b") true)
    ∷ (codes "s0.ts", uri (codes "s0.ts"))
    ∷ (codes " s0.ts", uri (codes " s0.ts"))
    ∷ (codes "#EXA", ignored)
    ∷ (9 ∷ [], uri (9 ∷ []))
    ∷ (replicate 45 32 ++ codes "a", uri (replicate 45 32 ++ codes "a")) ∷ [])

abbrev pub named : List ℕ × Bool → Name
named line = name_of line.0 line.1

-- 4.3: the tags; one that has no value takes no `:`
abbrev pub TagsHaveTheirNames : Type 0
TagsHaveTheirNames = HasValues named (
    ((codes "EXTINF", true), duration_tag)
    ∷ ((codes "EXT-X-BYTERANGE", true), byte_range_tag)
    ∷ ((codes "EXT-X-DISCONTINUITY", false), discontinuity_tag)
    ∷ ((codes "EXT-X-KEY", true), key_tag)
    ∷ ((codes "EXT-X-MAP", true), init_section_tag)
    ∷ ((codes "EXT-X-PROGRAM-DATE-TIME", true), time_tag)
    ∷ ((codes "EXT-X-DATERANGE", true), date_range_tag)
    ∷ ((codes "EXT-X-VERSION", true), version_tag)
    ∷ ((codes "EXT-X-TARGETDURATION", true), target_tag)
    ∷ ((codes "EXT-X-MEDIA-SEQUENCE", true), sequence_tag)
    ∷ ((codes "EXT-X-DISCONTINUITY-SEQUENCE", true), discontinuity_sequence_tag)
    ∷ ((codes "EXT-X-PLAYLIST-TYPE", true), type_tag)
    ∷ ((codes "EXT-X-ENDLIST", false), ended_tag)
    ∷ ((codes "EXT-X-INDEPENDENT-SEGMENTS", false), independent_tag)
    ∷ ((codes "EXT-X-I-FRAMES-ONLY", false), frames_tag)
    ∷ ((codes "EXT-X-MEDIA", true), master_tag)
    ∷ ((codes "EXT-X-STREAM-INF", true), master_tag)
    ∷ ((codes "EXT-X-I-FRAME-STREAM-INF", true), master_tag)
    ∷ ((codes "EXT-X-SESSION-DATA", true), master_tag)
    ∷ ((codes "EXT-X-SESSION-KEY", true), master_tag)
    ∷ ((codes "EXT-X-START", true), unknown_tag)
    ∷ ((codes "EXT-X-DISCONTINUITY", true), unknown_tag)
    ∷ ((codes "EXT-X-INDEPENDENT-SEGMENTS", true), unknown_tag)
    ∷ ((codes "EXT-X-I-FRAMES-ONLY", true), unknown_tag)
    ∷ ((codes "EXT-X-ENDLIST", true), unknown_tag) ∷ [])

-- RFC 3986, 3.1: scheme = ALPHA *( ALPHA / DIGIT / "+" / "-" / "." )
abbrev pub SchemesAreSeen : Type 0
SchemesAreSeen = HasValues has_scheme (
    (codes "http://h/a", true) ∷ (codes "a+b-c.9:", true) ∷ (codes "a.ts", false) ∷ (codes "1http:", false) ∷ (codes "a/b:c", false) ∷ ([], false) ∷ (codes "a;b", false) ∷ (codes "a*b:", false) ∷ (codes "a,b:", false)
    ∷ (codes "@:", false) ∷ (codes "[:", false) ∷ (codes "`:", false) ∷ (codes "{:", false) ∷ (codes "a@:", false) ∷ (codes "a[:", false) ∷ (codes "a`:", false) ∷ (codes "a{:", false) ∷ (codes "a/:", false) ∷ (codes "a0:", true) ∷ (codes "A:", true) ∷ (codes "Z:", true) ∷ (codes "z:", true)
    ∷ (long 98 ++ codes ":a", true) ∷ [])

-- what is joined may be written on a line and between quotes if it has a scheme, no control character and no quote
abbrev pub JoinsCanBeWritten : Type 0
JoinsCanBeWritten = HasValues can_be_written (
    (codes "http://h/a", true)
    ∷ (codes "a:b", true)
    ∷ (codes "h/a", false)
    ∷ (codes "http://h/\"", false)
    ∷ (codes "http://h/" ++ (9 ∷ []), false)
    ∷ (long 98 ++ codes ":a", true)
    ∷ (codes "http://h/" ++ long 34, false)
    ∷ (codes "http://h/" ++ long 9, false)
    ∷ (codes "http://h/" ++ (255 ∷ []), false) ∷ [])

-- 4.3.1.2, where versions 1 to 7 are described (7)
abbrev pub VersionsAreRead : Type 0
VersionsAreRead = HasValues version_of (
    (codes "1", Ok 1) ∷ (codes "7", Ok 7) ∷ (codes "0", Err Version) ∷ (codes "8", Err Version) ∷ (codes "x", Err BadVersion) ∷ [])

-- 4.3.3.5
abbrev pub TypesAreRead : Type 0
TypesAreRead = HasValues playlist_type_of ((codes "EVENT", Ok Event) ∷ (codes "VOD", Ok Vod) ∷ (codes "LIVE", Err BadValue) ∷ (codes "vod", Err BadValue)
    ∷ (codes "EVENX", Err BadValue) ∷ (codes "AVENT", Err BadValue) ∷ (codes "VOX", Err BadValue) ∷ (codes "LOD", Err BadValue) ∷ [])

-- 4.3.2.1: <duration>,[<title>]
abbrev pub SegmentDurationsAreRead : Type 0
SegmentDurationsAreRead = HasValues duration_said (
    (codes "9.5,one, two", Ok (duration 9500000000 (codes "one, two"))) ∷ (codes "10", Ok (duration 10000000000 [])) ∷ (codes "x,", Err BadDuration) ∷ [])

-- 4.3.2.2: <n>[@<o>], whose end has 64 bits
abbrev pub ByteRangesAreRead : Type 0
ByteRangesAreRead = HasValues byte_range_of (
    (codes "100@5", Ok (100, Some 5))
    ∷ (codes "100", Ok (100, None))
    ∷ (codes "00000000000000000025@00000000000000000001", Ok (25, Some 1))
    ∷ (codes "100A5", Err BadRange)
    ∷ (codes "100@", Err BadRange)
    ∷ (codes "@5", Err BadRange)
    ∷ (codes "1@18446744073709551614", Ok (1, Some 18446744073709551614))
    ∷ (codes "1@18446744073709551615", Err BadRange) ∷ [])

-- what this says under the base http://origin.example/ch/index.m3u8
abbrev pub based : {A : Type 0} → (Parts → A) → Option A
based {A} say = option_map say (base_of (codes "http://origin.example/ch/index.m3u8"))

-- 4.1 and RFC 3986, 5: a reference is taken as it is if it has a scheme, else joined to the base
abbrev pub ReferencesAreResolved : Type 0
ReferencesAreResolved = HasValues (λ reference. based (λ base. resolved base reference)) (
    (codes "s0.ts", Some (Some (codes "http://origin.example/ch/s0.ts")))
    ∷ (codes "/s0.ts?a=b", Some (Some (codes "http://origin.example/s0.ts?a=b")))
    ∷ (codes "//cdn.example/s0.ts", Some (Some (codes "http://cdn.example/s0.ts")))
    ∷ (codes "skd://key", Some (Some (codes "skd://key")))
    ∷ (codes "/a:b", Some (Some (codes "http://origin.example/a:b")))
    ∷ (codes "HTTP://H/a", Some (Some (codes "HTTP://H/a")))
    ∷ (codes "http:", Some (Some (codes "http:")))
    ∷ (codes "../a b?q#f", Some (Some (codes "http://origin.example/a%20b?q#f")))
    ∷ (long 98 ++ codes ":a", Some (Some (long 98 ++ codes ":a")))
    ∷ (long 98, Some (Some (codes "http://origin.example/ch/" ++ long 98)))
    ∷ (codes "//[/x", Some None) ∷ [])

-- the base with another path
abbrev pub PathsAreJoined : Type 0
PathsAreJoined = HasValues (λ (path : List ℕ). based (λ base. text_of_join (Ok (record base { path = path })))) (
    (codes "/a", Some (Some (codes "http://origin.example/a"))) ∷ (codes "/\"", Some None) ∷ [])

-- a base is an absolute http or https URL
abbrev pub BasesAreWebUrls : Type 0
BasesAreWebUrls = HasValues (λ text. option_map (λ (parts : Parts). parts.scheme) (base_of text)) (
    (codes "http://h/", Some (codes "http"))
    ∷ (codes "https://h/a", Some (codes "https"))
    ∷ (codes "http://h/" ++ replicate 300 97, Some (codes "http"))
    ∷ (codes "ftp://h/", None)
    ∷ (codes "file://h/", None)
    ∷ (codes "httq://h/", None)
    ∷ (codes "xttp://h/", None)
    ∷ (codes "httpx://h/", None)
    ∷ (codes "xttps://h/", None)
    ∷ (codes "h/a", None) ∷ [])

abbrev pub aes : List ℕ → List ℕ → Option ℕ → List ℕ → Key
aes format resource iv others = record { format = format; method = codes "AES-128"; uri = resource; iv = iv; other_attributes = others }

-- 4.3.2.4: attributes come in any order (4.2); METHOD and, except for NONE, URI are required; KEYFORMAT is `identity` if it isn't stated. The first fault of METHOD,
-- URI, IV and KEYFORMAT is told, and then that the URI can't be resolved
abbrev pub KeysAreRead : Type 0
KeysAreRead = HasValues (λ text. based (λ base. key_said limited base text)) (
    (codes "METHOD=NONE", Some (Ok no_keys))
    ∷ (codes "METHOD=NONE,URI=a", Some (Ok no_keys))
    ∷ (codes "METHOD=NONE,IV=5", Some (Ok no_keys))
    ∷ (codes "METHOD=NOPE,URI=\"a:k\"", Some (Ok (key (record (aes (codes "identity") (codes "a:k") None []) { method = codes "NOPE" }))))
    ∷ (codes "METHOD=XONE,URI=\"a:k\"", Some (Ok (key (record (aes (codes "identity") (codes "a:k") None []) { method = codes "XONE" }))))
    ∷ (codes "URI=\"a:k\",METHOD=AES-128", Some (Ok (key (aes (codes "identity") (codes "a:k") None []))))
    ∷ (codes "IV=0x1F,METHOD=AES-128,URI=\"a:k\"", Some (Ok (key (aes (codes "identity") (codes "a:k") (Some 31) []))))
    ∷ (codes "KEYFORMAT=\"f\",METHOD=AES-128,URI=\"a:k\"", Some (Ok (key (aes (codes "f") (codes "a:k") None []))))
    ∷ (codes "METHOD=AES-128,URI=\"k\"", Some (Ok (key (aes (codes "identity") (codes "http://origin.example/ch/k") None []))))
    ∷ (codes "METHOD=AES-128,URI=\"a:k\",IV=0x1F,KEYFORMAT=\"f\",KEYFORMATVERSIONS=\"1\"", Some (Ok (key (aes (codes "f") (codes "a:k") (Some 31) (codes ",KEYFORMATVERSIONS=\"1\"")))))
    ∷ (codes "METHOD=AES-128,URI=\"a:k\",X-A=1,X-B=2,X-C=3,X-D=4,IV=0x1F,KEYFORMAT=\"f\"", Some (Ok (key (aes (codes "f") (codes "a:k") (Some 31) (codes ",X-A=1,X-B=2,X-C=3,X-D=4")))))
    ∷ (codes "METHOD=AES-128,URI=\"a:" ++ (long 98 ++ (codes "\",KEYFORMAT=\"" ++ (long 99 ++ codes "\""))), Some (Ok (key (aes (long 99) (codes "a:" ++ long 98) None []))))
    ∷ (codes "X-A=1,X-B=2,X-C=3,METHOD=AES-128,URI=\"a:k\"", Some (Ok (key (aes (codes "identity") (codes "a:k") None (codes ",X-A=1,X-B=2,X-C=3")))))
    ∷ (codes "URI=\"a:k\"", Some (Err MissingAttribute))
    ∷ (codes "METHOD=AES-128", Some (Err MissingAttribute))
    ∷ (codes "METHOD=\"AES-128\",URI=\"a:k\"", Some (Err BadAttributes))
    ∷ (codes "METHOD=AES-128,URI=a", Some (Err BadAttributes))
    ∷ (codes "METHOD=AES-128,URI=\"a:k\",IV=31", Some (Err BadAttributes))
    ∷ (codes "METHOD=AES-128,URI=\"a:k\",IV=\"0x1F\"", Some (Err BadAttributes))
    ∷ (codes "METHOD=AES-128,URI=\"a:k\",KEYFORMAT=f", Some (Err BadAttributes))
    ∷ (codes "URI=a", Some (Err MissingAttribute))
    ∷ (codes "METHOD=\"AES-128\"", Some (Err BadAttributes))
    ∷ (codes "METHOD=AES-128,IV=31", Some (Err MissingAttribute))
    ∷ (codes "METHOD=AES-128,URI=\"//[/x\",IV=31", Some (Err BadAttributes))
    ∷ (codes "METHOD=AES-128,URI=\"//[/x\",KEYFORMAT=f", Some (Err BadAttributes))
    ∷ (codes "METHOD=AES-128,URI=\"//[/x\"", Some (Err BadUri)) ∷ [])

-- 4.3.2.5: URI is required; a BYTERANGE without an offset begins at 0. A fault of BYTERANGE is told before that the URI can't be
-- resolved
abbrev pub InitSectionsAreRead : Type 0
InitSectionsAreRead = HasValues (λ text. based (λ base. init_section_said limited base text)) (
    (codes "URI=\"a:i\"", Some (Ok (init_section (codes "a:i") None)))
    ∷ (codes "URI=\"i\"", Some (Ok (init_section (codes "http://origin.example/ch/i") None)))
    ∷ (codes "URI=\"a:i\",BYTERANGE=\"100@5\"", Some (Ok (init_section (codes "a:i") (Some (record { length = 100; offset = 5 })))))
    ∷ (codes "BYTERANGE=\"100@5\",URI=\"a:i\"", Some (Ok (init_section (codes "a:i") (Some (record { length = 100; offset = 5 })))))
    ∷ (codes "URI=\"a:i\",BYTERANGE=\"100\"", Some (Ok (init_section (codes "a:i") (Some (record { length = 100; offset = 0 })))))
    ∷ (codes "URI=\"a:i\",BYTERANGE=\"18446744073709551615\"", Some (Ok (init_section (codes "a:i") (Some (record { length = 18446744073709551615; offset = 0 })))))
    ∷ (codes "URI=\"a:" ++ (long 98 ++ codes "\""), Some (Ok (init_section (codes "a:" ++ long 98) None)))
    ∷ (codes "BYTERANGE=\"100@5\"", Some (Err MissingAttribute))
    ∷ (codes "URI=a", Some (Err BadAttributes))
    ∷ (codes "URI=\"a:i\",BYTERANGE=100", Some (Err BadAttributes))
    ∷ (codes "URI=\"a:i\",BYTERANGE=\"x\"", Some (Err BadRange))
    ∷ (codes "BYTERANGE=\"x\"", Some (Err MissingAttribute))
    ∷ (codes "URI=a,BYTERANGE=\"x\"", Some (Err BadAttributes))
    ∷ (codes "URI=\"//[/x\",BYTERANGE=\"x\"", Some (Err BadRange))
    ∷ (codes "URI=\"//[/x\"", Some (Err BadUri)) ∷ [])

-- 4.3.2.7 and 4.3.2.7.1: each field is that of its own attribute, wherever it stands (4.2), quoted or not, and SCTE35-CMD is none of them. Faults are told in
-- the order ID, START-DATE, END-DATE, DURATION, PLANNED-DURATION
abbrev pub DateRangesAreRead : Type 0
DateRangesAreRead = HasValues (date_range_said limited) ((
  codes "ID=\"b\",START-DATE=\"2024-05-01T12:00:00Z\",END-DATE=\"2024-05-01T12:00:10Z\",DURATION=20,PLANNED-DURATION=30,SCTE35-OUT=0xA,SCTE35-IN=0xB,SCTE35-CMD=0xC",
  Ok (date_range (record {
    id = codes "b";
    start = Some (pos 1714564800000000000);
    end = Some (pos 1714564810000000000);
    duration = Some 20000000000;
    planned_duration = Some 30000000000;
    scte35_out = Some (codes "0xA");
    scte35_in = Some (codes "0xB");
    attributes = codes "ID=\"b\",START-DATE=\"2024-05-01T12:00:00Z\",END-DATE=\"2024-05-01T12:00:10Z\",DURATION=20,PLANNED-DURATION=30,SCTE35-OUT=0xA,SCTE35-IN=0xB,SCTE35-CMD=0xC";
  })),
)
    ∷ (
      codes "ID=\"b\",SCTE35-CMD=0xC",
      Ok (date_range (record { id = codes "b"; start = None; end = None; duration = None; planned_duration = None; scte35_out = None; scte35_in = None; attributes = codes "ID=\"b\",SCTE35-CMD=0xC" })),
    )
    ∷ (
      codes "ID=\"b\",START-DATE=2024-05-01T12:00:00Z,DURATION=\"20\",SCTE35-OUT=\"0xA\",SCTE35-IN=\"0xB\"",
      Ok (date_range (record {
        id = codes "b";
        start = Some (pos 1714564800000000000);
        end = None;
        duration = Some 20000000000;
        planned_duration = None;
        scte35_out = Some (codes "0xA");
        scte35_in = Some (codes "0xB");
        attributes = codes "ID=\"b\",START-DATE=2024-05-01T12:00:00Z,DURATION=\"20\",SCTE35-OUT=\"0xA\",SCTE35-IN=\"0xB\"";
      })),
    )
    ∷ (
      codes "SCTE35-IN=0xB,SCTE35-OUT=0xA,PLANNED-DURATION=30,DURATION=\"000000000000000000000000000000000000000000020\",END-DATE=\"2024-05-01T12:00:10Z\",START-DATE=\"2024-05-01T12:00:00Z\",ID=\"b\"",
      Ok (date_range (record {
        id = codes "b";
        start = Some (pos 1714564800000000000);
        end = Some (pos 1714564810000000000);
        duration = Some 20000000000;
        planned_duration = Some 30000000000;
        scte35_out = Some (codes "0xA");
        scte35_in = Some (codes "0xB");
        attributes = codes "SCTE35-IN=0xB,SCTE35-OUT=0xA,PLANNED-DURATION=30,DURATION=\"000000000000000000000000000000000000000000020\",END-DATE=\"2024-05-01T12:00:10Z\",START-DATE=\"2024-05-01T12:00:00Z\",ID=\"b\"";
      })),
    )
    ∷ (codes "START-DATE=\"2024-05-01T12:00:00Z\",ID=\"b\"", Ok (date_range (record { id = codes "b"; start = Some (pos 1714564800000000000); end = None; duration = None; planned_duration = None; scte35_out = None; scte35_in = None; attributes = codes "START-DATE=\"2024-05-01T12:00:00Z\",ID=\"b\"" })))
    ∷ (codes "END-DATE=\"2024-05-01T12:00:10Z\",ID=\"b\"", Ok (date_range (record { id = codes "b"; start = None; end = Some (pos 1714564810000000000); duration = None; planned_duration = None; scte35_out = None; scte35_in = None; attributes = codes "END-DATE=\"2024-05-01T12:00:10Z\",ID=\"b\"" })))
    ∷ (codes "DURATION=20,ID=\"b\"", Ok (date_range (record { id = codes "b"; start = None; end = None; duration = Some 20000000000; planned_duration = None; scte35_out = None; scte35_in = None; attributes = codes "DURATION=20,ID=\"b\"" })))
    ∷ (codes "PLANNED-DURATION=30,ID=\"b\"", Ok (date_range (record { id = codes "b"; start = None; end = None; duration = None; planned_duration = Some 30000000000; scte35_out = None; scte35_in = None; attributes = codes "PLANNED-DURATION=30,ID=\"b\"" })))
    ∷ (codes "SCTE35-OUT=0xA,ID=\"b\"", Ok (date_range (record { id = codes "b"; start = None; end = None; duration = None; planned_duration = None; scte35_out = Some (codes "0xA"); scte35_in = None; attributes = codes "SCTE35-OUT=0xA,ID=\"b\"" })))
    ∷ (codes "ID=\"b\",DURATION=x,END-DATE=\"x\"", Err BadTime)
    ∷ (codes "START-DATE=\"2024-05-01T12:00:00Z\"", Err MissingAttribute)
    ∷ (codes "START-DATE=\"x\"", Err MissingAttribute)
    ∷ (codes "ID=\"b\",DURATION=x,START-DATE=\"x\"", Err BadTime)
    ∷ (codes "ID=\"b\",PLANNED-DURATION=x,END-DATE=\"x\"", Err BadTime)
    ∷ (codes "ID=b", Err BadAttributes)
    ∷ (codes "ID=\"b\",START-DATE=\"x\"", Err BadTime)
    ∷ (codes "ID=\"b\",END-DATE=\"x\"", Err BadTime)
    ∷ (codes "ID=\"b\",DURATION=x", Err BadDuration)
    ∷ (codes "ID=\"b\",PLANNED-DURATION=x", Err BadDuration) ∷ [])
