-- What each request on channels is answered: the lines of the table "Answers" in docs/OPERATING.md.
use Rattle.std.specs.Prelude.{ℕ, zero, suc, true, false, ◌++◌, List, [], ◌∷◌, replicate, codes, Option, Some, None, option_map, Err}
use Rattle.url.specs.Parts.{Parts}
use Rattle.playlist_model.specs.Uri.{base_of}
use Rattle.http_messages.specs.declared.message.Request.{Request}
use Rattle.http_messages.specs.declared.message.Reply.{Reply}
use Rattle.http_messages.specs.declared.message.Allow.{Allow}
use Rattle.http_messages.specs.declared.message.Allow.TheVariants as allow
use Rattle.http_messages.specs.declared.message.ContentType.TheVariants.{Playlist}
use Rattle.http_messages.specs.Replies.{bare, plain_http_reply}
use Rattle.pod_store.specs.declared.fault.DecisionKind.{DecisionKind}
use Rattle.pod_store.specs.declared.fault.DecisionKind.TheVariants as decision
use Rattle.pod_store.specs.Outcome.{DecisionOutcome}
use Rattle.pod_store.specs.Store.{Store}
use Rattle.playlist_model.specs.declared.FaultKind.TheVariants.{NoDuration}
use Rattle.channel_spec.specs.declared.fault.RefreshFault.TheVariants as refusal
use Rattle.break_finder.specs.declared.why.Why.TheVariants as reason
use Rattle.channel_api.specs.declared.channel_body.BodyFault.TheVariants as body
use Rattle.channel_api.specs.Replies.{refused_refresh, decisions_reply, body_fault_reply}
use Rattle.channel_api.specs.FaultTexts.{why_word, body_fault_text}
use Rattle.http_edge.specs.Table.{Table, Turn, added, reply_to}
use Rattle.http_edge.specs.Isolation.{Exchange, replies_on, is_served_on, asked_of, answered_of}
use Rattle.worked_examples.specs.Playlists.{text}
use Rattle.worked_examples.specs.Pods.{long}
use Rattle.worked_examples.specs.Tables.{HasValues}

abbrev pub asks : List ℕ → List ℕ → List ℕ → Request
asks method target body = record { method = method; target = target; body = body }

abbrev pub put : List ℕ → List ℕ → Request
put target body = asks (codes "PUT") target body

abbrev pub get : List ℕ → Request
get target = asks (codes "GET") target []

-- a reply of one line
abbrev pub line : ℕ → List ℕ → Reply
line status words = plain_http_reply status (words ++ 10 ∷ [])

abbrev pub not_found : Reply
not_found = line 404 (codes "not found")

abbrev pub not_allowed : Allow → Reply
not_allowed methods = record (line 405 (codes "method not allowed")) { allow = Some methods }

abbrev pub make : Request
make = put (codes "/channels/a") (codes "{\"base\":\"http://h/\"}")

-- a fallback of 10 s
abbrev pub fallback : List ℕ
fallback = codes "{\"fallback\":{\"ads\":[{\"segments\":[{\"uri\":\"http://a/s\",\"duration\":\"10\"}]}]}}"

-- the answer to the last of these requests, the newest of which stands first
abbrev pub answer : List Request → Option Reply
answer [] = None
answer (r ∷ before) = Some (reply_to before r)

-- RFC 9110, 9.1: a method is told by its letters' case, too; RFC 3986, 3.4: a query is no part of the path
abbrev pub ChannelsAreMade : Type 0
ChannelsAreMade = HasValues answer (
    (make ∷ [], Some (bare 201))
    ∷ (make ∷ make ∷ [], Some (line 409 (codes "channel exists")))
    ∷ (put (codes "/channels/a") (codes "{\"base\":\"http://h/\",\"tolerance\":\"10\"}") ∷ [], Some (bare 201))
    ∷ (put (codes "/channels/a") (codes "{\"base\":\"http://h/\",\"tolerance\":\"10.000000001\"}") ∷ [], Some (line 422 (codes "C2 BadTolerance")))
    ∷ (put (codes "/channels/a") (codes "{\"base\":\"http://h/\",\"tolerance\":\"x\"}") ∷ [], Some (line 422 (codes "C2 BadTolerance")))
    ∷ (put (codes "/channels/a") (codes "{\"base\":\"http://h/\",\"tolerance\":1}") ∷ [], Some (line 422 (codes "J2 Shape")))
    ∷ (put (codes "/channels/a") (codes "{\"base\":\"http://h/\",\"tolerance\":\"" ++ (replicate 45 48 ++ codes "11\"}")) ∷ [], Some (line 422 (codes "C2 BadTolerance")))
    ∷ (put (codes "/channels/a") (codes "{\"base\":\"http://h/\",\"x\":\"" ++ (255 ∷ codes "\"}")) ∷ [], Some (line 422 (codes "J1 NotJson")))
    ∷ (put (codes "/channels/a?x=1") (codes "{\"base\":\"http://h/\"}") ∷ [], Some (bare 201))
    ∷ (put (codes "/channels/a") (codes "{\"base\":\"http://h/" ++ (replicate 300 97 ++ codes "\"}")) ∷ [], Some (bare 201))
    ∷ (put (codes "/channels/a") (codes "{\"base\":\"ftp://h/\"}") ∷ [], Some (line 422 (codes "C1 BadBase")))
    ∷ (put (codes "/channels/a") (codes "{\"base\":\"http://" ++ (replicate 45 97 ++ codes ":x/\"}")) ∷ [], Some (line 422 (codes "C1 BadBase")))
    ∷ (put (codes "/channels/a") (codes "{\"base\":\"ftp://h/\",\"tolerance\":\"x\"}") ∷ [], Some (line 422 (codes "C1 BadBase")))
    ∷ (put (codes "/channels/a") (codes "{}") ∷ [], Some (line 422 (codes "J2 Shape")))
    ∷ (put (codes "/channels/a") (codes "{") ∷ [], Some (line 422 (codes "J1 NotJson")))
    ∷ (put (codes "/channels/a") (255 ∷ []) ∷ [], Some (line 422 (codes "J1 NotJson")))
    ∷ (asks (codes "DELETE") (codes "/channels/a") [] ∷ make ∷ [], Some (bare 204))
    ∷ (asks (codes "DELETE") (codes "/channels/a") [] ∷ [], Some not_found)
    ∷ (make ∷ asks (codes "DELETE") (codes "/channels/a") [] ∷ make ∷ [], Some (bare 201))
    ∷ (get (codes "/channels/a") ∷ make ∷ [], Some (not_allowed allow.PutDelete))
    ∷ (asks (codes "POST") (codes "/channels/a") [] ∷ make ∷ [], Some (not_allowed allow.PutDelete))
    ∷ (asks (codes "put") (codes "/channels/a") (codes "{\"base\":\"http://h/\"}") ∷ [], Some (not_allowed allow.PutDelete))
    ∷ (asks (codes "Delete") (codes "/channels/a") [] ∷ make ∷ [], Some (not_allowed allow.PutDelete))
    ∷ (get (codes "/") ∷ make ∷ [], Some not_found)
    ∷ (put (codes "/channels/A") (codes "{\"base\":\"http://h/\"}") ∷ [], Some not_found) ∷ [])

abbrev pub refresh : List (List ℕ) → Request
refresh lines = put (codes "/channels/a/origin") (text (codes "#EXTM3U" ∷ codes "#EXT-X-TARGETDURATION:10" ∷ lines))

abbrev pub first_refresh : Request
first_refresh = refresh (codes "#EXTINF:10," ∷ codes "a:s" ∷ [])

abbrev pub RefreshesAreAnswered : Type 0
RefreshesAreAnswered = HasValues answer (
    (first_refresh ∷ make ∷ [], Some (bare 204))
    ∷ (first_refresh ∷ [], Some not_found)
    ∷ (put (codes "/channels/a/origin") [] ∷ make ∷ [], Some (line 422 (codes "P3 NoHeader line 1")))
    ∷ (refresh (codes "#EXTINF:10," ∷ codes "a:t" ∷ []) ∷ first_refresh ∷ make ∷ [], Some (line 409 (codes "N8 Changed 0")))
    ∷ (refresh (codes "#EXT-X-VERSION:3" ∷ codes "#EXTINF:10," ∷ codes "a:s" ∷ []) ∷ first_refresh ∷ make ∷ [], Some (line 409 (codes "N1 VersionChanged")))
    ∷ (put (codes "/channels/a/origin") (text (codes "#EXTM3U" ∷ codes "#EXT-X-TARGETDURATION:11" ∷ codes "#EXTINF:10," ∷ codes "a:s" ∷ [])) ∷ first_refresh ∷ make ∷ [], Some (line 409 (codes "N2 TargetChanged")))
    ∷ (refresh (codes "#EXT-X-PLAYLIST-TYPE:EVENT" ∷ codes "#EXTINF:10," ∷ codes "a:s" ∷ []) ∷ first_refresh ∷ make ∷ [], Some (line 409 (codes "N3 TypeChanged")))
    ∷ (refresh (codes "#EXT-X-MAP:URI=\"a:i\"" ∷ codes "#EXTINF:10," ∷ codes "a:s" ∷ []) ∷ first_refresh ∷ make ∷ [], Some (line 409 (codes "N4 MapsChanged")))
    ∷ (first_refresh ∷ refresh (codes "#EXT-X-MEDIA-SEQUENCE:1" ∷ codes "#EXTINF:10," ∷ codes "a:s" ∷ []) ∷ make ∷ [], Some (line 409 (codes "N5 Back")))
    ∷ (refresh (codes "#EXT-X-MEDIA-SEQUENCE:2" ∷ codes "#EXTINF:10," ∷ codes "a:s" ∷ []) ∷ first_refresh ∷ make ∷ [], Some (line 409 (codes "N6 Gap")))
    ∷ (first_refresh ∷ refresh (codes "#EXTINF:10," ∷ codes "a:s" ∷ codes "#EXTINF:10," ∷ codes "a:t" ∷ []) ∷ make ∷ [], Some (line 409 (codes "N7 Shrunk")))
    ∷ (first_refresh ∷ refresh (codes "#EXT-X-ENDLIST" ∷ codes "#EXTINF:10," ∷ codes "a:s" ∷ []) ∷ make ∷ [], Some (line 409 (codes "N9 Ended")))
    ∷ (get (codes "/channels/a/origin") ∷ make ∷ [], Some (not_allowed allow.Put))
    ∷ (asks (codes "POST") (codes "/channels/a/origin") [] ∷ [], Some (not_allowed allow.Put)) ∷ [])

abbrev pub live : Request
live = get (codes "/channels/a/live.m3u8")

-- the playlist that is owed after that refresh
abbrev pub owed : Reply
owed = record {
  status = 200;
  allow = None;
  content = Some (record { media = Playlist; text = text (codes "#EXTM3U" ∷ codes "#EXT-X-VERSION:6" ∷ codes "#EXT-X-TARGETDURATION:10" ∷ codes "#EXT-X-MEDIA-SEQUENCE:0" ∷ codes "#EXT-X-DISCONTINUITY-SEQUENCE:0" ∷ codes "#EXTINF:10," ∷ codes "a:s" ∷ []) });
}

abbrev pub independent_text : List ℕ
independent_text = text (codes "#EXTM3U" ∷ codes "#EXT-X-VERSION:6" ∷ codes "#EXT-X-TARGETDURATION:10" ∷ codes "#EXT-X-MEDIA-SEQUENCE:0" ∷ codes "#EXT-X-DISCONTINUITY-SEQUENCE:0" ∷ codes "#EXT-X-INDEPENDENT-SEGMENTS" ∷ codes "#EXTINF:10," ∷ codes "a:s" ∷ [])

abbrev pub make_b : Request
make_b = put (codes "/channels/b") (codes "{\"base\":\"http://h/\"}")

abbrev pub remove : List ℕ → Request
remove path = asks (codes "DELETE") path []

abbrev pub make_named : List ℕ → Request
make_named name = put (codes "/channels/" ++ name) (codes "{\"base\":\"http://h/\"}")

-- what is done to one of two channels isn't done to the other, however far their names are the same
abbrev pub OthersStay : Type 0
OthersStay = HasValues answer (
    (remove (codes "/channels/a") ∷ make_b ∷ make ∷ [], Some (bare 204))
    ∷ (remove (codes "/channels/b") ∷ make_b ∷ make ∷ [], Some (bare 204))
    ∷ (remove (codes "/channels/a") ∷ remove (codes "/channels/b") ∷ make_b ∷ make ∷ [], Some (bare 204))
    ∷ (remove (codes "/channels/b") ∷ remove (codes "/channels/a") ∷ make_b ∷ make ∷ [], Some (bare 204))
    ∷ (remove (codes "/channels/b") ∷ remove (codes "/channels/b") ∷ make_b ∷ make ∷ [], Some not_found)
    ∷ (remove (codes "/channels/a") ∷ put (codes "/channels/b/origin") first_refresh.body ∷ make_b ∷ make ∷ [], Some (bare 204))
    ∷ (live ∷ put (codes "/channels/b/origin") first_refresh.body ∷ make_b ∷ make ∷ [], Some not_found)
    ∷ (make_b ∷ make_b ∷ make ∷ [], Some (line 409 (codes "channel exists")))
    ∷ (make_named (codes "ab") ∷ make_named (codes "aa") ∷ [], Some (bare 201))
    ∷ (remove (codes "/channels/ab") ∷ make_named (codes "aa") ∷ [], Some not_found)
    ∷ (get (codes "/channels/ab/live.m3u8") ∷ put (codes "/channels/aa/origin") first_refresh.body ∷ make_named (codes "ab") ∷ make_named (codes "aa") ∷ [], Some not_found)
    ∷ (get (codes "/channels/aa/live.m3u8") ∷ put (codes "/channels/ab/origin") first_refresh.body ∷ make_named (codes "ab") ∷ make_named (codes "aa") ∷ [], Some not_found)
    ∷ (remove (codes "/channels/ab") ∷ remove (codes "/channels/aa") ∷ make_named (codes "ab") ∷ make_named (codes "aa") ∷ [], Some (bare 204))
    ∷ (get (codes "/channels/ab/live.m3u8") ∷ remove (codes "/channels/aa") ∷ put (codes "/channels/ab/origin") first_refresh.body ∷ make_named (codes "ab") ∷ make_named (codes "aa") ∷ [], Some owed)
    ∷ (remove (codes "/channels/news-1234-b") ∷ make_named (codes "news-1234-a") ∷ [], Some not_found)
    ∷ (make_named (codes "news-1234-b") ∷ make_named (codes "news-1234-a") ∷ [], Some (bare 201))
    ∷ (get (codes "/channels/news-1234-b/live.m3u8") ∷ put (codes "/channels/news-1234-a/origin") first_refresh.body ∷ make_named (codes "news-1234-b") ∷ make_named (codes "news-1234-a") ∷ [], Some not_found) ∷ [])

abbrev pub PlaylistsAreRead : Type 0
PlaylistsAreRead = HasValues answer (
    (live ∷ first_refresh ∷ make ∷ [], Some owed)
    ∷ (live ∷ refresh [] ∷ refresh [] ∷ refresh [] ∷ refresh [] ∷ first_refresh ∷ make ∷ [], Some owed)
    ∷ (live ∷ refresh (codes "#EXT-X-INDEPENDENT-SEGMENTS" ∷ codes "#EXTINF:10," ∷ codes "a:s" ∷ []) ∷ make ∷ [], Some (record owed { content = Some (record { media = Playlist; text = independent_text }) }))
    ∷ (get (codes "/channels/b/live.m3u8") ∷ put (codes "/channels/b/origin") first_refresh.body ∷ make_b ∷ make ∷ [], Some owed)
    ∷ (live ∷ refresh [] ∷ first_refresh ∷ make ∷ [], Some owed)
    ∷ (live ∷ live ∷ first_refresh ∷ make ∷ [], Some owed)
    ∷ (get (codes "/channels/a/live.m3u8?_HLS_msn=3") ∷ first_refresh ∷ make ∷ [], Some owed)
    ∷ (asks (codes "get") (codes "/channels/a/live.m3u8") [] ∷ first_refresh ∷ make ∷ [], Some (not_allowed allow.Get))
    ∷ (live ∷ make ∷ [], Some not_found)
    ∷ (live ∷ [], Some not_found)
    ∷ (live ∷ make ∷ asks (codes "DELETE") (codes "/channels/a") [] ∷ first_refresh ∷ make ∷ [], Some not_found)
    ∷ (asks (codes "HEAD") (codes "/channels/a/live.m3u8") [] ∷ first_refresh ∷ make ∷ [], Some (not_allowed allow.Get))
    ∷ (asks (codes "POST") (codes "/channels/a/live.m3u8") [] ∷ first_refresh ∷ make ∷ [], Some (not_allowed allow.Get))
    ∷ (put (codes "/channels/a/live.m3u8") [] ∷ [], Some (not_allowed allow.Get)) ∷ [])

abbrev pub decide : List ℕ → Request
decide body = put (codes "/channels/a/decisions") body

abbrev pub DecisionsAreAnswered : Type 0
DecisionsAreAnswered = HasValues answer (
    (decide (codes "{\"breaks\":[]}") ∷ make ∷ [], Some (bare 204))
    ∷ (decide (codes "{\"breaks\":[]}") ∷ [], Some not_found)
    ∷ (decide (codes "{") ∷ make ∷ [], Some (line 422 (codes "J1 NotJson")))
    ∷ (decide fallback ∷ make ∷ [], Some (bare 204))
    ∷ (decide (codes "{\"breaks\":[{\"id\":\"b\",\"ads\":[]}]}") ∷ make ∷ [], Some (line 422 (codes "J6 EmptyPod break 0")))
    ∷ (decide (codes "{\"withdraw\":\"b\"}") ∷ make ∷ [], Some (line 409 (codes "J11 Unknown")))
    ∷ (get (codes "/channels/a/decisions") ∷ make ∷ [], Some (not_allowed allow.Put))
    ∷ (asks (codes "DELETE") (codes "/channels/a/decisions") [] ∷ make ∷ [], Some (not_allowed allow.Put)) ∷ [])

abbrev pub refused_by : DecisionKind → DecisionOutcome Store
refused_by kind = Err (record { kind = kind; place = record { pod = None; ad = None; segment = None } })

-- RFC 9110, 15.5.21 and 15.5.10: what isn't well written is 422, and what conflicts with what the channel is doing 409
abbrev pub DecisionFaultsAreAnswered : Type 0
DecisionFaultsAreAnswered = HasValues (λ (kind : DecisionKind). decisions_reply (refused_by kind)) (
    (decision.NotJson, line 422 (codes "J1 NotJson"))
    ∷ (decision.Shape, line 422 (codes "J2 Shape"))
    ∷ (decision.BadUri, line 422 (codes "J3 BadUri"))
    ∷ (decision.BadDuration, line 422 (codes "J4 BadDuration"))
    ∷ (decision.BadKey, line 422 (codes "J5 BadKey"))
    ∷ (decision.EmptyPod, line 422 (codes "J6 EmptyPod"))
    ∷ (decision.TooMany, line 422 (codes "J7 TooMany"))
    ∷ (decision.Used, line 409 (codes "J9 Used"))
    ∷ (decision.Full, line 409 (codes "J10 Full"))
    ∷ (decision.Unknown, line 409 (codes "J11 Unknown")) ∷ [])

-- RFC 9110, 15.6.4: a lack of memory is 503
abbrev pub BodyFaultsAreAnswered : Type 0
BodyFaultsAreAnswered = HasValues body_fault_reply ((body.NotJson, line 422 (codes "J1 NotJson")) ∷ (body.Shape, line 422 (codes "J2 Shape")) ∷ (body.OutOfMemory, bare 503) ∷ [])

abbrev pub BodyFaultsAreTold : Type 0
BodyFaultsAreTold = HasValues body_fault_text ((body.NotJson, codes "J1 NotJson") ∷ (body.Shape, codes "J2 Shape") ∷ (body.OutOfMemory, codes "J8 OutOfMemory") ∷ [])

-- the same of a refresh
abbrev pub RefreshFaultsAreAnswered : Type 0
RefreshFaultsAreAnswered = HasValues refused_refresh (
    (refusal.Playlist (record { kind = NoDuration; line = 12 }), line 422 (codes "P17 NoDuration line 12"))
    ∷ (refusal.VersionChanged, line 409 (codes "N1 VersionChanged"))
    ∷ (refusal.TargetChanged, line 409 (codes "N2 TargetChanged"))
    ∷ (refusal.TypeChanged, line 409 (codes "N3 TypeChanged"))
    ∷ (refusal.MapsChanged, line 409 (codes "N4 MapsChanged"))
    ∷ (refusal.Back, line 409 (codes "N5 Back"))
    ∷ (refusal.Gap, line 409 (codes "N6 Gap"))
    ∷ (refusal.Shrunk, line 409 (codes "N7 Shrunk"))
    ∷ (refusal.Changed 7, line 409 (codes "N8 Changed 7"))
    ∷ (refusal.Ended, line 409 (codes "N9 Ended"))
    ∷ (refusal.NumberRange, line 409 (codes "N10 NumberRange")) ∷ [])

-- docs/OPERATING.md: the words of `why`
abbrev pub WordsOfWhyAreTold : Type 0
WordsOfWhyAreTold = HasValues why_word (
    (reason.Filled, codes "Filled")
    ∷ (reason.NotKnown, codes "NotKnown")
    ∷ (reason.NoStart, codes "NoStart")
    ∷ (reason.NotSignalled, codes "NotSignalled")
    ∷ (reason.NotDecided, codes "NotDecided")
    ∷ (reason.DoesNotFit, codes "DoesNotFit")
    ∷ (reason.Waiting, codes "Waiting") ∷ [])

abbrev pub why : Request
why = get (codes "/channels/a/why")

abbrev pub long_tag : List ℕ
long_tag = codes "#EXT-X-DATERANGE:ID=\"" ++ (long 98 ++ codes "\",START-DATE=\"2024-05-01T12:00:00Z\",DURATION=10,SCTE35-OUT=0xFC302000000000000000FFF00F05000000017FFFFE002932E000010000000000000000")

-- a break of 10 s from noon on, one from a second after noon on, and one from 20 s after noon on
abbrev pub tag_b : List ℕ
tag_b = codes "#EXT-X-DATERANGE:ID=\"b\",START-DATE=\"2024-05-01T12:00:00Z\",DURATION=10,SCTE35-OUT=0xFC302000000000000000FFF00F05000000017FFFFE002932E000010000000000000000"

abbrev pub later_tag : List ℕ
later_tag = codes "#EXT-X-DATERANGE:ID=\"b\",START-DATE=\"2024-05-01T12:00:01Z\",DURATION=10,SCTE35-OUT=0xFC302000000000000000FFF00F05000000017FFFFE002932E000010000000000000000"

abbrev pub tag_c : List ℕ
tag_c = codes "#EXT-X-DATERANGE:ID=\"c\",START-DATE=\"2024-05-01T12:00:20Z\",DURATION=10,SCTE35-OUT=0xFC302000000000000000FFF00F05000000017FFFFE002932E000010000000000000000"

abbrev pub five_ids : Request
five_ids = refresh (codes "#EXT-X-DATERANGE:ID=\"b\"" ∷ codes "#EXT-X-DATERANGE:ID=\"c\"" ∷ codes "#EXT-X-DATERANGE:ID=\"d\"" ∷ codes "#EXT-X-DATERANGE:ID=\"e\"" ∷ codes "#EXTINF:10," ∷ codes "a:s" ∷ [])

-- the known breaks with the first reason of each, in the order since when they are known; 9 is a tab, 10 a line feed
abbrev pub ReasonsAreAnswered : Type 0
ReasonsAreAnswered = HasValues answer (
    (why ∷ make ∷ [], Some (bare 200))
    ∷ (
      why ∷ refresh (codes "#EXT-X-DATERANGE:ID=\"c\"" ∷ codes "#EXT-X-DATERANGE:ID=\"b\",START-DATE=\"2024-05-01T12:00:00Z\"" ∷ codes "#EXTINF:10," ∷ codes "a:s" ∷ []) ∷ make ∷ [],
      Some (plain_http_reply 200 (codes "c" ++ (9 ∷ codes "NoStart" ++ (10 ∷ codes "b" ++ (9 ∷ codes "NotSignalled" ++ 10 ∷ []))))),
    )
    ∷ (
      why ∷ refresh (long_tag ∷ codes "#EXT-X-PROGRAM-DATE-TIME:2024-05-01T12:00:00Z" ∷ codes "#EXTINF:10," ∷ codes "a:s" ∷ codes "#EXTINF:10," ∷ codes "a:t" ∷ codes "#EXTINF:10," ∷ codes "a:u" ∷ codes "#EXTINF:10," ∷ codes "a:v" ∷ codes "#EXTINF:10," ∷ codes "a:w" ∷ []) ∷ decide fallback ∷ make ∷ [],
      Some (plain_http_reply 200 (long 98 ++ (9 ∷ codes "Filled" ++ 10 ∷ []))),
    )
    ∷ (
      why ∷ refresh (later_tag ∷ codes "#EXT-X-PROGRAM-DATE-TIME:2024-05-01T12:00:00Z" ∷ codes "#EXTINF:10," ∷ codes "a:s" ∷ []) ∷ decide fallback ∷ put (codes "/channels/a") (codes "{\"base\":\"http://h/\",\"tolerance\":\"1\"}") ∷ [],
      Some (plain_http_reply 200 (codes "b" ++ (9 ∷ codes "Filled" ++ 10 ∷ []))),
    )
    ∷ (
      why ∷ refresh (later_tag ∷ codes "#EXT-X-PROGRAM-DATE-TIME:2024-05-01T12:00:00Z" ∷ codes "#EXTINF:10," ∷ codes "a:s" ∷ []) ∷ decide fallback ∷ make ∷ [],
      Some (plain_http_reply 200 (codes "b" ++ (9 ∷ codes "Waiting" ++ 10 ∷ []))),
    )
    ∷ (
      why ∷ refresh (tag_b ∷ tag_c ∷ codes "#EXT-X-MEDIA-SEQUENCE:102" ∷ codes "#EXTINF:10," ∷ codes "a:u" ∷ codes "#EXTINF:10," ∷ codes "a:v" ∷ [])
          ∷ refresh (tag_b ∷ tag_c ∷ codes "#EXT-X-MEDIA-SEQUENCE:100" ∷ codes "#EXT-X-PROGRAM-DATE-TIME:2024-05-01T12:00:00Z" ∷ codes "#EXTINF:10," ∷ codes "a:s" ∷ codes "#EXTINF:10," ∷ codes "a:t" ∷ []) ∷ decide fallback ∷ make ∷ [],
      Some (plain_http_reply 200 (codes "b" ++ (9 ∷ codes "Waiting" ++ (10 ∷ codes "c" ++ (9 ∷ codes "Filled" ++ 10 ∷ []))))),
    )
    ∷ (
      why ∷ five_ids ∷ five_ids ∷ five_ids ∷ five_ids ∷ refresh (codes "#EXT-X-DATERANGE:ID=\"e\"" ∷ codes "#EXTINF:10," ∷ codes "a:s" ∷ []) ∷ make ∷ [],
      Some (plain_http_reply 200 (codes "e" ++ (9 ∷ codes "NoStart" ++ (10 ∷ codes "b" ++ (9 ∷ codes "NoStart" ++ (10 ∷ codes "c" ++ (9 ∷ codes "NoStart" ++ (10 ∷ codes "d" ++ (9 ∷ codes "NoStart" ++ 10 ∷ []))))))))),
    )
    ∷ (why ∷ refresh (long_tag ∷ codes "#EXTINF:10," ∷ codes "a:s" ∷ []) ∷ make ∷ [], Some (plain_http_reply 200 (long 98 ++ (9 ∷ codes "NotDecided" ++ 10 ∷ []))))
    ∷ (why ∷ [], Some not_found)
    ∷ (put (codes "/channels/a/why") [] ∷ make ∷ [], Some (not_allowed allow.Get)) ∷ [])

-- so many channels, of names of one byte
abbrev pub entries : ℕ → Parts → Table
entries zero base = []
entries (suc n) base = record { name = n ∷ []; given = record { base = base; tolerance = 0; events = [] } } ∷ entries n base

abbrev pub reply_of : Turn → Reply
reply_of turn = turn.reply

abbrev pub added_to : ℕ → Option Reply
added_to count = option_map (λ (base : Parts). reply_of (added (entries count base) (codes "a") base 0)) (base_of (codes "http://h/"))

-- docs/OPERATING.md: 64 channels at most
abbrev pub TablesAreLimited : Type 0
TablesAreLimited = HasValues added_to ((0, Some (bare 201)) ∷ (63, Some (bare 201)) ∷ (64, Some (bare 503)) ∷ [])

abbrev pub added_again : ℕ → Option Reply
added_again count = option_map (λ (base : Parts). reply_of (added (entries count base) (0 ∷ []) base 0)) (base_of (codes "http://h/"))

-- that a channel is there already is told first
abbrev pub ChannelsAreOnce : Type 0
ChannelsAreOnce = HasValues added_again ((1, Some (line 409 (codes "channel exists"))) ∷ (64, Some (line 409 (codes "channel exists"))) ∷ [])

-- what the requests on channel `a` were answered, the newest first
abbrev pub on_a : List Request → List Reply
on_a requests = replies_on (codes "a") requests

-- requests on another channel, or on none, aren't its own
abbrev pub ChannelsAreApart : Type 0
ChannelsAreApart = HasValues on_a (
    (live ∷ put (codes "/channels/b") (codes "{\"base\":\"http://h/\"}") ∷ get (codes "/") ∷ make ∷ [], not_found ∷ bare 201 ∷ [])
    ∷ (asks (codes "DELETE") (codes "/channels/b") [] ∷ make ∷ [], bare 201 ∷ [])
    ∷ (live ∷ get (codes "/") ∷ get (codes "/") ∷ get (codes "/") ∷ get (codes "/") ∷ live ∷ live ∷ live ∷ make ∷ [], not_found ∷ not_found ∷ not_found ∷ not_found ∷ bare 201 ∷ [])
    ∷ (first_refresh ∷ get (codes "/") ∷ get (codes "/") ∷ get (codes "/") ∷ get (codes "/") ∷ make ∷ [], bare 204 ∷ bare 201 ∷ []) ∷ [])

-- channels with longer names, and a method that ends as GET does
abbrev pub LongNamesAreServed : Type 0
LongNamesAreServed = HasValues answer (
    (remove (codes "/channels/news-1234-a") ∷ remove (codes "/channels/news-1234-b") ∷ make_named (codes "news-1234-b") ∷ make_named (codes "news-1234-a") ∷ [], Some (bare 204))
    ∷ (
      get (codes "/channels/news-1234-b/live.m3u8") ∷ put (codes "/channels/news-1234-b/origin") first_refresh.body ∷ make_named (codes "news-1234-b") ∷ make_named (codes "news-1234-a") ∷ [],
      Some owed,
    )
    ∷ (asks (codes "LET") (codes "/channels/a/live.m3u8") [] ∷ first_refresh ∷ make ∷ [], Some (not_allowed allow.Get)) ∷ [])

-- the same of a channel with a longer name
abbrev pub LongNamesAreApart : Type 0
LongNamesAreApart = HasValues (λ (requests : List Request). replies_on (codes "news-1234-a") requests) (
    (get (codes "/channels/news-1234-b/why") ∷ get (codes "/channels/news-1234-a/why") ∷ [], not_found ∷ [])
    ∷ (get (codes "/channels/n/why") ∷ make_named (codes "news-1234-b") ∷ make_named (codes "news-1234-a") ∷ [], bare 201 ∷ []) ∷ [])

abbrev pub exchange : Request → Reply → Exchange
exchange request reply = record { request = request; reply = reply }

-- a request on channel `a` that was answered, and not by 503
abbrev pub RequestsAreServed : Type 0
RequestsAreServed = HasValues (is_served_on (codes "a")) (
    (exchange make (bare 201), true)
    ∷ (exchange live not_found, true)
    ∷ (exchange (get (codes "/channels/a/why?x")) not_found, true)
    ∷ (exchange (get (codes "/channels/b/why?/channels/a/why")) not_found, false)
    ∷ (exchange make (bare 503), false)
    ∷ (exchange (get (codes "/channels/b/live.m3u8")) not_found, false)
    ∷ (exchange (get (codes "/channels/ab/why")) not_found, false)
    ∷ (exchange (get (codes "/")) not_found, false) ∷ [])

abbrev pub RequestsWereAsked : Type 0
RequestsWereAsked = HasValues asked_of (
    (exchange live not_found ∷ exchange make (bare 201) ∷ [], live ∷ make ∷ [])
    ∷ (exchange live not_found ∷ exchange live not_found ∷ exchange live not_found ∷ exchange live not_found ∷ exchange make (bare 201) ∷ [], live ∷ live ∷ live ∷ live ∷ make ∷ []) ∷ [])

abbrev pub RequestsWereAnswered : Type 0
RequestsWereAnswered = HasValues answered_of (
    (exchange live not_found ∷ exchange make (bare 201) ∷ [], not_found ∷ bare 201 ∷ [])
    ∷ (exchange live not_found ∷ exchange live not_found ∷ exchange live not_found ∷ exchange live not_found ∷ exchange make (bare 201) ∷ [], not_found ∷ not_found ∷ not_found ∷ not_found ∷ bare 201 ∷ []) ∷ [])
