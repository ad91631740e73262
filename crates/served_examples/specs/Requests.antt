-- What a request names, the length of its body, and how a reply is written.
use Rattle.std.specs.Prelude.{ℕ, true, false, List, [], ◌∷◌, ◌++◌, replicate, codes, Some, None}
use Rattle.httparse.specs.Grammar.{RequestHead, crlf}
use Rattle.http_messages.specs.declared.message.Allow.TheVariants as allow
use Rattle.http_messages.specs.declared.message.ContentType.TheVariants.{Playlist}
use Rattle.http_messages.specs.declared.refusal.Refusal.TheVariants.{BadRequest, LengthRequired, TooLarge}
use Rattle.http_messages.specs.declared.head.Framing.{Framing}
use Rattle.http_messages.specs.declared.head.Framing.TheVariants.{Body, Refused}
use Rattle.http_messages.specs.Limits.{head_limit, field_limit, body_limit}
use Rattle.http_messages.specs.Requests.{HeaderField, request_framing_of, framing_said}
use Rattle.http_messages.specs.Replies.{bare, plain_http_reply, refusal_reply, sends_body, text_sent}
use Rattle.channel_api.specs.declared.routes.Resource.TheVariants.{Channel, Origin, Decisions, Live, Why}
use Rattle.channel_api.specs.Routes.{is_channel_name, route_path_of, route_of}
use Rattle.worked_examples.specs.Pods.{long}
use Rattle.worked_examples.specs.Tables.{HasValues}

-- docs/OPERATING.md: a name is 1 to 32 of a to z, 0 to 9 and `-`
abbrev pub NamesAreChecked : Type 0
NamesAreChecked = HasValues is_channel_name (
    (codes "news-1", true)
    ∷ (replicate 32 97, true)
    ∷ (replicate 33 97, false)
    ∷ ([], false)
    ∷ (codes "News", false)
    ∷ (codes "n_1", false)
    ∷ (codes "n/1", false)
    ∷ (codes "n,1", false)
    ∷ (codes "a", true)
    ∷ (codes "z", true)
    ∷ (codes "0", true)
    ∷ (codes "9", true)
    ∷ (codes "`", false)
    ∷ (codes "{", false)
    ∷ (codes ":", false)
    ∷ (codes "/", false) ∷ [])

-- RFC 3986, 3.4: a query begins at the first question mark, and is passed over
abbrev pub QueriesArePassedOver : Type 0
QueriesArePassedOver = HasValues route_path_of ((codes "/a?b?c", codes "/a") ∷ (codes "/a", codes "/a") ∷ (codes "?", []) ∷ [])

-- docs/OPERATING.md: the routes
abbrev pub RoutesAreFound : Type 0
RoutesAreFound = HasValues route_of (
    (codes "/channels/a", Some (codes "a", Channel))
    ∷ (codes "/channels/a/origin", Some (codes "a", Origin))
    ∷ (codes "/channels/a/decisions", Some (codes "a", Decisions))
    ∷ (codes "/channels/a/live.m3u8", Some (codes "a", Live))
    ∷ (codes "/channels/a/why", Some (codes "a", Why))
    ∷ (codes "/channels/news-1/live.m3u8", Some (codes "news-1", Live)) ∷ [])

abbrev pub OtherPathsAreNone : Type 0
OtherPathsAreNone = HasValues route_of (
    (codes "/channels/A", None) ∷ (codes "/channels/", None) ∷ (codes "/channels/a/", None) ∷ (codes "/channels/a/live", None) ∷ (codes "/a", None) ∷ (codes "/", None) ∷ [])

abbrev pub framing : List ℕ × List HeaderField → Framing
framing it = request_framing_of it.0 it.1

-- RFC 9112, 6.1 and 6.3, with docs/CONFORMANCE.md: the body of a PUT has its one Content-Length, of at most 4,194,304 bytes; with
-- Transfer-Encoding or without a length it is 411, with two or one that is no decimal 400, with more 413. A request of another
-- method has no body. RFC 9110, 5.1: names of fields are the same in any case
abbrev pub BodiesAreFramed : Type 0
BodiesAreFramed = HasValues framing (
    ((codes "PUT", (codes "Host", codes "h") ∷ (codes "Content-Length", codes "5") ∷ []), Body 5)
    ∷ ((codes "PUT", (codes "content-LENGTH", codes "5") ∷ []), Body 5)
    ∷ ((codes "PUT", (codes "Content-Length", codes "0") ∷ []), Body 0)
    ∷ ((codes "PUT", (codes "Content-Length", codes "4194304") ∷ []), Body 4194304)
    ∷ ((codes "PUT", (codes "Content-Length", codes "4194305") ∷ []), Refused TooLarge)
    ∷ ((codes "PUT", (codes "Content-Length", codes "-1") ∷ []), Refused BadRequest)
    ∷ ((codes "PUT", (codes "Content-Length", codes "5") ∷ (codes "Content-Length", codes "5") ∷ []), Refused BadRequest)
    ∷ ((codes "PUT", (codes "Content-Length", codes "5000000") ∷ (codes "Content-Length", codes "5000000") ∷ []), Refused BadRequest)
    ∷ ((codes "PUT", (codes "Content-Length", codes "000000000000000000005") ∷ []), Refused BadRequest)
    ∷ ((codes "PUT", []), Refused LengthRequired)
    ∷ ((codes "PUT", (codes "Content-Length", codes "5") ∷ (codes "Content-Length", codes "5") ∷ (codes "Transfer-Encoding", codes "chunked") ∷ []), Refused LengthRequired)
    ∷ ((codes "PUT", (codes "Content-Length", codes "5") ∷ (codes "transfer-encoding", codes "chunked") ∷ []), Refused LengthRequired)
    ∷ ((codes "PUT", (codes "Transfer-Encoding", codes "chunked") ∷ (codes "Content-Length", codes "5") ∷ []), Refused LengthRequired)
    ∷ ((codes "PUT", (codes "Host", codes "h") ∷ (codes "Transfer-Encoding", codes "chunked") ∷ (codes "Content-Length", codes "5") ∷ []), Refused LengthRequired)
    ∷ ((codes "GET", (codes "Content-Length", codes "5") ∷ []), Body 0)
    ∷ ((codes "POST", (codes "Transfer-Encoding", codes "chunked") ∷ []), Body 0)
    ∷ ((codes "put", []), Body 0)
    ∷ ((codes "CUT", []), Body 0)
    ∷ ((codes "PUT", (codes "A", []) ∷ (codes "B", []) ∷ (codes "C", []) ∷ (codes "D", []) ∷ (codes "Content-Length", codes "5") ∷ []), Body 5)
    ∷ ((codes "PUT", (codes "Content-Length", codes "5") ∷ (codes "B", []) ∷ (codes "C", []) ∷ (codes "D", []) ∷ (codes "Transfer-Encoding", codes "chunked") ∷ []), Refused LengthRequired) ∷ [])

-- docs/OPERATING.md: 16,384 bytes and 64 fields of a head, 4,194,304 bytes of a body, 65,536 reads
abbrev pub MessagesAreLimited : Type 0
MessagesAreLimited = HasValues (λ (n : ℕ). n) ((head_limit, 16384) ∷ (field_limit, 64) ∷ (body_limit, 4194304) ∷ [])

-- each line with CR and LF
abbrev pub lines : List (List ℕ) → List ℕ
lines [] = []
lines (line ∷ later) = line ++ (13 ∷ 10 ∷ lines later)

-- RFC 9112, 4 and 9.3: a status line, fields, an empty line and the body; each reply closes its connection. RFC 9110, 8.6: 204 has
-- no length; 15.5.6: 405 has Allow. RFC 8216, 4: the media type of a playlist
abbrev pub RepliesAreWritten : Type 0
RepliesAreWritten = HasValues (text_sent true) (
    (bare 204, lines (codes "HTTP/1.1 204 No Content" ∷ codes "Connection: close" ∷ [] ∷ []))
    ∷ (bare 201, lines (codes "HTTP/1.1 201 Created" ∷ codes "Content-Length: 0" ∷ codes "Connection: close" ∷ [] ∷ []))
    ∷ (plain_http_reply 200 (long 98), lines (codes "HTTP/1.1 200 OK" ∷ codes "Content-Type: text/plain; charset=utf-8" ∷ codes "Content-Length: 46" ∷ codes "Connection: close" ∷ [] ∷ []) ++ long 98)
    ∷ (bare 200, lines (codes "HTTP/1.1 200 OK" ∷ codes "Content-Length: 0" ∷ codes "Connection: close" ∷ [] ∷ []))
    ∷ (plain_http_reply 404 (codes "not found\n"), lines (codes "HTTP/1.1 404 Not Found" ∷ codes "Content-Type: text/plain; charset=utf-8" ∷ codes "Content-Length: 10" ∷ codes "Connection: close" ∷ [] ∷ []) ++ codes "not found\n")
    ∷ (plain_http_reply 409 (codes "N5 Back\n"), lines (codes "HTTP/1.1 409 Conflict" ∷ codes "Content-Type: text/plain; charset=utf-8" ∷ codes "Content-Length: 8" ∷ codes "Connection: close" ∷ [] ∷ []) ++ codes "N5 Back\n")
    ∷ (plain_http_reply 422 (codes "J6 EmptyPod\n"), lines (codes "HTTP/1.1 422 Unprocessable Entity" ∷ codes "Content-Type: text/plain; charset=utf-8" ∷ codes "Content-Length: 12" ∷ codes "Connection: close" ∷ [] ∷ []) ++ codes "J6 EmptyPod\n")
    ∷ (bare 503, lines (codes "HTTP/1.1 503 Service Unavailable" ∷ codes "Content-Length: 0" ∷ codes "Connection: close" ∷ [] ∷ []))
    ∷ (
      record { status = 200; allow = None; content = Some (record { media = Playlist; text = codes "hi" }) },
      lines (codes "HTTP/1.1 200 OK" ∷ codes "Content-Type: application/vnd.apple.mpegurl" ∷ codes "Content-Length: 2" ∷ codes "Connection: close" ∷ [] ∷ []) ++ codes "hi",
    )
    ∷ (
      record (plain_http_reply 405 (codes "no")) { allow = Some allow.PutDelete },
      lines (codes "HTTP/1.1 405 Method Not Allowed" ∷ codes "Content-Type: text/plain; charset=utf-8" ∷ codes "Allow: PUT, DELETE" ∷ codes "Content-Length: 2" ∷ codes "Connection: close" ∷ [] ∷ []) ++ codes "no",
    )
    ∷ (record (bare 405) { allow = Some allow.Put }, lines (codes "HTTP/1.1 405 Method Not Allowed" ∷ codes "Allow: PUT" ∷ codes "Content-Length: 0" ∷ codes "Connection: close" ∷ [] ∷ []))
    ∷ (record (bare 405) { allow = Some allow.Get }, lines (codes "HTTP/1.1 405 Method Not Allowed" ∷ codes "Allow: GET" ∷ codes "Content-Length: 0" ∷ codes "Connection: close" ∷ [] ∷ []))
    ∷ (refusal_reply BadRequest, lines (codes "HTTP/1.1 400 Bad Request" ∷ codes "Content-Type: text/plain; charset=utf-8" ∷ codes "Content-Length: 12" ∷ codes "Connection: close" ∷ [] ∷ []) ++ codes "bad request\n")
    ∷ (refusal_reply LengthRequired, lines (codes "HTTP/1.1 411 Length Required" ∷ codes "Content-Type: text/plain; charset=utf-8" ∷ codes "Content-Length: 16" ∷ codes "Connection: close" ∷ [] ∷ []) ++ codes "length required\n")
    ∷ (refusal_reply TooLarge, lines (codes "HTTP/1.1 413 Payload Too Large" ∷ codes "Content-Type: text/plain; charset=utf-8" ∷ codes "Content-Length: 10" ∷ codes "Connection: close" ∷ [] ∷ []) ++ codes "too large\n") ∷ [])

-- RFC 9110, 9.3.2: a reply to HEAD is the head alone
abbrev pub HeadsAreSent : Type 0
HeadsAreSent = HasValues sends_body ((codes "GET", true) ∷ (codes "PUT", true) ∷ (codes "HEAD", false) ∷ (codes "head", true) ∷ (codes "HELD", true) ∷ (codes "READ", true) ∷ [])

abbrev pub HeadRepliesAreWritten : Type 0
HeadRepliesAreWritten = HasValues (text_sent false) (
    (plain_http_reply 405 (codes "no"), lines (codes "HTTP/1.1 405 Method Not Allowed" ∷ codes "Content-Type: text/plain; charset=utf-8" ∷ codes "Content-Length: 2" ∷ codes "Connection: close" ∷ [] ∷ [])) ∷ [])

-- a head of this method, whose only field states this length
abbrev pub head_with : List ℕ → List ℕ → RequestHead
head_with method length = record { blank = []; method = method; target = codes "/"; minor = 1; line_end = crlf; fields = record { name = codes "Content-Length"; raw = length; end = crlf } ∷ []; last = crlf }

abbrev pub head_of : List ℕ × List ℕ → Framing
head_of it = framing_said (head_with it.0 it.1)

-- RFC 9112, 5: white space around a field's value is none of it
abbrev pub HeadsAreFramed : Type 0
HeadsAreFramed = HasValues head_of (
    ((codes "PUT", codes " 5 "), Body 5)
    ∷ ((codes "GET", codes " 5"), Body 0)
    ∷ ((codes "PUT", codes " 5x"), Refused BadRequest)
    ∷ ((codes "PUT", []), Refused BadRequest) ∷ [])

-- a head of five fields, of which the last one states the length
abbrev pub AllFieldsCount : Type 0
AllFieldsCount = HasValues (λ (h : RequestHead). framing_said (record h { fields = record { name = codes "A"; raw = []; end = crlf } ∷ record { name = codes "B"; raw = []; end = crlf } ∷ record { name = codes "C"; raw = []; end = crlf } ∷ record { name = codes "D"; raw = []; end = crlf } ∷ h.fields })) (
    (head_with (codes "PUT") (codes "5"), Body 5) ∷ [])
