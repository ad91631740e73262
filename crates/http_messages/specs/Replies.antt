-- Replies, and their bytes (RFC 9112, 2.1, 4 and 5).
use Rattle.std.specs.Prelude.{ℕ, ◌==◌, Bool, not, bytes_eq, List, [], ◌++◌, codes, decimal, length, Option, Some, None, unwrap_or, if◌then◌else◌}
use Rattle.http.specs.StatusCode.{code_digits, reason_phrase}
use Rattle.http_messages.specs.declared.message.Reply.{Reply}
use Rattle.http_messages.specs.declared.message.Content.{Content}
use Rattle.http_messages.specs.declared.message.ContentType.{ContentType}
use Rattle.http_messages.specs.declared.message.ContentType.TheVariants.{Playlist, Plain}
use Rattle.http_messages.specs.declared.message.Allow.{Allow}
use Rattle.http_messages.specs.declared.message.Allow.TheVariants.{PutDelete, Put, Get}
use Rattle.http_messages.specs.declared.refusal.Refusal.{Refusal}
use Rattle.http_messages.specs.declared.refusal.Refusal.TheVariants.{BadRequest, LengthRequired, TooLarge}

-- ---- replies

-- a reply with no content
abbrev pub bare : ℕ → Reply
bare status = record { status = status; allow = None; content = None }

-- a reply that is a text
abbrev pub plain_http_reply : ℕ → List ℕ → Reply
plain_http_reply status text = record { status = status; allow = None; content = Some (record { media = Plain; text = text }) }

abbrev pub content_text : Option Content → List ℕ
content_text None = []
content_text (Some content) = content.text

abbrev pub reply_body : Reply → List ℕ
reply_body reply = content_text reply.content

abbrev pub refusal_status : Refusal → ℕ
refusal_status BadRequest = 400
refusal_status LengthRequired = 411
refusal_status TooLarge = 413

abbrev pub refusal_text : Refusal → List ℕ
refusal_text BadRequest = codes "bad request\n"
refusal_text LengthRequired = codes "length required\n"
refusal_text TooLarge = codes "too large\n"

-- the reply to a request that is refused
abbrev pub refusal_reply : Refusal → Reply
refusal_reply refusal = plain_http_reply (refusal_status refusal) (refusal_text refusal)

-- ---- their bytes

-- the end of a line
abbrev pub crlf : List ℕ
crlf = codes "\r\n"

-- the standard reason phrase, empty if there is none
unfoldable pub reason_of : ℕ → List ℕ
reason_of status = unwrap_or (reason_phrase status) []

abbrev pub status_line : ℕ → List ℕ
status_line status = codes "HTTP/1.1 " ++ code_digits status ++ codes " " ++ reason_of status ++ crlf

abbrev pub http_media_type_text : ContentType → List ℕ
http_media_type_text Playlist = codes "application/vnd.apple.mpegurl"
http_media_type_text Plain = codes "text/plain; charset=utf-8"

abbrev pub content_type_line : Option Content → List ℕ
content_type_line None = []
content_type_line (Some content) = codes "Content-Type: " ++ http_media_type_text content.media ++ crlf

abbrev pub http_allow_text : Allow → List ℕ
http_allow_text PutDelete = codes "PUT, DELETE"
http_allow_text Put = codes "PUT"
http_allow_text Get = codes "GET"

abbrev pub allow_line : Option Allow → List ℕ
allow_line None = []
allow_line (Some allow) = codes "Allow: " ++ http_allow_text allow ++ crlf

-- 204 has no content and states no length (RFC 9110, 8.6)
abbrev pub length_line : ℕ → List ℕ → List ℕ
length_line status body = if status == 204 then [] else codes "Content-Length: " ++ decimal (length body) ++ crlf

-- the head of a reply, with the empty line that ends it
abbrev pub head_text : Reply → List ℕ
head_text r =
    status_line r.status ++ content_type_line r.content ++ allow_line r.allow ++ length_line r.status (reply_body r)
    ++ (codes "Connection: close" ++ crlf) ++ crlf

-- a reply to HEAD has the head alone (RFC 9110, 9.3.2)
abbrev pub sends_body : List ℕ → Bool
sends_body method = not (bytes_eq method (codes "HEAD"))

abbrev pub reply_body_sent : Bool → Reply → List ℕ
reply_body_sent with_body r = if with_body then reply_body r else []

-- what is written of a reply
abbrev pub text_sent : Bool → Reply → List ℕ
text_sent with_body r = head_text r ++ reply_body_sent with_body r
