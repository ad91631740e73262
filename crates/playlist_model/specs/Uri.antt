-- The resolved URI of a reference (RFC 8216, 4.1; RFC 3986 for what a scheme is).
use Rattle.std.specs.Prelude.{ℕ, Bool, not, ◌&&◌, ◌||◌, ◌==◌, List, slice_index, codes, Option, Some, None, Ok, Err, bytes_eq, if◌then◌else◌}
use Rattle.std.specs.List.{prefix_len, list_any}
use Rattle.std.specs.Char.{is_ascii_alphabetic, is_ascii_alphanumeric}
use Rattle.std.specs.Str.{is_utf8}
use Rattle.spec_words.specs.Bytes.{plus, hyphen, point, colon}
use Rattle.url.specs.Parts.{Parts, serialize}
use Rattle.url.specs.Parser.{Parsed, parse_url}
use Rattle.attr_list.specs.Attributes.{is_quote}
use Rattle.playlist_model.specs.Lines.{has_control}

abbrev pub is_uri_scheme_byte : ℕ → Bool
is_uri_scheme_byte b = is_ascii_alphanumeric b || b == plus || b == hyphen || b == point

-- a letter, then letters, digits, `+`, `-` and `.`, then `:`
abbrev pub has_scheme : List ℕ → Bool
has_scheme text = is_ascii_alphabetic (slice_index text 0) && slice_index text (prefix_len is_uri_scheme_byte text) == colon

-- What a joined reference may be: UTF-8 with a scheme, and with neither a control character nor a quote, so that it can be
-- written on a line and between quotes. One that has a scheme already isn't joined, and may hold a quote on its line.
abbrev pub can_be_written : List ℕ → Bool
can_be_written text = is_utf8 text && has_scheme text && not (has_control text) && not (list_any is_quote text)

-- the join that the `url` crate makes, if it may be one
abbrev pub text_of_join : Parsed Parts → Option (List ℕ)
text_of_join (Ok url) = if can_be_written (serialize url) then Some (serialize url) else None
text_of_join (Err e) = None

-- the reference itself if it has a scheme, else its join to the base; none if the join fails
abbrev pub resolved : Parts → List ℕ → Option (List ℕ)
resolved base reference =
    if has_scheme reference then Some reference else text_of_join (parse_url (Some base) reference)

abbrev pub is_web_scheme : List ℕ → Bool
is_web_scheme scheme = bytes_eq scheme (codes "http") || bytes_eq scheme (codes "https")

abbrev pub web_url : Parsed Parts → Option Parts
web_url (Ok url) = if is_web_scheme url.scheme then Some url else None
web_url (Err e) = None

-- the base that a text says: an absolute http or https URL
abbrev pub base_of : List ℕ → Option Parts
base_of text = web_url (parse_url None text)
