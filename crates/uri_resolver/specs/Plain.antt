-- References that a base only puts a text before: a path of plain segments, relative or from the root, and a plain query.
-- From `&` to `.` are the bytes `&'()*+,-.`.
use Rattle.std.specs.Prelude.{◌≡◌, ℕ, Bool, true, false, not, ◌&&◌, ◌||◌, ◌==◌, nat_le, List, [], ◌∷◌, ◌++◌, Some, if◌then◌else◌}
use Rattle.std.specs.List.{list_all}
use Rattle.std.specs.Char.{is_ascii_alphanumeric}
use Rattle.spec_words.specs.Bytes.{exclamation_mark, dollar, percent, ampersand, apostrophe, point, slash, colon, semicolon, equals, question_mark, at_sign, underscore, tilde}
use Rattle.url.specs.Parts.{Parts}
use Rattle.playlist_model.specs.Uri.{resolved}

-- what a segment of a path holds as it stands (RFC 3986, 3.3), except for escapes and `:`: a letter, a digit, one of `-._~`, a
-- sub-delimiter or `@`
abbrev pub is_path_segment_byte : ℕ → Bool
is_path_segment_byte b =
    is_ascii_alphanumeric b || b == exclamation_mark || b == dollar || (nat_le ampersand b && nat_le b point)
    || b == semicolon || b == equals || b == at_sign || b == underscore || b == tilde

abbrev pub is_reference_path_byte : ℕ → Bool
is_reference_path_byte b = is_path_segment_byte b || b == slash

-- in a query also `%`, `:`, `/` and `?`, but not `'`, which a web URL escapes there
abbrev pub is_reference_query_byte : ℕ → Bool
is_reference_query_byte b = (is_reference_path_byte b && not (b == apostrophe)) || b == percent || b == colon || b == question_mark

-- plain bytes, of which none is a dot at the front of a segment, up to a query
abbrev pub is_plain_reference_path : Bool → List ℕ → Bool
is_plain_reference_path at_front [] = true
is_plain_reference_path at_front (b ∷ bytes) =
    if b == question_mark then list_all is_reference_query_byte bytes
    else is_reference_path_byte b && not (at_front && b == point) && is_plain_reference_path (b == slash) bytes

-- a plain path that is not empty and begins with no slash, and a query
abbrev pub is_relative_reference : List ℕ → Bool
is_relative_reference [] = false
is_relative_reference (b ∷ bytes) = not (b == slash) && not (b == question_mark) && is_plain_reference_path true (b ∷ bytes)

-- one slash, a plain path that begins with no slash, and a query
abbrev pub reference_begins_with_slash : List ℕ → Bool
reference_begins_with_slash [] = false
reference_begins_with_slash (b ∷ bytes) = b == slash

abbrev pub is_rooted_reference : List ℕ → Bool
is_rooted_reference [] = false
is_rooted_reference (b ∷ bytes) = b == slash && not (reference_begins_with_slash bytes) && is_plain_reference_path true bytes

-- a reference for which the test holds is resolved by putting this before it
abbrev pub StandsBefore : Parts → (List ℕ → Bool) → List ℕ → Type 0
StandsBefore base test front = (reference : List ℕ) → test reference ≡ true → resolved base reference ≡ Some (front ++ reference)
