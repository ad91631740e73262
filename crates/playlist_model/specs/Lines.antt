-- The lines of a playlist and their kinds, after RFC 8216, section 4.1.
use Rattle.std.specs.Prelude.{ℕ, ◌+◌, Bool, ◌==◌, nat_eq, List, [], ◌∷◌, drop, length, codes, if◌then◌else◌}
use Rattle.std.specs.List.{list_all, list_any, before_first, after_first, slice_split, starts_with}
use Rattle.std.specs.Str.{chars}
use Rattle.std.specs.Str.Lines.{strip_carriage_return}
use Rattle.std.specs.Char.{is_control}
use Rattle.spec_words.specs.Bytes.{line_feed, space, colon}

-- the lines between line feeds, each with the place where it begins: a last piece that is empty is
-- no line, and a carriage return goes only with the line feed after it
abbrev pub placed_from : ℕ → List (List ℕ) → List (ℕ × List ℕ)
placed_from start [] = []
placed_from start (piece ∷ []) = if length piece == 0 then [] else (start, piece) ∷ []
placed_from start (piece ∷ next ∷ later) =
    (start, strip_carriage_return piece) ∷ placed_from (start + length piece + 1) (next ∷ later)

abbrev pub placed_lines : List ℕ → List (ℕ × List ℕ)
placed_lines text = placed_from 0 (slice_split (λ b. b == line_feed) text)

-- what kind of line a text is
pub data Kind : Type 0 where
  ignored : Kind
  uri : List ℕ → Kind
  tag : List ℕ → List ℕ → Bool → Kind

abbrev pub is_colon : ℕ → Bool
is_colon b = b == colon

abbrev pub is_blank : List ℕ → Bool
is_blank line = list_all (λ b. b == space) line

abbrev pub is_tag : List ℕ → Bool
is_tag line = starts_with nat_eq line (codes "#EXT")

abbrev pub is_comment : List ℕ → Bool
is_comment line = starts_with nat_eq line (codes "#")

-- a tag has its name up to the first `:`, its rest after that, and whether there is one
abbrev pub kind_of : List ℕ → Kind
kind_of line =
    if is_blank line then ignored
    else (if is_tag line then tag (before_first is_colon (drop 1 line)) (after_first is_colon (drop 1 line)) (list_any is_colon (drop 1 line))
    else (if is_comment line then ignored else uri line))

abbrev pub has_control : List ℕ → Bool
has_control text = list_any is_control (chars text)
