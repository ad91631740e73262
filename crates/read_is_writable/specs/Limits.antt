-- The limits of a reader, in terms of the text.
use Rattle.std.specs.Prelude.{ℕ, ◌≡◌, ◌≤◌, Bool, true, false, ◌&&◌, nat_le, List, [], ◌∷◌, length, if◌then◌else◌}
use Rattle.std.specs.List.{list_all}
use Rattle.std.specs.Result.{result_unwrap_or}
use Rattle.std.specs.Str.Lines.{lines}
use Rattle.url.specs.Parts.{Parts}
use Rattle.attr_list.specs.Attributes.{pieces}
use Rattle.playlist_model.specs.Lines.{Kind, tag, kind_of}
use Rattle.playlist_model.specs.Said.{Name, key_tag, init_section_tag, date_range_tag, Said, nothing}
use Rattle.playlist_model.specs.LookBack.{count, is_media, keys_at}
use Rattle.playlist_model.specs.Reading.{name_of, said_by, said_from, unlimited}

-- ---- attributes

abbrev pub takes_attributes : Name → Bool
takes_attributes key_tag = true
takes_attributes init_section_tag = true
takes_attributes date_range_tag = true
takes_attributes _ = false

abbrev pub has_few : List ℕ → Bool
has_few attributes = nat_le (length (pieces attributes)) 64

abbrev pub tag_keeps : Name → List ℕ → Bool
tag_keeps name rest = if takes_attributes name then has_few rest else true

abbrev pub kind_keeps : Kind → Bool
kind_keeps (tag name rest colon) = tag_keeps (name_of name colon) rest
kind_keeps _ = true

-- a key, an initialisation section or a date range has at most 64 attributes
abbrev pub line_keeps : List ℕ → Bool
line_keeps line = kind_keeps (kind_of line)

-- ---- what the lines say

-- what the lines after the header say, the last first; nothing if one of them has a fault
abbrev pub said_by_lines : Parts → List (List ℕ) → List Said
said_by_lines base [] = []
said_by_lines base (header ∷ later) = result_unwrap_or (said_from (said_by unlimited base) (nothing ∷ []) later) []

-- after each line at most 16 key formats are in force
abbrev pub formats_keep : List Said → Bool
formats_keep [] = true
formats_keep (said ∷ before) = nat_le (length (keys_at (said ∷ before))) 16 && formats_keep before

-- a text is within the limits: its bytes, the attributes of each tag, the key formats in force and the segments
pub record KeepsLimits (base : Parts) (text : List ℕ) : Type 0 where
  pub bytes : length text ≤ 4194304
  pub attributes : list_all line_keeps (lines text) ≡ true
  pub formats : formats_keep (said_by_lines base (lines text)) ≡ true
  pub segments : count is_media (said_by_lines base (lines text)) ≤ 10000
