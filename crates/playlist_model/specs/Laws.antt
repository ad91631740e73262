-- Laws of the definitions.
use Rattle.std.specs.Prelude.{◌≡◌, ℕ, ◌+◌, true, List, [], ◌∷◌, map, length, slice_range, Ok, find}
use Rattle.std.specs.Str.Lines.{lines}
use Rattle.url.specs.Parts.{Parts}
use Rattle.playlist_model.specs.Lines.{placed_lines}
use Rattle.playlist_model.specs.declared.Playlist.{Playlist}
use Rattle.playlist_model.specs.Reading.{reading, Denotes}
use Rattle.playlist_model.specs.Said.{Said, Reader}
use Rattle.playlist_model.specs.LookBack.{keys_at, key_of, has_format, are_sorted}

-- of each format the key in force is the last one since METHOD=NONE
abbrev pub KeysAreTheLast : Type 0
KeysAreTheLast = (format : List ℕ) (before : List Said) → find (has_format format) (keys_at before) ≡ key_of format before

-- the keys in force are sorted by the bytes of their format, with one key for each
abbrev pub KeysAreSorted : Type 0
KeysAreSorted = (before : List Said) → are_sorted (keys_at before) ≡ true

-- what a reader with limits reads is what the bytes denote
abbrev pub ReadsWhatIsDenoted : Type 0
ReadsWhatIsDenoted = (reader : Reader) (base : Parts) (bytes : List ℕ) (playlist : Playlist) → reading reader base bytes ≡ Ok playlist → Denotes base bytes playlist

-- each line is the slice of the text at its place
abbrev pub AreSlices : List ℕ → List (ℕ × List ℕ) → Type 0
AreSlices text [] = Unit {0}
AreSlices text (line ∷ later) = (slice_range text line.0 (line.0 + length line.1) ≡ line.1) × AreSlices text later

abbrev pub LinesAreSlices : Type 0
LinesAreSlices = (text : List ℕ) → (map (λ (line : ℕ × List ℕ). line.1) (placed_lines text) ≡ lines text) × AreSlices text (placed_lines text)
