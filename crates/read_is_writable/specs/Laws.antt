-- What holds of whatever is read.
use Rattle.std.specs.Prelude.{◌≡◌, ◌↔◌, ℕ, List, Ok}
use Rattle.url.specs.Parts.{Parts}
use Rattle.playlist_model.specs.declared.Playlist.{Playlist}
use Rattle.playlist_model.specs.Said.{Reader}
use Rattle.playlist_model.specs.Reading.{reading, limited, Denotes}
use Rattle.read_is_writable.specs.Limits.{KeepsLimits}
use Rattle.read_is_writable.specs.Read.{AreRead}

-- what is read, by whatever reader, can be written again
abbrev pub ReadCanBeWritten : Type 0
ReadCanBeWritten = (reader : Reader) (base : Parts) (bytes : List ℕ) (p : Playlist) → reading reader base bytes ≡ Ok p → AreRead reader p

-- the reader with limits reads exactly what is denoted, if that is within them
abbrev pub ReadsWithinLimits : Type 0
ReadsWithinLimits = (base : Parts) (bytes : List ℕ) (p : Playlist) → (reading limited base bytes ≡ Ok p) ↔ (Denotes base bytes p × KeepsLimits base bytes)
