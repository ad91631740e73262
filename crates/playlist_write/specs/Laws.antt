-- What holds of written playlists.
use Rattle.std.specs.Prelude.{◌≡◌, true}
use Rattle.url.specs.Parts.{Parts}
use Rattle.playlist_model.specs.Reading.{Denotes}
use Rattle.playlist_write.specs.declared.OutPlaylist.{OutPlaylist}
use Rattle.playlist_write.specs.Owed.{playlist_text}
use Rattle.playlist_write.specs.WellFormed.{well_formed}
use Rattle.playlist_write.specs.Denoted.{denoted}

-- the text of a playlist that is well formed denotes it, under every base
abbrev pub TextDenotes : Type 0
TextDenotes = (base : Parts) (p : OutPlaylist) → well_formed p ≡ true → Denotes base (playlist_text p) (denoted p)
