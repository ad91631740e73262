-- What proofs and inner functions say with the definitions of `Kept`.
use Rattle.channel_spec.specs.Kept.{Kept, kept_list, start_on}
use Rattle.std.specs.Prelude.{ℕ, Bool, Option, Some, None, if◌then◌else◌}
use Rattle.playlist_model.specs.declared.Playlist.{Playlist}
use Rattle.stitcher.specs.Paced.{PodRest, StitchedEnds}
use Rattle.channel_spec.specs.Successor.{first_number}

-- ---- a refresh, from what is kept alone

-- what stands at its ends
abbrev pub ends_of : Bool → ℕ → Option PodRest → StitchedEnds
ends_of whole so_far rest = record { rest = rest; so_far = if whole then None else Some so_far }

abbrev pub kept_start : ℕ → Kept → Playlist → ℕ
kept_start tolerance kept playlist = start_on kept.last (first_number playlist.segments) kept (kept_list tolerance kept playlist)
