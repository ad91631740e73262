-- What the caller of the check of two playlists keeps to.
use Rattle.std.specs.Prelude.{◌≡◌, ℕ, List, map, take, drop}
use Rattle.playlist_model.specs.Segments.{Segment}
use Rattle.playlist_model.specs.Same.{kept_parts}
use Rattle.channel_spec.specs.Successor.{first_number}
use Rattle.channel_spec.specs.Sound.{RiseFrom}

-- the media numbers rise by one
abbrev pub AreContiguous : List Segment → Type 0
AreContiguous segments = RiseFrom (first_number segments) segments

-- these segments stand in the old list too, one after the other, each the same in all but title, time and steps
pub record AreTaken (old taken : List Segment) : Type 0 where
  pub from : ℕ
  pub till : ℕ
  pub same : map kept_parts taken ≡ map kept_parts (drop from (take till old))
