-- Where segments stand that were taken over.
use Rattle.std.specs.Prelude.{◌≡◌, ◌≤◌, List, take, drop, length}
use Rattle.playlist_model.specs.Segments.{Segment}
use Rattle.playlist_kept.specs.declared.read_playlist.Places.{Places}

-- the segments at the places from `start` up to `end` stand in the old list too, from `from` up to `till`
pub record StandInBoth (old new : List Segment) (places : Places) : Type 0 where
  pub ordered : places.start ≤ places.end
  pub within : places.end ≤ length new
  pub same : drop places.start (take places.end new) ≡ drop places.from (take places.till old)
