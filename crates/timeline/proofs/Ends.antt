-- Which ends are alike.
use Rattle.std.proofs.Common.{◌≡◌, false, List, [], ◌∷◌, refl, ap, ◌∙◌, arith, ℤ}
use Rattle.std.specs.Prelude.{Option, None, Some}
use Rattle.playlist_model.specs.Segments.{Segment}
use Rattle.playlist_model.specs.Instants.{bounded, ends_at, instants_after}
use Rattle.playlist_model.specs.LookBack.{or_earlier}
use Rattle.date_times.specs.Instant.{in_range, if_in_range}

-- after an end that is no instant a segment begins where it begins after any other such end
pub outside_alike : (one other : ℤ) (segments : List Segment) → in_range one ≡ false → in_range other ≡ false → instants_after (Some one) segments ≡ instants_after (Some other) segments
outside_alike one other [] h g = refl
outside_alike one other (s ∷ later) h g = grind (arith, h, g)
