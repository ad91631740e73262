-- The numbers of a segment, and how they go on in a list (RFC 8216, sections 4.3.3.2 and 4.3.3.3).
use Rattle.std.specs.Prelude.{ℕ, ◌+◌, Bool, true, false, ◌&&◌, ◌==◌, nat_le, List, [], ◌∷◌}
use Rattle.playlist_model.specs.Segments.{Segment}

-- a Media Sequence Number, a Discontinuity Sequence Number, and the discontinuities since the item before
pub record Numbers : Type 0 where
  pub media_sequence : ℕ
  pub discontinuity_sequence : ℕ
  pub discontinuities : ℕ

-- a segment's own
abbrev pub segment_numbers : Segment → Numbers
segment_numbers s = record { media_sequence = s.media_sequence; discontinuity_sequence = s.discontinuity_sequence; discontinuities = s.discontinuities }

-- media numbers go up by one, discontinuity numbers by the steps between
abbrev pub follows : Numbers → Numbers → Bool
follows previous next = next.media_sequence == previous.media_sequence + 1 && next.discontinuity_sequence == previous.discontinuity_sequence + next.discontinuities

-- each of these follows the one before it
abbrev pub all_follow : {A : Type 0} → (A → Numbers) → A → List A → Bool
all_follow numbers previous [] = true
all_follow numbers previous (next ∷ later) = follows (numbers previous) (numbers next) && all_follow numbers next later

-- there is a first one, its discontinuity number is at least its steps, and the others follow
abbrev pub numbers_rise : {A : Type 0} → (A → Numbers) → List A → Bool
numbers_rise numbers [] = false
numbers_rise numbers (first ∷ later) =
    nat_le (numbers first).discontinuities (numbers first).discontinuity_sequence && all_follow numbers first later
