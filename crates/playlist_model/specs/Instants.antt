-- The instants at which segments begin (RFC 8216, 4.3.2.6 and 6.2.1).
use Rattle.std.specs.Prelude.{ℕ, List, [], ◌∷◌, ℤ, pos, ◌+ℤ◌, ◌-ℤ◌, Option, Some, None, option_map}
use Rattle.playlist_model.specs.Segments.{Segment}
use Rattle.date_times.specs.Instant.{if_in_range}
use Rattle.playlist_model.specs.LookBack.{or_earlier}

-- none outside the range
abbrev pub bounded : Option ℤ → Option ℤ
bounded None = None
bounded (Some instant) = if_in_range instant

-- the first time that these segments state, less the durations before it
abbrev pub reckoned_back : List Segment → Option ℤ
reckoned_back [] = None
reckoned_back (s ∷ later) = or_earlier s.program_date_time (option_map (λ instant. instant -ℤ pos s.duration) (reckoned_back later))

-- where a segment begins, after one that ended there and before these: at its stated time, else
-- where the one before it ended, else back from the first time stated later
abbrev pub begins_at : Option ℤ → Segment → List Segment → Option ℤ
begins_at ended s later = bounded (or_earlier s.program_date_time (or_earlier ended (reckoned_back (s ∷ later))))

-- where a segment of this duration ends, if it begins at an instant
abbrev pub ends_at : Option ℤ → ℕ → Option ℤ
ends_at begun duration = option_map (λ instant. instant +ℤ pos duration) begun

-- where each segment begins, after one that ended there
abbrev pub instants_after : Option ℤ → List Segment → List (Option ℤ)
instants_after ended [] = []
instants_after ended (s ∷ later) =
    let begun = begins_at ended s later in
    begun ∷ instants_after (ends_at begun s.duration) later

abbrev pub instants_of : List Segment → List (Option ℤ)
instants_of segments = instants_after None segments
