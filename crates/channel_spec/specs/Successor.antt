-- Which playlist may follow which (RFC 8216, sections 6.2.1 and 6.2.2).
use Rattle.std.specs.Prelude.{◌≡◌, ◌≤◌, ℕ, ◌+◌, Bool, true, false, not, ◌&&◌, ◌||◌, ◌==◌, nat_lt, List, [], ◌∷◌, length, Option, Some, None, Result, Ok, Err, is_some, find, if◌then◌else◌}
use Rattle.std.specs.List.{AllByRecursion}
use Rattle.playlist_model.specs.Segments.{Segment}
use Rattle.playlist_model.specs.declared.Playlist.{Playlist}
use Rattle.playlist_model.specs.LookBack.{or_earlier}
use Rattle.playlist_model.specs.Same.{kept_parts, same_segment, kind_eq}
use Rattle.channel_spec.specs.declared.fault.RefreshFault.{RefreshFault}
use Rattle.channel_spec.specs.declared.heading.Heading.{Heading}
use Rattle.channel_spec.specs.declared.fault.RefreshFault.TheVariants.{VersionChanged, TargetChanged, TypeChanged, MapsChanged, Back, Gap, Shrunk, Changed, Ended}

abbrev pub first_number : List Segment → ℕ
first_number [] = 0
first_number (s ∷ later) = s.media_sequence

-- the number one past the last
abbrev pub end_number : List Segment → ℕ
end_number segments = first_number segments + length segments

abbrev pub first_discontinuity : List Segment → ℕ
first_discontinuity [] = 0
first_discontinuity (s ∷ later) = s.discontinuity_sequence

abbrev pub last_discontinuity : List Segment → ℕ
last_discontinuity [] = 0
last_discontinuity (s ∷ []) = s.discontinuity_sequence
last_discontinuity (s ∷ t ∷ later) = last_discontinuity (t ∷ later)

abbrev pub has_init_sections : List Segment → Bool
has_init_sections [] = false
has_init_sections (s ∷ later) = is_some s.init_section

-- a segment is the same in all but title, time and steps as those of its number
abbrev pub AgreesWith : List Segment → Segment → Type 0
AgreesWith others s = AllByRecursion (λ t. s.media_sequence ≡ t.media_sequence → kept_parts s ≡ kept_parts t) others

-- Q may follow P
pub record MayFollow (Q P : Playlist) : Type 0 where
  pub version : Q.version ≡ P.version
  pub target_duration : Q.target_duration ≡ P.target_duration
  pub playlist_type : Q.playlist_type ≡ P.playlist_type
  pub with_init_sections : has_init_sections Q.segments ≡ has_init_sections P.segments
  pub not_back : first_number P.segments ≤ first_number Q.segments
  pub no_gap : first_number Q.segments ≤ end_number P.segments
  pub not_shrunk : end_number P.segments ≤ end_number Q.segments
  pub same : AllByRecursion (AgreesWith Q.segments) P.segments
  pub apart : first_number Q.segments ≡ end_number P.segments →
      (last_discontinuity P.segments ≤ first_discontinuity Q.segments) × (first_discontinuity Q.segments ≤ last_discontinuity P.segments + 1000)
  pub end_list : P.end_list ≡ true →
      (Q.end_list ≡ true) × (first_number Q.segments ≡ first_number P.segments) × (end_number Q.segments ≡ end_number P.segments)

-- ---- the same, computed: the first of the faults in their order

-- what is asked of the playlist before, its segments apart
abbrev pub owed_heading_of : Playlist → Heading
owed_heading_of p = record { version = p.version; target_duration = p.target_duration; playlist_type = p.playlist_type; end_list = p.end_list }

abbrev pub fault_if : Bool → RefreshFault → Option RefreshFault
fault_if test fault = if test then Some fault else None

abbrev pub difference : Segment → Option Segment → Option RefreshFault
difference s None = None
difference s (Some t) = fault_if (not (same_segment s t)) (Changed s.media_sequence)

-- the first of these segments that isn't as it was
abbrev pub first_changed : List Segment → List Segment → Option RefreshFault
first_changed old [] = None
first_changed old (s ∷ later) =
    or_earlier (difference s (find (λ (t : Segment). t.media_sequence == s.media_sequence) old)) (first_changed old later)

abbrev pub discontinuity_out_of_range : List Segment → List Segment → Bool
discontinuity_out_of_range old new =
    first_number new == end_number old
    && (nat_lt (first_discontinuity new) (last_discontinuity old) || nat_lt (last_discontinuity old + 1000) (first_discontinuity new))

abbrev pub is_same_window : List Segment → List Segment → Bool
is_same_window old new = first_number new == first_number old && end_number new == end_number old

-- one of the two holds, and the other doesn't
abbrev pub are_different : Bool → Bool → Bool
are_different a b = if a then not b else b

-- why `new` may not follow a playlist of this heading with these segments, if it may not
abbrev pub following_fault : Heading → List Segment → Playlist → Option RefreshFault
following_fault old segments new =
    or_earlier (fault_if (not (new.version == old.version)) VersionChanged)
    (or_earlier (fault_if (not (new.target_duration == old.target_duration)) TargetChanged)
    (or_earlier (fault_if (not (kind_eq new.playlist_type old.playlist_type)) TypeChanged)
    (or_earlier (fault_if (are_different (has_init_sections new.segments) (has_init_sections segments)) MapsChanged)
    (or_earlier (fault_if (nat_lt (first_number new.segments) (first_number segments)) Back)
    (or_earlier (fault_if (nat_lt (end_number segments) (first_number new.segments)) Gap)
    (or_earlier (fault_if (nat_lt (end_number new.segments) (end_number segments)) Shrunk)
    (or_earlier (first_changed segments new.segments)
    (or_earlier (fault_if (discontinuity_out_of_range segments new.segments) (Changed (first_number new.segments)))
    (fault_if (old.end_list && not (new.end_list && is_same_window segments new.segments)) Ended)))))))))

-- why `new` may not follow `old`, if it may not
abbrev pub successor_fault : Playlist → Playlist → Option RefreshFault
successor_fault old new = following_fault (owed_heading_of old) old.segments new

-- a fault as an answer
abbrev pub answer_of : Option RefreshFault → Result (Unit {0}) RefreshFault
answer_of None = Ok tt
answer_of (Some fault) = Err fault
