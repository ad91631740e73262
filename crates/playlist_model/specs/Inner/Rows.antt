-- Tables of a list that grow, and what stands at their places.
use Rattle.std.specs.Prelude.{◌≡◌, ◌++◌, ◌+◌, ◌-◌, ◌<◌, ◌^◌, ℕ, List, Option, Some, None, length, string_bytes}
use Rattle.std.specs.List.{slice_get}
use Rattle.playlist_model.specs.declared.Key.{Key}
use Rattle.playlist_model.specs.declared.InitSection.{InitSection}
use Rattle.playlist_model.specs.declared.in_common.KeyPlaces.{KeyPlaces}
use Rattle.playlist_model.specs.declared.places.Place.{Place}
use Rattle.playlist_model.specs.declared.standings.SegmentNumbers.{SegmentNumbers}
use Rattle.playlist_model.specs.declared.standings.Standing.{Standing}
use Rattle.playlist_model.specs.declared.segments.Tables.{Tables}
use Rattle.playlist_model.specs.InCommon.{AreSameAt, init_section_keys}
use Rattle.playlist_model.specs.Rows.{row_standing, segment_text_at}
use Rattle.playlist_model.specs.Segments.{Growing}

-- ys is xs, and maybe more
pub record Grows {A : Type 0} (xs ys : List A) : Type 0 where
  pub more : List A
  pub is : ys ≡ xs ++ more

-- each table of the second is that of the first, and maybe more
pub record Extends (t u : Tables) : Type 0 where
  pub texts : Grows (string_bytes t.texts) (string_bytes u.texts)
  pub extras : Grows t.extras.items u.extras.items
  pub standings : Grows t.standings.items u.standings.items

-- this has the numbers of the segment of these, which comes so many after the first one
pub record StandsOver (standing : Standing) (after : ℕ) (numbers : SegmentNumbers) : Type 0 where
  pub media_sequence_is : standing.numbers.media_sequence + after ≡ numbers.media_sequence
  pub discontinuity_sequence_is : standing.numbers.discontinuity_sequence ≡ numbers.discontinuity_sequence
  pub discontinuities_are : standing.numbers.discontinuities ≡ numbers.discontinuities
  pub word : numbers.media_sequence < 2 ^ 64

-- at a place stands this over that segment, whose URI has its front there, and which comes so many after the first one
abbrev pub StandsAt : List Standing → SegmentNumbers → Place → List Key → Option InitSection → ℕ → ℕ → Type 0
StandsAt standings numbers uri_front keys init_section place after =
    (found : Standing) × (slice_get standings place ≡ Some found) × StandsOver found after numbers × (found.keys ≡ keys) × (found.init_section ≡ init_section) × (found.uri_front ≡ uri_front)

-- what is in force is what stands at this place, if it is one
abbrev pub AreInForceOf : Tables → Option ℕ → Growing → Type 0
AreInForceOf tables None growing = Unit {0}
AreInForceOf tables (Some place) growing =
    (growing.keys ≡ (row_standing tables.standings.items place).keys) × (growing.init_section ≡ (row_standing tables.standings.items place).init_section) × (place < length tables.standings.items)
    × (growing.uri_front ≡ segment_text_at (string_bytes tables.texts) (row_standing tables.standings.items place).uri_front)

-- the last of these has its keys, at these places, in its initialisation section too, if it has one
abbrev pub LastOwnKeys : List Standing → KeyPlaces → Type 0
LastOwnKeys standings places = (last : Standing) → slice_get standings (length standings - 1) ≡ Some last
    → AreSameAt places last.keys (init_section_keys last.init_section) × (last.init_section ≡ None → places.bits ≡ 0)
