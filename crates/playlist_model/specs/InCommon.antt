-- What a segment has in common with the one before it (RFC 8216, sections 4.3.2.4 and 4.3.2.5): a tag holds until another
-- one replaces what it says, so many segments have one key and one initialisation section.
use Rattle.std.specs.Prelude.{◌≡◌, ℕ, ◌==◌, Bool, true, false, List, [], Option, Some, None, option_map, bit_and}
use Rattle.std.specs.List.{slice_get}
use Rattle.std.specs.Int.{bit_at}
use Rattle.playlist_model.specs.declared.Key.{Key}
use Rattle.playlist_model.specs.declared.InitSection.{InitSection}
use Rattle.playlist_model.specs.declared.in_common.KeyPlaces.{KeyPlaces}
use Rattle.playlist_model.specs.declared.in_common.InCommon.{InCommon}
use Rattle.playlist_model.specs.Segments.{Segment}

-- a key but for its initialisation vector, which differs from segment to segment if no tag states it (5.2)
abbrev pub without_iv : Key → Key
without_iv k = record k { iv = None }

-- the key at a place, from 0, but for its initialisation vector
abbrev pub key_at : ℕ → List Key → Option Key
key_at place keys = option_map without_iv (slice_get keys place)

-- a place is one of these: the lowest bit is for the first
abbrev pub is_place_of : KeyPlaces → ℕ → Bool
is_place_of places place = bit_at places.bits place == 1

-- at each of these places two lists of keys have the same key, but for its initialisation vector
abbrev pub AreSameAt : KeyPlaces → List Key → List Key → Type 0
AreSameAt places one other = (place : ℕ) → is_place_of places place ≡ true → key_at place one ≡ key_at place other

-- the keys of an initialisation section, if there is one
abbrev pub init_section_keys : Option InitSection → List Key
init_section_keys None = []
init_section_keys (Some i) = i.keys

-- what is in force now has this in common with the keys and the initialisation section of before
pub record IsInCommon (common : InCommon) (keys : List Key) (init_section : Option InitSection) (now_keys : List Key) (now_section : Option InitSection) : Type 0 where
  -- keys of before and of now
  pub keys_are : AreSameAt common.keys keys now_keys
  -- the initialisation section, if there is one now
  pub init_section_is : (i : InitSection) → common.init_section ≡ true → now_section ≡ Some i → init_section ≡ Some i
  -- keys of now and of the initialisation section of now
  pub own_keys_are : AreSameAt common.own_keys now_keys (init_section_keys now_section)
  -- keys of the two initialisation sections
  pub init_section_keys_are : AreSameAt common.init_section_keys (init_section_keys init_section) (init_section_keys now_section)
  -- nothing is said of the keys of a section that there isn't
  pub none_before : init_section ≡ None → common.init_section_keys.bits ≡ 0

-- the second segment has this in common with the first
abbrev pub HaveInCommon : InCommon → Segment → Segment → Type 0
HaveInCommon common before now = IsInCommon common before.keys before.init_section now.keys now.init_section

-- this much of the keys and of the initialisation sections of two segments is the same
pub record AreAlike (common : InCommon) (one other : Segment) : Type 0 where
  pub keys_are : AreSameAt common.keys one.keys other.keys
  -- the two initialisation sections, if there are two
  pub init_sections_are : (i j : InitSection) → common.init_section ≡ true → one.init_section ≡ Some i → other.init_section ≡ Some j → i ≡ j
  pub init_section_keys_are : AreSameAt common.init_section_keys (init_section_keys one.init_section) (init_section_keys other.init_section)

abbrev pub no_places : KeyPlaces
no_places = record { bits = 0 }

-- each of the 16 places: at most 16 keys are in force together
abbrev pub all_places : KeyPlaces
all_places = record { bits = 65535 }

-- the places that are in both: a bit stands in `bit_and` if it stands in each of the two
abbrev pub both_places : KeyPlaces → KeyPlaces → KeyPlaces
both_places one other = record { bits = bit_and one.bits other.bits }

abbrev pub nothing_in_common : InCommon
nothing_in_common = record { keys = no_places; init_section = false; own_keys = no_places; init_section_keys = no_places }
