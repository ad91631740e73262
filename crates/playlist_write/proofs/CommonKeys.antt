-- What keys and initialisation sections have in common.
use Rattle.std.proofs.Common.{◌≡◌, ◌∙◌, ◌==◌, ◌+◌, ℕ, suc, Bool, true, false, List, [], ◌∷◌, refl, ap, sym, subst, cond, drop, Some, None, arith}
use Rattle.std.specs.Prelude.{Option}
use Rattle.std.specs.Int.{bit_at}
use Rattle.std.proofs.lemmas.Bool.{and_from, eq-eqb}
use Rattle.std.proofs.lemmas.Slice.Eq.{bytes_eq-Decides}
use Rattle.std.proofs.lemmas.Nat.Bits.{bit_at-zero}
use Rattle.playlist_model.specs.declared.Key.{Key}
use Rattle.playlist_model.specs.declared.ByteRange.{ByteRange}
use Rattle.playlist_model.specs.declared.InitSection.{InitSection}
use Rattle.playlist_model.specs.declared.in_common.KeyPlaces.{KeyPlaces}
use Rattle.playlist_model.specs.declared.in_common.InCommon.{InCommon}
use Rattle.playlist_model.specs.InCommon.{AreSameAt, IsInCommon, init_section_keys, is_place_of, key_at, without_iv}
use Rattle.playlist_model.specs.LookBack.{or_earlier}
use Rattle.playlist_model.specs.Same.{same_byte_range, same_option, same_init_section}
use Rattle.playlist_model.proofs.SameParts.{keys_same}
use Rattle.stitcher.specs.declared.OutSegment.{OutSegment}
use Rattle.playlist_write.specs.Owed.{Current, after_segment, changed_written_init_section}
use Rattle.stitcher.specs.Stretches.{SecondHasInCommon}
use Rattle.playlist_write.specs.Inner.Changes.{HasFirstInCommon}

-- ---- places

key_past : (place : ℕ) (keys : List Key) → key_at (place + 1) keys ≡ key_at place (drop 1 keys)
key_past place [] = refl
key_past place (key ∷ later) = let next : place + 1 ≡ suc place = omega arith in ap (λ p. key_at p (key ∷ later)) next

later_same : (places later : KeyPlaces) (one other : List Key) → ((place : ℕ) → is_place_of later place ≡ is_place_of places (place + 1)) → AreSameAt places one other → AreSameAt later (drop 1 one) (drop 1 other)
later_same places later one other shifted h = λ place is. sym (key_past place one) ∙ h (place + 1) (sym (shifted place) ∙ is) ∙ key_past place other

-- after the first keys of both, one list of which may have none
pub same_after_first : (places later : KeyPlaces) (one left other rest : List Key) (key : Key) → left ≡ drop 1 one → other ≡ key ∷ rest → ((place : ℕ) → is_place_of later place ≡ is_place_of places (place + 1))
    → AreSameAt places one other → AreSameAt later left rest
same_after_first places later one left other rest key e f shifted h =
    subst (λ keys. AreSameAt later keys rest) (sym e) (later_same places later one (key ∷ rest) shifted (subst (AreSameAt places one) f h))

-- the first key of a list is known
pub first_known : (places : KeyPlaces) (one other rest : List Key) (key : Key) → other ≡ key ∷ rest → AreSameAt places one other → is_place_of places 0 ≡ true → key_at 0 one ≡ Some (without_iv key)
first_known places one other rest key f h is = h 0 is ∙ ap (key_at 0) f

no_place : (places : KeyPlaces) (place : ℕ) → places.bits ≡ 0 → is_place_of places place ≡ false
no_place places place h = ap (λ bit. bit == 1) (ap (λ bits. bit_at bits place) h ∙ bit_at-zero place)

-- ---- what is in force after a segment

pub in_common_after : (common : InCommon) (earlier : Option InitSection) (keys now_keys : List Key) (last now : Option InitSection) → IsInCommon common keys last now_keys now → IsInCommon common keys (or_earlier last earlier) now_keys now
in_common_after common earlier keys now_keys None now h = record {
  keys_are = h.keys_are;
  init_section_is = λ i is e. absurd (none_some i (h.init_section_is i is e));
  own_keys_are = h.own_keys_are;
  init_section_keys_are = λ place is. absurd (false_true (sym (no_place common.init_section_keys place (h.none_before refl)) ∙ is));
  none_before = λ e. h.none_before refl;
}
  where
    none_some : (i : InitSection) → ◌≡◌ {A = Option InitSection} None (Some i) → ⊥
    none_some i e = cc

    false_true : false ≡ true → ⊥
    false_true e = cc
in_common_after common earlier keys now_keys (Some last) now h = h

-- nothing is known of the first
pub none_known : (common : InCommon) (current : Current) (segments : List OutSegment)
    → ((keys now_keys : List Key) (init_section now_section : Option InitSection) → IsInCommon common keys init_section now_keys now_section)
    → HasFirstInCommon common current segments
none_known common current [] h = tt
none_known common current (out ∷ later) h = h _ _ _ _

second_known : (common : InCommon) (current : Current) (out : OutSegment) (later : List OutSegment) → SecondHasInCommon common (out ∷ later) → HasFirstInCommon common (after_segment current out) later
second_known common current out [] h = tt
second_known common current out (now ∷ later) h = in_common_after common current.init_section _ _ out.segment.init_section _ (h out now later refl)

-- what the second of some segments has in common with the first, it has in common with what is in force after that
pub second_after_first : (common : InCommon) (current after : Current) (out : OutSegment) (segments later : List OutSegment) → segments ≡ out ∷ later → after ≡ after_segment current out → SecondHasInCommon common segments
    → HasFirstInCommon common after later
second_after_first common current after out segments later e f h =
    subst (λ c. HasFirstInCommon common c later) (sym f) (second_known common current out later (subst (SecondHasInCommon common) e h))

-- ---- a changed initialisation section

own_is : (current : Option InitSection) (own new : InitSection) (b : Bool) → cond b None (Some own) ≡ Some new → ◌≡◌ {A = Option InitSection} (Some own) (Some new)
own_is current own new true h = cc
own_is current own new false h = h

changed_is_own : (current init_section : Option InitSection) (new : InitSection) → changed_written_init_section current init_section ≡ Some new → init_section ≡ Some new
changed_is_own current None new h = cc
changed_is_own current (Some own) new h = own_is current own new _ h

-- the keys of the changed section, if there is one
pub changed_keys_known : (common : InCommon) (both : KeyPlaces) (keys now_keys : List Key) (current now changed : Option InitSection) → changed ≡ changed_written_init_section current now
    → ((place : ℕ) → is_place_of both place ≡ true → (is_place_of common.keys place ≡ true) × (is_place_of common.own_keys place ≡ true)) → IsInCommon common keys current now_keys now
    → (new : InitSection) → changed ≡ Some new → AreSameAt both keys new.keys
changed_keys_known common both keys now_keys current now changed e places h = λ new is place at.
    let own = changed_is_own current now new (sym e ∙ is) in
    let p = places place at in
    h.keys_are place p.0 ∙ h.own_keys_are place p.1 ∙ ap (λ section. key_at place (init_section_keys section)) own

pub changed_is_now : (current now changed : Option InitSection) → changed ≡ changed_written_init_section current now → (new : InitSection) → changed ≡ Some new → now ≡ Some new
changed_is_now current now changed e = λ new is. changed_is_own current now new (sym e ∙ is)

range_same : (range : Option ByteRange) → same_option same_byte_range range range ≡ true
range_same None = refl
range_same (Some range) = and_from _ _ (eq-eqb range.length range.length refl) (eq-eqb range.offset range.offset refl)

-- a section that is the current one
pub current_is_same : (new : InitSection) (current : Option InitSection) → current ≡ Some new → true ≡ same_option same_init_section (Some new) current
current_is_same new current e =
    subst (λ section. true ≡ same_option same_init_section (Some new) section) (sym e)
    (sym (and_from _ _ (and_from _ _ ((bytes_eq-Decides new.uri new.uri).1 refl) (range_same new.byte_range)) (keys_same new.keys new.keys refl)))
