-- Segments that are the same have equal parts.
use Rattle.std.proofs.Common.{◌≡◌, ℕ, true, List, refl, ap, sym, ◌↔◌, [], arith}
use Rattle.std.specs.Prelude.{◌==◌, bytes_eq, Some, None, Option}
use Rattle.std.specs.Cmp.Lexicographic.{pointwise}
use Rattle.std.proofs.lemmas.Bool.{and_parts, and_from, eqb-true, eq-eqb}
use Rattle.std.proofs.lemmas.Slice.Eq.{bytes_eq-Decides}
use Rattle.playlist_model.specs.declared.Key.{Key}
use Rattle.playlist_model.specs.declared.ByteRange.{ByteRange}
use Rattle.playlist_model.specs.declared.InitSection.{InitSection}
use Rattle.playlist_model.specs.Segments.{Segment}
use Rattle.playlist_model.specs.Same.{same_key, same_option, same_byte_range, same_init_section, has_same_segment_numbers, has_same_segment_media, same_segment, kept_parts}
use Rattle.playlist_model.proofs.SameParts.{keys_are, keys_same, byte_range_is, init_section_is}

some_is : {A : Type 0} {a b : A} → ◌≡◌ {A = Option A} (Some a) (Some b) → a ≡ b
some_is h = cc h

byte_range_same : (a b : Option ByteRange) → a ≡ b → same_option same_byte_range a b ≡ true
byte_range_same a b h = grind arith

init_section_same : (a b : Option InitSection) → a ≡ b → same_option same_init_section a b ≡ true
init_section_same a b h = grind (arith, some_is, and_from, bytes_eq-Decides, byte_range_same, keys_same)

-- a section is the same as itself
pub one_init_section : (i j : InitSection) → i ≡ j → true ≡ same_init_section i j
one_init_section i j e = sym (init_section_same (Some i) (Some j) (ap Some e))

init_sections_are : (a b : Option InitSection) → same_option same_init_section a b ≡ true → a ≡ b
init_sections_are None None h = refl
init_sections_are None (Some b) h = cc
init_sections_are (Some a) b h = sym (init_section_is a b h)

parts_ext : (n m d e : ℕ) (u v : List ℕ) (r s : Option ByteRange) (k l : List Key) (i j : Option InitSection) (t w : ℕ) → n ≡ m → d ≡ e → u ≡ v → r ≡ s → k ≡ l → i ≡ j → t ≡ w
    → ◌≡◌ {A = Segment} (record { media_sequence = n; discontinuity_sequence = d; discontinuities = 0; uri = u; byte_range = r; keys = k; init_section = i; duration = t; title = []; program_date_time = None })
    (record { media_sequence = m; discontinuity_sequence = e; discontinuities = 0; uri = v; byte_range = s; keys = l; init_section = j; duration = w; title = []; program_date_time = None })
parts_ext n m d e u v r s k l i j t w a b c f g h x = cc

parts_are : (a b : Segment) → same_segment a b ≡ true → kept_parts a ≡ kept_parts b
parts_are a b h =
    let p = and_parts _ _ h in let q : (has_same_segment_numbers a b ≡ true) × (has_same_segment_media a b ≡ true) = and_parts _ _ p.0 in
    let n : ((a.media_sequence == b.media_sequence) ≡ true) × ((a.discontinuity_sequence == b.discontinuity_sequence) ≡ true) = and_parts _ _ q.0 in
    let m = and_parts _ _ q.1 in let u : (bytes_eq a.uri b.uri ≡ true) × (same_option same_byte_range a.byte_range b.byte_range ≡ true) = and_parts _ _ m.0 in
    let k : (pointwise same_key a.keys b.keys ≡ true) × (same_option same_init_section a.init_section b.init_section ≡ true) = and_parts _ _ p.1 in
    parts_ext _ _ _ _ _ _ _ _ _ _ _ _ _ _ (eqb-true _ _ n.0) (eqb-true _ _ n.1) ((bytes_eq-Decides a.uri b.uri).0 u.0) (byte_range_is a.byte_range b.byte_range u.1)
    (keys_are a.keys b.keys k.0) (init_sections_are a.init_section b.init_section k.1) (eqb-true _ _ m.1)

parts_same : (a b : Segment) → kept_parts a ≡ kept_parts b → same_segment a b ≡ true
parts_same a b e = grind (arith, and_from, eq-eqb, bytes_eq-Decides, byte_range_same, keys_same, init_section_same)

pub same_segment_decides : (a b : Segment) → (same_segment a b ≡ true) ↔ (kept_parts a ≡ kept_parts b)
same_segment_decides a b = (parts_are a b, parts_same a b)
