-- Keys and sections that are the same in all their parts are equal.
use Rattle.std.proofs.Common.{◌≡◌, ℕ, Bool, true, false, List, refl, ap, sym, arith}
use Rattle.std.specs.Prelude.{◌&&◌, bytes_eq, Some, None, Option}
use Rattle.std.specs.Cmp.Lexicographic.{pointwise}
use Rattle.std.proofs.lemmas.Bool.{and_parts, and_from, eqb-true}
use Rattle.std.proofs.lemmas.Slice.Eq.{bytes_eq-Decides, slice_eq-Decides}
use Rattle.playlist_model.specs.declared.Key.{Key}
use Rattle.playlist_model.specs.declared.ByteRange.{ByteRange}
use Rattle.playlist_model.specs.declared.InitSection.{InitSection}
use Rattle.playlist_model.specs.Same.{same_key, same_option, same_number, same_byte_range, same_init_section}

-- ---- whether two keys are the same is decided

pub key_ext : (f g m n u v : List ℕ) (i j : Option ℕ) (o p : List ℕ) → f ≡ g → m ≡ n → u ≡ v → i ≡ j → o ≡ p
    → ◌≡◌ {A = Key} (record { format = f; method = m; uri = u; iv = i; other_attributes = o }) (record { format = g; method = n; uri = v; iv = j; other_attributes = p })
key_ext f g m n u v i j o p a b c d e = cc

iv_is : (a b : Option ℕ) → same_option same_number a b ≡ true → a ≡ b
iv_is None None h = refl
iv_is None (Some b) h = cc
iv_is (Some a) None h = cc
iv_is (Some a) (Some b) h = ap Some (eqb-true a b h)

pub key_is : (j k : Key) → same_key j k ≡ true → j ≡ k
key_is j k h = grind (arith, and_parts, bytes_eq-Decides, iv_is, key_ext)

-- ---- the same section

iv_same : (a b : Option ℕ) → a ≡ b → same_option same_number a b ≡ true
iv_same a b h = grind arith

pub key_same : (j k : Key) → j ≡ k → same_key j k ≡ true
key_same j k e = grind (arith, and_from, bytes_eq-Decides, iv_same)

pub keys_same : (xs ys : List Key) → xs ≡ ys → pointwise same_key xs ys ≡ true
keys_same xs ys = (slice_eq-Decides (λ a b. (key_is a b, key_same a b)) xs ys (pointwise same_key xs ys) refl).1

pub keys_are : (xs ys : List Key) → pointwise same_key xs ys ≡ true → xs ≡ ys
keys_are xs ys = (slice_eq-Decides (λ a b. (key_is a b, key_same a b)) xs ys (pointwise same_key xs ys) refl).0

pub byte_range_is : (a b : Option ByteRange) → same_option same_byte_range a b ≡ true → a ≡ b
byte_range_is a b h = grind arith

init_section_ext : (u v : List ℕ) (r s : Option ByteRange) (k l : List Key) → u ≡ v → r ≡ s → k ≡ l → ◌≡◌ {A = InitSection} (record { uri = u; byte_range = r; keys = k }) (record { uri = v; byte_range = s; keys = l })
init_section_ext u v r s k l a b c = cc

pub init_section_is : (new : InitSection) (old : Option InitSection) → same_option same_init_section (Some new) old ≡ true → old ≡ Some new
init_section_is new None h = cc
init_section_is new (Some old) h =
    let a = and_parts _ _ h in let b : (bytes_eq new.uri old.uri ≡ true) × (same_option same_byte_range new.byte_range old.byte_range ≡ true) = and_parts _ _ a.0 in
    ap Some (sym (init_section_ext _ _ _ _ _ _ ((bytes_eq-Decides new.uri old.uri).0 b.0) (byte_range_is new.byte_range old.byte_range b.1) (keys_are new.keys old.keys a.1)))

none_of : (format method uri other : Bool) → (format && method && uri && false && other) ≡ false
none_of false m u o = refl
none_of true false u o = refl
none_of true true false o = refl
none_of true true true o = refl

-- keys of which one states another IV differ
pub other_iv : (j k : Key) → same_option same_number j.iv k.iv ≡ false → false ≡ same_key j k
other_iv j k h = grind arith
