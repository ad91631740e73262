-- What stays of a key under the number of a segment.
use Rattle.std.proofs.Common.{◌≡◌, ℕ, suc, length, Bool, true, false, List, [], ◌∷◌, refl, ap, Some, None, arith}
use Rattle.std.specs.Prelude.{Option, ◌&&◌, codes, is_none, bytes_eq, map, if◌then◌else◌}
use Rattle.playlist_model.specs.declared.Key.{Key}
use Rattle.playlist_model.specs.EffectiveKeys.{effective_key, key_under}

-- a key with this IV if it is supplied
abbrev pub supplied : Bool → ℕ → Key → Key
supplied b n k = if b then record k { iv = Some n } else k

format_supplied : (b : Bool) (n : ℕ) (k : Key) → k.format ≡ (supplied b n k).format
format_supplied true n k = refl
format_supplied false n k = refl

method_supplied : (b : Bool) (n : ℕ) (k : Key) → k.method ≡ (supplied b n k).method
method_supplied true n k = refl
method_supplied false n k = refl

uri_supplied : (b : Bool) (n : ℕ) (k : Key) → k.uri ≡ (supplied b n k).uri
uri_supplied true n k = refl
uri_supplied false n k = refl

others_supplied : (b : Bool) (n : ℕ) (k : Key) → k.other_attributes ≡ (supplied b n k).other_attributes
others_supplied true n k = refl
others_supplied false n k = refl

abbrev pub takes_iv : Key → Bool
takes_iv k = bytes_eq k.format (codes "identity") && is_none k.iv

pub format_stays : (n : Option ℕ) (k : Key) → k.format ≡ (key_under n k).format
format_stays None k = refl
format_stays (Some n) k = format_supplied (takes_iv k) n k

pub method_stays : (n : Option ℕ) (k : Key) → k.method ≡ (key_under n k).method
method_stays None k = refl
method_stays (Some n) k = method_supplied (takes_iv k) n k

pub uri_stays : (n : Option ℕ) (k : Key) → k.uri ≡ (key_under n k).uri
uri_stays None k = refl
uri_stays (Some n) k = uri_supplied (takes_iv k) n k

pub others_stay : (n : Option ℕ) (k : Key) → k.other_attributes ≡ (key_under n k).other_attributes
others_stay None k = refl
others_stay (Some n) k = others_supplied (takes_iv k) n k

all_supplied : (b : Bool) (n : ℕ) (k : Key) → ◌≡◌ {A = Key} (record { format = k.format; method = k.method; uri = k.uri; iv = (supplied b n k).iv; other_attributes = k.other_attributes }) (supplied b n k)
all_supplied true n k = refl
all_supplied false n k = refl

-- a key of the same texts and its IV is that key
pub all_stay : (n : Option ℕ) (k : Key) → ◌≡◌ {A = Key} (record { format = k.format; method = k.method; uri = k.uri; iv = (key_under n k).iv; other_attributes = k.other_attributes }) (key_under n k)
all_stay None k = refl
all_stay (Some n) k = all_supplied (takes_iv k) n k

pub under_stays : (n m : ℕ) (keys : List Key) → map (effective_key m) keys ≡ map (effective_key n) (map (effective_key m) keys)
under_stays n m [] = refl
under_stays n m (k ∷ keys) = grind (arith, under_stays n m keys)

pub stated_keys : (keys : List Key) → keys ≡ map (key_under None) keys
stated_keys [] = refl
stated_keys (k ∷ keys) = ap (λ later. k ∷ later) (stated_keys keys)

pub long_keys : (n : Option ℕ) (keys : List Key) → length keys ≡ length (map (key_under n) keys)
long_keys n [] = refl
long_keys n (k ∷ keys) = ap suc (long_keys n keys)

-- keys under a number of their own stay as they are under any other
pub stated_under : (n : Option ℕ) (m : ℕ) (keys : List Key) → map (key_under (Some m)) keys ≡ map (key_under n) (map (effective_key m) keys)
stated_under None m keys = stated_keys (map (effective_key m) keys)
stated_under (Some n) m keys = under_stays n m keys
