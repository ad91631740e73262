-- An ad's segments, as they are listed.
use Rattle.std.proofs.Common.{◌≡◌, ℕ, true, List, [], ◌∷◌, ◌++◌, map, refl, sym, subst, append_assoc, arith}
use Rattle.std.specs.List.{list_all}
use Rattle.std.proofs.lemmas.Bool.{and_parts}
use Rattle.std.proofs.lemmas.List.{map-append}
use Rattle.playlist_model.specs.Segments.{Segment}
use Rattle.playlist_model.specs.declared.Key.{Key}
use Rattle.playlist_model.specs.EffectiveKeys.{effective_key}
use Rattle.pod_store.specs.Pods.{Ad}
use Rattle.pod_store.specs.Rules.{key_keeps, ad_keeps, ads_keep}
use Rattle.stitcher.specs.declared.OutSegment.{OutSegment}
use Rattle.stitcher.specs.Stretches.{stitched_ad_item}
use Rattle.stitcher.specs.Inner.Making.{Made, IsUnder, under_ad}

-- a key of an ad states its IV
kept_key : (n : ℕ) (k : Key) → key_keeps k ≡ true → effective_key n k ≡ k
kept_key n k h = grind (arith, and_parts)

kept_keys : (n : ℕ) (keys : List Key) → list_all key_keeps keys ≡ true → map (effective_key n) keys ≡ keys
kept_keys n [] h = refl
kept_keys n (k ∷ keys) h = let a = and_parts _ _ h in let e = kept_key n k a.0 in let t = kept_keys n keys a.1 in cc

pub ad_keys : (n : ℕ) (ad : Ad) → ad_keeps ad ≡ true → map (effective_key n) ad.keys ≡ ad.keys
ad_keys n ad h = grind (arith, and_parts, kept_keys)

-- ---- the rules

pub each_keeps : (ads : List Ad) → ads_keep ads ≡ true → list_all ad_keeps ads ≡ true
each_keeps ads h = (and_parts _ _ h).1

pub kept_first : (ads : List Ad) (ad : Ad) (later : List Ad) → ads ≡ ad ∷ later → list_all ad_keeps ads ≡ true → ad_keeps ad ≡ true
kept_first ads ad later e h = (and_parts _ _ (subst (λ list. list_all ad_keeps list ≡ true) e h)).0

pub kept_others : (ads : List Ad) (ad : Ad) (later : List Ad) → ads ≡ ad ∷ later → list_all ad_keeps ads ≡ true → list_all ad_keeps later ≡ true
kept_others ads ad later e h = (and_parts _ _ (subst (λ list. list_all ad_keeps list ≡ true) e h)).1

-- ---- listing

-- one more is listed
pub listed : (before : List OutSegment) (ads after : List Segment) (s : Segment) → after ≡ ads ++ s ∷ [] → before ++ map stitched_ad_item after ≡ (before ++ map stitched_ad_item ads) ++ stitched_ad_item s ∷ []
listed before ads after s e = grind (arith, append_assoc, map-append)

pub begun_under : (old begun : Made) (ad : Ad) → begun ≡ under_ad old ad → ad_keeps ad ≡ true → IsUnder begun ad
begun_under old begun ad e h = subst (λ (made : Made). IsUnder made ad) (sym e) (record { keys = refl; init_section = refl; rules = h })
