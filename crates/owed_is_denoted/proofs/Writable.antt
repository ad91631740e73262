-- A pod that keeps the rules has segments, and each can be written as it stands in a stitched list.
use Rattle.std.proofs.Common.{◌≡◌, true, List, [], ◌∷◌, length, map, refl, ap, arith}
use Rattle.std.specs.Prelude.{Bool, Option, option_map, nat_le}
use Rattle.std.specs.List.{list_all}
use Rattle.std.proofs.lemmas.Bool.{and_parts, and_from}
use Rattle.playlist_model.specs.declared.InitSection.{InitSection}
use Rattle.playlist_model.specs.declared.Key.{Key}
use Rattle.pod_store.specs.Pods.{Ad, Pod, segment_count}
use Rattle.stitcher.specs.Stitched.{with_keys}
use Rattle.pod_store.specs.Laws.{ad_can_be_written}
use Rattle.pod_store.specs.Rules.{key_keeps, init_section_keeps, ad_keeps, ads_keep}
use Rattle.pod_store.proofs.Written.{pods_can_be_written}

-- an ad whose section has the ad's keys, as its segments stand in a stitched list
abbrev pub stitched_ad : Ad → Ad
stitched_ad ad = record ad { init_section = option_map (with_keys ad.keys) ad.init_section }

abbrev pub stitched_ads : List Ad → List Ad
stitched_ads ads = map stitched_ad ads

abbrev pub pod_can_be_written : Pod → Bool
pod_can_be_written pod = list_all ad_can_be_written (stitched_ads pod.ads)

init_section_kept : (keys : List Key) (init_section : Option InitSection) → nat_le (length keys) 1 ≡ true → list_all key_keeps keys ≡ true
    → init_section_keeps init_section ≡ true → init_section_keeps (option_map (with_keys keys) init_section) ≡ true
init_section_kept keys init_section n k h = grind (arith, and_parts, and_from)

ad_kept : (ad : Ad) → ad_keeps ad ≡ true → ad_keeps (stitched_ad ad) ≡ true
ad_kept ad h = grind (arith, and_parts, and_from, init_section_kept)

all_kept : (ads : List Ad) → list_all ad_keeps ads ≡ true → list_all ad_keeps (stitched_ads ads) ≡ true
all_kept [] h = refl
all_kept (ad ∷ ads) h = let p = and_parts _ _ h in and_from _ _ (ad_kept ad p.0) (all_kept ads p.1)

counts_kept : (ads : List Ad) → map segment_count (stitched_ads ads) ≡ map segment_count ads
counts_kept [] = refl
counts_kept (ad ∷ ads) = ap (λ counts. length ad.segments ∷ counts) (counts_kept ads)

length_kept : (ads : List Ad) → length (stitched_ads ads) ≡ length ads
length_kept [] = refl
length_kept (ad ∷ ads) = omega (arith, length_kept ads)

rules_kept : (ads : List Ad) → ads_keep ads ≡ true → ads_keep (stitched_ads ads) ≡ true
rules_kept ads h = grind (arith, and_parts, and_from, length_kept, counts_kept, all_kept)

pub kept_is_written : (pod : Pod) → ads_keep pod.ads ≡ true → pod_can_be_written pod ≡ true
kept_is_written pod h = pods_can_be_written (stitched_ads pod.ads) (rules_kept pod.ads h)
