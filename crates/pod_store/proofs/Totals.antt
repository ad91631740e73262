-- How long the ads of a pod can last.
use Rattle.std.proofs.Common.{◌≡◌, ℕ, suc, ◌+◌, ◌*◌, ◌<◌, ◌≤◌, ◌^◌, true, List, [], ◌∷◌, length, map, sum, arith}
use Rattle.std.specs.List.{list_all}
use Rattle.std.proofs.lemmas.List.Sums.{sum_by-cons}
use Rattle.std.proofs.lemmas.Bool.{and_parts, leb-true, ltb-true}
use Rattle.pod_store.specs.Limits.{most_pod_segments}
use Rattle.pod_store.specs.Pods.{PodSegment, Ad, duration_of_segment, pod_segments_total, pod_ad_total, pod_ads_total, segment_count}
use Rattle.pod_store.specs.Rules.{segment_keeps, ad_keeps, ads_keep}

-- the longest duration of so many segments
abbrev pub longest : ℕ → ℕ
longest n = n * 10 ^ 15

added : (t a b n : ℕ) → t ≡ a + b → a < 10 ^ 15 → b ≤ longest n → t ≤ longest (suc n)
added t a b n e g h = omega (arith, e, g, h)

both : (t s a b m n : ℕ) → t ≡ a + b → s ≡ m + n → a ≤ longest m → b ≤ longest n → t ≤ longest s
both t s a b m n e f g h = omega (arith, e, f, g, h)

segments_small : (segments : List PodSegment) → list_all segment_keeps segments ≡ true → pod_segments_total segments ≤ longest (length segments)
segments_small [] h = omega arith
segments_small (s ∷ later) h =
    let p = and_parts _ _ h in
    added (pod_segments_total (s ∷ later)) s.duration (pod_segments_total later) (length later) (sum_by-cons (λ n. n) s.duration (map duration_of_segment later)) (ltb-true _ _ (and_parts _ _ p.0).1) (segments_small later p.1)

ads_small : (ads : List Ad) → list_all ad_keeps ads ≡ true → pod_ads_total ads ≤ longest (sum (map segment_count ads))
ads_small [] h = omega arith
ads_small (ad ∷ later) h =
    let p = and_parts _ _ h in
    both (pod_ads_total (ad ∷ later)) (sum (map segment_count (ad ∷ later))) (pod_ad_total ad) (pod_ads_total later) (segment_count ad) (sum (map segment_count later))
    (sum_by-cons (λ n. n) (pod_ad_total ad) (map pod_ad_total later)) (sum_by-cons (λ n. n) (segment_count ad) (map segment_count later)) (segments_small ad.segments (and_parts _ _ p.0).1) (ads_small later p.1)

-- at most so many segments of less than 1,000,000 s
pub ads_total_is_small : (ads : List Ad) → ads_keep ads ≡ true → pod_ads_total ads ≤ most_pod_segments * 10 ^ 15
ads_total_is_small ads h = grind (arith, and_parts, sum, ads_small, leb-true)
