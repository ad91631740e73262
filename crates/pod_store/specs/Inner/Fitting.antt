-- What a pod keeps of its ads, so that whether it fits costs no look at them.
use Rattle.std.specs.Prelude.{ℕ, Bool, List, [], ◌∷◌, max, is_some, is_none}
use Rattle.std.specs.List.{list_all}
use Rattle.fixed_duration.specs.Duration.{rounded_seconds_of}
use Rattle.pod_store.specs.Pods.{PodSegment, Ad}

-- the longest of these segments, each rounded to whole seconds
abbrev pub pod_segments_longest : List PodSegment → ℕ
pod_segments_longest [] = 0
pod_segments_longest (s ∷ later) = max (rounded_seconds_of s.duration) (pod_segments_longest later)

abbrev pub pod_ads_longest : List Ad → ℕ
pod_ads_longest [] = 0
pod_ads_longest (ad ∷ later) = max (pod_segments_longest ad.segments) (pod_ads_longest later)

abbrev pub is_ad_with_init_section : Ad → Bool
is_ad_with_init_section ad = is_some ad.init_section

abbrev pub is_ad_without_init_section : Ad → Bool
is_ad_without_init_section ad = is_none ad.init_section

abbrev pub are_ads_with_init_sections : List Ad → Bool
are_ads_with_init_sections ads = list_all is_ad_with_init_section ads

abbrev pub are_ads_without_init_sections : List Ad → Bool
are_ads_without_init_sections ads = list_all is_ad_without_init_section ads
