-- The rules that each decided pod keeps.
use Rattle.std.specs.Prelude.{ℕ, false, ◌+◌, ◌^◌, Bool, true, ◌&&◌, ◌==◌, nat_le, nat_lt, List, map, sum, length, Option, Some, None}
use Rattle.std.specs.List.{list_all}
use Rattle.playlist_model.specs.declared.ByteRange.{ByteRange}
use Rattle.playlist_model.specs.declared.InitSection.{InitSection}
use Rattle.playlist_model.specs.declared.Key.{Key}
use Rattle.pod_store.specs.Limits.{most_pod_segments}
use Rattle.pod_store.specs.Pods.{PodSegment, Ad, is_uri, is_key_method, is_format, segment_count}
use Rattle.writable.specs.Fitting.{iv_is_writable, duration_fits}

abbrev pub byte_range_fits : Option ByteRange → Bool
byte_range_fits None = true
byte_range_fits (Some r) = nat_lt (r.length + r.offset) (2 ^ 64)

-- a URI, a byte range that ends below 2^64, less than 1,000,000 s
abbrev pub segment_keeps : PodSegment → Bool
segment_keeps s = is_uri s.uri && byte_range_fits s.byte_range && duration_fits s.duration

-- an IV of 128 bits
abbrev pub iv_keeps : Option ℕ → Bool
iv_keeps None = false
iv_keeps (Some iv) = iv_is_writable iv

abbrev pub key_keeps : Key → Bool
key_keeps k = is_key_method k.method && is_uri k.uri && iv_keeps k.iv && is_format k.format && length k.other_attributes == 0

-- it has no other keys than an ad can have
abbrev pub init_section_keeps : Option InitSection → Bool
init_section_keeps None = true
init_section_keeps (Some s) = is_uri s.uri && byte_range_fits s.byte_range && nat_le (length s.keys) 1 && list_all key_keeps s.keys

abbrev pub ad_keeps : Ad → Bool
ad_keeps ad =
    init_section_keeps ad.init_section && nat_le (length ad.keys) 1 && list_all key_keeps ad.keys
    && nat_lt 0 (length ad.segments) && list_all segment_keeps ad.segments

-- at least one ad, and no more segments in all than a pod may have
abbrev pub ads_keep : List Ad → Bool
ads_keep ads = nat_lt 0 (length ads) && nat_le (sum (map segment_count ads)) most_pod_segments && list_all ad_keeps ads
