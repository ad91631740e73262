-- How many items stand for rests, and where a run begins.
use Rattle.std.proofs.Common.{◌≡◌, ℕ, ◌+◌, ◌-◌, ◌≤◌, Bool, true, false, cond, List, [], ◌∷◌, map, sum, length, arith}
use Rattle.std.specs.Prelude.{Option, Some}
use Rattle.std.proofs.lemmas.List.{length-drop}
use Rattle.pod_store.specs.Pods.{Pod, segment_count}
use Rattle.pod_store.specs.Store.{Store, pod_for}
use Rattle.stitcher.specs.declared.marked.MarkedSegment.{MarkedSegment as Held}
use Rattle.stitcher.specs.declared.ends.Rest.{Rest}
use Rattle.stitcher.specs.Making.{begun, is_same_stitched_run}
use Rattle.channel_spec.proofs.Windows.{length-reverse}
use Rattle.channel_window.specs.Marking.{place_on}
use Rattle.channel_window.specs.Inner.Placing.{window_rest_count}
use Rattle.channel_window.proofs.Sizes.{ads_size}

-- ---- runs and rests

pub rest_size : (store : Store) (rest : Rest) (pod : Pod) → pod_for store rest.id ≡ Some pod → window_rest_count store (Some rest) ≡ sum (map segment_count pod.ads) - rest.place
rest_size store rest pod found = grind (arith, length-reverse, length-drop, ads_size)

-- ---- where a run begins

place_from : (store : Store) (previous : Option (List ℕ)) (start count : ℕ) (held : List Held) → start ≤ count → start ≤ place_on store previous start count held
place_from store previous start count [] h = omega arith
place_from store previous start count (m ∷ later) h =
    step (is_same_stitched_run m.mark previous) (place_from store m.mark start count later h) (place_from store m.mark count (count + length (begun store m m.mark)) later (omega arith))
  where
    step : (b : Bool) → start ≤ place_on store m.mark start count later → count ≤ place_on store m.mark count (count + length (begun store m m.mark)) later
        → start ≤ cond b (place_on store m.mark start count later) (place_on store m.mark count (count + length (begun store m m.mark)) later)
    step true a b = a
    step false a b = omega (arith, h, b)

pub begun_anew : (store : Store) (previous : Option (List ℕ)) (start count : ℕ) (m : Held) (later : List Held) → is_same_stitched_run m.mark previous ≡ false → count ≤ place_on store previous start count (m ∷ later)
begun_anew store previous start count m later e = grind (arith, place_from)
