-- How many pieces stand for a pod.
use Rattle.std.proofs.Common.{◌≡◌, ◌≤◌, suc, ℕ, ◌+◌, true, false, List, [], ◌∷◌, map, sum, length, refl, ap, subst, sym, ◌∙◌, arith, length-append}
use Rattle.std.proofs.lemmas.List.{length-map}
use Rattle.std.specs.Prelude.{Option, Some, None, fold, is_none, slice_get}
use Rattle.pod_store.specs.Rules.{ads_keep}
use Rattle.pod_store.specs.Pods.{Pod, Ad, PodSegment, segment_count}
use Rattle.pod_store.specs.Marks.{Mark}
use Rattle.stitcher.specs.Stitched.{pieces_of_ads, ad_pieces, ad_piece}
use Rattle.pod_store.specs.Store.{Store, pod_for}
use Rattle.stitcher.specs.declared.marked.MarkedSegment.{MarkedSegment}
use Rattle.stitcher.specs.Making.{begun}
use Rattle.stitcher.specs.RunPods.{IsPodOf, IsPodOfFirst}
use Rattle.channel_window.specs.Inner.Placing.{window_items_of_first}

ad_size : (mark : Mark) (ad : Ad) (segments : List PodSegment) → length (ad_pieces mark ad segments) ≡ length segments
ad_size mark ad [] = refl
ad_size mark ad (s ∷ later) = ap suc (length-map later (ad_piece mark false ad))

fold_from : (n : ℕ) (xs : List ℕ) → fold ◌+◌ n xs ≡ n + fold ◌+◌ 0 xs
fold_from n [] = omega arith
fold_from n (x ∷ xs) = grind (arith, fold_from (n + x) xs, fold_from (0 + x) xs)

pub sum_cons : (x : ℕ) (xs : List ℕ) → x + sum xs ≡ sum (x ∷ xs)
sum_cons x xs =
    let b : fold ◌+◌ (0 + x) xs ≡ (0 + x) + fold ◌+◌ 0 xs = fold_from (0 + x) xs in
    let c : x + fold ◌+◌ 0 xs ≡ (0 + x) + fold ◌+◌ 0 xs = omega arith in
    c ∙ sym b

pub ads_size : (mark : Mark) (ads : List Ad) → length (pieces_of_ads mark ads) ≡ sum (map segment_count ads)
ads_size mark [] = refl
ads_size mark (ad ∷ ads) = grind (arith, sum, sum_cons, length-append, ad_size, ads_size mark ads)

pub begun_pod : (store : Store) (m : MarkedSegment) (id : List ℕ) (pod : Pod) → m.mark ≡ Some id → pod_for store id ≡ Some pod → length (begun store m m.mark) ≡ sum (map segment_count pod.ads)
begun_pod store m id pod e f = grind (arith, ads_size)

-- a pod that keeps the rules has few of them
pub few_segments : (ads : List Ad) → ads_keep ads ≡ true → sum (map segment_count ads) ≤ 500
few_segments ads h = grind arith

items_of_mark : (store : Store) (m : MarkedSegment) (pod : Pod) (mark : Option (List ℕ)) → m.mark ≡ mark → is_none mark ≡ false → IsPodOf store (Some pod) mark → length (begun store m m.mark) ≡ sum (map segment_count pod.ads)
items_of_mark store m pod None e some is = absurd (cc some)
items_of_mark store m pod (Some id) e some is = begun_pod store m id pod e (sym is)

it_is : {A : Type 0} {a b : A} → ◌≡◌ {A = Option A} (Some a) (Some b) → a ≡ b
it_is h = cc h

-- as many as the pod has that was found, for the first of these segments
pub items_of_first : (store : Store) (left : List MarkedSegment) (m : MarkedSegment) (pod : Pod) → slice_get left 0 ≡ Some m → is_none m.mark ≡ false → IsPodOfFirst store (Some pod) left → window_items_of_first store left ≡ sum (map segment_count pod.ads)
items_of_first store [] m pod first some is = absurd (cc first)
items_of_first store (x ∷ later) m pod first some is = items_of_mark store x pod x.mark refl (subst (λ (y : MarkedSegment). is_none y.mark ≡ false) (sym (it_is first)) some) is
