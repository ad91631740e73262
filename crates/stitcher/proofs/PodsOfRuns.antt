-- The pod of a run is that of the run before that is known to be of its break.
use Rattle.std.proofs.Common.{◌≡◌, ◌∙◌, ◌+◌, ◌-◌, ◌<◌, ℕ, List, [], ◌∷◌, ◌++◌, length, take, drop, refl, ap, false, sym, subst, arith}
use Rattle.std.specs.Prelude.{Option, Some, None, IfSome, is_none, slice_get}
use Rattle.std.specs.Option.{option_copied}
use Rattle.std.proofs.lemmas.Option.{slice_get_within, slice_get-get_or}
use Rattle.std.proofs.lemmas.List.{append_assoc, length-append, take-append-drop}
use Rattle.pod_store.specs.Pods.{Pod}
use Rattle.pod_store.specs.Store.{Store, pod_for}
use Rattle.stitcher.specs.declared.marked.MarkedSegment.{MarkedSegment}
use Rattle.stitcher.specs.declared.run_pods.RunPod.{RunPod}
use Rattle.stitcher.specs.StitchedSegments.{KnowAgain}
use Rattle.stitcher.specs.Stitched.{Piece}
use Rattle.stitcher.specs.Making.{is_same_stitched_run, pod_with}
use Rattle.stitcher.specs.declared.ends.Rest.{Rest}
use Rattle.stitcher.specs.declared.making.Part.{Part}
use Rattle.stitcher.specs.Inner.Making.{after_begun, after_front, begun_in, front_pieces, pieces_in_part, pieces_of_rest, stitched_part_at, unmarked_front_to_stitch, whole_from}
use Rattle.stitcher.specs.RunPods.{AreLeftOf, HasRunPod, IsPodOf, IsPodOfFirst}

some_is : {A : Type 0} {a b : A} → ◌≡◌ {A = Option A} (Some a) (Some b) → a ≡ b
some_is h = cc h

pub both_of : {A : Type 0} {P Q R : A → Type 0} (o : Option A) → IfSome o P → IfSome o Q → ((x : A) → P x → Q x → R x) → IfSome o R
both_of None p q f = tt
both_of (Some x) p q f = f x p q

-- the first of those that are left stands after the others
pub first_left_at : (marked left front : List MarkedSegment) (m : MarkedSegment) → marked ≡ front ++ left → slice_get left 0 ≡ Some m → slice_get marked (length marked - length left) ≡ Some m
first_left_at marked [] front m is first = absurd (cc first)
first_left_at marked (x ∷ later) front m is first =
    let long = ap length is ∙ length-append front (x ∷ later) in
    let at : length front ≡ length marked - length (x ∷ later) = omega (arith, long) in
    ap (slice_get marked) (sym at) ∙ (ap (λ l. slice_get l (length front)) is ∙ (there front x later ∙ first))
  where
    there : (front : List MarkedSegment) (m : MarkedSegment) (later : List MarkedSegment) → slice_get (front ++ (m ∷ later)) (length front) ≡ Some m
    there [] m later = refl
    there (x ∷ front) m later = there front m later

-- the pod of the run of a segment before that has the mark of this one is its own
pub known_pod : (store : Store) (marked : List MarkedSegment) (run : RunPod) (place : ℕ) (m : MarkedSegment) → KnowAgain marked → HasRunPod store marked run
    → slice_get marked place ≡ Some m → run.place + m.again ≡ place → IsPodOf store (option_copied run.pod) m.mark
known_pod store marked run place m again has there at =
    let within : run.place < length marked = omega (arith, at, slice_get_within marked place m there) in
    let before = slice_get-get_or marked run.place m within in
    let same = again run.place _ m before (ap (slice_get marked) at ∙ there) in
    subst (IsPodOf store (option_copied run.pod)) (sym same) (has _ before)

-- the pod that was looked up for the segment at a place
pub pod_at : (store : Store) (marked : List MarkedSegment) (run : RunPod) (m : MarkedSegment) → slice_get marked run.place ≡ Some m → IsPodOf store (option_copied run.pod) m.mark → HasRunPod store marked run
pod_at store marked run m there is n found = subst (λ (x : MarkedSegment). IsPodOf store (option_copied run.pod) x.mark) (some_is (sym there ∙ found)) is

-- ---- what stands for the first segments

of_break : (store : Store) (part : Part) (segments : List MarkedSegment) (pod : Option Pod) (puts : List Piece → Type 0) (mark : Option (List ℕ)) → is_none mark ≡ false → IsPodOf store pod mark
    → ((id : List ℕ) → puts (pieces_in_part part (pod_with id pod))) → puts (begun_in store part segments mark)
of_break store part segments pod puts None some has put = absurd (cc some)
of_break store part segments pod puts (Some id) some has put = subst (λ (o : Option Pod). puts (pieces_in_part part (pod_with id o))) has (put id)

-- the first of them is marked by a break, and goes on no run
pub front_of_break : (store : Store) (so_far : Option ℕ) (previous : Option (List ℕ)) (segments : List MarkedSegment) (m : MarkedSegment) (later : List MarkedSegment) (part : Part) (pod : Option Pod) (puts : List Piece → Type 0)
    → segments ≡ m ∷ later → is_none m.mark ≡ false → is_same_stitched_run m.mark previous ≡ false → part ≡ stitched_part_at so_far m.mark later → IsPodOfFirst store pod segments
    → ((id : List ℕ) → puts (pieces_in_part part (pod_with id pod))) → puts (front_pieces store so_far previous segments)
front_of_break store so_far previous segments m later part pod puts is some new part_is has put =
    let has_first = subst (IsPodOfFirst store pod) is has in
    let put_here = subst (λ (p : Part). (id : List ℕ) → puts (pieces_in_part p (pod_with id pod))) part_is put in
    let here = of_break store (stitched_part_at so_far m.mark later) (m ∷ later) pod puts m.mark some has_first put_here in
    subst (λ l. puts (front_pieces store so_far previous l)) (sym is) (rw new here)

-- ---- what stands for a rest

pub rest_of_break : (store : Store) (rest : Option Rest) (r : Rest) (id : List ℕ) (part : Part) (pod : Option Pod) (puts : List Piece → Type 0) → rest ≡ Some r → id ≡ r.id → part ≡ whole_from r.place → pod ≡ pod_for store id
    → ((id : List ℕ) → puts (pieces_in_part part (pod_with id pod))) → puts (pieces_of_rest store rest)
rest_of_break store rest r id part pod puts is id_is part_is pod_is put =
    let pod_here : pod ≡ pod_for store r.id = pod_is ∙ ap (pod_for store) id_is in
    let here = subst (λ (p : Part). puts (pieces_in_part p (pod_with r.id pod))) part_is (put r.id) in
    subst (λ (o : Option Rest). puts (pieces_of_rest store o)) (sym is) (subst (λ (o : Option Pod). puts (pieces_in_part (whole_from r.place) (pod_with r.id o))) pod_here here)

-- ---- those that are left

left_drop : (count : ℕ) (marked left : List MarkedSegment) → AreLeftOf marked left → AreLeftOf marked (drop count left)
left_drop count marked left (front, is) =
    (front ++ take count left, is ∙ (ap (λ l. front ++ l) (sym (take-append-drop count left)) ∙ sym (append_assoc front (take count left) (drop count left))))

pub left_later : (marked left : List MarkedSegment) (m : MarkedSegment) (later : List MarkedSegment) → left ≡ m ∷ later → AreLeftOf marked left → AreLeftOf marked later
left_later marked left m later is h = left_drop 1 marked (m ∷ later) (subst (AreLeftOf marked) is h)

left_begun : (marked : List MarkedSegment) (m : MarkedSegment) (later : List MarkedSegment) (mark : Option (List ℕ)) → AreLeftOf marked (m ∷ later) → AreLeftOf marked (after_begun (m ∷ later) later mark)
left_begun marked m later None h = left_drop (unmarked_front_to_stitch (m ∷ later)) marked (m ∷ later) h
left_begun marked m later (Some id) h = left_drop 1 marked (m ∷ later) h

pub left_after_front : (marked left : List MarkedSegment) → AreLeftOf marked left → AreLeftOf marked (after_front left)
left_after_front marked [] h = h
left_after_front marked (m ∷ later) h = left_begun marked m later m.mark h
