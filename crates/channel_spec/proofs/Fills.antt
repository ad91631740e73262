-- The pods of marked segments are whole, and have sections as the origin's segments have.
use Rattle.std.proofs.Common.{◌≡◌, inl, inr, ℕ, ◌<◌, Bool, true, false, cond, ◌&&◌, List, [], ◌∷◌, ◌++◌, map, length, reverse, refl, ap, sym, ◌∙◌, arith}
use Rattle.std.specs.Prelude.{Option, Some, None, is_some, is_none, option_map, find, ℤ}
use Rattle.std.specs.List.{AllByRecursion, list_all}
use Rattle.playlist_model.specs.declared.InitSection.{InitSection}
use Rattle.playlist_model.specs.LookBack.{or_earlier}
use Rattle.pod_store.specs.Pods.{Pod, Ad, PodSegment, pod_fits, pod_ad_fits, pod_segment_fits}
use Rattle.pod_store.specs.Store.{Entry, Store, pod_of, pod_for, has_id}
use Rattle.pod_store.specs.Marks.{Mark, Marked, newest_mark}
use Rattle.channel_spec.specs.Marking.{Moment, continued, entered, mark_of}
use Rattle.stitcher.specs.Stitched.{Piece, ad_pieces, ad_piece, pieces_of_ads, pod_pieces, with_keys, run_pieces, stitched}
use Rattle.channel_spec.specs.Sound.{IsSoundPod}
use Rattle.channel_spec.proofs.Windows.{In, in_either, in_reverse, length-reverse}
use Rattle.channel_spec.proofs.Entries.{IsEntered, entered_is}

-- all pieces have a section, or none has
unfoldable pub HaveInitSections : Bool → List Piece → Type 0
HaveInitSections m pieces = (p : Piece) → In p pieces → is_some p.segment.init_section ≡ m

pub init_sections-append : (m : Bool) (xs ys : List Piece) → HaveInitSections m xs → HaveInitSections m ys → HaveInitSections m (xs ++ ys)
unfolding HaveInitSections
init_sections-append m xs ys f g p h = elim (in_either p xs ys h) [ inl a ↦ f p a | inr b ↦ g p b ]

init_sections-nil : (m : Bool) → HaveInitSections m []
unfolding HaveInitSections In
init_sections-nil m p h = absurd h

init_sections-one : (m : Bool) (p : Piece) → is_some p.segment.init_section ≡ m → HaveInitSections m (p ∷ [])
unfolding HaveInitSections In
init_sections-one m p e q h = grind arith

init_sections-reverse : (m : Bool) (xs : List Piece) → HaveInitSections m xs → HaveInitSections m (reverse xs)
unfolding HaveInitSections
init_sections-reverse m xs f p h = f p (in_reverse p xs h)

same_some : (ad : Ad) (init_section : Option InitSection) → is_some (option_map (with_keys ad.keys) init_section) ≡ is_some init_section
same_some ad None = refl
same_some ad (Some x) = refl

later_have_init_sections : (m : Bool) (mark : Mark) (ad : Ad) → is_some ad.init_section ≡ m → (segments : List PodSegment) → HaveInitSections m (map (ad_piece mark false ad) segments)
unfolding HaveInitSections In
later_have_init_sections m mark ad e [] p h = absurd h
later_have_init_sections m mark ad e (s ∷ segments) p (inl h) = ap (λ (x : Piece). is_some x.segment.init_section) h ∙ same_some ad ad.init_section ∙ e
later_have_init_sections m mark ad e (s ∷ segments) p (inr h) = later_have_init_sections m mark ad e segments p h

ad_has_init_section : (m : Bool) (mark : Mark) (ad : Ad) → is_some ad.init_section ≡ m → (segments : List PodSegment) → HaveInitSections m (ad_pieces mark ad segments)
ad_has_init_section m mark ad e [] = init_sections-nil m
ad_has_init_section m mark ad e (s ∷ segments) =
    init_sections-append m (ad_piece mark true ad s ∷ []) (map (ad_piece mark false ad) segments) (init_sections-one m (ad_piece mark true ad s) (same_some ad ad.init_section ∙ e)) (later_have_init_sections m mark ad e segments)

init_section_fits : (m : Bool) (init_section : Option InitSection) → cond m (is_some init_section) (is_none init_section) ≡ true → is_some init_section ≡ m
init_section_fits true init_section e = e
init_section_fits false None e = refl
init_section_fits false (Some x) e = sym e

and_left : (a b : Bool) → (a && b) ≡ true → a ≡ true
and_left true b e = refl
and_left false b e = e

and_right : (a b : Bool) → (a && b) ≡ true → b ≡ true
and_right true b e = e
and_right false b e = absurd (cc)

ads_have_init_sections : (target : ℕ) (m : Bool) (mark : Mark) (ads : List Ad) → list_all (pod_ad_fits target m) ads ≡ true → HaveInitSections m (pieces_of_ads mark ads)
ads_have_init_sections target m mark [] e = init_sections-nil m
ads_have_init_sections target m mark (ad ∷ ads) e =
    let here = and_left (pod_ad_fits target m ad) (list_all (pod_ad_fits target m) ads) e in
    init_sections-append m (ad_pieces mark ad ad.segments) (pieces_of_ads mark ads)
    (ad_has_init_section m mark ad (init_section_fits m ad.init_section (and_left _ (list_all (pod_segment_fits target) ad.segments) here)) ad.segments)
    (ads_have_init_sections target m mark ads (and_right (pod_ad_fits target m ad) (list_all (pod_ad_fits target m) ads) e))

some_pieces : (mark : Mark) (ads : List Ad) → 0 < length ads → AllByRecursion (λ (ad : Ad). 0 < length ad.segments) ads → 0 < length (pieces_of_ads mark ads)
some_pieces mark [] h a = absurd (omega (arith, h))
some_pieces mark (ad ∷ ads) h a = grind arith

-- a pod has pieces, and they have sections as the origin's segments have
pub record Stand (m : Bool) (pieces : List Piece) : Type 0 where
  pub some : 0 < length pieces
  pub with_init_sections : HaveInitSections m pieces

unfoldable pub IsGood : Bool → Option Mark → Type 0
IsGood m None = Unit {0}
IsGood m (Some f) = Stand m (pod_pieces f)

good_pod : (target : ℕ) (m : Bool) (mark : Mark) → IsSoundPod mark.pod → pod_fits target m mark.pod ≡ true → Stand m (pod_pieces mark)
good_pod target m mark h e = grind (arith, some_pieces, ads_have_init_sections)

-- ---- marks

continued_good : (m : Moment) (instant : Option ℤ) (fill : Option Mark) → IsGood m.with_init_sections fill → IsGood m.with_init_sections (continued m instant fill)
unfolding IsGood
continued_good m instant fill h = grind arith

unfoldable pub IsPodOrNone : Option Pod → Type 0
IsPodOrNone None = Unit {0}
IsPodOrNone (Some pod) = IsSoundPod pod

unfoldable pub HavePods : List Entry → Type 0
HavePods entries = AllByRecursion (λ (e : Entry). IsSoundPod e.pod) entries

pub record IsStore (store : Store) : Type 0 where
  pub entries : HavePods store.entries
  pub fallback : IsPodOrNone store.fallback

found_step : (e : Entry) (rest : Option Entry) → IsSoundPod e.pod → IsPodOrNone (option_map pod_of rest) → (b : Bool) → IsPodOrNone (option_map pod_of (cond b (Some e) rest))
unfolding IsPodOrNone
found_step e rest h k true = h
found_step e rest h k false = k

found_in : (id : List ℕ) (entries : List Entry) → HavePods entries → IsPodOrNone (option_map pod_of (find (has_id id) entries))
unfolding HavePods IsPodOrNone
found_in id [] h = tt
found_in id (e ∷ entries) h = grind (arith, found_in id entries h.1)

either_pod : (a b : Option Pod) → IsPodOrNone a → IsPodOrNone b → IsPodOrNone (or_earlier a b)
either_pod None b h k = k
either_pod (Some pod) b h k = h

found : (id : List ℕ) (store : Store) → IsStore store → IsPodOrNone (pod_for store id)
found id store h = grind (arith, either_pod, found_in)

or_good : (m : Bool) (a b : Option Mark) → IsGood m a → IsGood m b → IsGood m (or_earlier a b)
or_good m None b f g = g
or_good m (Some x) b f g = f

entry_good : (m : Moment) (last : Option (List ℕ)) (o : Option Mark) → IsStore m.store → IsEntered m last o → IsGood m.with_init_sections o
unfolding IsGood IsEntered IsPodOrNone
entry_good m last o h k = grind (arith, good_pod, found)

entered_good : (m : Moment) (instant : Option ℤ) (last : Option (List ℕ)) → IsStore m.store → IsGood m.with_init_sections (entered m instant last)
entered_good m instant last h = entry_good m last (entered m instant last) h (entered_is m instant last)

pub fill_good : (m : Moment) (before : List Marked) (instant : Option ℤ) → IsStore m.store → IsGood m.with_init_sections (newest_mark before) → IsGood m.with_init_sections (mark_of m before instant)
fill_good m before instant h g = grind (arith, or_good, continued_good, entered_good)

-- ---- the history

-- a shown segment has a section as all have, and its break has a good pod
pub record IsAlike (m : Bool) (s : Marked) : Type 0 where
  pub init_section : is_some s.segment.init_section ≡ m
  pub mark : IsGood m s.mark

pub run_stands : (m : Bool) (s : Marked) (fill : Option Mark) → is_some s.segment.init_section ≡ m → IsGood m fill → Stand m (run_pieces s fill)
unfolding IsGood
run_stands m s fill e g = grind (arith, init_sections-one, length-reverse, init_sections-reverse)

pub item_has_init_section : (m : Bool) (b : Bool) (pieces : List Piece) → HaveInitSections m pieces → HaveInitSections m (cond b [] pieces)
item_has_init_section m true pieces h = init_sections-nil m
item_has_init_section m false pieces h = h

pub stitched_have_init_sections : (m : Bool) (history : List Marked) → AllByRecursion (IsAlike m) history → HaveInitSections m (stitched history)
stitched_have_init_sections m [] h = init_sections-nil m
stitched_have_init_sections m (s ∷ before) h = grind (arith, run_stands, init_sections-append, item_has_init_section, stitched_have_init_sections m before h.1)
