-- A walk over the items of a stitched list.
use Rattle.std.proofs.Common.{◌≡◌, ◌+◌, List, [], ◌∷◌, ◌++◌, map, refl, ap, sym, ◌∙◌, append_assoc, drop, length, arith, length-append}
use Rattle.std.specs.Prelude.{Option, Some, None, MatchOption}
use Rattle.std.proofs.lemmas.List.{append-nil, length-map}
use Rattle.playlist_model.specs.Segments.{Segment}
use Rattle.stitcher.specs.Stitched.{Numbers}
use Rattle.stitcher.specs.declared.OutSegment.{OutSegment}
use Rattle.stitcher.specs.declared.marked.MarkedSegment.{MarkedSegment}
use Rattle.stitcher.specs.declared.stitched_list.Stretch.{Stretch}
use Rattle.stitcher.specs.Stretches.{stitched_ad_item, stitched_numbers_on, segment_items, stretch_items, stretches_items}

-- a call of `next` leaves all but the first
pub drops_one : (r : Option OutSegment) (old new : List OutSegment) → MatchOption r ((old ≡ []) × (new ≡ [])) (λ item. old ≡ item ∷ new) → new ≡ drop 1 old
drops_one None old new p = p.1 ∙ sym (ap (drop 1) p.0)
drops_one (Some item) old new p = sym (ap (drop 1) p)

-- ---- how many items there are

length_kept : (n : Numbers) (list : List MarkedSegment) → length (segment_items n list) ≡ length list
length_kept n [] = refl
length_kept n (m ∷ later) = omega (arith, length_kept (stitched_numbers_on n m later) later)

pub length_stretch : (s : Stretch) → length (stretch_items s) ≡ length s.ads + length s.kept.now
length_stretch s = grind (arith, length-append, length-map, length_kept)

-- ---- a stretch more

pub stretches_append : (before : List Stretch) (s : Stretch) → stretches_items (before ++ s ∷ []) ≡ stretches_items before ++ stretch_items s
stretches_append [] s = append-nil (stretch_items s)
stretches_append (b ∷ before) s = grind (arith, append_assoc, stretches_append before s)

-- the segments of ads that stood after the stretches are in the new one
pub ads_moved : (before after : List Stretch) (s : Stretch) (ads : List Segment) → after ≡ before ++ s ∷ [] → s.ads ≡ ads
    → stretches_items after ≡ (stretches_items before ++ map stitched_ad_item ads) ++ segment_items s.numbers s.kept.now
ads_moved before after s ads e f = grind (arith, stretches_append, append_assoc)

pub stretch_ended : (before after : List Stretch) (s : Stretch) (ads none : List Segment) → after ≡ before ++ s ∷ [] → s.ads ≡ ads → none ≡ []
    → stretches_items after ++ map stitched_ad_item none ≡ (stretches_items before ++ map stitched_ad_item ads) ++ segment_items s.numbers s.kept.now
stretch_ended before after s ads none e f g = grind (arith, append-nil, ads_moved)

pub last_stretch : (before after : List Stretch) (s : Stretch) (ads : List Segment) → after ≡ before ++ s ∷ [] → s.ads ≡ ads → s.kept.now ≡ []
    → stretches_items after ≡ stretches_items before ++ map stitched_ad_item ads
last_stretch before after s ads e f g =
    ads_moved before after s ads e f ∙ (ap (λ (k : List MarkedSegment). (stretches_items before ++ map stitched_ad_item ads) ++ segment_items s.numbers k) g ∙ append-nil (stretches_items before ++ map stitched_ad_item ads))

-- ---- the end of a stretch

pub none_of_ads : (ads : List Segment) (n : Numbers) (kept : List MarkedSegment) → map stitched_ad_item ads ++ segment_items n kept ≡ [] → length ads ≡ 0
none_of_ads [] n kept h = refl
none_of_ads (s ∷ ads) n kept h = cc

pub none_kept : (ads : List Segment) (n : Numbers) (kept : List MarkedSegment) → map stitched_ad_item ads ++ segment_items n kept ≡ [] → length kept ≡ 0
none_kept [] n [] h = refl
none_kept [] n (m ∷ kept) h = cc
none_kept (s ∷ ads) n kept h = cc
