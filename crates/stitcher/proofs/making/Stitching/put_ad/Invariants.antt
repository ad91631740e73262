use Rattle.std.proofs.Common.{◌≡◌, map, true, false, length}
use Rattle.pod_store.specs.Marks.{Mark}
use Rattle.stitcher.specs.Stitched.{ad_piece, ad_pieces}
use Rattle.stitcher.specs.Inner.Making.{IsUnder, numbers_fit, pieces_in_part, stitched_part_after}
use Rattle.stitcher.proofs.Putting.{Walks}
use Rattle.stitcher.proofs.making.Stitching.put_ad.Given as goal

abbrev pub invariant-loop-segment : goal.invariant-loop-segment
invariant-loop-segment l = record {
  fits : numbers_fit l.self.first ≡ true;
  under : IsUnder l.self l.ad;
  walks : (mark : Mark) → Walks l.fn.self l.self (pieces_in_part l.fn.part (ad_pieces mark l.ad l.ad.segments)) (pieces_in_part l.left (map (ad_piece mark false l.ad) l.rest));
  after : (mark : Mark) → stitched_part_after l.fn.part (ad_pieces mark l.ad l.ad.segments) ≡ stitched_part_after l.left (map (ad_piece mark false l.ad) l.rest);
}

abbrev pub decreases-loop-segment : goal.decreases-loop-segment
decreases-loop-segment l = length l.rest
