use Rattle.std.proofs.Common.{◌≡◌, true, length}
use Rattle.std.specs.List.{list_all}
use Rattle.pod_store.specs.Marks.{Mark}
use Rattle.pod_store.specs.Rules.{ad_keeps}
use Rattle.stitcher.specs.Stitched.{pieces_of_ads}
use Rattle.stitcher.specs.Inner.Making.{numbers_fit, pieces_in_part}
use Rattle.stitcher.proofs.Putting.{Walks}
use Rattle.stitcher.proofs.making.Stitching.put_pod.Given as goal

abbrev pub invariant-loop-ad : goal.invariant-loop-ad
invariant-loop-ad l = record {
  fits : numbers_fit l.self.first ≡ true;
  rules : list_all ad_keeps l.rest ≡ true;
  walks : (mark : Mark) → Walks l.fn.self l.self (pieces_in_part l.fn.part (pieces_of_ads mark l.pod.ads)) (pieces_in_part l.left (pieces_of_ads mark l.rest));
}

abbrev pub decreases-loop-ad : goal.decreases-loop-ad
decreases-loop-ad l = length l.rest
