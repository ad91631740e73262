use Rattle.std.proofs.Common.{◌≡◌, ◌∙◌, length, refl, subst, sym, rules, arith}
use Rattle.std.proofs.lemmas.Grind.{common_steps}
use Rattle.stitcher.specs.Inner.StitchedSegments.{KnowAgainWithin}
use Rattle.stitcher.proofs.Known.{again_pushed}
use Rattle.channel_window.proofs.KnownBreaks.{stood_same}
use Rattle.channel_window.proofs.MarkedSoFar.{none_marked, one_marked_on, no_segment_left, no_instant_left}
use Rattle.channel_window.proofs.marking.Marker.all.Goals as goal

pub loop-segment-init : goal.loop-segment-init
loop-segment-init c = record {
  marked = none_marked _ _ _ _ _ _ (λ before now. c.nothing-in_common.ensures.common before.keys now.keys before.init_section now.init_section);
  run = c.requires.run;
  kept = search rules;
  stood = c.requires.stood;
  again = c.requires.again;
}

pub loop-segment-preserved : goal.loop-segment-preserved
loop-segment-preserved c =
    let so_far = c.loop-segment.invariant in
    let left = rw c.in-Some.is at c.in_ok-segment.ensures.next in
    let instants = rw c.in-Some-2.is at c.in_ok-instant.ensures.next in
    let is = rw so_far.kept at c.in_ok-next.ensures.marked in
    let goes = rw so_far.kept at c.in_ok-next.ensures.goes in
    let told = rw so_far.kept at c.in_ok-next.ensures.told in
    let m = c.args.self.now in
    let done = c.loop-segment.done.items in
    let long : length done ≡ c.len-count.result = grind (arith, common_steps) in
    let marked = told.marked done long so_far.stood in
    let put = c.in_ok-push.ensures.items in
    record {
      marked = one_marked_on _ _ _ _ _ _ _ _ _ _ _ _ _ _ _ _ _ _ _ so_far.marked left instants is goes c.second_in_common-next_in_common.ensures c.in_ok-push.ensures.items;
      run = rw so_far.kept at c.in_ok-next.ensures.run;
      kept = c.in_ok-next.ensures.kept ∙ so_far.kept;
      stood = stood_same m _ _ _ put (told.stood done c.in_ok-next.field-0 long so_far.stood refl);
      again = subst KnowAgainWithin (sym put) (again_pushed done c.in_ok-next.field-0 so_far.again marked.within marked.same);
    }

pub returns-in_default : goal.returns-in_default
returns-in_default c = record { marked = no_segment_left _ _ _ _ _ _ _ _ _ _ c.loop-segment.invariant.marked (grind (arith, common_steps)); again = c.loop-segment.invariant.again }

pub returns-in_default-2 : goal.returns-in_default-2
returns-in_default-2 c = record { marked = no_instant_left _ _ _ _ _ _ _ _ _ _ c.loop-segment.invariant.marked (grind (arith, common_steps)); again = c.loop-segment.invariant.again }
