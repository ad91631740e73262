use Rattle.std.proofs.Common.{◌++◌, arith}
use Rattle.std.proofs.lemmas.Grind.{common_steps}
use Rattle.std.proofs.lemmas.List.Elements.{All-nil, All-push, All-same}
use Rattle.break_finder.specs.Entrances.{TellsEntrances}
use Rattle.break_finder.specs.Places.{HasPlaces}
use Rattle.break_finder.proofs.SpanLaws.{both_tell, first_one}
use Rattle.break_finder.proofs.spans.join_break_spans.Goals as goal

pub loop-ours-init : goal.loop-ours-init
loop-ours-init c = grind (arith, common_steps, All-same, All-nil)

pub returns-in_default-clause-tells : goal.returns-in_default-clause-tells
returns-in_default-clause-tells c = λ tolerance found before after apart our their ours theirs. (c.loop-ours.invariant.tells tolerance found before after apart our their ours theirs).1.1

pub returns-in_default-clause-places : goal.returns-in_default-clause-places
returns-in_default-clause-places c = λ found ours theirs. (c.loop-ours.invariant.places found ours theirs).1.1

pub returns-in_default-split_first-clause-tells : goal.returns-in_default-split_first-clause-tells
returns-in_default-split_first-clause-tells c = λ tolerance found before after apart our their ours theirs. (c.loop-ours.invariant.tells tolerance found before after apart our their ours theirs).1.1

pub returns-in_default-split_first-clause-places : goal.returns-in_default-split_first-clause-places
returns-in_default-split_first-clause-places c = λ found ours theirs. (c.loop-ours.invariant.places found ours theirs).1.1

pub loop-ours-preserved : goal.loop-ours-preserved
loop-ours-preserved c = record {
  tells = λ tolerance found before after apart our_places their_places ours theirs.
      let left = c.loop-ours.invariant.tells tolerance found before after apart our_places their_places ours theirs in
      let placed = c.loop-ours.invariant.places found our_places their_places in
      let P = TellsEntrances tolerance (before ++ after) in
      let our = c.in-Some.our.now in
      let their = c.in-Some-split_first.their.now in
      let span = c.overlap_of_break_spans-span.result in
      let met = c.overlap_of_break_spans-span.ensures in
      let one = first_one (TellsEntrances tolerance before) our _ c.loop-ours.ours.now c.in-Some.ensures.cases.0 left.0 in
      let two = first_one (TellsEntrances tolerance after) their _ c.loop-ours.theirs.now c.in-Some-split_first.ensures.cases.0 left.1.0 in
      let our_place = first_one (HasPlaces found) our _ c.loop-ours.ours.now c.in-Some.ensures.cases.0 placed.0 in
      let their_place = first_one (HasPlaces found) their _ c.loop-ours.theirs.now c.in-Some-split_first.ensures.cases.0 placed.1.0 in
      let both : P span = both_tell tolerance before after our their span met.from_ours met.from_theirs met.to_ours met.to_theirs met.first (met.second found apart our_place their_place) one two in
      (c.break_spans_from_here-ours.ensures.tells tolerance before left.0, (c.break_spans_from_here-theirs.ensures.tells tolerance after left.1.0, All-same P c.push.new.self.items _ c.in_ok-push.ensures.items (All-push P c.loop-ours.done.items span left.1.1 both)));
  places = λ found our_places their_places.
      let placed = c.loop-ours.invariant.places found our_places their_places in
      let our = c.in-Some.our.now in
      let their = c.in-Some-split_first.their.now in
      let span = c.overlap_of_break_spans-span.result in
      let our_place = first_one (HasPlaces found) our _ c.loop-ours.ours.now c.in-Some.ensures.cases.0 placed.0 in
      let their_place = first_one (HasPlaces found) their _ c.loop-ours.theirs.now c.in-Some-split_first.ensures.cases.0 placed.1.0 in
      let both = c.overlap_of_break_spans-span.ensures.places found our_place their_place in
      (c.break_spans_from_here-ours.ensures.places found placed.0, (c.break_spans_from_here-theirs.ensures.places found placed.1.0, All-same (HasPlaces found) c.push.new.self.items _ c.in_ok-push.ensures.items (All-push (HasPlaces found) c.loop-ours.done.items span placed.1.1 both)));
  few = grind (arith, common_steps);
}

pub returns-clause-tells : goal.returns-clause-tells
returns-clause-tells c = λ tolerance found before after apart our their ours theirs. (c.loop-ours.invariant.tells tolerance found before after apart our their ours theirs).1.1

pub returns-clause-places : goal.returns-clause-places
returns-clause-places c = λ found ours theirs. (c.loop-ours.invariant.places found ours theirs).1.1
