use Rattle.std.proofs.Common.{◌≡◌, ◌∙◌, ◌+◌, ◌<◌, List, [], ◌∷◌, ◌++◌, length, take, Some, None, refl, ap, subst, to_z, of_z, arith}
use mir.Syntax.{w128}
use Rattle.std.specs.Prelude.{◌≤ℤ◌, slice_get}
use Rattle.std.specs.List.{All}
use Rattle.std.proofs.lemmas.Bool.Decides.{nat_tests}
use Rattle.std.proofs.lemmas.Grind.{common_steps}
use Rattle.std.proofs.lemmas.Int.{ints, to_z-of_z}
use Rattle.std.proofs.lemmas.List.{take_all}
use Rattle.std.proofs.lemmas.List.Elements.{All-nil, All-push, All-same}
use Rattle.std.proofs.lemmas.Option.{slice_get_read}
use Rattle.break_finder.specs.Entrances.{Entrance, TellsEntrances}
use Rattle.break_finder.specs.Places.{HasPlaces}
use Rattle.break_finder.proofs.OrderedSpans.{AreOver, TellsUntil, none_over, one_step, last_gap, taken_more, gap_placed, window_placed}
use Rattle.break_finder.proofs.spans.break_spans_in_order.Goals as goal

pub loop-entrance-init : goal.loop-entrance-init
loop-entrance-init c = grind (arith, common_steps, All-same, All-nil, none_over)

pub loop-entrance-preserved : goal.loop-entrance-preserved
loop-entrance-preserved c =
    let list = c.args.list.now in
    let i = c.loop-entrance.entrance-index in
    let over = to_z w128 c.loop-entrance.over-bits in
    let e = c.entrance-item.result in
    let within = c.open_break_span-within.result in
    let is = c.open_break_span-within.ensures in
    let gap = c.closed_break_span.result in
    let from = to_z w128 (of_z w128 c.within.inside.from) in
    let to = to_z w128 (of_z w128 c.within.inside.to) in
    let below : i < length list = grind (arith, common_steps) in
    let next : take (i + 1) list ≡ take i list ++ e ∷ [] = taken_more list i e below c.entrance-item.is in
    let there : slice_get list c.loop-entrance.place ≡ Some e = ap (slice_get list) c.loop-entrance.invariant.place ∙ slice_get_read list (length list) i e refl below c.entrance-item.is in
    let from_is : within.from ≡ from = grind (arith, to_z-of_z) in
    let to_is : within.to ≡ to = grind (arith, to_z-of_z) in
    let late : over ≤ℤ from = grind (arith, ints, to_z-of_z, nat_tests) in
    let goes : from ≤ℤ to = grind (arith, ints, to_z-of_z, nat_tests) in
    let gap_from : gap.from ≡ over = grind (arith, to_z-of_z) in
    let gap_to : gap.to ≡ from = grind arith in
    let gap_none : gap.first ≡ None = grind arith in
    let new_is : c.push-in-loop-entrance.new.self.items ≡ (c.loop-entrance.spans.items ++ gap ∷ []) ++ within ∷ [] = grind (arith, common_steps) in
    let done = one_step c.args.tolerance (take i list) (take (i + 1) list) e over from to c.loop-entrance.spans.items c.push-in-loop-entrance.new.self.items gap within next
    c.loop-entrance.invariant.over c.loop-entrance.invariant.told is.window is.first is.second late goes from_is to_is gap_from gap_to gap_none new_is in
    let P = HasPlaces list in
    let one : P gap = gap_placed list gap (grind arith) (grind arith) in
    let two : P within = window_placed list within c.loop-entrance.place e there is.places.0 is.places.1 is.first in
    let all = All-push P (c.loop-entrance.spans.items ++ gap ∷ []) within (All-push P c.loop-entrance.spans.items gap c.loop-entrance.invariant.places one) two in
    record {
      place = grind arith;
      over = done.past;
      told = done.told;
      places = All-same P c.push-in-loop-entrance.new.self.items _ new_is all;
      count = grind (arith, common_steps);
    }

pub returns-clause-tells : goal.returns-clause-tells
returns-clause-tells c =
    let t = c.args.tolerance in
    let list = c.args.list.now in
    let i = c.loop-entrance.entrance-index in
    let over_at = to_z w128 c.loop-entrance.over-bits in
    let spans = c.loop-entrance.spans.items in
    let gap = c.closed_break_span-2.result in
    let whole : take i list ≡ list = take_all i list (omega arith) in
    let past = subst (λ (l : List Entrance). AreOver t l over_at) whole c.loop-entrance.invariant.over in
    let told = subst (λ (l : List Entrance). All (TellsUntil t l over_at) spans) whole c.loop-entrance.invariant.told in
    let gap_from : gap.from ≡ over_at = grind (arith, to_z-of_z) in
    let gap_none : gap.first ≡ None = grind arith in
    All-same (TellsEntrances t list) c.push-2.new.self.items _ c.in_ok-push-3.ensures.items (last_gap t list over_at spans gap past told gap_from gap_none)
