-- What a span of time tells of the breaks that are entered in it.
use Rattle.std.proofs.Common.{◌≡◌, ℕ, Bool, true, false, cond, not, ◌&&◌, List, [], ◌∷◌, ◌++◌, refl, sym, ap, ◌∙◌, Some, None, arith}
use Rattle.std.specs.Prelude.{Option, ℤ, ◌≤ℤ◌, ◌+ℤ◌, ◌-ℤ◌, pos, int_le, int_lt, option_map}
use Rattle.std.specs.Option.{option_or}
use Rattle.std.proofs.lemmas.Bool.{and_parts, and_from}
use Rattle.std.proofs.lemmas.Bool.Decides.{nat_tests}
use Rattle.std.specs.Int.{int_min}
use Rattle.std.proofs.lemmas.Int.{ints, clamps}
use Rattle.std.specs.List.{All}
use Rattle.std.proofs.lemmas.List.Elements.{All-same, All-head, All-cons, All-nil}
use Rattle.std.proofs.lemmas.List.Folds.{find-append}
use Rattle.std.proofs.lemmas.Slice.Eq.{bytes_eq-Decides}
use Rattle.break_finder.specs.Breaks.{is_near_break_start}
use Rattle.break_finder.specs.Known.{is_this_break}
use Rattle.break_finder.specs.Entrances.{Entrance, BreakSpan, entrance_id, first_entrance, is_within, is_in, break_entered_but_last, TellsEntrances}
use Rattle.break_finder.specs.Inner.Entrances.{is_enterable, second_break_entered}

-- ---- one break

one_step : (e : Entrance) (near early last : Bool) → option_map entrance_id (cond (near && early && not last) (Some e) None) ≡ cond (near && early) (cond last None (Some e.id)) None
one_step e true true true = refl
one_step e true true false = refl
one_step e true false last = refl
one_step e false early last = refl

-- if it can be entered, it is, if it isn't the last one entered
pub one_taken : (tolerance : ℕ) (last : Option (List ℕ)) (instant : ℤ) (e : Entrance) → first_entrance tolerance last instant (e ∷ []) ≡ cond (is_enterable tolerance instant e) (break_entered_but_last (Some e.id) None last) None
one_taken tolerance last instant e = grind arith

pub open_tells : (tolerance : ℕ) (e : Entrance) (span : BreakSpan) → span.first ≡ Some e.id → span.second ≡ None
    → ((instant : ℤ) → is_in span instant ≡ true → is_enterable tolerance instant e ≡ true) → TellsEntrances tolerance (e ∷ []) span
open_tells tolerance e span first second can instant last inside = grind arith

pub closed_tells : (tolerance : ℕ) (e : Entrance) (span : BreakSpan) → span.first ≡ None
    → ((instant : ℤ) → is_in span instant ≡ true → is_enterable tolerance instant e ≡ false) → TellsEntrances tolerance (e ∷ []) span
closed_tells tolerance e span first cannot instant last inside = grind arith

-- ---- more breaks

taken_step : (x y : Option Entrance) → option_map entrance_id (option_or x y) ≡ option_or (option_map entrance_id x) (option_map entrance_id y)
taken_step None y = refl
taken_step (Some e) y = refl

pub taken_append : (tolerance : ℕ) (last : Option (List ℕ)) (instant : ℤ) (before after : List Entrance)
    → first_entrance tolerance last instant (before ++ after) ≡ option_or (first_entrance tolerance last instant before) (first_entrance tolerance last instant after)
taken_append tolerance last instant before after = grind (arith, find-append, taken_step)

this_last : (id : List ℕ) (last : Option (List ℕ)) → is_this_break id last ≡ true → last ≡ Some id
this_last id last same = grind (arith, bytes_eq-Decides)

chosen_step : (id : List ℕ) (second first' second' last : Option (List ℕ)) (b : Bool) → is_this_break id last ≡ b
    → option_or (cond b second (Some id)) (break_entered_but_last first' second' last) ≡ cond b (option_or second (break_entered_but_last first' second' (Some id))) (Some id)
chosen_step id second first' second' last b same = grind (arith, this_last)

chosen : (first second first' second' last : Option (List ℕ))
    → option_or (break_entered_but_last first second last) (break_entered_but_last first' second' last) ≡ break_entered_but_last (option_or first first') (second_break_entered first second first' second') last
chosen first second first' second' last = grind (arith, chosen_step)

within_more : (from to from' to' instant : ℤ) → from ≤ℤ from' → to' ≤ℤ to → is_within from' to' instant ≡ true → is_within from to instant ≡ true
within_more from to from' to' instant low high inside = grind (arith, ints, nat_tests)

pub both_tell : (tolerance : ℕ) (before after : List Entrance) (a b span : BreakSpan)
    → a.from ≤ℤ span.from → b.from ≤ℤ span.from → span.to ≤ℤ a.to → span.to ≤ℤ b.to
    → span.first ≡ option_or a.first b.first → span.second ≡ second_break_entered a.first a.second b.first b.second
    → TellsEntrances tolerance before a → TellsEntrances tolerance after b → TellsEntrances tolerance (before ++ after) span
both_tell tolerance before after a b span from_a from_b to_a to_b first second one two instant last inside =
    taken_append tolerance last instant before after
    ∙ ap (λ x. option_or x (first_entrance tolerance last instant after)) (one instant last (within_more a.from a.to span.from span.to instant from_a to_a inside))
    ∙ ap (option_or (break_entered_but_last a.first a.second last)) (two instant last (within_more b.from b.to span.from span.to instant from_b to_b inside))
    ∙ chosen a.first a.second b.first b.second last
    ∙ sym (ap (λ x. break_entered_but_last x span.second last) first ∙ ap (λ x. break_entered_but_last (option_or a.first b.first) x last) second)

-- ---- the window of a break

same_tests : (a b : Bool) → (a ≡ true → b ≡ true) → (b ≡ true → a ≡ true) → a ≡ b
same_tests true true h k = refl
same_tests true false h k = sym (h refl)
same_tests false true h k = k refl
same_tests false false h k = refl

after_opening : (instant start : ℤ) (tolerance : ℕ) → is_near_break_start instant tolerance (Some start) ≡ true → int_le (start -ℤ pos tolerance) instant ≡ true
after_opening instant start tolerance near = grind (arith, ints, nat_tests)

not_late : (instant start : ℤ) (tolerance : ℕ) → is_near_break_start instant tolerance (Some start) ≡ true → int_lt instant (start +ℤ pos tolerance +ℤ pos 1) ≡ true
not_late instant start tolerance near = grind (arith, ints, nat_tests)

within_near : (instant start : ℤ) (tolerance : ℕ) → is_within (start -ℤ pos tolerance) (start +ℤ pos tolerance +ℤ pos 1) instant ≡ true → is_near_break_start instant tolerance (Some start) ≡ true
within_near instant start tolerance inside = grind (arith, ints, nat_tests)

low_end : (instant late end : ℤ) (tolerance : ℕ) → int_lt instant late ≡ true → int_lt (instant +ℤ pos tolerance) end ≡ true → int_lt instant (int_min late (end -ℤ pos tolerance)) ≡ true
low_end instant late end tolerance one two = grind (arith, ints, clamps, nat_tests)

below_late : (instant late end : ℤ) (tolerance : ℕ) → int_lt instant (int_min late (end -ℤ pos tolerance)) ≡ true → int_lt instant late ≡ true
below_late instant late end tolerance inside = grind (arith, ints, clamps, nat_tests)

below_end : (instant late end : ℤ) (tolerance : ℕ) → int_lt instant (int_min late (end -ℤ pos tolerance)) ≡ true → int_lt (instant +ℤ pos tolerance) end ≡ true
below_end instant late end tolerance inside = grind (arith, ints, clamps, nat_tests)

pub end_window : (instant start end : ℤ) (tolerance : ℕ)
    → (is_near_break_start instant tolerance (Some start) && int_lt (instant +ℤ pos tolerance) end)
    ≡ is_within (start -ℤ pos tolerance) (int_min (start +ℤ pos tolerance +ℤ pos 1) (end -ℤ pos tolerance)) instant
end_window instant start end tolerance =
    let late = start +ℤ pos tolerance +ℤ pos 1 in
    same_tests _ _
    (λ both. let parts = and_parts (is_near_break_start instant tolerance (Some start)) (int_lt (instant +ℤ pos tolerance) end) both in
    and_from _ _ (after_opening instant start tolerance parts.0) (low_end instant late end tolerance (not_late instant start tolerance parts.0) parts.1))
    (λ inside. let parts = and_parts (int_le (start -ℤ pos tolerance) instant) (int_lt instant (int_min late (end -ℤ pos tolerance))) inside in
    and_from _ _ (within_near instant start tolerance (and_from _ _ parts.0 (below_late instant late end tolerance parts.1))) (below_end instant late end tolerance parts.1))

-- ---- lists of spans

pub first_one : {X : Type 0} (P : X → Type 0) (x : X) (rest xs : List X) → xs ≡ x ∷ rest → All P xs → P x
first_one P x rest xs is all = All-head P x rest (All-same P (x ∷ rest) xs (sym is) all)

pub three_tell : (tolerance : ℕ) (e : Entrance) (before within after : BreakSpan) (spans : List BreakSpan) → spans ≡ before ∷ within ∷ after ∷ []
    → before.to ≡ within.from → before.first ≡ None → after.from ≡ within.to → after.first ≡ None
    → within.first ≡ Some e.id → within.second ≡ None
    → ((instant : ℤ) → is_enterable tolerance instant e ≡ is_in within instant)
    → All (TellsEntrances tolerance (e ∷ [])) spans
three_tell tolerance e before within after spans these low before_none high after_none first second window =
    let P = TellsEntrances tolerance (e ∷ []) in
    let one : P before = closed_tells tolerance e before before_none (λ instant inside. window instant ∙ too_early before.from within.from within.to instant (ap (λ to. is_within before.from to instant) (sym low) ∙ inside)) in
    let two : P within = open_tells tolerance e within first second (λ instant inside. window instant ∙ inside) in
    let three : P after = closed_tells tolerance e after after_none (λ instant inside. window instant ∙ too_late within.from within.to after.to instant (ap (λ from. is_within from after.to instant) (sym high) ∙ inside)) in
    All-same P spans (before ∷ within ∷ after ∷ []) these (All-cons P before (within ∷ after ∷ []) one (All-cons P within (after ∷ []) two (All-cons P after [] three (All-nil P))))
  where
    too_early : (low from to instant : ℤ) → is_within low from instant ≡ true → is_within from to instant ≡ false
    too_early low from to instant inside = grind (arith, ints, nat_tests)

    too_late : (from to high instant : ℤ) → is_within to high instant ≡ true → is_within from to instant ≡ false
    too_late from to high instant inside = grind (arith, ints, nat_tests)
