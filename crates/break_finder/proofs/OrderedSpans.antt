-- The spans of breaks each of which can be entered only when none before it can be any more.
use Rattle.std.proofs.Common.{◌≡◌, ◌∙◌, ℕ, ℤ, true, false, cond, List, [], ◌∷◌, ◌++◌, refl, ap, Some, None, arith, take, ◌+◌, ◌<◌, length, get_or, sym, subst}
use Rattle.std.specs.Prelude.{Option, ◌≤ℤ◌, slice_get}
use Rattle.std.specs.Option.{option_or}
use Rattle.std.specs.List.{All}
use Rattle.std.proofs.lemmas.Bool.Decides.{nat_tests}
use Rattle.std.proofs.lemmas.Int.{ints}
use Rattle.std.proofs.lemmas.List.{take_more}
use Rattle.std.proofs.lemmas.List.Elements.{All-weaker, All-push}
use Rattle.break_finder.specs.Entrances.{Entrance, BreakSpan, first_entrance, is_within, is_in, break_entered_but_last, TellsEntrances}
use Rattle.break_finder.specs.Places.{HasPlaces, IsPlacedAt}
use Rattle.break_finder.specs.Inner.Entrances.{is_enterable}
use Rattle.break_finder.proofs.SpanLaws.{one_taken, taken_append, open_tells, closed_tells}

-- from this instant on none of these is entered
pub record AreOver (tolerance : ℕ) (before : List Entrance) (over : ℤ) : Type 0 where
  pub none : (instant : ℤ) (last : Option (List ℕ)) → over ≤ℤ instant → first_entrance tolerance last instant before ≡ None

-- a span tells which of these is entered, and ends by this instant
pub record TellsUntil (tolerance : ℕ) (found : List Entrance) (over : ℤ) (span : BreakSpan) : Type 0 where
  pub tells : TellsEntrances tolerance found span
  pub ends : span.to ≤ℤ over

pub none_over : (tolerance : ℕ) (over : ℤ) → AreOver tolerance [] over
none_over tolerance over = record { none = λ instant last late. refl }

or_none : (x : Option (List ℕ)) → option_or x None ≡ x
or_none None = refl
or_none (Some id) = refl

not_yet : (low high from to instant : ℤ) → high ≤ℤ from → is_within low high instant ≡ true → is_within from to instant ≡ false
not_yet low high from to instant early inside = grind (arith, ints, nat_tests)

no_more : (from to instant : ℤ) → to ≤ℤ instant → is_within from to instant ≡ false
no_more from to instant late = grind (arith, ints, nat_tests)

since : (from to instant : ℤ) → is_within from to instant ≡ true → from ≤ℤ instant
since from to instant inside = grind (arith, ints, nat_tests)

after_all : (a b c d : ℤ) → a ≤ℤ b → b ≤ℤ c → c ≤ℤ d → a ≤ℤ d
after_all a b c d one two three = grind (arith, ints)

-- when a break can be entered
abbrev pub IsWindow : ℕ → Entrance → BreakSpan → Type 0
IsWindow tolerance e span = (instant : ℤ) → is_enterable tolerance instant e ≡ is_in span instant

not_entered : (tolerance : ℕ) (e : Entrance) (instant : ℤ) (last : Option (List ℕ)) → is_enterable tolerance instant e ≡ false → first_entrance tolerance last instant (e ∷ []) ≡ None
not_entered tolerance e instant last cannot = one_taken tolerance last instant e ∙ ap (λ b. cond b (break_entered_but_last (Some e.id) None last) None) cannot

-- a break that can be entered only later leaves a span as it is
earlier : (tolerance : ℕ) (before : List Entrance) (e : Entrance) (within span : BreakSpan) → IsWindow tolerance e within → span.to ≤ℤ within.from
    → TellsEntrances tolerance before span → TellsEntrances tolerance (before ++ e ∷ []) span
earlier tolerance before e within span window early tells instant last inside =
    taken_append tolerance last instant before (e ∷ [])
    ∙ (ap (λ x. option_or (first_entrance tolerance last instant before) x) (not_entered tolerance e instant last (window instant ∙ not_yet span.from span.to within.from within.to instant early inside))
    ∙ (or_none (first_entrance tolerance last instant before) ∙ tells instant last inside))

-- a span that begins when the others are over tells of the break alone
alone : (tolerance : ℕ) (before : List Entrance) (e : Entrance) (over : ℤ) (span : BreakSpan) → AreOver tolerance before over → over ≤ℤ span.from
    → TellsEntrances tolerance (e ∷ []) span → TellsEntrances tolerance (before ++ e ∷ []) span
alone tolerance before e over span are late tells instant last inside =
    taken_append tolerance last instant before (e ∷ [])
    ∙ (ap (λ x. option_or x (first_entrance tolerance last instant (e ∷ []))) (are.none instant last (after_all over span.from span.from instant late (same span.from) (since span.from span.to instant inside)))
    ∙ tells instant last inside)
  where
    same : (a : ℤ) → a ≤ℤ a
    same a = grind (arith, ints)

-- the break is over after its window
pub over_then : (tolerance : ℕ) (before : List Entrance) (e : Entrance) (over : ℤ) (within : BreakSpan) → AreOver tolerance before over → IsWindow tolerance e within
    → over ≤ℤ within.from → within.from ≤ℤ within.to → AreOver tolerance (before ++ e ∷ []) within.to
over_then tolerance before e over within are window late goes = record {
  none = λ instant last past.
      taken_append tolerance last instant before (e ∷ [])
      ∙ (ap (λ x. option_or x (first_entrance tolerance last instant (e ∷ []))) (are.none instant last (after_all over within.from within.to instant late goes past))
      ∙ not_entered tolerance e instant last (window instant ∙ no_more within.from within.to instant past));
}

-- the spans after one break more: those that were there, the time until it can be entered, and its window
pub two_more : (tolerance : ℕ) (before : List Entrance) (e : Entrance) (over : ℤ) (spans : List BreakSpan) (gap within : BreakSpan) → AreOver tolerance before over → All (TellsUntil tolerance before over) spans
    → IsWindow tolerance e within → within.first ≡ Some e.id → within.second ≡ None → over ≤ℤ within.from → within.from ≤ℤ within.to
    → gap.from ≡ over → gap.to ≡ within.from → gap.first ≡ None
    → All (TellsUntil tolerance (before ++ e ∷ []) within.to) ((spans ++ gap ∷ []) ++ within ∷ [])
two_more tolerance before e over spans gap within are all window first second late goes gap_from gap_to gap_none =
    let P = TellsUntil tolerance (before ++ e ∷ []) within.to in
    let old = All-weaker (TellsUntil tolerance before over) P (λ span. λ told. record {
      tells = earlier tolerance before e within span window (through span.to over within.from told.ends late) told.tells;
      ends = after_all span.to over within.from within.to told.ends late goes;
    }) spans all in
    let one : P gap = record {
      tells = alone tolerance before e over gap are (from_equal over gap.from gap_from) (closed_tells tolerance e gap gap_none (λ instant inside. window instant ∙ not_yet gap.from gap.to within.from within.to instant (to_equal gap.to within.from gap_to) inside));
      ends = through gap.to within.from within.to (to_equal gap.to within.from gap_to) goes;
    } in
    let two : P within = record {
      tells = alone tolerance before e over within are late (open_tells tolerance e within first second (λ instant inside. window instant ∙ inside));
      ends = to_equal within.to within.to refl;
    } in
    All-push P (spans ++ gap ∷ []) within (All-push P spans gap old one) two
  where
    through : (a b c : ℤ) → a ≤ℤ b → b ≤ℤ c → a ≤ℤ c
    through a b c one two = grind (arith, ints)

    from_equal : (a b : ℤ) → b ≡ a → a ≤ℤ b
    from_equal a b is = grind (arith, ints)

    to_equal : (a b : ℤ) → a ≡ b → a ≤ℤ b
    to_equal a b is = grind (arith, ints)

-- all spans, with the time after the last break
pub last_gap : (tolerance : ℕ) (list : List Entrance) (over : ℤ) (spans : List BreakSpan) (gap : BreakSpan) → AreOver tolerance list over → All (TellsUntil tolerance list over) spans
    → gap.from ≡ over → gap.first ≡ None → All (TellsEntrances tolerance list) (spans ++ gap ∷ [])
last_gap tolerance list over spans gap are all gap_from gap_none =
    let P = TellsEntrances tolerance list in
    let one : P gap = λ instant last inside. are.none instant last (late over gap.from gap.to instant gap_from inside) ∙ nothing gap.first gap.second last gap_none in
    All-push P spans gap (All-weaker (TellsUntil tolerance list over) P (λ span. λ told. told.tells) spans all) one
  where
    late : (over from to instant : ℤ) → from ≡ over → is_within from to instant ≡ true → over ≤ℤ instant
    late over from to instant is inside = grind (arith, ints, nat_tests)

    nothing : (first second last : Option (List ℕ)) → first ≡ None → None ≡ break_entered_but_last first second last
    nothing first second last is = grind arith

-- what is so of the spans after some breaks
pub record IsDone (tolerance : ℕ) (before : List Entrance) (over : ℤ) (spans : List BreakSpan) : Type 0 where
  pub past : AreOver tolerance before over
  pub told : All (TellsUntil tolerance before over) spans

pub one_step : (tolerance : ℕ) (before next : List Entrance) (e : Entrance) (over from to : ℤ) (spans new : List BreakSpan) (gap within : BreakSpan) → next ≡ before ++ e ∷ []
    → AreOver tolerance before over → All (TellsUntil tolerance before over) spans
    → IsWindow tolerance e within → within.first ≡ Some e.id → within.second ≡ None → over ≤ℤ from → from ≤ℤ to → within.from ≡ from → within.to ≡ to
    → gap.from ≡ over → gap.to ≡ from → gap.first ≡ None → new ≡ (spans ++ gap ∷ []) ++ within ∷ [] → IsDone tolerance next to new
one_step tolerance before next e over from to spans new gap within next_is are all window first second late goes from_is to_is gap_from gap_to gap_none new_is =
    let later : over ≤ℤ within.from = subst (λ (z : ℤ). over ≤ℤ z) (sym from_is) late in
    let onward : within.from ≤ℤ within.to = subst (λ (z : ℤ). z ≤ℤ within.to) (sym from_is) (subst (λ (z : ℤ). from ≤ℤ z) (sym to_is) goes) in
    let over_now = over_then tolerance before e over within are window later onward in
    let told_now = two_more tolerance before e over spans gap within are all window first second later onward gap_from (gap_to ∙ sym from_is) gap_none in
    subst (λ (l : List BreakSpan). IsDone tolerance next to l) (sym new_is)
    (subst (λ (l : List Entrance). IsDone tolerance l to ((spans ++ gap ∷ []) ++ within ∷ [])) (sym next_is)
    (subst (λ (z : ℤ). IsDone tolerance (before ++ e ∷ []) z ((spans ++ gap ∷ []) ++ within ∷ [])) to_is (record { past = over_now; told = told_now })))

pub taken_more : (list : List Entrance) (i : ℕ) (e : Entrance) → i < length list → e ≡ get_or list i e → take (i + 1) list ≡ take i list ++ e ∷ []
taken_more list i e below is = take_more list i e below ∙ ap (λ (x : Entrance). take i list ++ x ∷ []) (sym is)

-- ---- places

pub gap_placed : (found : List Entrance) (span : BreakSpan) → span.first_place ≡ None → span.second_place ≡ None → HasPlaces found span
gap_placed found span first second = record {
  first = subst (λ (place : Option ℕ). IsPlacedAt found place span.first) (sym first) tt;
  second = subst (λ (place : Option ℕ). IsPlacedAt found place span.second) (sym second) tt;
}

pub window_placed : (found : List Entrance) (span : BreakSpan) (place : ℕ) (e : Entrance) → slice_get found place ≡ Some e → span.first_place ≡ Some place → span.second_place ≡ None → span.first ≡ Some e.id
    → HasPlaces found span
window_placed found span place e there first second id = record {
  first = subst (λ (at : Option ℕ). IsPlacedAt found at span.first) (sym first) (e, there, id);
  second = subst (λ (at : Option ℕ). IsPlacedAt found at span.second) (sym second) tt;
}
