-- What is kept of segments: their stack, or nothing if nothing is reckoned back.
use Rattle.std.proofs.Common.{◌≡◌, ◌+◌, true, List, [], ◌∷◌, ◌++◌, length, refl, sym, ap, ◌∙◌, arith, ℤ, length-append}
use Rattle.std.specs.Prelude.{Option, None, Some, option_map, is_none, replicate}
use Rattle.std.specs.List.{list_all}
use Rattle.std.proofs.lemmas.Bool.{and_parts}
use Rattle.std.proofs.lemmas.List.{same_from_push}
use Rattle.playlist_model.specs.Segments.{Segment}
use Rattle.playlist_model.specs.Instants.{bounded, reckoned_back, ends_at, instants_after}
use Rattle.playlist_model.specs.LookBack.{or_earlier}
use Rattle.timeline.specs.Inner.Reckoned.{is_beginning_unstated}
use Rattle.timeline.specs.Reckoned.{clamped, reckoned, stack_of, IsKeptStack}

-- ---- what is kept

unstated : (s : Segment) (later : List Segment) → is_none s.program_date_time ≡ true → reckoned_back later ≡ None → reckoned_back (s ∷ later) ≡ None
unstated s later here e = grind (arith, here, e)

none_back : (segments : List Segment) → list_all is_beginning_unstated segments ≡ true → reckoned_back segments ≡ None
none_back [] h = refl
none_back (s ∷ later) h = unstated s later (and_parts _ _ h).0 (none_back later (and_parts _ _ h).1)

pub unstated_kept : (segments : List Segment) → list_all is_beginning_unstated segments ≡ true → IsKeptStack [] segments
unstated_kept segments h = ap (λ back. option_map clamped back) (none_back segments h)

pub stack_kept : (segments : List Segment) (kept : List (Option ℤ)) → kept ≡ stack_of segments → IsKeptStack kept segments
stack_kept [] [] e = refl
stack_kept (s ∷ later) [] e =
    let none : 0 ≡ length (stack_of later) + 1 = ap (λ kept. length kept) e ∙ length-append (stack_of later) (reckoned (s ∷ later) ∷ []) in
    grind (arith, none)
stack_kept segments (first ∷ kept) e = e

-- ---- what is kept after the first segment

pub none_first : (s : Segment) (later : List Segment) → IsKeptStack [] (s ∷ later) → None ≡ reckoned (s ∷ later)
none_first s later h = sym h

pub none_others : (s : Segment) (later : List Segment) → IsKeptStack [] (s ∷ later) → IsKeptStack [] later
none_others s later h = grind (arith, h)

whole : (kept : List (Option ℤ)) (first : Option ℤ) (s : Segment) (later : List Segment) → IsKeptStack (kept ++ first ∷ []) (s ∷ later)
    → kept ++ first ∷ [] ≡ stack_of later ++ reckoned (s ∷ later) ∷ []
whole [] first s later h = h
whole (other ∷ kept) first s later h = h

pub popped_first : (kept : List (Option ℤ)) (first : Option ℤ) (s : Segment) (later : List Segment) → IsKeptStack (kept ++ first ∷ []) (s ∷ later) → first ≡ reckoned (s ∷ later)
popped_first kept first s later h = (same_from_push kept (stack_of later) first (reckoned (s ∷ later)) (whole kept first s later h)).1

pub popped_others : (kept : List (Option ℤ)) (first : Option ℤ) (s : Segment) (later : List Segment) → IsKeptStack (kept ++ first ∷ []) (s ∷ later) → IsKeptStack kept later
popped_others kept first s later h = stack_kept later kept (same_from_push kept (stack_of later) first (reckoned (s ∷ later)) (whole kept first s later h)).0

-- ---- if no time is stated

none_here : (s : Segment) (later : List Segment) → is_none s.program_date_time ≡ true → reckoned_back (s ∷ later) ≡ None → bounded (or_earlier s.program_date_time (or_earlier None (reckoned_back (s ∷ later)))) ≡ None
none_here s later here e = grind (arith, here, e)

none_on : (s : Segment) (later : List Segment) (begun : Option ℤ) → begun ≡ None → instants_after None later ≡ replicate (length later) None
    → begun ∷ instants_after (ends_at begun s.duration) later ≡ replicate (length (s ∷ later)) None
none_on s later None e h = ap (λ instants. None ∷ instants) h
none_on s later (Some begun) e h = absurd (cc e)

-- no segment begins at a known instant
pub none_begin : (segments : List Segment) → list_all is_beginning_unstated segments ≡ true → instants_after None segments ≡ replicate (length segments) None
none_begin [] h = refl
none_begin (s ∷ later) h = none_on s later _ (none_here s later (and_parts _ _ h).0 (none_back (s ∷ later) h)) (none_begin later (and_parts _ _ h).1)
