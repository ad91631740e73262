-- The date ranges that are left.
use Rattle.std.proofs.Common.{◌≡◌, ℕ, List, map, filter, not, ap, sym, ◌∙◌, Ok, Err, arith}
use Rattle.std.specs.Prelude.{Bool, true, Result, IfOk}
use Rattle.playlist_model.specs.declared.DateRange.{DateRange}
use Rattle.pod_store.specs.Store.{is_one_of}
use Rattle.break_finder.proofs.TagIds.{filter_same}
use Rattle.channel_spec.specs.Live.{date_range_text, date_ranges_left}
use Rattle.channel_window.specs.Inner.Listed.{date_range_texts_left_in_window}

-- the date ranges of other breaks than those of a set, if these are in it
pub left_alike : (ids set : List (List ℕ)) (date_ranges : List DateRange) → ((id : List ℕ) → is_one_of set id ≡ is_one_of ids id)
    → date_range_texts_left_in_window set date_ranges ≡ map date_range_text (filter (λ (r : DateRange). not (is_one_of ids r.id)) date_ranges)
left_alike ids set date_ranges same = grind (arith, filter_same)

-- if one of the items states a time
pub left_timed : {V E : Type 0} (items : V → List (List ℕ)) (result : Result V E) (timed : Bool) (ids set : List (List ℕ)) (date_ranges : List DateRange) → timed ≡ true
    → ((id : List ℕ) → is_one_of set id ≡ is_one_of ids id) → IfOk result (λ v. items v ≡ date_range_texts_left_in_window set date_ranges)
    → IfOk result (λ v. items v ≡ map date_range_text (date_ranges_left timed ids date_ranges))
left_timed items (Ok v) timed ids set date_ranges t same h =
    h ∙ (left_alike ids set date_ranges same ∙ sym (ap (λ b. map date_range_text (date_ranges_left b ids date_ranges)) t))
left_timed items (Err e) timed ids set date_ranges t same h = tt
