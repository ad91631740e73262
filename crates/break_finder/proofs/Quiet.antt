-- If no break is entered in a span, no segment in it enters one.
use Rattle.std.proofs.Common.{◌≡◌, ℕ, ℤ, true, List, sym, ap, ◌∙◌, Some, None, arith}
use Rattle.std.specs.Prelude.{Option, is_none}
use Rattle.pod_store.specs.Store.{Store}
use Rattle.break_finder.specs.Breaks.{Break}
use Rattle.break_finder.specs.Entering.{EntryLimits, entered}
use Rattle.break_finder.specs.Entrances.{Entrance, BreakSpan, TellsEntrances, break_entered_but_last, entrances_in, is_in, is_within, first_entrance}
use Rattle.break_finder.proofs.FirstEntered.{first_entered}

pub none_taken : (tolerance : ℕ) (found : List Entrance) (span : BreakSpan) (instant : ℤ) (last : Option (List ℕ)) → TellsEntrances tolerance found span → is_in span instant ≡ true → is_none span.first ≡ true
    → first_entrance tolerance last instant found ≡ None
none_taken tolerance found span instant last tells inside closed = grind arith

pub none_entered : (m : EntryLimits) (tolerance : ℕ) (found : List Entrance) (store : Store) (breaks : List Break) (instant : ℤ)
    → ((last : Option (List ℕ)) → first_entrance tolerance last instant found ≡ None) → m.tolerance ≡ tolerance → found ≡ entrances_in m.target_duration m.with_init_sections store breaks
    → entered m store breaks (Some instant) ≡ None
none_entered m tolerance found store breaks instant none same these =
    sym (first_entered m store breaks instant)
    ∙ (ap (first_entrance m.tolerance m.last instant) (sym these) ∙ (ap (λ t. first_entrance t m.last instant found) same ∙ none m.last))

-- nor does one in a span in which the last break entered is the only one
pub none_within : (m : EntryLimits) (tolerance : ℕ) (found : List Entrance) (store : Store) (breaks : List Break) (span : BreakSpan) (last : Option (List ℕ)) (instant : ℤ)
    → TellsEntrances tolerance found span → break_entered_but_last span.first span.second last ≡ None → m.tolerance ≡ tolerance → m.last ≡ last → found ≡ entrances_in m.target_duration m.with_init_sections store breaks
    → is_within span.from span.to instant ≡ true → entered m store breaks (Some instant) ≡ None
none_within m tolerance found store breaks span last instant tells none same is these inside =
    sym (first_entered m store breaks instant)
    ∙ (ap (first_entrance m.tolerance m.last instant) (sym these)
    ∙ (ap (λ t. first_entrance t m.last instant found) same ∙ (ap (λ l. first_entrance tolerance l instant found) is ∙ (tells instant last inside ∙ none))))
