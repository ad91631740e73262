use Rattle.std.proofs.Common.{◌≡◌, ◌∷◌, ◌++◌, [], ℕ, List, refl, subst, sym, arith}
use Rattle.std.specs.Prelude.{Option, Some}
use Rattle.std.proofs.lemmas.Grind.{common_steps}
use Rattle.break_finder.specs.Places.{IsPlacedAt}
use Rattle.channel_window.specs.declared.marking.KnownBreak.{KnownBreak}
use Rattle.channel_window.specs.Inner.Terms.{window_entrances}
use Rattle.channel_window.proofs.KnownBreaks.{again_since, all_stood_on, stood_next, terms_here}
use Rattle.channel_window.proofs.marking.Marker.enter.Goals as goal

pub returns-in_default-clause-stood : goal.returns-in_default-clause-stood
returns-in_default-clause-stood c = λ done h long all is. all_stood_on c.args.self.now done h c.args.run.now.known.items all

pub returns-clause-noted : goal.returns-clause-noted
returns-clause-noted c =
    let m = c.args.self.now in
    let mark = c.args.mark.now in
    let at = subst (λ (o : Option ℕ). IsPlacedAt (window_entrances m) o mark) c.in-Some.is c.requires.placed in
    let known : KnownBreak = record { place = c.in-Some.place; terms = c.known_break-known.result.terms; at = c.args.count } in
    let terms = rw c.deref-2.ensures at c.known_break-known.ensures.terms in
    let is : ◌≡◌ {A = Option (List ℕ)} (Some c.in_ok-clone.field-0) mark = grind (arith, common_steps) in
    record {
      entered = is;
      placed = refl;
      terms = terms;
      known = c.in_ok-note_known_break.ensures.terms m c.requires.terms (terms_here m known mark at terms);
    }

pub returns-clause-again : goal.returns-clause-again
returns-clause-again c = λ done long all.
    again_since done c.known_break-known.result.at _ c.args.count c.args.mark.now (rw c.deref-2.ensures at (c.known_break-known.ensures.stood done long all)) long c.segments_since_entered.ensures

pub returns-clause-stood : goal.returns-clause-stood
returns-clause-stood c = λ done h long all is.
    let m = c.args.self.now in
    let mark = c.args.mark.now in
    let at = subst (λ (o : Option ℕ). IsPlacedAt (window_entrances m) o mark) c.in-Some.is c.requires.placed in
    let known : KnownBreak = record { place = c.in-Some.place; terms = c.known_break-known.result.terms; at = c.args.count } in
    c.in_ok-note_known_break.ensures.stood m (done ++ h ∷ []) (all_stood_on m done h c.args.run.now.known.items all) (stood_next m done h known mark (sym long) at is)
