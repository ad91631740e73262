use Rattle.std.proofs.Common.{◌≡◌, arith}
use Rattle.std.specs.Prelude.{Some, None}
use Rattle.std.proofs.lemmas.Grind.{common_steps}
use Rattle.std.proofs.lemmas.List.Elements.{All-push, All-same, All-set}
use Rattle.channel_window.specs.Inner.Terms.{HasKnownTerms, HasStood}
use Rattle.channel_window.proofs.marking.note_known_break.Goals as goal

pub loop-known-preserved : goal.loop-known-preserved
loop-known-preserved c = record {
  terms = λ m all. All-same (HasKnownTerms m) _ _ c.in_ok-push.ensures.items (All-push (HasKnownTerms m) c.loop-known.known.items None (c.loop-known.invariant.terms m all) tt);
  stood = λ m done all. All-same (HasStood m done) _ _ c.in_ok-push.ensures.items (All-push (HasStood m done) c.loop-known.known.items None (c.loop-known.invariant.stood m done all) tt);
}

pub returns-in_err-push-clause-terms : goal.returns-in_err-push-clause-terms
returns-in_err-push-clause-terms c = λ m all has.
    let same : c.push.new.self.items ≡ c.loop-known.known.items = grind (arith, common_steps) in
    All-same (HasKnownTerms m) _ _ same (c.loop-known.invariant.terms m all)

pub returns-in_err-push-clause-stood : goal.returns-in_err-push-clause-stood
returns-in_err-push-clause-stood c = λ m done all has.
    let same : c.push.new.self.items ≡ c.loop-known.known.items = grind (arith, common_steps) in
    All-same (HasStood m done) _ _ same (c.loop-known.invariant.stood m done all)

pub returns-clause-terms : goal.returns-clause-terms
returns-clause-terms c = λ m all has. All-set (HasKnownTerms m) c.loop-known.known.items c.args.entered.place (Some c.args.entered) has (c.loop-known.invariant.terms m all)

pub returns-clause-stood : goal.returns-clause-stood
returns-clause-stood c = λ m done all has. All-set (HasStood m done) c.loop-known.known.items c.args.entered.place (Some c.args.entered) has (c.loop-known.invariant.stood m done all)
