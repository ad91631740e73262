use Rattle.std.proofs.Common.{arith}
use Rattle.std.proofs.lemmas.Bool.{eqb-true}
use Rattle.std.proofs.lemmas.Grind.{common_steps}
use Rattle.segment_state.proofs.KeyLemmas.{others_stay_at}
use Rattle.segment_state.proofs.keys.put_key_in_reader_state.Goals as goal

pub returns-clause-same : goal.returns-clause-same
returns-clause-same c = λ other is.
    let kept = c.places_kept_in_reader_state.ensures other is in
    let count = eqb-true _ _ kept.0 in
    let replaced = kept.1 in
    others_stay_at c.args.key c.args.key.format c.args.keys.now.items c.remove_key_format_in_reader_state.new.keys.items c.insert.new.self.items c.place_of_key_in_reader_state-place.result other
    (grind (arith, common_steps)) (grind (arith, common_steps, count)) (grind (arith, common_steps, replaced)) kept.2 (grind (arith, common_steps))
