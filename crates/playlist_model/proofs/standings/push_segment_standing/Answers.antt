use Rattle.std.proofs.Common.{arith}
use Rattle.std.proofs.lemmas.Grind.{common_steps}
use Rattle.playlist_model.proofs.ComparedRows.{put_compared, put_last}
use Rattle.playlist_model.proofs.standings.push_segment_standing.Goals as goal

pub returns-clause-common : goal.returns-clause-common
returns-clause-common c =
    put_compared c.args.standings.now.items _ (record { numbers = c.args.numbers; uri_front = c.args.uri_front; keys = c.in_ok-clone.field-0; init_section = c.in_ok-clone-2.field-0; in_common = c.args.in_common; whole = c.whole.result }) c.args.in_common c.args.keys.now c.args.init_section.now (grind (arith, common_steps)) (grind (arith, common_steps)) (grind (arith, common_steps)) (grind (arith, common_steps)) c.requires.common c.requires.last (c.whole.ensures.common c.args.keys.now c.args.init_section.now c.is_some.ensures c.requires.last.own)

pub returns-clause-last : goal.returns-clause-last
returns-clause-last c =
    put_last c.args.standings.now.items _ (record { numbers = c.args.numbers; uri_front = c.args.uri_front; keys = c.in_ok-clone.field-0; init_section = c.in_ok-clone-2.field-0; in_common = c.args.in_common; whole = c.whole.result }) c.args.keys.now c.args.init_section.now c.args.uri_front (grind (arith, common_steps)) (grind (arith, common_steps)) (grind (arith, common_steps)) (grind (arith, common_steps))
