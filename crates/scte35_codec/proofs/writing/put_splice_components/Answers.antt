use Rattle.std.proofs.Common.{None, arith}
use Rattle.std.proofs.lemmas.Grind.{common_steps}
use Rattle.scte35_codec.proofs.Lengths.{components_more}
use Rattle.scte35_codec.proofs.Appends.{Appends-then}
use Rattle.scte35_codec.proofs.writing.put_splice_components.Goals as goal

pub loop-component-preserved : goal.loop-component-preserved
loop-component-preserved c =
    let more = components_more c.args.components.now c.loop-component.component-index (0, None) c.loop-component-test.true in
    let one = Appends-then c.in_ok-put_splice_u8.ensures c.in_ok-put_optional_splice_time.ensures in
    grind (arith, common_steps, Appends-then)
