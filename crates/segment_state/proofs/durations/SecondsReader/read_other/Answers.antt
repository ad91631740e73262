use Rattle.std.proofs.Common.{ap, ◌∙◌, length}
use Rattle.fixed_duration.specs.Duration.{duration_of}
use Rattle.segment_state.proofs.Fronts.{front_states}
use Rattle.segment_state.proofs.durations.SecondsReader.read_other.Goals as goal

pub invariant_of-self : goal.invariant_of-self
invariant_of-self c =
    let seconds = c.duration_tag_parts.ensures.front in
    let front = c.in-Some.ensures.cases in
    front_states c.args.text.now c.in-Some.front.now c.in-Ok.nanos (length c.duration_tag_parts.result.0.now) (ap length seconds) front.0 front.2 (c.in-Ok.ensures ∙ ap duration_of seconds)
