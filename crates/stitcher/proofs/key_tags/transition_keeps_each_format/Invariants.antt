use Rattle.std.proofs.Common.{◌≡◌}
use Rattle.stitcher.specs.KeyTags.{keeps_formats}
use Rattle.stitcher.proofs.key_tags.transition_keeps_each_format.Given as goal

abbrev pub invariant-loop-key : goal.invariant-loop-key
invariant-loop-key l = keeps_formats l.key-iterator l.new ≡ keeps_formats l.initial.key-iterator l.new
