use Rattle.std.proofs.Common.{◌≡◌, true}
use Rattle.playlist_model.specs.declared.Key.{Key}
use Rattle.playlist_model.specs.InCommon.{AreSameAt}
use Rattle.stitcher.specs.KeyTags.{has_its_format, keeps_formats}
use Rattle.stitcher.proofs.key_tags.transition_keeps_formats_in_front.Given as goal

abbrev pub invariant-loop-key : goal.invariant-loop-key
invariant-loop-key l = record {
  kept : keeps_formats l.key-iterator l.new ≡ true → keeps_formats l.initial.key-iterator l.new ≡ true;
  among : (key : Key) → has_its_format l.others key ≡ true → has_its_format l.new key ≡ true;
  same : AreSameAt l.places l.key-iterator l.others;
}
