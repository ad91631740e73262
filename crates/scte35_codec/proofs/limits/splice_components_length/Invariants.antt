use Rattle.std.proofs.Common.{◌≡◌, ◌*◌, ◌≤◌, take}
use Rattle.std.specs.List.{flat_map}
use Rattle.scte35_codec.specs.Layout.{width}
use Rattle.scte35_codec.specs.Section.{component}
use Rattle.scte35_codec.proofs.limits.splice_components_length.Given as goal

abbrev pub invariant-loop-component : goal.invariant-loop-component
invariant-loop-component l =
    (8 * l.len ≡ width (flat_map component (take l.component-index l.components))) × (l.len ≤ 6 * l.component-index)
