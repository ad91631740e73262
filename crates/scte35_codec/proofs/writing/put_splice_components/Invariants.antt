use Rattle.std.proofs.Common.{take}
use Rattle.std.specs.List.{flat_map}
use Rattle.scte35_codec.specs.Section.{component}
use Rattle.scte35_codec.specs.Inner.Writing.{Appends}
use Rattle.scte35_codec.proofs.writing.put_splice_components.Given as goal

abbrev pub invariant-loop-component : goal.invariant-loop-component
invariant-loop-component l = Appends (flat_map component (take l.component-index l.components)) l.fn.out.items l.out.items
