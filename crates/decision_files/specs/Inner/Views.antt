-- What the parts that are read stand for.
use Rattle.decision_files.specs.declared.keys.Part.{Part}
use Rattle.decision_files.specs.Decided as said

abbrev pub view_of_part : Part → said.Part
view_of_part part = (part.uri, part.byte_range)
