use Rattle.attr_list.proofs.Grammar.{pieces_are_spellings}
use Rattle.attr_list.proofs.Slices.{slices_are_pieces}
use Rattle.attr_list.proofs.laws.attribute_slices_are_spellings.Goals as goal

pub returns : goal.returns
returns c = record { pieces = pieces_are_spellings; slices = slices_are_pieces }
