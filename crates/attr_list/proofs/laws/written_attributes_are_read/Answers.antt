use Rattle.attr_list.proofs.Grammar.{written_is_read}
use Rattle.attr_list.proofs.laws.written_attributes_are_read.Goals as goal

pub returns : goal.returns
returns c = written_is_read
