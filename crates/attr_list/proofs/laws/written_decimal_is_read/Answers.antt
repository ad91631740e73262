use Rattle.attr_list.proofs.NumberLemmas.{written_decimal}
use Rattle.attr_list.proofs.laws.written_decimal_is_read.Goals as goal

pub returns : goal.returns
returns c = written_decimal
