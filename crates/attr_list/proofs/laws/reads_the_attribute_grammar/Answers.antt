use Rattle.attr_list.proofs.Grammar.{read_is_list, list_is_read, one_list}
use Rattle.attr_list.proofs.laws.reads_the_attribute_grammar.Goals as goal

pub returns : goal.returns
returns c = record { reads = λ text pairs. (read_is_list text pairs, list_is_read text pairs); one = one_list }
