use Rattle.std.proofs.Common.{refl}
use Rattle.worked_examples.proofs.OnLiterals.{on_literals}
use Rattle.worked_examples.proofs.paced_have_their_values.Goals as goal

pub returns-clause-breaks_go_through : goal.returns-clause-breaks_go_through
unfolding on_literals
returns-clause-breaks_go_through c = refl
