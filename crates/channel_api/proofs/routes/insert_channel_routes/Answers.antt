use Rattle.std.proofs.Common.{arith}
use Rattle.std.proofs.lemmas.Grind.{common_steps}
use Rattle.matchit.proofs.OnLiterals.{matchit_on_literals}
use Rattle.channel_api.proofs.Apart.{told}
use Rattle.channel_api.proofs.routes.insert_channel_routes.Goals as goal

pub returns-clause-rows : goal.returns-clause-rows
unfolding matchit_on_literals
returns-clause-rows c = grind (arith, common_steps)

pub returns-in_err-insert-clause-memory : goal.returns-in_err-insert-clause-memory
unfolding matchit_on_literals
returns-in_err-insert-clause-memory c = grind (arith, common_steps, told)

pub returns-in_err-insert-2-clause-memory : goal.returns-in_err-insert-2-clause-memory
unfolding matchit_on_literals
returns-in_err-insert-2-clause-memory c = grind (arith, common_steps, told)

pub returns-in_err-insert-3-clause-memory : goal.returns-in_err-insert-3-clause-memory
unfolding matchit_on_literals
returns-in_err-insert-3-clause-memory c = grind (arith, common_steps, told)

pub returns-in_err-insert-4-clause-memory : goal.returns-in_err-insert-4-clause-memory
unfolding matchit_on_literals
returns-in_err-insert-4-clause-memory c = grind (arith, common_steps, told)

pub returns-in_err-insert-5-clause-memory : goal.returns-in_err-insert-5-clause-memory
unfolding matchit_on_literals
returns-in_err-insert-5-clause-memory c = grind (arith, common_steps, told)
