use Rattle.std.proofs.Common.{arith}
use Rattle.std.proofs.lemmas.Grind.{common_steps}
use Rattle.http_edge.proofs.Given.{refresh_refused}
use Rattle.http_edge.proofs.events.refresh_on_edge.Goals as goal

pub returns-else-is_edge_out_of_memory : goal.returns-else-is_edge_out_of_memory
returns-else-is_edge_out_of_memory c given h = grind (arith, common_steps, refresh_refused)
