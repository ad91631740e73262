use Rattle.http_edge.proofs.Runs.{isolated_runs}
use Rattle.http_edge.proofs.laws.runs_are_isolated.Goals as goal

pub returns : goal.returns
returns c = isolated_runs
