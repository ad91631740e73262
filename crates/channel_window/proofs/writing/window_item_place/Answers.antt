use Rattle.std.proofs.Common.{arith}
use Rattle.std.proofs.lemmas.Grind.{common_steps}
use Rattle.channel_window.proofs.Passing.{front_known_previous}
use Rattle.channel_window.proofs.Starting.{place_found}
use Rattle.channel_window.proofs.writing.window_item_place.Goals as goal

pub newest_run_place-requires-clause-runs : goal.newest_run_place-requires-clause-runs
newest_run_place-requires-clause-runs c = grind (arith, common_steps, front_known_previous)

pub returns : goal.returns
returns c = grind (arith, common_steps, place_found)
