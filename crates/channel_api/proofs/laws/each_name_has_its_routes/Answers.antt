use Rattle.std.proofs.Common.{arith}
use Rattle.std.proofs.lemmas.Grind.{common_steps}
use Rattle.channel_api.proofs.NamedPaths.{each, other}
use Rattle.channel_api.proofs.laws.each_name_has_its_routes.Goals as goal

pub returns : goal.returns
returns c = grind (arith, common_steps, each, other)
