use Rattle.channel_api.proofs.Fronts.{cut}
use Rattle.channel_api.proofs.routes.after_route_front.Goals as goal

pub returns : goal.returns
returns c = cut c.args.path.now c.get.result c.get.ensures.cases
