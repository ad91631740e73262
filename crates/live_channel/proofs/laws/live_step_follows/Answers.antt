use Rattle.live_channel.proofs.Steps.{step_follows, steps_refresh}
use Rattle.live_channel.proofs.laws.live_step_follows.Goals as goal

pub returns-clause-step : goal.returns-clause-step
returns-clause-step c = step_follows

pub returns-clause-refresh : goal.returns-clause-refresh
returns-clause-refresh c = steps_refresh
