use Rattle.channel_spec.proofs.RunPods.{fallback_fills}
use Rattle.channel_spec.proofs.owed_fallback_fills.Goals as goal

pub returns : goal.returns
returns c = fallback_fills
