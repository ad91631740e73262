use Rattle.live_channel.proofs.Steps.{all_given}
use Rattle.live_channel.proofs.laws.given_to_live_channel_is_sound.Goals as goal

pub returns : goal.returns
returns c = all_given
