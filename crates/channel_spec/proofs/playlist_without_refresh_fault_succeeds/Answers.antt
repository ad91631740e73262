use Rattle.channel_spec.proofs.Decided.{no_fault_succeeds}
use Rattle.channel_spec.proofs.playlist_without_refresh_fault_succeeds.Goals as goal

pub returns : goal.returns
returns c = no_fault_succeeds
