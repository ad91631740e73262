use Rattle.std.proofs.Common.{◌≡◌, arith}
use Rattle.std.proofs.lemmas.Grind.{common_steps}
use Rattle.channel_api.specs.Replies.{reply_line}
use Rattle.live_channel.specs.declared.channel.ChannelFault.{ChannelFault}
use Rattle.live_channel.specs.declared.channel.ChannelFault.TheVariants.{OutOfMemory}
use Rattle.live_channel.specs.FaultTexts.{channel_fault_text}
use Rattle.http_edge.specs.Inner.Replies.{edge_reply_of_channel_fault}
use Rattle.http_edge.proofs.replies.edge_reply_of_channel_fault.Goals as goal

told : (fault : ChannelFault) → (fault ≡ OutOfMemory → ⊥) → reply_line 422 (channel_fault_text fault) ≡ edge_reply_of_channel_fault fault
told fault other = grind arith

pub returns-in_default-clause-reply : goal.returns-in_default-clause-reply
returns-in_default-clause-reply c = grind (arith, common_steps)
