-- What proofs and inner functions say with the definitions of `Replies`.
use Rattle.live_channel.specs.declared.channel.ChannelFault.{ChannelFault}
use Rattle.live_channel.specs.declared.channel.ChannelFault.TheVariants as made
use Rattle.http_messages.specs.declared.message.Reply.{Reply}
use Rattle.http_messages.specs.Replies.{bare}
use Rattle.channel_api.specs.Replies.{bad_base, bad_tolerance}

-- ---- making a channel

abbrev pub edge_reply_of_channel_fault : ChannelFault → Reply
edge_reply_of_channel_fault made.BadBase = bad_base
edge_reply_of_channel_fault made.BadTolerance = bad_tolerance
edge_reply_of_channel_fault made.OutOfMemory = bare 503
