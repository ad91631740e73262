-- The replies that are owed, by what a channel was given.
use Rattle.std.specs.Prelude.{ℕ, List, Result, Ok, Err}
use Rattle.playlist_model.specs.Reading.{reading, limited}
use Rattle.break_finder.specs.Known.{known}
use Rattle.channel_spec.specs.declared.fault.RefreshFault.{RefreshFault}
use Rattle.live_channel.specs.declared.channel.Refreshed.{Refreshed}
use Rattle.live_channel.specs.Channel.{answer_read, after_bytes, owed_why}
use Rattle.http_messages.specs.declared.message.Reply.{Reply}
use Rattle.http_messages.specs.Replies.{bare}
use Rattle.channel_api.specs.Replies.{refused_refresh, decisions_reply, live_reply, why_text, reply_of_text}
use Rattle.http_edge.specs.Channels.{GivenChannel, told_of, owed_playlist_text}

-- ---- refreshes

abbrev pub refresh_reply : Result Refreshed RefreshFault → Reply
refresh_reply (Ok done) = bare 204
refresh_reply (Err fault) = refused_refresh fault

-- the reply that is owed to a refresh
abbrev pub refresh_owed : List ℕ → GivenChannel → Reply
refresh_owed bytes given = refresh_reply (answer_read given.tolerance (told_of given) (reading limited given.base bytes))

-- ---- decisions

-- the reply that is owed to a decision file
abbrev pub decisions_owed : List ℕ → GivenChannel → Reply
decisions_owed bytes given = decisions_reply (after_bytes (told_of given).store bytes)

-- ---- reads

abbrev pub live_owed : GivenChannel → Reply
live_owed given = live_reply (owed_playlist_text given)

-- the breaks that looking back over all refreshes finds known, each with the reason by all that was told
abbrev pub why_owed : GivenChannel → Reply
why_owed given = reply_of_text (why_text (owed_why (told_of given)) (known (told_of given).accepted))
