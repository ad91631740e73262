-- What becomes of a channel that is given one event more.
use Rattle.std.specs.Prelude.{◌≡◌, ℕ, List, Result, Ok, Err}
use Rattle.live_channel.specs.Channel.{Channel}
use Rattle.live_channel.specs.Channel as channel
use Rattle.http_messages.specs.declared.message.Reply.{Reply}
use Rattle.http_edge.specs.Channels.{GivenChannel, IsGiven, with_event}
use Rattle.http_edge.specs.Table.{Table, Turn, event_turn, given_at}

-- the turn of one event more for the channel of this name
abbrev pub event_at : List ℕ → channel.Given → (GivenChannel → Reply) → Table → Turn
event_at name event owed table = event_turn table name event owed (given_at name table)

-- the reply is the one owed, and the channel stands for the event too; a failed allocation leaves what it stood for
abbrev pub TakesOne : {E : Type 0} → channel.Given → (GivenChannel → Reply) → GivenChannel → Result Reply E → Channel → Type 0
TakesOne event owed given (Ok reply) new = (reply ≡ owed given) × IsGiven new (with_event event given)
TakesOne event owed given (Err e) new = IsGiven new given

-- whatever it stood for
abbrev pub TakesEvent : {E : Type 0} → Channel → channel.Given → (GivenChannel → Reply) → Result Reply E → Channel → Type 0
TakesEvent old event owed result new = (given : GivenChannel) → IsGiven old given → TakesOne event owed given result new
