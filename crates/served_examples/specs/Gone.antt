-- What the law of isolation says of a run in which a client goes once it was answered.
use Rattle.std.specs.Prelude.{ℕ, true, List, [], ◌∷◌}
use Rattle.http_messages.specs.Requests.{Asks}
use Rattle.http_messages.specs.Replies.{bare, text_sent}
use Rattle.connections.specs.Isolation.{IsIsolatedRun}
use Rattle.connections.specs.Runs.{EventsLeadTo}
use Rattle.connections.specs.Table.{State, ClientEvent, arrival, request_bytes, reply_bytes, departure}
use Rattle.served_examples.specs.Answers.{make}

-- what tells a client that its channel was made
abbrev pub told : List ℕ
told = text_sent true (bare 201)

-- a client asks for a channel, is told that it was made, and goes; another one asks for the same channel, and is told the same
abbrev pub made_twice : List ℕ → List ClientEvent
made_twice ask =
    reply_bytes 1 told ∷ request_bytes 1 ask ∷ arrival 1 ∷ departure 0 ∷ reply_bytes 0 told ∷ request_bytes 0 ask ∷ arrival 0 ∷ []

-- no run is so that the law holds of: who has gone counts
abbrev pub ChannelsAreMadeOnce : Type 0
ChannelsAreMadeOnce =
    (ask : List ℕ) → Asks ask make → (first last : State) (run : EventsLeadTo first (made_twice ask) last) → IsIsolatedRun first (made_twice ask) last run → ⊥
