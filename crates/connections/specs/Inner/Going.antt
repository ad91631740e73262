-- What functions of a server do to its line.
use Rattle.std.specs.Prelude.{◌≡◌, List}
use Rattle.connections.specs.Lines.{LineState, LineEvent, line_after, CallEach, events_in}

-- these events, the newest first, lead from one line to another
pub record LineGoesOn (old new : LineState) : Type 0 where
  pub events : List LineEvent
  pub leads : new ≡ line_after old events

-- these rounds lead from one line to another, and one is called in each, at least
pub record RoundsGoOn (old new : LineState) : Type 0 where
  pub rounds : List (List LineEvent)
  pub leads : new ≡ line_after old (events_in rounds)
  pub called : CallEach rounds
