-- What is seen of a client's request before its bytes are read.
use Rattle.std.specs.Prelude.{ℕ, List, Option, Some, None}
use Rattle.http_messages.specs.Requests.{IsUnfinished}
use Rattle.http_edge.specs.Edges.{NamedChannel}
use Rattle.http_edge.specs.Served.{BeginsWithRead}
use Rattle.connections.specs.declared.table.Outlook.{Outlook}
use Rattle.connections.specs.declared.table.Outlook.TheVariants.{Part, Read, Turn}
use Rattle.connections.specs.Clients.{TakesTurnOf}

abbrev pub IsOutlook : List NamedChannel → List ℕ → Outlook → Type 0
IsOutlook edge bytes Part = IsUnfinished bytes
IsOutlook edge bytes Read = BeginsWithRead bytes
IsOutlook edge bytes (Turn channel) = TakesTurnOf edge bytes channel

-- by whose turn a whole request takes
abbrev pub outlook_of_request : Option ℕ → Outlook
outlook_of_request None = Read
outlook_of_request (Some channel) = Turn channel
