-- What the program's words ask for.
use Rattle.std.specs.Prelude.{ℕ, ◌||◌, ◌==◌, nat_lt, List, [], ◌∷◌, codes, Option, Some, None, bytes_eq, if◌then◌else◌}
use Rattle.std.specs.Option.{option_copied}
use Rattle.attr_list.specs.Numbers.{decimal_of}
use Rattle.command_line.specs.declared.Command.{Command}
use Rattle.command_line.specs.declared.Command.TheVariants.{Vod, Live}

-- one playlist of this base with the decision file at this path, if there is one; or a server on this port, for so many
-- connections
pub data AskedCommand : Type 0 where
  vod_of : List ℕ → Option (List ℕ) → AskedCommand
  live_on : ℕ → ℕ → AskedCommand

abbrev pub asked : Command → AskedCommand
asked (Vod base decisions) = vod_of base.now (option_copied decisions)
asked (Live port count) = live_on port count

abbrev pub vod_said : List ℕ → List ℕ → Option (List ℕ) → Option AskedCommand
vod_said verb base decisions = if bytes_eq verb (codes "vod") then Some (vod_of base decisions) else None

-- from 1 to 65535
abbrev pub port_said : Option ℕ → Option ℕ
port_said None = None
port_said (Some n) = if n == 0 || nat_lt 65535 n then None else Some n

-- from 0 to 4294967295
abbrev pub count_said : Option ℕ → Option ℕ
count_said None = None
count_said (Some n) = if nat_lt 4294967295 n then None else Some n

abbrev pub both_said : Option ℕ → Option ℕ → Option AskedCommand
both_said (Some port) (Some count) = Some (live_on port count)
both_said None count = None
both_said (Some port) None = None

abbrev pub live_said : List ℕ → List ℕ → Option AskedCommand
live_said port count = both_said (port_said (decimal_of port)) (count_said (decimal_of count))

-- `vod BASE`, `vod BASE DECISIONS` or `live PORT COUNT`; all else is usage
abbrev pub asked_by : List (List ℕ) → Option AskedCommand
asked_by (verb ∷ base ∷ []) = vod_said verb base None
asked_by (verb ∷ first ∷ second ∷ []) =
    if bytes_eq verb (codes "live") then live_said first second else vod_said verb first (Some second)
asked_by _ = None
