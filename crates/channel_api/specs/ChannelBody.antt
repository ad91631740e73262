-- What the body of a request that makes a channel says: a JSON object with a base and a tolerance.
use Rattle.std.specs.Prelude.{◌≡◌, ℕ, ◌^◌, ◌-◌, List, codes, Option, Some, None, option_and_then, Result, Ok, Err, if◌then◌else◌}
use Rattle.std.specs.Str.{is_utf8}
use Rattle.serde_json.specs.Data.{Data}
use Rattle.serde_json.specs.Read.{read as read_text}
use Rattle.serde_json.specs.Find.{get, as_str}
use Rattle.fixed_duration.specs.Duration.{duration_of}
use Rattle.fixed_duration.specs.declared.DurationFault.{DurationFault}
use Rattle.channel_spec.specs.Limits.{default_tolerance}
use Rattle.channel_api.specs.declared.channel_body.BodyFault.{BodyFault}
use Rattle.channel_api.specs.declared.channel_body.BodyFault.TheVariants.{NotJson, Shape, OutOfMemory}

-- the JSON value of a body, as `serde_json` reads it
abbrev pub json_said : List ℕ → Option Data
json_said body = if is_utf8 body then read_text body else None

-- a text that is no duration is longer than any tolerance
abbrev pub nanos_or_most : Result ℕ DurationFault → ℕ
nanos_or_most (Ok n) = n
nanos_or_most (Err e) = 2 ^ 64 - 1

abbrev pub tolerance_text : Option (List ℕ) → Option ℕ
tolerance_text None = None
tolerance_text (Some text) = Some (nanos_or_most (duration_of text))

-- that of the channel's default if there is no member of this name
abbrev pub tolerance_said_by_channel_body : Option Data → Option ℕ
tolerance_said_by_channel_body None = Some default_tolerance
tolerance_said_by_channel_body (Some d) = tolerance_text (as_str d)

abbrev pub both_said : Option (List ℕ) → Option ℕ → Result (List ℕ × ℕ) BodyFault
both_said (Some base) (Some tolerance) = Ok (base, tolerance)
both_said None tolerance = Err Shape
both_said (Some base) None = Err Shape

abbrev pub wanted_channel_said : Data → Result (List ℕ × ℕ) BodyFault
wanted_channel_said d = both_said (option_and_then as_str (get (codes "base") d)) (tolerance_said_by_channel_body (get (codes "tolerance") d))

abbrev pub data_said : Option Data → Result (List ℕ × ℕ) BodyFault
data_said None = Err NotJson
data_said (Some d) = wanted_channel_said d

-- a base and a tolerance, or the fault
abbrev pub body_said : List ℕ → Result (List ℕ × ℕ) BodyFault
body_said body = data_said (json_said body)

-- the fault is the one owed, a failed allocation apart
abbrev pub RefusesBody : BodyFault → Result (List ℕ × ℕ) BodyFault → Type 0
RefusesBody OutOfMemory said = Unit {0}
RefusesBody NotJson said = said ≡ Err NotJson
RefusesBody Shape said = said ≡ Err Shape
