-- What is known of a request that comes in pieces.
use Rattle.std.specs.Prelude.{◌≡◌, ℕ, Bool, List, codes, bytes_eq}
use Rattle.http_messages.specs.declared.arriving.Arrived.{Arrived}
use Rattle.http_messages.specs.declared.arriving.Arrived.TheVariants.{Whole, More}
use Rattle.http_messages.specs.declared.arriving.Foreseen.{Foreseen}
use Rattle.http_messages.specs.declared.arriving.Foreseen.TheVariants.{Part, Refused}
use Rattle.http_messages.specs.declared.arriving.Foreseen.TheVariants as foreseen
use Rattle.http_messages.specs.declared.message.Request.{Request}
use Rattle.http_messages.specs.declared.refusal.Refusal.{Refusal}
use Rattle.http_messages.specs.Requests.{Asks, IsRefusedFor, IsUnfinished}
use Rattle.http_messages.specs.Received.{IsAsked}

-- these bytes ask this, or they are a front of what may still be a request
abbrev pub IsArrived : List ℕ → Arrived → Type 0
IsArrived bytes (Whole asked) = IsAsked bytes asked
IsArrived bytes (More rest) = (rest ≡ bytes) × IsUnfinished bytes

-- the bytes ask a request, of GET or of another method, and of this target
pub record AsksFor (bytes : List ℕ) (gets : Bool) (target : List ℕ) : Type 0 where
  pub request : Request
  pub asks : Asks bytes request
  pub method : gets ≡ bytes_eq request.method (codes "GET")
  pub target_is : target ≡ request.target

-- these bytes are no whole request, or ask one that is so, or are refused
abbrev pub IsForeseen : List ℕ → Foreseen → Type 0
IsForeseen bytes Part = IsUnfinished bytes
IsForeseen bytes (foreseen.Whole gets target) = AsksFor bytes gets target
IsForeseen bytes Refused = (refusal : Refusal) × IsRefusedFor bytes refusal
