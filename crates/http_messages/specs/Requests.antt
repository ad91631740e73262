-- The request at the front of some bytes (RFC 9112, 2.1, 3, 5 and 6).
use Rattle.std.specs.Prelude.{◌≡◌, ℕ, ◌≤◌, ◌<◌, nat_lt, Bool, List, [], ◌∷◌, ◌++◌, codes, map, filter, length, take, bytes_eq, Option, Some, None, if◌then◌else◌, ◌⊎◌}
use Rattle.std.specs.List.{list_any}
use Rattle.std.specs.Str.{str_eq_ignore_ascii_case}
use Rattle.httparse.specs.Grammar.{RequestHead, print_request, ReadsRequest, MayBecomeRequest}
use Rattle.httparse.specs.Spans.{name_and_value}
use Rattle.attr_list.specs.Numbers.{decimal_of}
use Rattle.http_messages.specs.declared.message.Request.{Request}
use Rattle.http_messages.specs.declared.refusal.Refusal.{Refusal}
use Rattle.http_messages.specs.declared.refusal.Refusal.TheVariants.{BadRequest, LengthRequired, TooLarge}
use Rattle.http_messages.specs.declared.head.Framing.{Framing}
use Rattle.http_messages.specs.declared.head.Framing.TheVariants.{Body, Refused}
use Rattle.http_messages.specs.Limits.{head_limit, field_limit, body_limit}

-- ---- what the fields of a head say of the body

-- a field: its name, and its value without the white space around it
abbrev pub HeaderField : Type 0
HeaderField = List ℕ × List ℕ

-- names of fields are the same in any case (RFC 9110, 5.1)
abbrev pub is_header_field_named : List ℕ → HeaderField → Bool
is_header_field_named name field = str_eq_ignore_ascii_case field.0 name

-- a body of the stated length, if that is a number
abbrev pub message_body_of_length : Option ℕ → Framing
message_body_of_length None = Refused BadRequest
message_body_of_length (Some n) = if nat_lt body_limit n then Refused TooLarge else Body n

-- the length has to be stated, and once
abbrev pub body_length_stated_by_fields : List HeaderField → Framing
body_length_stated_by_fields [] = Refused LengthRequired
body_length_stated_by_fields (field ∷ []) = message_body_of_length (decimal_of field.1)
body_length_stated_by_fields (field ∷ other ∷ more) = Refused BadRequest

-- of the lengths that a body may have (RFC 9112, 6.3) the one that is stated is taken, and no transfer coding
abbrev pub framing_of_put : List HeaderField → Framing
framing_of_put fields =
    if list_any (is_header_field_named (codes "transfer-encoding")) fields then Refused LengthRequired
    else body_length_stated_by_fields (filter (is_header_field_named (codes "content-length")) fields)

-- no other method has a body that is read
abbrev pub request_framing_of : List ℕ → List HeaderField → Framing
request_framing_of method fields = if bytes_eq method (codes "PUT") then framing_of_put fields else Body 0

abbrev pub framing_said : RequestHead → Framing
framing_said h = request_framing_of h.method (map name_and_value h.fields)

-- ---- a head at the front

-- the bytes are this head and the rest, and the head keeps the limits
pub record BeginsWith (bytes : List ℕ) (h : RequestHead) (rest : List ℕ) : Type 0 where
  pub reads : ReadsRequest bytes h rest
  pub short : length (print_request h) ≤ head_limit
  pub few : length h.fields ≤ field_limit

-- there is such a head
abbrev pub HasHead : List ℕ → Type 0
HasHead bytes = (h : RequestHead) × (rest : List ℕ) × BeginsWith bytes h rest

-- there is none
abbrev pub HasNoHead : List ℕ → Type 0
HasNoHead bytes = (h : RequestHead) (rest : List ℕ) → ¬ (BeginsWith bytes h rest)

-- nor will there be one, whatever follows
abbrev pub NeverHasHead : List ℕ → Type 0
NeverHasHead bytes = (more : List ℕ) → HasNoHead (bytes ++ more)

-- a head may still come of them: they are fewer than the longest has, and some bytes can follow that make them a head, or
-- they end inside a target, of which it is seen at its end alone whether it is UTF-8
abbrev pub MayBecomeHead : List ℕ → Type 0
MayBecomeHead bytes = (length bytes < head_limit) × MayBecomeRequest bytes

-- ---- what is asked

-- the bytes begin with a whole request, and it is this one
pub record Asks (bytes : List ℕ) (request : Request) : Type 0 where
  pub h : RequestHead
  pub rest : List ℕ
  pub begins : BeginsWith bytes h rest
  pub count : ℕ
  pub framing : framing_said h ≡ Body count
  pub whole : count ≤ length rest
  pub is : request ≡ record { method = h.method; target = h.target; body = take count rest }

-- they begin with a head that is refused
pub record HasRefusedHead (bytes : List ℕ) (refusal : Refusal) : Type 0 where
  pub h : RequestHead
  pub rest : List ℕ
  pub begins : BeginsWith bytes h rest
  pub framing : framing_said h ≡ Refused refusal

-- they begin with a head that is refused, or they can't begin with a head
abbrev pub IsRefusedFor : List ℕ → Refusal → Type 0
IsRefusedFor bytes refusal = HasRefusedHead bytes refusal ⊎ (NeverHasHead bytes × (refusal ≡ BadRequest))

-- they are a front of what may still be a request: a head whose body isn't whole, or what a head may still come of
pub record IsUnfinished (bytes : List ℕ) : Type 0 where
  pub no_request : (request : Request) → ¬ (Asks bytes request)
  pub no_refusal : (refusal : Refusal) → ¬ (HasRefusedHead bytes refusal)
  pub may_go_on : HasHead bytes ⊎ MayBecomeHead bytes
