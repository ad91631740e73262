-- What the fields say of a length, field by field.
use Rattle.std.proofs.Common.{◌≡◌, ℕ, Bool, true, false, List, [], ◌∷◌, filter, map, codes, drop, cond, ap, ◌∙◌, ◌+◌, ◌<◌, length, get_or, drop-cons, suc, arith}
use Rattle.http_messages.specs.declared.head.Framing.{Framing}
use Rattle.http_messages.specs.declared.head.Framing.TheVariants.{Refused}
use Rattle.http_messages.specs.declared.refusal.Refusal.TheVariants.{BadRequest, LengthRequired}
use Rattle.httparse.specs.declared.borrowed.Header.{Header}
use Rattle.httparse.specs.Borrowed.{header_parts}
use Rattle.attr_list.specs.Numbers.{decimal_of}
use Rattle.http_messages.specs.Requests.{HeaderField, is_header_field_named, body_length_stated_by_fields, message_body_of_length}

-- those that say a length
abbrev pub lengths : List Header → List HeaderField
lengths fields = filter (is_header_field_named (codes "content-length")) (map header_parts fields)

-- what is said, if some were read and these remain
abbrev pub said_after : Framing → Bool → List HeaderField → Framing
said_after said false rest = body_length_stated_by_fields rest
said_after said true [] = said
said_after said true (field ∷ more) = Refused BadRequest

pub record IsSaidSoFar (fields later : List Header) (said : Framing) (any : Bool) : Type 0 where
  pub none : any ≡ false → said ≡ Refused LengthRequired
  pub same : body_length_stated_by_fields (lengths fields) ≡ said_after said any (lengths later)

other_first : (x : Header) (later : List Header) → is_header_field_named (codes "content-length") (header_parts x) ≡ false
    → lengths (x ∷ later) ≡ lengths later
other_first x later e = ap (λ b. cond b (header_parts x ∷ lengths later) (lengths later)) e

pub goes_on : (fields later : List Header) (x : Header) (said : Framing) (any : Bool) → IsSaidSoFar fields (x ∷ later) said any
    → is_header_field_named (codes "content-length") (header_parts x) ≡ false → IsSaidSoFar fields later said any
goes_on fields later x said any s e = record { none = s.none; same = s.same ∙ ap (said_after said any) (other_first x later e) }

-- the same at a place
pub says_one_at : (fields : List Header) (i : ℕ) (x : Header) (said new_said : Framing) (any new_any : Bool) → drop i fields ≡ x ∷ drop (i + 1) fields
    → IsSaidSoFar fields (drop i fields) said any → any ≡ false → true ≡ is_header_field_named (codes "content-length") (header_parts x)
    → new_said ≡ message_body_of_length (decimal_of x.value.now) → new_any ≡ true → IsSaidSoFar fields (drop (i + 1) fields) new_said new_any
says_one_at fields i x said new_said any new_any d s e n f g = grind arith

pub goes_on_at : (fields : List Header) (i : ℕ) (x : Header) (said new_said : Framing) (any new_any : Bool) → drop i fields ≡ x ∷ drop (i + 1) fields
    → IsSaidSoFar fields (drop i fields) said any → false ≡ is_header_field_named (codes "content-length") (header_parts x)
    → new_said ≡ said → new_any ≡ any → IsSaidSoFar fields (drop (i + 1) fields) new_said new_any
goes_on_at fields i x said new_said any new_any d s n f g = grind arith

pub at_place : {A : Type 0} (l : List A) (j : ℕ) (d : A) → j < length l → drop j l ≡ get_or l j d ∷ drop (j + 1) l
at_place l j d h = let e : suc j ≡ j + 1 = omega arith in drop-cons l j d h ∙ ap (λ k. get_or l j d ∷ drop k l) e
