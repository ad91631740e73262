-- What a text says as a date range.
use Rattle.std.proofs.Common.{◌≡◌, ℕ, Bool, true, false, List, refl, ap, sym, ◌∙◌, Ok, Err, Some, None, arith}
use Rattle.std.specs.Prelude.{◌&&◌, ℤ, Option, Result, codes, is_some, is_ok}
use Rattle.std.specs.Option.{ok_or}
use Rattle.std.proofs.lemmas.Bool.{and_parts}
use Rattle.attr_list.specs.declared.AttrFault.{AttrFault}
use Rattle.attr_list.specs.Attributes.{Pair, attribute, attributes_of}
use Rattle.attr_list.proofs.Limits.{limited_is_read}
use Rattle.fixed_duration.specs.Duration.{duration_of}
use Rattle.playlist_model.specs.declared.FaultKind.TheVariants as fault
use Rattle.playlist_model.specs.declared.DateRange.{DateRange}
use Rattle.date_times.specs.Instant.{instant_of}
use Rattle.spec_words.specs.Outcomes.{mended, or_fault, optional, some_value, ◌>>=◌}
use Rattle.playlist_model.specs.Said.{required, value_if, time_of, attribute_duration_of, Said, Reader, date_range, Outcome, date_range_of, date_range_said}
use Rattle.playlist_model.specs.Reading.{limited, unlimited}
use Rattle.writable.specs.Fitting.{if_some, says_date_range, date_range_fits}
use Rattle.playlist_write.specs.Inner.DateRangeParts.{is_quoted_id, written_attribute_says_time, written_attribute_says_duration, is_written_date_range}

-- a reader of at most 64 attributes
abbrev pub few : Reader
few = limited

Keeps : List ℕ → Outcome Said → Type 0
Keeps text o = (r : DateRange) → o ≡ Ok (date_range r) → r.attributes ≡ text

keeps_bind : {A : Type 0} (text : List ℕ) (o : Outcome A) (f : A → Outcome Said) → ((x : A) → Keeps text (f x)) → Keeps text (o >>= f)
unfolding Keeps
keeps_bind text (Ok x) f h r e = h x r e
keeps_bind text (Err d) f h r e = cc

keeps_ok : (r : DateRange) → Keeps r.attributes (Ok (date_range r))
unfolding Keeps
keeps_ok r q e = let f : r ≡ q = cc in ap (λ x. x.attributes) (sym f)

pairs_kept : (text : List ℕ) (pairs : List Pair) → Keeps text (date_range_of text pairs)
pairs_kept text pairs =
    keeps_bind {A = List ℕ} text (required true (attribute pairs (codes "ID"))) _ (λ id.
    keeps_bind {A = Option ℤ} text (optional time_of (attribute pairs (codes "START-DATE"))) _ (λ start. keeps_bind {A = Option ℤ} text (optional time_of (attribute pairs (codes "END-DATE"))) _ (λ end.
    keeps_bind {A = Option ℕ} text (optional attribute_duration_of (attribute pairs (codes "DURATION"))) _ (λ duration. keeps_bind {A = Option ℕ} text (optional attribute_duration_of (attribute pairs (codes "PLANNED-DURATION"))) _ (λ planned.
    keeps_ok _)))))

text_kept : (text : List ℕ) → Keeps text (date_range_said unlimited text)
text_kept text = grind (arith, keeps_bind, pairs_kept)

pub is_kept : (text : List ℕ) (r : DateRange) → date_range_said unlimited text ≡ Ok (date_range r) → r.attributes ≡ text
unfolding Keeps
is_kept text r e = text_kept text r e

abbrev said_of : List ℕ → Result (List Pair) AttrFault → Outcome Said
said_of text o = mended fault.BadAttributes o >>= date_range_of text

unlimited_step : (text : List ℕ) (s : Said) (o : Result (List Pair) AttrFault) → attributes_of (Some 64) text ≡ o → said_of text o ≡ Ok s → said_of text (attributes_of None text) ≡ Ok s
unlimited_step text s (Ok pairs) e h = ap (said_of text) (limited_is_read 64 text pairs e).0 ∙ h
unlimited_step text s (Err d) e h = cc

-- what a reader with the limit reads, the one without reads too
unlimited_read : (text : List ℕ) (s : Said) → date_range_said few text ≡ Ok s → date_range_said unlimited text ≡ Ok s
unlimited_read text s h = unlimited_step text s (attributes_of (Some 64) text) refl h

-- a text that says one date range
pub record OneDateRange (text : List ℕ) : Type 0 where
  pub read : DateRange
  pub says : date_range_said unlimited text ≡ Ok (date_range read)

date_range_in : (text : List ℕ) (o : Outcome Said) → date_range_said few text ≡ o → says_date_range o ≡ true → OneDateRange text
date_range_in text (Ok (date_range r)) e h = record { read = r; says = unlimited_read text (date_range r) e }
date_range_in text (Ok _) e h = cc
date_range_in text (Err d) e h = cc

pub one_date_range : (text : List ℕ) → date_range_fits text ≡ true → OneDateRange text
one_date_range text h = grind (arith, and_parts, date_range_in)

-- ---- one by one

binds : {A : Type 0} (o : Outcome A) (f : A → Outcome Said) (b rest : Bool) → is_ok o ≡ b → ((x : A) → says_date_range (f x) ≡ rest) → says_date_range (o >>= f) ≡ (b && rest)
binds (Ok x) f b rest e h = h x ∙ ap (λ t. t && rest) e
binds (Err d) f b rest e h = ap (λ t. t && rest) e

quoted_is : (quoted : Bool) (value : List ℕ) → is_ok (value_if true quoted value) ≡ quoted
quoted_is true value = refl
quoted_is false value = refl

id_is : (o : Option Pair) → is_ok (required true o) ≡ is_quoted_id o
id_is None = refl
id_is (Some pair) = quoted_is pair.quoted pair.value

some_time : (o : Option ℤ) → is_ok (some_value (or_fault fault.BadTime o)) ≡ is_some o
some_time None = refl
some_time (Some t) = refl

time_is : (o : Option Pair) → is_ok (optional time_of o) ≡ if_some written_attribute_says_time o
time_is None = refl
time_is (Some pair) = some_time (instant_of pair.value)

some_duration : {E : Type 0} (r : Result ℕ E) → is_ok (some_value (mended fault.BadDuration r)) ≡ is_ok r
some_duration (Ok n) = refl
some_duration (Err e) = refl

duration_is : (o : Option Pair) → is_ok (optional attribute_duration_of o) ≡ if_some written_attribute_says_duration o
duration_is None = refl
duration_is (Some pair) = some_duration (duration_of pair.value)

pairs_are : (text : List ℕ) (pairs : List Pair) → says_date_range (date_range_of text pairs) ≡ is_written_date_range pairs
pairs_are text pairs =
    let a = attribute pairs (codes "ID") in let b = attribute pairs (codes "START-DATE") in let c = attribute pairs (codes "END-DATE") in
    let d = attribute pairs (codes "DURATION") in let e = attribute pairs (codes "PLANNED-DURATION") in
    binds {A = List ℕ} (required true a) _ (is_quoted_id a) _ (id_is a) (λ id.
    binds {A = Option ℤ} (optional time_of b) _ (if_some written_attribute_says_time b) _ (time_is b) (λ start.
    binds {A = Option ℤ} (optional time_of c) _ (if_some written_attribute_says_time c) _ (time_is c) (λ end.
    binds {A = Option ℕ} (optional attribute_duration_of d) _ (if_some written_attribute_says_duration d) _ (duration_is d) (λ duration.
    last (optional attribute_duration_of e) _ (if_some written_attribute_says_duration e) (duration_is e) (λ planned. refl)))))
  where
    last : (o : Outcome (Option ℕ)) (f : Option ℕ → Outcome Said) (b : Bool) → is_ok o ≡ b → ((x : Option ℕ) → says_date_range (f x) ≡ true) → says_date_range (o >>= f) ≡ b
    last (Ok x) f b e h = h x ∙ e
    last (Err d) f b e h = e

-- the attributes that are read say a date range if each is as it has to be
pub attributes_say : (text : List ℕ) (pairs : List Pair) → attributes_of (Some 64) text ≡ Ok pairs → is_written_date_range pairs ≡ says_date_range (date_range_said few text)
attributes_say text pairs h = grind (arith, pairs_are)

-- there is an answer if there is a value
pub told : {A E : Type 0} (o : Option A) (e : E) → is_ok (ok_or o e) ≡ is_some o
told None e = refl
told (Some x) e = refl
