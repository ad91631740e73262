-- What the attributes of a date range say.
use Rattle.std.proofs.Common.{◌≡◌, refl, ap, ◌∙◌, Ok, Err, Some, None}
use Rattle.std.specs.Prelude.{ℤ, Option}
use Rattle.std.specs.Option.{ok_or}
use Rattle.attr_list.specs.Attributes.{Pair}
use Rattle.playlist_model.specs.declared.FaultKind.TheVariants as fault
use Rattle.date_times.specs.declared.reading.TimeFault.{TimeFault}
use Rattle.date_times.specs.Instant.{instant_of}
use Rattle.spec_words.specs.Outcomes.{or_fault, some_value, optional}
use Rattle.playlist_model.specs.Said.{time_of}

time_stated : (o : Option ℤ) (e : TimeFault) (t : ℤ) → Ok t ≡ ok_or o e → Ok (Some t) ≡ some_value (or_fault fault.BadTime o)
time_stated None e t h = absurd (cc h)
time_stated (Some u) e t h = cc h

time_unstated : (o : Option ℤ) (e f : TimeFault) → Err f ≡ ok_or o e → Err fault.BadTime ≡ some_value (or_fault fault.BadTime o)
time_unstated None e f h = refl
time_unstated (Some u) e f h = absurd (cc h)

pub time_found : (found : Option Pair) (pair : Pair) (e : TimeFault) (t : ℤ) → Some pair ≡ found → Ok t ≡ ok_or (instant_of pair.value) e → Ok (Some t) ≡ optional time_of found
time_found found pair e t is h = time_stated (instant_of pair.value) e t h ∙ ap (optional time_of) is

pub time_refused : (found : Option Pair) (pair : Pair) (e f : TimeFault) → Some pair ≡ found → Err f ≡ ok_or (instant_of pair.value) e → Err fault.BadTime ≡ optional time_of found
time_refused found pair e f is h = time_unstated (instant_of pair.value) e f h ∙ ap (optional time_of) is
