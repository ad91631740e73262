use Rattle.std.proofs.Common.{◌≡◌, arith, sym, ap, ◌∙◌, to_z, of_z, w64, FitsSigned, pos, ◌*ℤ◌, ◌+ℤ◌, ◌-ℤ◌}
use Rattle.std.proofs.lemmas.Int.{to_z-of_z}
use Rattle.jiff_core.proofs.SignedLemmas.{signed_arith}
use Rattle.date_times.specs.Inner.Instant.{second_end_of}
use Rattle.date_times.proofs.TimeForms.{clock_length, no_end, end_found, rest_is}
use Rattle.date_times.proofs.reading.instant_on_day.Goals as goal

pub returns-in_err-rest : goal.returns-in_err-rest
returns-in_err-rest c = let long = clock_length c.args.text.now c.in_ok-clock.ensures.value.0 in let l = c.in_err-rest.ensures.lookup in absurd (grind (arith, long, l))

pub returns-in_err-nanos : goal.returns-in_err-nanos
returns-in_err-nanos c =
    let rest = c.in_ok-rest.ensures.lookup.0.2 ∙ rest_is c.args.text.now in
    c.from_residual-in_err-nanos.ensures ∙ sym (no_end c.args.text.now (c.in_err-nanos.ensures.value ∙ ap second_end_of rest))

pub returns : goal.returns
returns c =
    let text = c.args.text.now in
    let rest = c.in_ok-rest.ensures.lookup.0.2 ∙ rest_is text in
    let day = c.requires.2 in
    let offset = c.in_ok-nanos.ensures.bound.1 in
    let day_is : to_z w64 (of_z w64 c.args.day) ≡ c.args.day = to_z-of_z w64 c.args.day (omega (arith, signed_arith, day)) in
    let offset_is : to_z w64 (of_z w64 c.in_ok-nanos.offset) ≡ c.in_ok-nanos.offset = to_z-of_z w64 c.in_ok-nanos.offset (omega (arith, signed_arith, offset)) in
    let seconds : c.instant_seconds_from_1970.result ≡ (c.args.day *ℤ pos 86400 +ℤ pos c.in_ok-clock.clock) -ℤ c.in_ok-nanos.offset = rw (day_is, offset_is) at c.instant_seconds_from_1970.ensures in
    let clock = c.in_ok-clock.ensures.bound in
    let fits : FitsSigned w64 c.instant_seconds_from_1970.result = omega (arith, signed_arith, seconds, day, offset, clock) in
    let same = to_z-of_z w64 c.instant_seconds_from_1970.result fits in
    c.instant_of_seconds.ensures
    ∙ end_found text c.in_ok-clock.clock (c.in_ok-nanos.nanos, c.in_ok-nanos.offset) c.args.day _ c.requires.0 (sym c.if-not-is_date_mark_at.ensures) c.in_ok-clock.ensures.value.0 c.requires.1 c.in_ok-clock.ensures.value.1 (c.in_ok-nanos.ensures.value ∙ ap second_end_of rest) (same ∙ seconds)
