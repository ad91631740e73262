use Rattle.std.proofs.Common.{◌≡◌, refl, ◌∙◌, arith, pos, to_z, w8, w16, w32, w64, FitsSigned}
use Rattle.std.proofs.lemmas.Int.{to_z-of_z}
use Rattle.jiff_core.proofs.SignedLemmas.{signed_arith, signed_casts}
use Rattle.date_times.proofs.CivilDays.{day_found}
use Rattle.date_times.proofs.reading.calendar_day_number.Goals as goal

pub returns-clause-value : goal.returns-clause-value
returns-clause-value c =
    let year : to_z w16 c.args.year ≡ pos c.args.year = omega (arith, signed_casts) in
    let month : to_z w8 c.args.month ≡ pos c.args.month = omega (arith, signed_casts) in
    let day : to_z w8 c.args.day ≡ pos c.args.day = omega (arith, signed_casts) in
    let bound = c.to_unix_epoch_day.ensures.bound in
    let fits : FitsSigned w32 c.to_unix_epoch_day.result = omega (arith, signed_arith, bound) in
    let from : c.from.result ≡ c.to_unix_epoch_day.result = c.from.ensures ∙ to_z-of_z w32 c.to_unix_epoch_day.result fits in
    let wide : FitsSigned w64 c.from.result = omega (arith, signed_arith, bound, from) in
    let same = to_z-of_z w64 c.from.result wide ∙ from ∙ c.to_unix_epoch_day.ensures.value in
    day_found c.args.year c.args.month c.args.day _ _ _ c.in-Ok.date.year _ c.in-Ok.date.month c.in-Ok.date.day year month day (omega arith)
    (c.in-Ok.ensures.succeeds.0 refl) c.in-Ok.ensures.value same
