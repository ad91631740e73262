use Rattle.std.proofs.Common.{arith}
use Rattle.std.proofs.lemmas.Grind.{common_steps}
use Rattle.vod_run.proofs.Given.{gave_same, refreshes, refuses, no_read}
use Rattle.vod_run.proofs.WholeRun.{handed_on, fair_source, on_end, at_end}
use Rattle.vod_run.proofs.run.refresh_vod_channel_from.Goals as goal

pub returns-clause-ok : goal.returns-clause-ok
returns-clause-ok g c =
    refreshes _ _ _ _ (gave_same _ _ _ _ c.as_slice.ensures.value c.in_ok-input.ensures.ok) _ _ c.in_ok-refresh.ensures

pub returns-in_err-refresh-clause-err : goal.returns-in_err-refresh-clause-err
returns-in_err-refresh-clause-err g c =
    handed_on _ _ _ c.from_residual-in_err-refresh.ensures.1
    (refuses _ _ _ _ (gave_same _ _ _ _ c.as_slice.ensures.value c.in_ok-input.ensures.ok) _ _ c.in_err-refresh.ensures)

pub returns-in_err-refresh-clause-source : goal.returns-in_err-refresh-clause-source
returns-in_err-refresh-clause-source g c = grind (arith, common_steps, fair_source, handed_on, no_read)

pub returns-in_err-refresh-clause-to_end : goal.returns-in_err-refresh-clause-to_end
returns-in_err-refresh-clause-to_end g c = grind (arith, common_steps, on_end, at_end)
