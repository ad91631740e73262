use Rattle.std.proofs.Common.{arith}
use Rattle.date_times.proofs.ClockFields.{no_clock, clock_needs}
use Rattle.date_times.proofs.reading.clock_seconds_of.Goals.{then-text-ne58-via-then-text-ne58, then-text-ne58-via-else-text-ne58+then-text-ne58-2}
use Rattle.date_times.proofs.reading.clock_seconds_of.Goals as goal

pub returns-then-text-lt-CLOCK_END-clause-value : goal.returns-then-text-lt-CLOCK_END-clause-value
returns-then-text-lt-CLOCK_END-clause-value c = no_clock c.args.text.now (λ h. let n = (clock_needs c.args.text.now h).long in omega (arith, n, c.if-text-lt-CLOCK_END.true))

pub returns-then-text-ne58-clause-value : goal.returns-then-text-ne58-clause-value
returns-then-text-ne58-clause-value c = no_clock c.args.text.now (λ h. let marks = (clock_needs c.args.text.now h).marks in elim c.then-text-ne58.branch [ then-text-ne58-via-then-text-ne58 w ↦ w.if-text-ne58.true marks.0 | then-text-ne58-via-else-text-ne58+then-text-ne58-2 w ↦ w.if-text-ne58-2.true marks.1 ])

pub returns-in_err-hour-clause-value : goal.returns-in_err-hour-clause-value
returns-in_err-hour-clause-value c = rw c.from_residual.ensures (no_clock c.args.text.now (λ h. c.in_err-hour.ensures (clock_needs c.args.text.now h).hour))

pub returns-in_err-minute-clause-value : goal.returns-in_err-minute-clause-value
returns-in_err-minute-clause-value c = rw c.from_residual-in_err-minute.ensures (no_clock c.args.text.now (λ h. c.in_err-minute.ensures (clock_needs c.args.text.now h).minute))

pub returns-in_err-second-clause-value : goal.returns-in_err-second-clause-value
returns-in_err-second-clause-value c = rw c.from_residual-in_err-second.ensures (no_clock c.args.text.now (λ h. c.in_err-second.ensures (clock_needs c.args.text.now h).second))
