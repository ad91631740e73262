use Rattle.connections.proofs.Leading.{and_then}
use Rattle.connections.proofs.Calling.{goes_on_after_call, is_called_after, line_goes_on}
use Rattle.adsplice.proofs.server.Server.round.Goals as goal

pub returns-clause-run : goal.returns-clause-run
returns-clause-run c =
    and_then _ _ _ c.serve_events.ensures.run (and_then _ _ _ c.let_in.ensures.run (and_then _ _ _ c.call_line.ensures.run (and_then _ _ _ c.bound_replies.ensures.run (and_then _ _ _ c.hear_short_if_less.ensures.run c.tick.ensures.run))))

pub returns-clause-line : goal.returns-clause-line
returns-clause-line c =
    is_called_after _ _ _ c.serve_events.ensures.line (is_called_after _ _ _ c.let_in.ensures.line (goes_on_after_call _ _ _ c.call_line.ensures.line (line_goes_on _ _ _ c.bound_replies.ensures.line (line_goes_on _ _ _ c.hear_short_if_less.ensures.line c.tick.ensures.line))))
