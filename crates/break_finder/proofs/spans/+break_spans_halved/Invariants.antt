use Rattle.break_finder.proofs.spans.+break_spans_halved.Given as goal

abbrev pub decreases-break_spans_halved : goal.decreases-break_spans_halved
decreases-break_spans_halved l = l.halvings
