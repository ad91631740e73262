use Rattle.break_finder.proofs.Placed.{if_ok, whole_stands}
use Rattle.break_finder.proofs.spans.break_spans_of.Goals as goal

pub returns-in-None-clause-tells : goal.returns-in-None-clause-tells
returns-in-None-clause-tells c = if_ok c.break_spans_halved.result c.break_spans_halved.ensures.tells (λ v tells. tells c.args.list.now c.requires (whole_stands c.args.list.now))

pub returns-in-None-clause-places : goal.returns-in-None-clause-places
returns-in-None-clause-places c = if_ok c.break_spans_halved.result c.break_spans_halved.ensures.places (λ v places. places c.args.list.now (whole_stands c.args.list.now))
