use Rattle.std.proofs.Common.{sym, ◌∙◌}
use Rattle.date_times.proofs.TimeForms.{date_parts}
use Rattle.date_times.proofs.reading.date_day_of.Goals as goal

pub date_field-requires-2-clause-digits : goal.date_field-requires-2-clause-digits
date_field-requires-2-clause-digits c = (date_parts c.args.text.now (sym c.has_date_form.ensures ∙ c.if-not-has_date_form.false)).1

pub date_field-requires-3-clause-digits : goal.date_field-requires-3-clause-digits
date_field-requires-3-clause-digits c = (date_parts c.args.text.now (sym c.has_date_form.ensures ∙ c.if-not-has_date_form.false)).2
