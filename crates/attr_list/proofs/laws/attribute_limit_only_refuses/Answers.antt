use Rattle.attr_list.proofs.Limits.{within_is_same, past_is_refused, limited_is_read, read_is_limited}
use Rattle.attr_list.proofs.laws.attribute_limit_only_refuses.Goals as goal

pub returns : goal.returns
returns c = record { within = within_is_same; past = past_is_refused; exactly = λ most text pairs. (limited_is_read most text pairs, λ h. read_is_limited most text pairs h.0 h.1) }
