use Rattle.std.proofs.Common.{rules}
use Rattle.playlist_model.specs.LookBack.{is_discontinuity}
use Rattle.playlist_parse.proofs.HasCount.{has_count}
use Rattle.playlist_parse.proofs.progress.Progress.discontinuity_sequence.Goals as goal

pub returns-then-self-2 : goal.returns-then-self-2
returns-then-self-2 c = λ before e. let h = has_count is_discontinuity before in search rules

pub returns-in_err-number_said_by_line : goal.returns-in_err-number_said_by_line
returns-in_err-number_said_by_line c = λ before e. let h = has_count is_discontinuity before in search rules

pub returns : goal.returns
returns c = λ before e. let h = has_count is_discontinuity before in search rules
