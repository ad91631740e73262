use Rattle.playlist_parse.proofs.DateRangeLemmas.{time_found, time_refused}
use Rattle.playlist_parse.proofs.date_range.instant_said_by_date_range.Goals as goal

pub returns-in-Ok : goal.returns-in-Ok
returns-in-Ok c = time_found _ _ _ _ c.in-Some.ensures.pair c.in-Ok.ensures

pub returns-in-Err : goal.returns-in-Err
returns-in-Err c = time_refused _ _ _ _ c.in-Some.ensures.pair c.in-Err.ensures
