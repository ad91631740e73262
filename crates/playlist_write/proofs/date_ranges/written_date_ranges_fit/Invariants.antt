use Rattle.std.proofs.Common.{◌≡◌, drop}
use Rattle.std.specs.List.{list_all}
use Rattle.writable.specs.Fitting.{date_range_fits}
use Rattle.playlist_write.proofs.date_ranges.written_date_ranges_fit.Given as goal

abbrev pub invariant-loop-text : goal.invariant-loop-text
invariant-loop-text l = list_all date_range_fits (drop l.text-index l.texts) ≡ list_all date_range_fits l.texts
