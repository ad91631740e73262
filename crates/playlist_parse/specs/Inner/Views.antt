-- What the fields of a reading mean.
use Rattle.playlist_parse.specs.declared.progress.Progress.TheInside.{Inside}
use Rattle.playlist_parse.specs.Inner.Progress.{Progress}
use Rattle.playlist_parse.specs.Inner.HeadingView.{heading_view}
use Rattle.playlist_kept.specs.Kept.{with_taken}

abbrev pub progress_of : Inside → Progress
progress_of a = record {
  base = a.state.base;
  heading = heading_view a.heading;
  standing = a.state.standing;
  date_ranges = a.date_ranges;
  segments = with_taken a.front a.state.segments a.taken.now;
}
