use Rattle.std.proofs.Common.{ap}
use Rattle.playlist_kept.specs.Kept.{with_taken}
use Rattle.playlist_model.specs.Said as said
use Rattle.playlist_model.specs.Reading.{said_by_tag}
use Rattle.playlist_model.specs.Reading.{limited}
use Rattle.playlist_parse.specs.Inner.Views.{progress_of}
use Rattle.playlist_parse.proofs.Kept.{takes_tag_exactly, time_tag_says}
use Rattle.playlist_parse.proofs.progress.Progress.time.Goals as goal

pub returns : goal.returns
returns c =
    takes_tag_exactly (λ base before. said_by_tag limited base before said.time_tag c.args.rest.now) (progress_of c.self.inside) c.args.self.now c.self.inside.state.segments _ _ _ c.self.view_is (ap (λ rows. with_taken c.self.inside.front rows c.self.inside.taken.now) c.time_tag.ensures.segments)
    (λ base before. time_tag_says limited base before c.args.rest.now) c.time_tag.ensures.takes
