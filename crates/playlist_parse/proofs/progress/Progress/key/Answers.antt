use Rattle.std.proofs.Common.{ap}
use Rattle.playlist_kept.specs.Kept.{with_taken}
use Rattle.playlist_model.specs.Said as said
use Rattle.playlist_model.specs.Reading.{said_by_tag}
use Rattle.playlist_model.specs.Reading.{limited}
use Rattle.playlist_parse.specs.Inner.Views.{progress_of}
use Rattle.playlist_parse.proofs.Kept.{takes_tag, key_tag_says}
use Rattle.playlist_parse.proofs.progress.Progress.key.Goals as goal

pub returns : goal.returns
returns c =
    takes_tag (λ base before. said_by_tag limited base before said.key_tag c.args.rest.now) (progress_of c.self.inside) c.args.self.now c.self.inside.state.segments _ _ _ c.self.view_is (ap (λ rows. with_taken c.self.inside.front rows c.self.inside.taken.now) c.key_tag.ensures.segments)
    (λ base before. key_tag_says limited base before c.args.rest.now) c.key_tag.ensures.takes
