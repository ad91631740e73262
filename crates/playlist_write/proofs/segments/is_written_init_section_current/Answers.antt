use Rattle.playlist_write.proofs.CommonKeys.{current_is_same}
use Rattle.playlist_write.proofs.segments.is_written_init_section_current.Goals as goal

pub returns-then-common : goal.returns-then-common
returns-then-common c = current_is_same c.args.new.now _ (c.requires.known c.if-common.true)
