use Rattle.playlist_write.specs.Owed.{line_saying}
use Rattle.playlist_write.proofs.header.write_playlist_type_line.Goals as goal

pub returns : goal.returns
unfolding line_saying
returns c = rw c.written_playlist_type.ensures at c.write_tag_line.ensures
