use Rattle.std.proofs.Common.{rules, ◌≡◌, true}
use Rattle.playlist_kept.proofs.Parts.{taken_there}
use Rattle.playlist_kept.proofs.read_playlist.read_with_places.Goals as goal

pub returns-then-are_of-clause-taken : goal.returns-then-are_of-clause-taken
returns-then-are_of-clause-taken c = λ old a.
    let read = c.args.read in
    let yes : c.are_of.result ≡ true = search rules in
    let at = c.are_of.ensures yes in
    taken_there read.front c.args.places.start c.args.places.end read.playlist.segments read.taken.now _ c.requires at.0 (at.1) a.same
