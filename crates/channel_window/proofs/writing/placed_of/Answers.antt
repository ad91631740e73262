use Rattle.std.proofs.Common.{length, arith}
use Rattle.std.proofs.lemmas.Grind.{common_steps}
use Rattle.playlist_kept.specs.Kept.{playlist_in}
use Rattle.channel_window.specs.Showing.{kept_before}
use Rattle.channel_window.proofs.Starting.{handed_on, fit_is, whole_is, window_left, has_room, room_left}
use Rattle.channel_window.proofs.writing.placed_of.Goals as goal

pub returns-in_err-first-clause-err : goal.returns-in_err-first-clause-err
returns-in_err-first-clause-err c = grind (arith, common_steps, fit_is, handed_on)

pub returns-in_err-whole-clause-err : goal.returns-in_err-whole-clause-err
returns-in_err-whole-clause-err c = grind (arith, common_steps, fit_is, handed_on)

pub window_start_of-requires-clause-room : goal.window_start_of-requires-clause-room
window_start_of-requires-clause-room c = grind (arith, common_steps, has_room)

pub returns-clause-whole : goal.returns-clause-whole
returns-clause-whole c = grind (arith, whole_is)

pub returns-clause-window : goal.returns-clause-window
returns-clause-window c =
    let s = kept_before c.args.before.now in
    let inside = c.in_ok-start.ensures.within (length c.in_ok-whole.whole)
    (room_left s (playlist_in c.args.read.now) c.args.list.now c.args.lasted c.in_ok-ends.ends c.in_ok-first.first c.requires.decided (c.in_ok-ends.ensures s.store) c.in_ok-first.ensures.ok c.in_ok-whole.whole c.in_ok-whole.ensures.ok.0) in
    window_left s (playlist_in c.args.read.now) c.args.list.now c.args.lasted c.in_ok-ends.ends c.in_ok-first.first c.requires.decided (c.in_ok-ends.ensures s.store) c.in_ok-first.ensures.ok c.in_ok-whole.whole c.in_ok-start.start.place c.in_ok-whole.ensures.ok.0 inside c.in_ok-start.ensures.place

pub returns-clause-fit : goal.returns-clause-fit
returns-clause-fit c = grind (arith, common_steps, fit_is)
