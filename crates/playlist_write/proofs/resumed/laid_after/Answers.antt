use Rattle.std.proofs.Common.{◌≡◌, ◌∙◌, drop, sym, arith}
use Rattle.playlist_write.proofs.GoesOn.{Laid, is_laid, Joins, joins}
use Rattle.playlist_write.proofs.resumed.laid_after.Goals as goal

pub returns : goal.returns
returns c =
    let p = c.args.playlist.now in
    let r = c.requires in
    let fresh = c.items_from-fresh.result in
    let fresh_is : drop c.args.again p.segments ≡ fresh = sym c.items_from-fresh.ensures in
    let j : Joins p c.args.last.now c.in-Some.lines.now fresh = joins p c.args.last.now r.before fresh r.gone c.args.again c.args.length c.in-Some.lines.now r.some r.laid r.on fresh_is r.front c.in-Some.ensures in
    let w = c.in_ok-join_written_parts.ensures in
    let h : Laid p c.in_ok-join_written_parts.field-0 = is_laid p c.in_ok-join_written_parts.field-0 _ _ j.lines_are j.current w.text w.from w.till (w.count ∙ c.count-count.ensures) w.end in
    grind arith
