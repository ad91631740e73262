use Rattle.std.proofs.Common.{rules, ◌≡◌, ◌++◌, [], ap, length, arith}
use Rattle.std.proofs.lemmas.List.{append-nil, length-map}
use Rattle.std.proofs.lemmas.Grind.{common_steps}
use Rattle.playlist_parse.specs.Inner.LineViews.{line_text}
use Rattle.playlist_parse.specs.Inner.Reached.{left_in}
use Rattle.playlist_parse.proofs.Reached.{none_more, unread}
use Rattle.playlist_parse.proofs.Light.{none_read}
use Rattle.playlist_parse.proofs.GoingTo.{few_reached, further, none_taken, taken_on}
use Rattle.playlist_parse.proofs.reader.read_front_lines.Goals as goal

pub read_some_lines-requires-clause-few : goal.read_some_lines-requires-clause-few
read_some_lines-requires-clause-few c =
    let few = few_reached (c.requires.begun (left_in c.args.reading.now)) c.requires.few in
    let size = length-map c.args.reading.now.lines line_text in
    omega (arith, few, size)

pub read_some_lines-requires-clause-plain : goal.read_some_lines-requires-clause-plain
read_some_lines-requires-clause-plain c = c.requires.plain

pub returns-in-Err-clause-reached : goal.returns-in-Err-clause-reached
returns-in-Err-clause-reached c = c.in-Err.ensures.reached c.args.base.now

pub take_over_source_lines-requires : goal.take_over_source_lines-requires
take_over_source_lines-requires c = c.requires.kept

pub returns-in-Err-take_over_source_lines-clause-reached : goal.returns-in-Err-take_over_source_lines-clause-reached
returns-in-Err-take_over_source_lines-clause-reached c = grind (arith, unread)

pub read_all_lines-requires-clause-few : goal.read_all_lines-requires-clause-few
read_all_lines-requires-clause-few c =
    let all = left_in c.args.reading.now ++ [] in
    let here = c.in-Ok-take_over_source_lines.ensures.reached [] all (c.in-Ok.ensures.reached c.args.base.now [] all (c.requires.begun all)) in
    let small : length all ≡ length (left_in c.args.reading.now) = ap length (append-nil (left_in c.args.reading.now)) in
    let few = few_reached here (omega (arith, small, c.requires.few)) in
    let left = ap length (append-nil (left_in c.take_over_source_lines.new.reading)) in
    let size = length-map c.take_over_source_lines.new.reading.lines line_text in
    omega (arith, few, left, size)

pub read_all_lines-requires-clause-plain : goal.read_all_lines-requires-clause-plain
read_all_lines-requires-clause-plain c = grind (arith, common_steps)

pub returns-in-Ok-read_all_lines : goal.returns-in-Ok-read_all_lines
returns-in-Ok-read_all_lines c =
    let base = c.args.base.now in
    let all = left_in c.args.reading.now ++ [] in
    let new = c.read_all_lines.new.reading in
    let here = c.in-Ok-take_over_source_lines.ensures.reached [] all (c.in-Ok.ensures.reached base [] all (c.requires.begun all)) in
    let end = none_more new [] all c.in-Ok-read_all_lines.ensures.none_left (c.in-Ok-read_all_lines.ensures.reached base [] all here) in
    let more = further here end in
    record {
      reached = grind (arith, common_steps);
      light = grind (arith, common_steps, none_read);
      none_left = c.in-Ok-read_all_lines.ensures.none_left;
      taken = grind (arith, common_steps, taken_on);
    }

pub returns-in-Err-read_all_lines-clause-reached : goal.returns-in-Err-read_all_lines-clause-reached
returns-in-Err-read_all_lines-clause-reached c = λ tail all r.
    c.in-Err-read_all_lines.ensures.reached c.args.base.now tail all (c.in-Ok-take_over_source_lines.ensures.reached tail all (c.in-Ok.ensures.reached c.args.base.now tail all r))

pub returns-in-Err-clause-light : goal.returns-in-Err-clause-light
returns-in-Err-clause-light c = c.in-Err.ensures.light c.args.base.now

pub returns-then-has_fewer_than : goal.returns-then-has_fewer_than
returns-then-has_fewer_than c = grind (arith, common_steps, none_taken)

pub returns-in-Err-take_over_source_lines-clause-light : goal.returns-in-Err-take_over_source_lines-clause-light
returns-in-Err-take_over_source_lines-clause-light c = λ tail fault told.
    let enough = c.has_fewer_than.ensures.enough (search rules) in
    let none = ap length (none_read (c.in-Ok.ensures.light c.args.base.now tail fault told)) in
    grind arith

pub returns-in-Err-read_all_lines-clause-light : goal.returns-in-Err-read_all_lines-clause-light
returns-in-Err-read_all_lines-clause-light c = λ tail fault told.
    let enough = c.has_fewer_than.ensures.enough (search rules) in
    let none = ap length (none_read (c.in-Ok.ensures.light c.args.base.now tail fault told)) in
    grind arith
