use Rattle.std.proofs.Common.{rules, ◌≡◌, ◌<◌, ◌≤◌, true, ap, sym, ◌∙◌, length, subst, arith}
use Rattle.std.specs.List.{list_all}
use Rattle.std.proofs.lemmas.List.{length-map}
use Rattle.playlist_parse.specs.Inner.LineViews.{is_plain_byte, is_free, line_text}
use Rattle.playlist_parse.proofs.Places.{few_left}
use Rattle.playlist_parse.proofs.PlainLines.{later_lines}
use Rattle.playlist_parse.proofs.reader.read.Goals as goal

pub read_lines_after_header-requires-clause-few : goal.read_lines_after_header-requires-clause-few
read_lines_after_header-requires-clause-few c =
    let small : length c.in-Ok.text.now ≤ 4194304 = search rules in
    let few = few_left c.in-Ok.text.now c.new-lines.result _ c.next.new.self c.new-lines.ensures.lines c.in-Some.ensures.line small in
    let size = length-map c.next.new.self line_text in
    subst (λ ls. length ls < 9223372036854775808) c.left.ensures (omega (arith, few, size))

pub read_lines_after_header-requires-clause-plain : goal.read_lines_after_header-requires-clause-plain
read_lines_after_header-requires-clause-plain c = λ plain.
    let same : c.in-Ok.text.now ≡ c.args.bytes.now = search rules in
    let text : list_all is_plain_byte c.in-Ok.text.now ≡ true = ap (list_all is_plain_byte) same ∙ sym c.has_plain_line_bytes-is_plain.ensures ∙ plain in
    subst (λ ls. list_all is_free ls ≡ true) c.left.ensures (later_lines c.in-Ok.text.now c.new-lines.result _ c.next.new.self c.new-lines.ensures.lines c.in-Some.ensures.line text)
