use Rattle.std.proofs.Common.{◌≡◌, ◌++◌, length, refl, ap, ◌∙◌, append_assoc, string_bytes, arith}
use Rattle.playlist_write.specs.Owed.{none_yet, said_text, ended_owed}
use Rattle.playlist_write.specs.Inner.Laid.{front_text}
use Rattle.playlist_write.proofs.GoesOn.{lines, Laid, is_laid}
use Rattle.playlist_write.proofs.resumed.laid_out.Goals as goal

pub returns : goal.returns
returns c =
    let p = c.args.playlist.now in
    let front = front_text p in
    let body = lines none_yet p.segments in
    let ended = said_text (ended_owed p.end_list) in
    let out : string_bytes c.write_all_segment_lines.new.out ≡ front ++ body = rw (c.items.ensures, c.new-nothing.ensures, c.none-no_keys.ensures, c.in_ok-text.ensures) at c.in_ok-end.ensures.text in
    let force = rw (c.items.ensures, c.new-nothing.ensures, c.none-no_keys.ensures) at c.in_ok-end.ensures.force in
    let w = c.in_ok-written_text_with_end.ensures in
    let from = w.from ∙ (c.written_text_length-from.ensures ∙ ap length c.in_ok-text.ensures) in
    let till = w.till ∙ (c.written_text_length-till.ensures ∙ ap length out) in
    let text = w.text ∙ (c.in_ok-write_end_line.ensures ∙ (ap (λ t. t ++ ended) out ∙ append_assoc front body ended)) in
    let h : Laid p c.in_ok-written_text_with_end.field-0 = is_laid p c.in_ok-written_text_with_end.field-0 body _ refl force text from till (w.count ∙ c.count-count.ensures) w.end in
    grind arith
