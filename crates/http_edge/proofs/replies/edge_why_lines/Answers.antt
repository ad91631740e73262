use Rattle.std.proofs.Common.{◌≡◌, ◌+◌, ◌++◌, ◌∙◌, sym, ap, arith, map, take}
use Rattle.std.specs.Prelude.{string_bytes}
use Rattle.std.specs.List.{flat_map}
use Rattle.std.proofs.lemmas.Grind.{common_steps}
use Rattle.break_finder.specs.Entering.{id_of_break}
use Rattle.channel_api.specs.FaultTexts.{why_word}
use Rattle.live_channel.specs.Channel.{explained}
use Rattle.channel_api.specs.Replies.{why_line, id_line}
use Rattle.channel_api.proofs.Lines.{one_more, no_more}
use Rattle.http_edge.proofs.replies.edge_why_lines.Goals as goal

pub loop-id-preserved : goal.loop-id-preserved
loop-id-preserved c =
    let kept = c.args.channel.now.kept in
    let id = c.in-Some.id.now in
    let more = one_more (why_line (explained kept)) kept.breaks c.loop-id.place id c.in-Some.ensures.place in
    let next : c.in-Some-checked_add.next ≡ c.loop-id.place + 1 = omega (arith, c.in-Some-checked_add.ensures) in
    record {
      within = omega (arith, more.within, next);
      lines = c.in_ok-push_why_reply_line.ensures
          ∙ ap (λ w. string_bytes c.loop-id.lines ++ id_line id (why_word w)) c.explain.ensures.why
          ∙ ap (λ l. l ++ why_line (explained kept) id) c.loop-id.invariant.lines ∙ sym more.lines
          ∙ ap (λ n. flat_map (why_line (explained kept)) (map id_of_break (take n kept.breaks))) (sym next);
    }

pub returns-clause-lines : goal.returns-clause-lines
returns-clause-lines c = grind (arith, common_steps, no_more)
