use Rattle.std.proofs.Common.{rules, refl, [], ◌≡◌, ◌-◌, ◌∙◌, length, map, subst, sym, ap, arith}
use Rattle.std.proofs.lemmas.List.{length-drop, length-map}
use Rattle.std.proofs.lemmas.Grind.{common_steps}
use Rattle.playlist_model.specs.LookBack.{or_earlier}
use Rattle.pod_store.specs.Inner.Store.{NameTheSame}
use Rattle.stitcher.specs.Written.{written_item}
use Rattle.playlist_kept.specs.Kept.{playlist_in}
use Rattle.playlist_write.specs.Laid.{IsLaid}
use Rattle.channel_spec.specs.Kept.{shown_from, window_on}
use Rattle.channel_spec.specs.Marking.{last_entered}
use Rattle.channel_spec.specs.Successor.{first_number}
use Rattle.channel_window.specs.Marking.{history_in}
use Rattle.channel_window.specs.Showing.{kept_before, kept_in}
use Rattle.live_channel.specs.Inner.Accepting.{breaks_after}
use Rattle.live_channel.specs.Inner.Marks.{breaks_held}
use Rattle.live_channel.proofs.Accepting.{numbers_seen, text_seen}
use Rattle.live_channel.proofs.Marks.{breaks_seen}
use Rattle.live_channel.proofs.next.next_live_window.Goals as goal

pub live_lines_again-requires : goal.live_lines_again-requires
live_lines_again-requires c = grind (arith, common_steps)

pub returns-clause-ok : goal.returns-clause-ok
returns-clause-ok c =
    let s = kept_before c.args.refresh.now.before.now in
    let p = playlist_in c.args.refresh.now.read.now in
    let n = c.args.refresh.now.lasted in
    let held = c.args.refresh.now.list.now in
    let seen = history_in s.store held in
    let whole = c.in_ok-whole.field-0.whole in
    let start = c.in_ok-whole.field-0.start in
    let items = c.leave_out.new.self in
    let rest = c.in_ok-whole.field-0.rest in
    let window : items ≡ map written_item (window_on (kept_in s) p seen n) = c.leave_out.ensures ∙ c.in_ok-whole.ensures.window in
    let entered = c.args.refresh.now.entered.now in
    let ids = c.in_ok-in_use.in_use.items in
    let breaks_are : NameTheSame ids (breaks_held (first_number p.segments) held entered rest) = search rules in
    let breaks : NameTheSame ids (breaks_after (kept_in s) p seen) =
    subst (λ xs. NameTheSame ids xs) (breaks_seen s (kept_in s) p held entered (or_earlier (last_entered seen) s.shown.entered) rest c.requires.decided c.requires.entered_is c.in_ok-whole.ensures.rest c.in_ok-whole.ensures.left) breaks_are in
    let long : c.count-count.result ≡ length whole - start = c.count-count.ensures ∙ (ap length c.leave_out.ensures ∙ length-drop start whole) in
    record {
      fit = c.in_ok-whole.ensures.fit;
      in_use = breaks;
      numbers = numbers_seen s p held n items c.window_head_numbers-numbers.result window c.window_head_numbers-numbers.ensures;
      count = grind (arith, common_steps, length-map);
      rest = c.in_ok-whole.ensures.rest;
      rest_decided = c.in_ok-whole.ensures.left;
      text = text_seen s p held n items ids c.in_ok-lay_live_text.field-0.text window breaks (search rules);
      laid = subst (λ xs. IsLaid xs c.in_ok-lay_live_text.field-0) window (search rules);
    }
