use Rattle.std.proofs.Common.{◌≡◌, sym, ap, ◌∙◌, arith, rules}
use Rattle.std.proofs.lemmas.Grind.{common_steps}
use Rattle.channel_spec.specs.Successor.{first_number}
use Rattle.channel_spec.specs.Kept.{listed}
use Rattle.playlist_kept.specs.Kept.{playlist_in}
use Rattle.channel_window.specs.Listed.{window_segments_in}
use Rattle.channel_window.specs.Showing.{kept_before, kept_in}
use Rattle.channel_window.specs.declared.state.ChannelState.{ChannelState}
use Rattle.channel_window.proofs.Found.{held_listed}
use Rattle.channel_window.proofs.Starting.{start_later, start_same, rest_later, rest_same}
use Rattle.channel_window.proofs.writing.window_start_of.Goals as goal

-- the first number that is shown is the one that is held
first_here : (s : ChannelState) → first_number (window_segments_in s.list) ≡ first_number (listed (kept_in s).shown)
first_here s = ap first_number (sym (held_listed s.store s.list))

pub returns-then-number-first_shown_number : goal.returns-then-number-first_shown_number
returns-then-number-first_shown_number c =
    let s = kept_before c.args.before.now in
    let p = (playlist_in c.args.read.now) in
    let k = c.first_shown_number.ensures ∙ first_here s in
    record {
      place = grind (arith, common_steps, start_same);
      within = search rules;
      decided = search rules;
      rest = grind (arith, common_steps, rest_same);
    }

pub returns : goal.returns
returns c =
    let s = kept_before c.args.before.now in
    let p = (playlist_in c.args.read.now) in
    let n = c.first_successor_number-number.ensures in
    let k = c.first_shown_number.ensures ∙ first_here s in
    record {
      place = grind (arith, common_steps, start_later);
      within = search rules;
      decided = search rules;
      rest = grind (arith, common_steps, rest_later);
    }
