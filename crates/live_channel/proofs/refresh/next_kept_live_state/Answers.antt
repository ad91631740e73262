use Rattle.std.proofs.Common.{◌≡◌, ◌∙◌, ◌++◌, List, false, ap, subst, sym, rules}
use Rattle.std.specs.Prelude.{IfErr, IfOk}
use Rattle.std.specs.List.{list_all}
use Rattle.stitcher.specs.Stitched.{can_be_numbered}
use Rattle.stitcher.specs.declared.marked.MarkedSegment.{MarkedSegment as Held}
use Rattle.channel_spec.specs.Kept.{items_on}
use Rattle.playlist_kept.specs.Kept.{playlist_in}
use Rattle.channel_window.specs.declared.state.ChannelState.{ChannelState}
use Rattle.channel_window.specs.Listed.{RefusesList}
use Rattle.channel_window.specs.Marking.{history_in}
use Rattle.channel_window.specs.Showing.{kept_before, kept_in}
use Rattle.live_channel.specs.Inner.Accepting.{IsAccepted}
use Rattle.live_channel.proofs.Accepting.{accepted_as, before_is, items_kept, ready}
use Rattle.live_channel.proofs.refresh.next_kept_live_state.Goals as goal

pub next_live_state_of-requires : goal.next_live_state_of-requires
next_live_state_of-requires c =
    let s = c.args.state.now in
    let come = c.in_ok-showing.showing.come.items in
    let list = c.as_slice-list.result.now in
    let list_is : list ≡ s.list ++ come = c.as_slice-list.ensures ∙ c.in_ok-append.ensures.ok in
    let before : kept_before c.before-before.result ≡ s = before_is s (kept_before c.before-before.result) come c.append.new.self c.len-stood.result c.len-stood.ensures c.in_ok-append.ensures.ok c.before-before.ensures in
    ready _ _ _ _ _ _ _ _ before list_is c.in_ok-showing.ensures c.requires.stood c.requires.decided

pub returns : goal.returns
returns c =
    let s = c.args.state.now in
    let p = (playlist_in c.args.read.now) in
    let showing = c.in_ok-showing.showing in
    let come = showing.come.items in
    let list = c.as_slice-list.result.now in
    let list_is : list ≡ s.list ++ come = c.as_slice-list.ensures ∙ c.in_ok-append.ensures.ok in
    let before : kept_before c.before-before.result ≡ s = before_is s (kept_before c.before-before.result) come c.append.new.self c.len-stood.result c.len-stood.ensures c.in_ok-append.ensures.ok c.before-before.ensures in
    let long = showing.so_far in
    record {
      ok =
          subst (λ xs. IfOk c.next_live_state_of.result (λ a. IsAccepted c.args.tolerance (kept_in s) p xs a)) (sym c.in_ok-append.ensures.ok)
          (accepted_as c.args.tolerance s (kept_before c.before-before.result) p (s.list ++ come) list showing c.next_live_state_of.result c.in_ok-showing.ensures before list_is c.next_live_state_of.ensures.ok);
      err =
          subst (λ items. IfErr c.next_live_state_of.result (λ e. RefusesList e (list_all can_be_numbered items ≡ false)))
          (ap (λ (x : ChannelState). items_on (kept_in x) p (history_in x.store list) long) before
          ∙ (ap (λ (xs : List Held). items_on (kept_in s) p (history_in s.store xs) long) list_is
          ∙ items_kept _ _ _ _ _ c.in_ok-showing.ensures)) c.next_live_state_of.ensures.err;
      grown = search rules;
    }
