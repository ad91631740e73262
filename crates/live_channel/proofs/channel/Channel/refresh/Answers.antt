use Rattle.std.proofs.Common.{Ok, rules, subst, arith}
use Rattle.std.specs.Prelude.{IfErr}
use Rattle.std.proofs.lemmas.Grind.{common_steps}
use Rattle.channel_spec.specs.Kept.{kept_refusal}
use Rattle.channel_window.specs.Showing.{kept_in}
use Rattle.playlist_kept.specs.Kept.{playlist_in}
use Rattle.live_channel.specs.Channel.{Channel, Refreshes, channel_with, text_in}
use Rattle.live_channel.specs.Inner.Accepting.{Refused, RefusesNext}
use Rattle.live_channel.proofs.Refreshing.{stays, stays_next}
use Rattle.live_channel.proofs.Listing.{taken_over}
use Rattle.live_channel.proofs.Taking.{IsSound, judged, is_sound, is_listed, kept_after, listed_after, refreshes}
use Rattle.live_channel.proofs.channel.Channel.refresh.Goals as goal

pub returns-in_err-read : goal.returns-in_err-read
returns-in_err-read c =
    let i = c.self.inside in
    let bytes = c.args.bytes.now in
    let refused : IfErr c.from_residual.result (λ e. Refused i.base i.tolerance i.state bytes e) = search rules in
    subst (λ (x : Channel). Refreshes x bytes c.from_residual.result x) c.self.view_is (stays i.base i.tolerance i.state (text_in i.written) bytes c.from_residual.result c.from_residual.ensures.0 refused)

pub accept_live_refresh-requires : goal.accept_live_refresh-requires
accept_live_refresh-requires c =
    let i = c.self.inside in
    let bytes = c.args.bytes.now in
    let read = c.in_ok-read.read in
    let sound : IsSound i.base i.tolerance i.state i.written = record { stands = c.self.invariant.0; kept = c.self.invariant.1; contiguous = c.self.invariant.2.1; laid = c.self.invariant.3 } in
    judged i.base i.tolerance i.state i.written bytes read sound c.in_ok-read.ensures.ok (taken_over i.source i.state read c.self.invariant.2.0 c.in_ok-read.ensures.taken) c.in_ok-read.ensures.front

pub invariant_of-self : goal.invariant_of-self
invariant_of-self c = grind (arith, common_steps)

pub returns-in_err-refreshed : goal.returns-in_err-refreshed
returns-in_err-refreshed c =
    let i = c.self.inside in
    let bytes = c.args.bytes.now in
    let p = playlist_in c.in_ok-read.read in
    let result = c.from_residual-in_err-refreshed.result in
    let refused : IfErr result (λ e. RefusesNext e (kept_refusal i.tolerance (kept_in i.state) p)) = search rules in
    let before = channel_with i.base i.tolerance i.state (text_in i.written) in
    let stay = subst (λ (x : Channel). Refreshes x bytes result before) c.self.view_is (stays_next i.base i.tolerance i.state (text_in i.written) bytes p result c.from_residual-in_err-refreshed.ensures.0 c.in_ok-read.ensures.ok refused) in
    grind (arith, common_steps)

pub invariant_of-self-2 : goal.invariant_of-self-2
invariant_of-self-2 c =
    let i = c.self.inside in
    let bytes = c.args.bytes.now in
    let read = c.in_ok-read.read in
    let new = c.accept_live_refresh.new.state in
    let text = c.accept_live_refresh.new.written in
    let here = c.in_ok-read.ensures.ok in
    let sound : IsSound i.base i.tolerance i.state i.written = record { stands = c.self.invariant.0; kept = c.self.invariant.1; contiguous = c.self.invariant.2.1; laid = c.self.invariant.3 } in
    let s = is_sound i.base i.tolerance i.state i.written bytes read sound here new text c.in_ok-refreshed.refreshed c.in_ok-refreshed.ensures.ok in
    let listed = is_listed i.base i.tolerance i.state i.written bytes read sound here new text c.in_ok-refreshed.refreshed c.in_ok-refreshed.ensures.ok in
    grind (arith, common_steps, listed_after, kept_after)

pub returns : goal.returns
returns c =
    let i = c.self.inside in
    let bytes = c.args.bytes.now in
    let read = c.in_ok-read.read in
    let new = c.accept_live_refresh.new.state in
    let text = c.accept_live_refresh.new.written in
    let sound : IsSound i.base i.tolerance i.state i.written = record { stands = c.self.invariant.0; kept = c.self.invariant.1; contiguous = c.self.invariant.2.1; laid = c.self.invariant.3 } in
    subst (λ (x : Channel). Refreshes x bytes (Ok c.in_ok-refreshed.refreshed) (channel_with i.base i.tolerance new (text_in text))) c.self.view_is
    (refreshes i.base i.tolerance i.state i.written bytes read sound c.in_ok-read.ensures.ok new text c.in_ok-refreshed.refreshed c.in_ok-refreshed.ensures.ok)
