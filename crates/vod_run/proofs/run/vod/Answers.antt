use Rattle.std.specs.Option.{option_copied}
use Rattle.std.proofs.Common.{subst, sym, ◌∙◌, arith}
use Rattle.std.specs.Prelude.{◌≢◌}
use Rattle.vod_run.specs.declared.fault.VodFault.TheVariants.{Read, TooManyReads}
use Rattle.vod_run.specs.Vod.{IsInOrder, IsOfVod}
use Rattle.vod_run.proofs.WholeRun.{judged_before, unread, passes, writes, given_all, writes_front, handed_on, in_order, of_input, no_write, number_range_of, fair_on, fair_sink_on, write_is_no_read, write_is_no_playlist, fair_source, unused_sink, on_end, at_end}
use Rattle.vod_run.proofs.run.vod.Goals as goal

pub returns-in_err-refresh_vod_channel_from-clause-kind : goal.returns-in_err-refresh_vod_channel_from-clause-kind
returns-in_err-refresh_vod_channel_from-clause-kind g c =
    handed_on _ _ _ c.from_residual-in_err-refresh_vod_channel_from.ensures.1
    (of_input _ _ _ _ c.in_err-refresh_vod_channel_from.ensures.err)

pub returns-in_err-refresh_vod_channel_from-clause-order : goal.returns-in_err-refresh_vod_channel_from-clause-order
returns-in_err-refresh_vod_channel_from-clause-order g c =
    let before = judged_before _ _ _ c.in_ok-channel.ensures.ok in
    handed_on _ _ _ c.from_residual-in_err-refresh_vod_channel_from.ensures.1
    (in_order _ _ _ _ _ _ c.in_err-refresh_vod_channel_from.ensures.err before)

pub returns-in_err-refresh_vod_channel_from-clause-playlist : goal.returns-in_err-refresh_vod_channel_from-clause-playlist
returns-in_err-refresh_vod_channel_from-clause-playlist g c =
    handed_on _ _ _ c.from_residual-in_err-refresh_vod_channel_from.ensures.1
    (unread _ _ _ c.in_ok-channel.ensures.ok _ _ _ c.in_err-refresh_vod_channel_from.ensures.err)

pub returns-in_err-refresh_vod_channel_from-clause-number_range : goal.returns-in_err-refresh_vod_channel_from-clause-number_range
returns-in_err-refresh_vod_channel_from-clause-number_range g c = grind (arith, number_range_of, passes)

pub returns-in_err-refresh_vod_channel_from-clause-source : goal.returns-in_err-refresh_vod_channel_from-clause-source
returns-in_err-refresh_vod_channel_from-clause-source g c =
    fair_on _ _ _ _ c.from_residual-in_err-refresh_vod_channel_from.ensures.1 c.in_err-refresh_vod_channel_from.ensures.source

pub returns-in_err-refresh_vod_channel_from-clause-to_end : goal.returns-in_err-refresh_vod_channel_from-clause-to_end
returns-in_err-refresh_vod_channel_from-clause-to_end g c =
    on_end _ _ _ c.from_residual-in_err-refresh_vod_channel_from.ensures.1 c.in_err-refresh_vod_channel_from.ensures.to_end

pub returns-in_err-refresh_vod_channel_from-clause-sink : goal.returns-in_err-refresh_vod_channel_from-clause-sink
returns-in_err-refresh_vod_channel_from-clause-sink g c =
    unused_sink _ _ (handed_on _ _ _ c.from_residual-in_err-refresh_vod_channel_from.ensures.1
    (no_write _ _ _ _ c.in_err-refresh_vod_channel_from.ensures.err))

pub returns-in_err-hand_out_vod_text-clause-write : goal.returns-in_err-hand_out_vod_text-clause-write
returns-in_err-hand_out_vod_text-clause-write g c is =
    let m = c.in_ok-refresh_vod_channel_from.ensures.ok in
    writes_front c.args.base.now (option_copied c.args.decisions) c.in_ok-channel.channel c.in_ok-channel.ensures.ok _ _ _ m _ _ c.in_err-hand_out_vod_text.ensures.err

pub returns-in_err-hand_out_vod_text-clause-nothing : goal.returns-in_err-hand_out_vod_text-clause-nothing
returns-in_err-hand_out_vod_text-clause-nothing g c =
    handed_on c.from_residual-in_err-hand_out_vod_text.result c.in_err-hand_out_vod_text.field-0.0 _ c.from_residual-in_err-hand_out_vod_text.ensures.1 (λ other. absurd (other c.in_err-hand_out_vod_text.ensures.kind))

pub returns-in_err-hand_out_vod_text-clause-kind : goal.returns-in_err-hand_out_vod_text-clause-kind
returns-in_err-hand_out_vod_text-clause-kind g c =
    handed_on c.from_residual-in_err-hand_out_vod_text.result c.in_err-hand_out_vod_text.field-0.0 _ c.from_residual-in_err-hand_out_vod_text.ensures.1 (subst IsOfVod (sym c.in_err-hand_out_vod_text.ensures.kind) tt)

pub returns-in_err-hand_out_vod_text-clause-order : goal.returns-in_err-hand_out_vod_text-clause-order
returns-in_err-hand_out_vod_text-clause-order g c =
    let file = option_copied c.args.decisions in
    let before = judged_before _ _ _ c.in_ok-channel.ensures.ok in
    handed_on _ _ _ c.from_residual-in_err-hand_out_vod_text.ensures.1
    (subst (λ e. IsInOrder e c.args.base.now file) (sym c.in_err-hand_out_vod_text.ensures.kind) before)

pub returns-in_err-hand_out_vod_text-clause-playlist : goal.returns-in_err-hand_out_vod_text-clause-playlist
returns-in_err-hand_out_vod_text-clause-playlist g c =
    handed_on _ _ _ c.from_residual-in_err-hand_out_vod_text.ensures.1
    (λ fault same. write_is_no_playlist fault (sym c.in_err-hand_out_vod_text.ensures.kind ∙ same))

pub returns-in_err-hand_out_vod_text-clause-source : goal.returns-in_err-hand_out_vod_text-clause-source
returns-in_err-hand_out_vod_text-clause-source g c =
    fair_source _ tt _ _ c.in_ok-refresh_vod_channel_from.ensures.source
    (handed_on _ _ _ c.from_residual-in_err-hand_out_vod_text.ensures.1
    (subst (λ e. (e ≢ Read) × (e ≢ TooManyReads)) (sym c.in_err-hand_out_vod_text.ensures.kind) write_is_no_read))

pub returns-in_err-hand_out_vod_text-clause-to_end : goal.returns-in_err-hand_out_vod_text-clause-to_end
returns-in_err-hand_out_vod_text-clause-to_end g c =
    on_end _ _ _ c.from_residual-in_err-hand_out_vod_text.ensures.1 (at_end _ _ c.in_ok-refresh_vod_channel_from.ensures.to_end)

pub returns-in_err-hand_out_vod_text-clause-sink : goal.returns-in_err-hand_out_vod_text-clause-sink
returns-in_err-hand_out_vod_text-clause-sink g c =
    fair_sink_on _ _ _ _ c.from_residual-in_err-hand_out_vod_text.ensures.1 c.in_err-hand_out_vod_text.ensures.sink

pub returns-clause-ok : goal.returns-clause-ok
returns-clause-ok g c =
    let m = c.in_ok-refresh_vod_channel_from.ensures.ok in
    writes _ _ _ c.in_ok-channel.ensures.ok _ _ _ m _ _ c.in_ok-hand_out_vod_text.ensures.ok

pub returns-clause-channel : goal.returns-clause-channel
returns-clause-channel g c =
    given_all _ _ _ c.in_ok-channel.ensures.ok _ _ _ c.in_ok-refresh_vod_channel_from.ensures.ok
