use Rattle.std.proofs.Common.{◌≡◌, ◌∙◌, sym, ap, subst, true}
use Rattle.std.specs.Str.{IsAscii}
use Rattle.url.specs.Parts.{text_before}
use Rattle.url.specs.declared.slicing.Position.TheVariants.{AfterPort}
use Rattle.playlist_model.specs.Uri.{can_be_written}
use Rattle.uri_resolver.specs.Plain.{is_rooted_reference, StandsBefore}
use Rattle.uri_resolver.proofs.PlainJoin.{stands_before_rooted, web_is_special}
use Rattle.uri_resolver.proofs.origin_of_base.Goals as goal

pub returns-in-Ok : goal.returns-in-Ok
returns-in-Ok c =
    let spelled : c.slice-front.result.now ≡ text_before c.args.url.now AfterPort = c.slice-front.ensures.value in
    let ascii = subst IsAscii spelled c.slice-front.ensures.ascii in
    let written : can_be_written (text_before c.args.url.now AfterPort) ≡ true = ap can_be_written (sym spelled) ∙ sym c.resolved_uri_can_be_written.ensures ∙ c.if-not-resolved_uri_can_be_written.false in
    let stands = stands_before_rooted c.args.url.now c.requires.valid (web_is_special c.args.url.now c.requires.web) ascii written in
    subst (StandsBefore c.args.url.now is_rooted_reference) (sym (c.in-Ok.ensures.ok ∙ spelled)) stands
