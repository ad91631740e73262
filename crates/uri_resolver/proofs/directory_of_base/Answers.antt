use Rattle.std.proofs.Common.{◌≡◌, ◌∙◌, sym, ap, subst, string_bytes, true}
use Rattle.std.specs.Str.{IsAscii}
use Rattle.url.specs.Parts.{serialize}
use Rattle.playlist_model.specs.Uri.{can_be_written}
use Rattle.uri_resolver.specs.Plain.{is_relative_reference, StandsBefore}
use Rattle.uri_resolver.proofs.PlainJoin.{stands_before_relative, web_is_special}
use Rattle.uri_resolver.proofs.directory_of_base.Goals as goal

pub returns-then-resolved_uri_can_be_written : goal.returns-then-resolved_uri_can_be_written
returns-then-resolved_uri_can_be_written c =
    let spelled : c.as_str.result.now ≡ serialize c.in-Ok.here = c.as_str.ensures.value in
    let ascii : IsAscii (serialize c.in-Ok.here) = subst IsAscii spelled c.as_str.ensures.ascii in
    let written : can_be_written (serialize c.in-Ok.here) ≡ true = ap can_be_written (sym spelled) ∙ sym c.resolved_uri_can_be_written.ensures ∙ c.if-resolved_uri_can_be_written.true in
    let text : string_bytes c.from.result ≡ serialize c.in-Ok.here = c.from.ensures in
    subst (StandsBefore c.args.url.now is_relative_reference) (sym text) (stands_before_relative c.args.url.now c.in-Ok.here c.requires.valid (web_is_special c.args.url.now c.requires.web) c.in-Ok.ensures ascii written)
