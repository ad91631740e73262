use Rattle.std.proofs.Common.{ap, sym, ◌∙◌, not}
use Rattle.std.specs.Prelude.{◌&&◌}
use Rattle.std.proofs.lemmas.Str.{is_utf8-from_IsUtf8}
use Rattle.playlist_model.specs.Lines.{has_control}
use Rattle.writable.proofs.texts.is_clean.Goals as goal

pub returns : goal.returns
returns c =
    ap not c.has_control.ensures
    ∙ sym (ap (λ b. b && not (has_control c.args.text.now)) (is_utf8-from_IsUtf8 c.args.text.now c.utf8.text))
