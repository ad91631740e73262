use Rattle.std.proofs.Common.{◌≡◌, ◌∙◌, true, subst}
use Rattle.std.specs.Str.{is_utf8}
use Rattle.std.proofs.lemmas.Str.{is_utf8-from_IsUtf8}
use Rattle.playlist_model.proofs.items.Text.as_str.Goals as goal

pub returns-clause-utf8 : goal.returns-clause-utf8
returns-clause-utf8 c =
    subst (λ bytes. is_utf8 bytes ≡ true) (c.as_str.ensures.value ∙ c.self.view_is) (is_utf8-from_IsUtf8 c.as_str.result.now c.as_str.utf8)
