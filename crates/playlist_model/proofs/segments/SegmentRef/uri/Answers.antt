use Rattle.std.proofs.Common.{◌≡◌, ◌++◌, true, subst, arith}
use Rattle.std.specs.Str.{is_utf8}
use Rattle.std.proofs.lemmas.Grind.{common_steps}
use Rattle.std.proofs.lemmas.Str.{IsUtf8-append, is_utf8-from_IsUtf8}
use Rattle.playlist_model.proofs.segments.SegmentRef.uri.Goals as goal

pub returns-clause-utf8 : goal.returns-clause-utf8
returns-clause-utf8 c =
    let front = c.segment_text_at-front.result.now in
    let rest = c.segment_text_at.result.now in
    let is : front ++ rest ≡ c.args.self.now.uri = grind (arith, common_steps) in
    subst (λ bytes. is_utf8 bytes ≡ true) is (is_utf8-from_IsUtf8 (front ++ rest) (IsUtf8-append front rest c.segment_text_at-front.utf8 c.segment_text_at.utf8))
