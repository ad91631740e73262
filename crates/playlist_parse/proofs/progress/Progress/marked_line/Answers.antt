use Rattle.std.proofs.Common.{◌≡◌, ◌++◌, ap, sym, ◌∙◌, subst, arith}
use Rattle.std.specs.Prelude.{IsOk, MatchResult, codes}
use Rattle.std.proofs.lemmas.Grind.{common_steps}
use Rattle.playlist_model.specs.Refusals.{RefusesByPlaylistFault}
use Rattle.playlist_model.specs.LookBack.{with_said}
use Rattle.playlist_parse.specs.Inner.Progress.{progress_at}
use Rattle.playlist_parse.proofs.LineLemmas.{time_line, byte_range_line}
use Rattle.playlist_parse.proofs.progress.Progress.marked_line.Goals as goal

pub returns-in-Some-clause-takes : goal.returns-in-Some-clause-takes
returns-in-Some-clause-takes c = λ before e.
    let base = c.args.self.now.base in
    let line : c.args.line.now ≡ codes "#EXT-X-PROGRAM-DATE-TIME:" ++ c.in-Some.stated.now =
    c.in-Some.ensures.cases.1.1 ∙ ap (λ rest. codes "#EXT-X-PROGRAM-DATE-TIME:" ++ rest) (sym c.in-Some.ensures.cases.2) in
    let said = time_line base before c.args.line.now c.in-Some.stated.now line c.requires.printable in
    subst (λ o. MatchResult c.time.result (λ _. IsOk o × (c.time.new.self ≡ progress_at base (with_said before o))) (λ fault. RefusesByPlaylistFault fault o))
    (sym said) (c.time.ensures before e)

pub returns-in-Some-strip_prefix-clause-takes : goal.returns-in-Some-strip_prefix-clause-takes
returns-in-Some-strip_prefix-clause-takes c = λ before e.
    let base = c.args.self.now.base in
    let some = c.in-Some-strip_prefix in
    let line : c.args.line.now ≡ codes "#EXT-X-BYTERANGE:" ++ some.stated.now =
    some.ensures.cases.1.1 ∙ ap (λ rest. codes "#EXT-X-BYTERANGE:" ++ rest) (sym some.ensures.cases.2) in
    let said = byte_range_line base before c.args.line.now some.stated.now line c.requires.printable in
    grind (arith, common_steps)
