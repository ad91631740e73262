use Rattle.std.proofs.Common.{arith, sym, subst}
use Rattle.std.specs.Str.{IsUtf8}
use Rattle.std.proofs.lemmas.Str.{IsUtf8-from_ascii}
use Rattle.std.proofs.lemmas.Grind.{common_steps}
use Rattle.date_times.proofs.AsciiTexts.{text_ascii}
use Rattle.date_times.proofs.MinuteTexts.{after_the_tag}
use Rattle.date_times.specs.Times.{instant_from_1900, time_text}
use Rattle.date_times.proofs.writing.TimeWriter.write.Goals as goal

pub from_utf8_unchecked-time-requires : goal.from_utf8_unchecked-time-requires
from_utf8_unchecked-time-requires c =
    let put = c.put_instant-end in
    subst IsUtf8 (sym (after_the_tag put.new.text (time_text c.args.instant) put.result put.ensures.text put.ensures.start)) (IsUtf8-from_ascii _ (text_ascii (instant_from_1900 c.args.instant)))

pub returns-clause-text : goal.returns-clause-text
returns-clause-text c = grind (arith, common_steps, after_the_tag)
