use Rattle.std.proofs.Common.{sym, subst}
use Rattle.std.specs.Str.{IsUtf8}
use Rattle.std.proofs.lemmas.Str.{IsUtf8-from_ascii}
use Rattle.date_times.proofs.AsciiTexts.{line_ascii}
use Rattle.date_times.specs.Times.{instant_from_1900}
use Rattle.date_times.proofs.writing.TimeWriter.write_line.Goals as goal

pub from_utf8_unchecked-line-requires : goal.from_utf8_unchecked-line-requires
from_utf8_unchecked-line-requires c = subst IsUtf8 (sym c.put_instant-end.ensures.line) (IsUtf8-from_ascii _ (line_ascii (instant_from_1900 c.args.instant)))
