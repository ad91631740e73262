use Rattle.std.proofs.Common.{sym, subst}
use Rattle.std.specs.Prelude.{IsUtf8}
use Rattle.std.proofs.lemmas.Str.{IsUtf8-from_ascii}
use Rattle.playlist_write.proofs.IvDigits.{digits_ascii}
use Rattle.playlist_write.proofs.digits.write_quote_and_iv.Goals as goal

pub from_utf8_unchecked-requires : goal.from_utf8_unchecked-requires
from_utf8_unchecked-requires c = subst IsUtf8 (sym c.written_iv_digits-digits.ensures) (IsUtf8-from_ascii _ (digits_ascii 32 c.args.iv))
