use Rattle.std.proofs.Common.{sym, string_bytes}
use Rattle.date_times.proofs.Chains.{as_text}
use Rattle.playlist_write.proofs.TagLines.{format_part}
use Rattle.playlist_write.proofs.keys.write_key_format.Goals as goal

pub returns : goal.returns
returns c = as_text (string_bytes c.args.out.now) c.in_ok-write_quoted_attribute.ensures (format_part c.args.format.now (sym c.if-eq.ensures))
