use Rattle.std.proofs.Common.{string_bytes}
use Rattle.std.specs.Prelude.{codes}
use Rattle.date_times.proofs.Chains.{grown3}
use Rattle.playlist_write.proofs.keys.write_key_method.Goals as goal

pub returns : goal.returns
returns c = grown3 (string_bytes c.args.out.now) (codes "#EXT-X-KEY:METHOD=") c.args.method.now (codes ",URI=\"") c.in_ok-push_str.ensures.bytes c.in_ok-push_str-2.ensures.bytes c.in_ok-push_str-3.ensures.bytes
