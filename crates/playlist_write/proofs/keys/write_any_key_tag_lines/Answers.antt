use Rattle.std.proofs.Common.{arith}
use Rattle.std.proofs.lemmas.List.{append-nil}
use Rattle.std.proofs.lemmas.Grind.{common_steps}
use Rattle.playlist_write.proofs.SameKeys.{same_keys_owe_nothing}
use Rattle.playlist_write.proofs.keys.write_any_key_tag_lines.Goals as goal

pub returns-then-are_same_keys_in_common : goal.returns-then-are_same_keys_in_common
returns-then-are_same_keys_in_common c = grind (arith, common_steps, append-nil, same_keys_owe_nothing)
