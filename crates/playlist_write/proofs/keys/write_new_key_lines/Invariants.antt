use Rattle.std.proofs.Common.{◌≡◌, ◌++◌, true, Bool, string_bytes}
use Rattle.std.specs.Prelude.{filter}
use Rattle.std.specs.List.{list_any}
use Rattle.playlist_model.specs.declared.Key.{Key}
use Rattle.playlist_model.specs.InCommon.{AreSameAt}
use Rattle.stitcher.specs.KeyTags.{is_new_key}
use Rattle.playlist_write.specs.Owed.{said_text}
use Rattle.playlist_write.specs.Inner.Owed.{set_tags}
use Rattle.playlist_write.proofs.keys.write_new_key_lines.Given as goal

abbrev pub invariant-loop-key : goal.invariant-loop-key
invariant-loop-key l = record {
  text : string_bytes l.out ++ said_text (set_tags (filter (is_new_key l.old) l.key-iterator)) ≡ string_bytes l.initial.out ++ said_text (set_tags (filter (is_new_key l.old) l.initial.key-iterator));
  among : (holds : Key → Bool) → list_any holds l.others ≡ true → list_any holds l.old ≡ true;
  same : AreSameAt l.places l.others l.key-iterator;
}
