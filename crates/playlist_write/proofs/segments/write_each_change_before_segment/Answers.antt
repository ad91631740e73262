use Rattle.std.proofs.Common.{◌≡◌, arith, subst, sym}
use Rattle.std.specs.Option.{option_copied}
use Rattle.std.proofs.lemmas.Grind.{common_steps}
use Rattle.playlist_model.specs.InCommon.{AreSameAt}
use Rattle.playlist_write.specs.Owed.{changed_written_init_section, written_keys_then}
use Rattle.playlist_write.proofs.CommonKeys.{changed_is_now, changed_keys_known}
use Rattle.playlist_write.proofs.segments.write_each_change_before_segment.Goals as goal

pub write_changed_init_section_line-requires : goal.write_changed_init_section_line-requires
write_changed_init_section_line-requires c =
    let changed : option_copied c.changed_written_init_section-changed.result ≡ changed_written_init_section (option_copied c.args.init_section) c.args.segment.init_section = grind (arith, common_steps) in
    changed_keys_known c.args.common c.both.result c.args.keys c.args.segment.keys _ _ _ changed c.both.ensures.places c.requires

pub write_key_tag_lines-requires : goal.write_key_tag_lines-requires
write_key_tag_lines-requires c =
    let changed : option_copied c.changed_written_init_section-changed.result ≡ changed_written_init_section (option_copied c.args.init_section) c.args.segment.init_section = grind (arith, common_steps) in
    let known : AreSameAt c.places_of_written_keys_then-same.result (written_keys_then c.args.keys (option_copied c.changed_written_init_section-changed.result)) c.args.segment.keys =
    c.places_of_written_keys_then-same.ensures c.args.keys c.args.segment.keys _ _ c.requires (changed_is_now _ _ _ changed) in
    subst (λ keys. AreSameAt c.places_of_written_keys_then-same.result keys c.keys.result) (sym c.written_keys_then-then.ensures)
    (subst (λ keys. AreSameAt c.places_of_written_keys_then-same.result (written_keys_then c.args.keys (option_copied c.changed_written_init_section-changed.result)) keys) (sym c.keys.ensures) known)
