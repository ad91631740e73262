use Rattle.std.proofs.Common.{◌∙◌, ◌∷◌, [], string_bytes}
use Rattle.std.specs.Prelude.{codes}
use Rattle.attr_list.specs.Attributes.{pair_spelling}
use Rattle.playlist_model.specs.Carried.{after_commas}
use Rattle.playlist_write.specs.Spelling.{in_quotes, part_pairs}
use Rattle.date_times.proofs.Chains.{grown4, as_text}
use Rattle.playlist_write.proofs.TagLines.{init_section_parts}
use Rattle.playlist_write.proofs.keys.write_init_section_line.Goals as goal

pub returns : goal.returns
returns c =
    let s = string_bytes c.args.out.now in
    let init_section = c.args.init_section.now in
    as_text s (grown4 s (codes "#EXT-X-MAP:") (pair_spelling (in_quotes (codes "URI") init_section.uri)) (after_commas (part_pairs init_section.byte_range)) (10 ∷ [])
    c.in_ok-push_str.ensures.bytes (rw (c.as_str.ensures.text ∙ c.deref.ensures) at c.in_ok-write_quoted_attribute.ensures) c.in_ok-write_init_section_part.ensures c.in_ok-write_line_feed.ensures) (init_section_parts init_section)
