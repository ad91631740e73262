use Rattle.std.proofs.Common.{◌≡◌, ◌∙◌, ◌∷◌, ◌++◌, [], List, ℕ, ap, sym, string_bytes}
use Rattle.std.specs.Prelude.{codes}
use Rattle.std.proofs.lemmas.List.{append-nil}
use Rattle.attr_list.specs.Attributes.{pair_spelling}
use Rattle.playlist_model.specs.Carried.{after_commas}
use Rattle.playlist_write.specs.Spelling.{byte_range_text, in_quotes, part_pairs}
use Rattle.date_times.proofs.Chains.{grown3, as_text}
use Rattle.playlist_write.proofs.keys.write_init_section_part.Goals as goal

part_text : (text : List ℕ) → codes ",BYTERANGE=\"" ++ (text ++ 34 ∷ []) ≡ after_commas (in_quotes (codes "BYTERANGE") text ∷ [])
part_text text = sym (append-nil (44 ∷ pair_spelling (in_quotes (codes "BYTERANGE") text)))

pub returns-in_ok-push : goal.returns-in_ok-push
unfolding lib.Utf8.encode
returns-in_ok-push c =
    let s = string_bytes c.args.out.now in
    let text = byte_range_text c.in-Some.part.length c.in-Some.part.offset in
    as_text s (grown3 s (codes ",BYTERANGE=\"") text (34 ∷ []) c.in_ok-push_str.ensures.bytes c.in_ok-write_byte_range.ensures c.in_ok-push.ensures.bytes)
    (part_text text ∙ ap (λ p. after_commas (part_pairs p)) (sym c.in-Some.is))
