use Rattle.std.proofs.Common.{arith}
use Rattle.std.specs.Prelude.{string_bytes}
use Rattle.std.proofs.lemmas.Grind.{common_steps}
use Rattle.playlist_model.proofs.Rows.{text_put}
use Rattle.playlist_model.proofs.places.put_segment_text.Goals as goal

pub returns-clause-there : goal.returns-clause-there
returns-clause-there c =
    let put = text_put (string_bytes c.args.texts.now) (string_bytes c.append_segment_text.new.texts) c.args.text.now _ (grind (arith, common_steps)) (grind (arith, common_steps)) (grind (arith, common_steps)) c.utf8.text in
    (put.0, put.1, grind (arith, common_steps), grind (arith, common_steps))
