use Rattle.std.proofs.Common.{rules, not}
use Rattle.std.specs.Prelude.{bytes_eq}
use Rattle.std.proofs.lemmas.Fn.{filter_same}
use Rattle.playlist_model.specs.declared.Key.{Key}
use Rattle.segment_state.proofs.keys.remove_key_format_in_reader_state.Goals as goal

pub returns : goal.returns
returns c =
    filter_same _ (λ (k : Key). not (bytes_eq c.args.format.now k.format)) _ (λ x b f' t. search rules) _ _ c.retain.ensures.filtered
