use Rattle.std.proofs.Common.{sym, subst, ◌<◌, ◌∙◌}
use Rattle.std.specs.Prelude.{string_eq}
use Rattle.indexmap.proofs.CallerLemmas.{insert_entry-new}
use Rattle.channel_api.proofs.Names.{none_is, none_of}
use Rattle.channel_api.proofs.named.put_named.Goals as goal

pub returns-in-Ok : goal.returns-in-Ok
returns-in-Ok g c =
    let values = c.args.values.now in
    let key = c.in_ok-name.name in
    let free = none_is _ (sym c.contains_key.ensures ∙ c.if-contains_key.false) in
    let none = none_of values.entries c.args.name.now key free c.in_ok-name.ensures.ok in
    (free, subst (λ n. n < c.args.most) c.len.ensures.len c.if-len-most.false, key, c.in_ok-name.ensures.ok, c.in-Ok.ensures.entries ∙ insert_entry-new string_eq values key c.args.value none)
