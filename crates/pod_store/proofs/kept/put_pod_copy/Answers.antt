use Rattle.std.proofs.Common.{ap, ◌∙◌, map, ◌++◌, ◌∷◌, [], true}
use Rattle.pod_store.specs.Pods.{Pod}
use Rattle.pod_store.specs.Kept.{entry_of}
use Rattle.pod_store.proofs.KeptLaws.{last_kept}
use Rattle.pod_store.proofs.kept.put_pod_copy.Goals as goal

pub returns-clause-ok : goal.returns-clause-ok
returns-clause-ok c =
    ap (map entry_of) c.in_ok-insert.ensures.entries
    ∙ (last_kept c.args.kept.now.entries c.in_ok-key.key c.args.id.now (record { pod = c.in_ok-clone.field-0; used = true; copied = true }) c.in_ok-key.ensures.ok c.requires
    ∙ ap (λ (p : Pod). map entry_of c.args.kept.now.entries ++ (record { id = c.args.id.now; pod = p; used = true; copied = true } ∷ [])) c.in_ok-clone.ensures)
