use Rattle.std.proofs.Common.{ap, ◌∙◌, map}
use Rattle.pod_store.specs.Kept.{entry_of}
use Rattle.pod_store.proofs.KeptLaws.{put_kept, from_ok}
use Rattle.pod_store.proofs.kept.put_stored_pod.Goals as goal

pub returns-clause-entries : goal.returns-clause-entries
returns-clause-entries c =
    ap (map entry_of) (from_ok c.insert.result c.unwrap.result c.unwrap.ensures c.insert.ensures.entries)
    ∙ put_kept c.args.kept.now.entries c.into_string.result c.args.decision c.into_string.ensures
