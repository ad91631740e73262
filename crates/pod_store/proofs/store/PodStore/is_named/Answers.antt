use Rattle.std.proofs.Common.{Some, None}
use Rattle.pod_store.proofs.KeptLaws.{named_kept}
use Rattle.pod_store.proofs.store.PodStore.is_named.Goals as goal

pub returns-in-Some : goal.returns-in-Some
returns-in-Some c = named_kept c.args.id.now c.self.inside.kept.entries c.self.inside.fallback c.args.self.now (Some c.in-Some.kept.now) c.self.view_is c.in-Some.ensures

pub returns-in-None : goal.returns-in-None
returns-in-None c = named_kept c.args.id.now c.self.inside.kept.entries c.self.inside.fallback c.args.self.now None c.self.view_is c.in-None.ensures
