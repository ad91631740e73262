use Rattle.std.proofs.Common.{sym, subst, ap}
use Rattle.std.specs.Prelude.{Option}
use Rattle.std.specs.Option.{option_copied}
use Rattle.pod_store.specs.Pods.{Pod}
use Rattle.stitcher.specs.Making.{pod_with}
use Rattle.stitcher.specs.Inner.Making.{PutsPieces, pieces_in_part}
use Rattle.stitcher.proofs.Outcomes.{on_ok}
use Rattle.stitcher.proofs.making.Stitching.put_break.Goals as goal

pub returns-in-Some-clause-ok : goal.returns-in-Some-clause-ok
returns-in-Some-clause-ok c =
    on_ok c.put_pod.result c.put_pod.ensures.ok (λ p id.
    subst (λ (o : Option Pod). PutsPieces c.args.self.now c.put_pod.new.self (pieces_in_part c.args.part (pod_with id o))) (sym (ap option_copied c.in-Some.is)) (p (record { id = id; pod = c.in-Some.pod.now })))
