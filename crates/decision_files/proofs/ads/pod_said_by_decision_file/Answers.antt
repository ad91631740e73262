use Rattle.std.proofs.Common.{◌≡◌, sym, subst, ◌∙◌, map, true}
use Rattle.serde_json.specs.View.{view}
use Rattle.pod_store.specs.Rules.{ads_keep}
use Rattle.decision_files.proofs.Keeping.{ads_read_keep, some_seen}
use Rattle.decision_files.proofs.ads.pod_said_by_decision_file.Goals as goal

pub new-requires : goal.new-requires
new-requires c =
    let some = some_seen view c.args.ads.now (sym c.is_empty.ensures ∙ c.if-is_empty.false) in
    subst (λ ads. ads_keep ads ≡ true) (sym c.from_vec.ensures) (ads_read_keep c.args.place (map view c.args.ads.now) c.in_ok-ads.ads.items some c.in_ok-ads.ensures.said c.in_ok-ads.ensures.most)
