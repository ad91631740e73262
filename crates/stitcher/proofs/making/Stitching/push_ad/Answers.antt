use Rattle.std.proofs.Common.{arith}
use Rattle.std.proofs.lemmas.Grind.{common_steps}
use Rattle.stitcher.proofs.Ads.{ad_keys, listed}
use Rattle.stitcher.proofs.making.Stitching.push_ad.Goals as goal

pub returns-clause-ok : goal.returns-clause-ok
returns-clause-ok c mark first ad under = grind (arith, common_steps, ad_keys, listed)
