use Rattle.std.proofs.Common.{sym, ap, subst}
use Rattle.playlist_model.specs.Segments.{Growing}
use Rattle.playlist_model.specs.InCommon.{AreSameAt}
use Rattle.playlist_model.proofs.segments.GrowingSegments.set_keys.Goals as goal

pub invariant_of-self : goal.invariant_of-self
invariant_of-self c =
    let i = c.self.invariant in
    let with = c.with_keys-self-inside.ensures in
    let same = subst (λ keys. AreSameAt c.args.same keys c.args.keys) (sym (ap {A = Growing} (λ g. g.keys) c.self.view_is)) c.requires in (
      i.0,
      λ never. absurd (cc never),
      i.2,
      record {
        with_last = λ last found. with.common last.keys c.self.inside.keys c.args.keys last.init_section c.self.inside.init_section same (i.3.with_last last found);
        own = with.own c.self.inside.keys c.args.keys c.self.inside.init_section same i.3.own;
      },
      i.4,
    )
