use Rattle.std.proofs.Common.{sym, ap, subst}
use Rattle.playlist_model.specs.Segments.{Growing}
use Rattle.playlist_model.specs.InCommon.{AreSameAt, init_section_keys}
use Rattle.playlist_model.specs.Inner.Rows.{LastOwnKeys}
use Rattle.playlist_model.proofs.segments.GrowingSegments.set_init_section.Goals as goal

pub invariant_of-self : goal.invariant_of-self
invariant_of-self c =
    let i = c.self.invariant in
    let with = c.with_init_section-self-inside.ensures in
    let last_own = subst (λ standings. LastOwnKeys standings c.last_own_keys.result) c.as_slice.ensures.value c.last_own_keys.ensures in
    let same = subst (λ keys. AreSameAt c.args.same keys (init_section_keys c.args.init_section)) (sym (ap {A = Growing} (λ g. g.keys) c.self.view_is)) c.requires in (
      i.0,
      λ never. absurd (cc never),
      i.2,
      record {
        with_last = λ last found.
            let own = last_own last found in
            with.common last.keys c.self.inside.keys last.init_section c.self.inside.init_section c.args.init_section own.0 own.1 same (i.3.with_last last found);
        own = subst (λ places. AreSameAt places c.self.inside.keys (init_section_keys c.args.init_section)) (sym with.own) same;
      },
      i.4,
    )
