use Rattle.std.proofs.Common.{◌∙◌, ◌++◌, ◌∷◌, [], ap, sym, subst}
use Rattle.playlist_model.specs.Segments.{Growing, segment_under}
use Rattle.playlist_model.specs.Rows.{IsComparedWithLast, IsLastOf}
use Rattle.playlist_model.proofs.Rows.{always, grown_is, listed_on, still_listed, text_stays}
use Rattle.playlist_model.proofs.ComparedRows.{compared_with_equal, compared_with_itself}
use Rattle.playlist_model.proofs.segments.GrowingSegments.push.Goals as goal

pub invariant_of-self : goal.invariant_of-self
invariant_of-self c =
    let still = sym c.in_err-push_segment_row.ensures.still in (
      (still_listed c.self.inside.tables c.push_segment_row.new.tables c.self.inside.rows.items c.push_segment_row.new.rows.items c.push_segment_row.ensures.extends c.self.invariant.0 c.in_err-push_segment_row.ensures.refused).0,
      λ listed. subst (λ standings. IsLastOf standings c.self.inside.keys c.self.inside.init_section c.self.inside.uri_front) still (c.self.invariant.1 listed),
      c.push_segment_row.ensures.common,
      subst (λ standings. IsComparedWithLast standings c.self.inside.in_common c.self.inside.keys c.self.inside.init_section) still c.self.invariant.3,
      (text_stays c.self.inside.tables c.push_segment_row.new.tables c.self.inside.uri_front c.push_segment_row.ensures.extends c.self.invariant.4).0,
    )

pub returns-in_err-push_segment_row-clause-refused : goal.returns-in_err-push_segment_row-clause-refused
returns-in_err-push_segment_row-clause-refused c =
    let listed = still_listed c.self.inside.tables c.push_segment_row.new.tables c.self.inside.rows.items c.push_segment_row.new.rows.items c.push_segment_row.ensures.extends c.self.invariant.0 c.in_err-push_segment_row.ensures.refused in
    let front = text_stays c.self.inside.tables c.push_segment_row.new.tables c.self.inside.uri_front c.push_segment_row.ensures.extends c.self.invariant.4 in
    always _ _ (grown_is c.self.inside.keys c.self.inside.init_section listed.1 front.1 ∙ c.self.view_is)

pub invariant_of-self-then-not-self : goal.invariant_of-self-then-not-self
invariant_of-self-then-not-self c =
    let row = c.in_ok-push_segment_row.ensures.row in
    let last = c.in_ok-push_segment_row.ensures.last in (
      (listed_on c.self.inside.tables c.push_segment_row.new.tables c.self.inside.rows.items c.push_segment_row.new.rows.items row.0 _ c.push_segment_row.ensures.extends c.self.invariant.0 row.1 row.2 row.3).0,
      λ _. last,
      c.push_segment_row.ensures.common,
      compared_with_itself _ c.whole-self-inside.result c.self.inside.keys c.self.inside.init_section c.self.inside.uri_front last (c.whole-self-inside.ensures.common c.self.inside.keys c.self.inside.init_section c.is_some.ensures c.self.invariant.3.own),
      (text_stays c.self.inside.tables c.push_segment_row.new.tables c.self.inside.uri_front c.push_segment_row.ensures.extends c.self.invariant.4).0,
    )

pub invariant_of-self-else-not-self : goal.invariant_of-self-else-not-self
invariant_of-self-else-not-self c =
    let row = c.in_ok-push_segment_row.ensures.row in
    let last = c.in_ok-push_segment_row.ensures.last in (
      (listed_on c.self.inside.tables c.push_segment_row.new.tables c.self.inside.rows.items c.push_segment_row.new.rows.items row.0 _ c.push_segment_row.ensures.extends c.self.invariant.0 row.1 row.2 row.3).0,
      λ _. last,
      c.push_segment_row.ensures.common,
      compared_with_equal _ _ c.self.inside.in_common c.self.inside.keys c.self.inside.init_section c.self.inside.uri_front (c.self.invariant.1 c.if-not-self.false) last c.self.invariant.3,
      (text_stays c.self.inside.tables c.push_segment_row.new.tables c.self.inside.uri_front c.push_segment_row.ensures.extends c.self.invariant.4).0,
    )

pub returns-then-not-self-clause-pushed : goal.returns-then-not-self-clause-pushed
returns-then-not-self-clause-pushed c =
    let row = c.in_ok-push_segment_row.ensures.row in
    let listed = listed_on c.self.inside.tables c.push_segment_row.new.tables c.self.inside.rows.items c.push_segment_row.new.rows.items row.0 _ c.push_segment_row.ensures.extends c.self.invariant.0 row.1 row.2 row.3 in
    let front = text_stays c.self.inside.tables c.push_segment_row.new.tables c.self.inside.uri_front c.push_segment_row.ensures.extends c.self.invariant.4 in
    grown_is c.self.inside.keys c.self.inside.init_section listed.1 front.1
    ∙ ap {A = Growing} (λ g. record g { segments = g.segments ++ segment_under g.keys g.init_section g.uri_front c.args.parts.now ∷ [] }) c.self.view_is

pub returns-else-not-self-clause-pushed : goal.returns-else-not-self-clause-pushed
returns-else-not-self-clause-pushed c =
    let row = c.in_ok-push_segment_row.ensures.row in
    let listed = listed_on c.self.inside.tables c.push_segment_row.new.tables c.self.inside.rows.items c.push_segment_row.new.rows.items row.0 _ c.push_segment_row.ensures.extends c.self.invariant.0 row.1 row.2 row.3 in
    let front = text_stays c.self.inside.tables c.push_segment_row.new.tables c.self.inside.uri_front c.push_segment_row.ensures.extends c.self.invariant.4 in
    grown_is c.self.inside.keys c.self.inside.init_section listed.1 front.1
    ∙ ap {A = Growing} (λ g. record g { segments = g.segments ++ segment_under g.keys g.init_section g.uri_front c.args.parts.now ∷ [] }) c.self.view_is
