use Rattle.std.proofs.Common.{◌∙◌, ap, sym, subst, slice_get, length, refl}
use Rattle.std.proofs.lemmas.Option.{slice_get_read, slice_get-get_or}
use Rattle.playlist_model.specs.InCommon.{IsInCommon}
use Rattle.playlist_model.specs.Inner.Rows.{AreInForceOf}
use Rattle.playlist_model.specs.Rows.{no_standing, row_standing}
use Rattle.playlist_model.proofs.segments.GrowingSegments.push_row_copy.Goals as goal

pub take_standing-requires-clause-next : goal.take_standing-requires-clause-next
take_standing-requires-clause-next c = λ is.
    let standings = c.args.tables.now.standings.items in
    let now = c.index-standing.result.now in
    let found = slice_get_read standings (length standings) c.args.row.now.standing now refl c.requires.fits.standing c.index-standing.ensures in
    let next = c.is_next_standing.ensures is in
    let force = subst (λ last. AreInForceOf c.args.tables.now last c.args.self.now) next.1 c.requires.last in
    let before = row_standing standings next.0 in
    let common = c.requires.common.with_before next.0 before now (slice_get-get_or standings next.0 no_standing force.2) (ap (slice_get standings) next.2 ∙ found) in
    subst (λ keys. IsInCommon now.in_common keys c.args.self.now.init_section now.keys now.init_section) (sym force.0)
    (subst (λ section. IsInCommon now.in_common before.keys section now.keys now.init_section) (sym force.1) common)

pub take_standing-requires-clause-own : goal.take_standing-requires-clause-own
take_standing-requires-clause-own c =
    let standings = c.args.tables.now.standings.items in
    let found = slice_get_read standings (length standings) c.args.row.now.standing c.index-standing.result.now refl c.requires.fits.standing c.index-standing.ensures in
    (c.requires.common.whole c.args.row.now.standing c.index-standing.result.now found).own_keys_are
