use Rattle.std.proofs.Common.{◌+◌, sym, ◌∙◌, ap, refl, length}
use Rattle.std.proofs.lemmas.Option.{slice_get-get_or, slice_get_read}
use Rattle.playlist_model.specs.Rows.{no_standing, row_number, row_standing}
use Rattle.playlist_model.proofs.ComparedRows.{common_of_same, common_of_next}
use Rattle.playlist_model.proofs.segments.rows_in_common.Goals as goal

pub returns-then-now-before : goal.returns-then-now-before
returns-then-now-before c =
    let standings = c.args.tables.now.standings.items in
    let before = c.args.before.now in
    let now = c.args.now.now in
    let found = slice_get_read standings (length standings) now.standing c.index-standing.result.now refl c.requires.now.standing c.index-standing.ensures in
    common_of_same standings (row_number (row_standing standings before.standing) before) (row_number (row_standing standings now.standing) now) now.standing before.standing c.index-standing.result.now found c.if-now-before.true c.requires.common

pub returns-then-from : goal.returns-then-from
returns-then-from c =
    let standings = c.args.tables.now.standings.items in
    let before = c.args.before.now in
    let now = c.args.now.now in
    let found = slice_get_read standings (length standings) now.standing c.index-standing.result.now refl c.requires.now.standing c.index-standing.ensures in
    common_of_next standings (row_number (row_standing standings before.standing) before) (row_number (row_standing standings now.standing) now) now.standing before.standing c.index-standing.result.now _ found (slice_get-get_or standings before.standing no_standing c.requires.before.standing) (sym c.from-2.ensures ∙ sym c.if-from.true ∙ ap (λ n. n + 1) c.from.ensures) c.requires.common

pub returns : goal.returns
returns c = c.nothing.ensures.common _ _ _ _
