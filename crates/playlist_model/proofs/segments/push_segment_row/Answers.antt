use Rattle.std.proofs.Common.{◌∙◌, ◌∷◌, ◌++◌, [], ap, refl}
use Rattle.std.specs.Prelude.{string_bytes}
use Rattle.playlist_model.specs.declared.segments.Row.{Row}
use Rattle.playlist_model.proofs.Rows.{grows_by_none, grows_on, row_listed}
use Rattle.playlist_model.proofs.segments.push_segment_row.Goals as goal

pub returns-clause-extends : goal.returns-clause-extends
returns-clause-extends c = record {
  texts = grows_on _ _ _ c.put_segment_text.ensures.grows c.put_segment_title.ensures.grows;
  extras = c.put_segment_extra.ensures.grows;
  standings = c.put_segment_standing.ensures.grows;
}

pub returns-in_err-title_end-clause-extends : goal.returns-in_err-title_end-clause-extends
returns-in_err-title_end-clause-extends c = record {
  texts = grows_on _ _ _ c.put_segment_text.ensures.grows c.put_segment_title.ensures.grows;
  extras = c.put_segment_extra.ensures.grows;
  standings = grows_by_none _;
}

pub returns-clause-row : goal.returns-clause-row
returns-clause-row c =
    let parts = c.args.parts.now in
    let row : Row = record { duration = parts.duration; uri_rest = c.in_ok-uri_rest.uri_rest; title_end = c.in_ok-title_end.title_end; standing = c.in_ok-standing.standing; number = c.in_ok-standing.number; extra = c.in_ok-extra.extra } in
    let there = c.in_ok-standing.ensures.there in
    let rest = c.in_ok-uri_rest.ensures.there in
    let title = c.in_ok-title_end.ensures.there in
    let extra = c.in_ok-extra.ensures.there in
    let listed = row_listed (string_bytes c.args.tables.now.texts) (string_bytes c.put_segment_text.new.texts) (string_bytes c.put_segment_title.new.texts) c.put_segment_extra.new.extras.items c.put_segment_standing.new.standings.items (record { texts = c.put_segment_title.new.texts; extras = c.put_segment_extra.new.extras; standings = c.put_segment_standing.new.standings }) row parts c.args.uri_front c.args.keys.now c.args.init_section.now _ refl refl refl
    c.put_segment_text.ensures.grows c.put_segment_title.ensures.grows c.requires.front rest.0 rest.1 title.0 title.1 extra.0 extra.1 there.1 there.2 there.3 there.4 there.5 refl in
    (row, c.push_reserved.ensures.items ∙ ap (λ rows. rows ++ row ∷ []) c.reserve.ensures.items, listed.0, listed.1)
