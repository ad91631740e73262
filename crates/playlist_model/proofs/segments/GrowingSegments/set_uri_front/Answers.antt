use Rattle.std.proofs.Common.{◌∙◌, ap, refl}
use Rattle.playlist_model.specs.declared.segments.Tables.{Tables}
use Rattle.playlist_model.specs.Inner.Rows.{Extends}
use Rattle.playlist_model.specs.Segments.{Growing}
use Rattle.playlist_model.proofs.Rows.{always, grown_is, grows_by_none, still_listed, text_stays}
use Rattle.playlist_model.proofs.segments.GrowingSegments.set_uri_front.Goals as goal

pub invariant_of-self : goal.invariant_of-self
invariant_of-self c =
    let i = c.self.invariant in
    let tables : Tables = record { texts = c.put_segment_text.new.texts; extras = c.self.inside.tables.extras; standings = c.self.inside.tables.standings } in
    let extends : Extends c.self.inside.tables tables = record { texts = c.put_segment_text.ensures.grows; extras = grows_by_none _; standings = grows_by_none _ } in (
      (still_listed c.self.inside.tables tables c.self.inside.rows.items c.self.inside.rows.items extends i.0 refl).0,
      i.1,
      i.2,
      i.3,
      (text_stays c.self.inside.tables tables c.self.inside.uri_front extends i.4).0,
    )

pub returns-in_err-self-inside-clause-refused : goal.returns-in_err-self-inside-clause-refused
returns-in_err-self-inside-clause-refused c =
    let i = c.self.invariant in
    let tables : Tables = record { texts = c.put_segment_text.new.texts; extras = c.self.inside.tables.extras; standings = c.self.inside.tables.standings } in
    let extends : Extends c.self.inside.tables tables = record { texts = c.put_segment_text.ensures.grows; extras = grows_by_none _; standings = grows_by_none _ } in
    let listed = still_listed c.self.inside.tables tables c.self.inside.rows.items c.self.inside.rows.items extends i.0 refl in
    let front = text_stays c.self.inside.tables tables c.self.inside.uri_front extends i.4 in
    always _ _ (grown_is c.self.inside.keys c.self.inside.init_section listed.1 front.1 ∙ c.self.view_is)

pub invariant_of-self-2 : goal.invariant_of-self-2
invariant_of-self-2 c =
    let i = c.self.invariant in
    let tables : Tables = record { texts = c.put_segment_text.new.texts; extras = c.self.inside.tables.extras; standings = c.self.inside.tables.standings } in
    let extends : Extends c.self.inside.tables tables = record { texts = c.put_segment_text.ensures.grows; extras = grows_by_none _; standings = grows_by_none _ } in (
      (still_listed c.self.inside.tables tables c.self.inside.rows.items c.self.inside.rows.items extends i.0 refl).0,
      λ never. absurd (cc never),
      i.2,
      i.3,
      c.in_ok-self-inside.ensures.there.0,
    )

pub returns-clause-set : goal.returns-clause-set
returns-clause-set c =
    let i = c.self.invariant in
    let tables : Tables = record { texts = c.put_segment_text.new.texts; extras = c.self.inside.tables.extras; standings = c.self.inside.tables.standings } in
    let extends : Extends c.self.inside.tables tables = record { texts = c.put_segment_text.ensures.grows; extras = grows_by_none _; standings = grows_by_none _ } in
    let listed = still_listed c.self.inside.tables tables c.self.inside.rows.items c.self.inside.rows.items extends i.0 refl in
    grown_is c.self.inside.keys c.self.inside.init_section listed.1 c.in_ok-self-inside.ensures.there.1
    ∙ ap {A = Growing} (λ g. record g { uri_front = c.args.front.now }) c.self.view_is
