use Rattle.std.proofs.Common.{ap, sym, ◌∙◌, subst, take}
use Rattle.playlist_parse.specs.Inner.ParsedDateRanges.{AreSaidByAttributes}
use Rattle.playlist_parse.proofs.KnownRanges.{said_before}
use Rattle.playlist_parse.proofs.source.date_ranges_known_in_source.Goals as goal

pub of-requires : goal.of-requires
of-requires c =
    let source = c.args.source.now in
    subst AreSaidByAttributes (sym (c.values_up_to_read_place.ensures ∙ ap (take source.lines.date_ranges) c.as_slice.ensures)) (said_before c.args.base.now source.lines source.segments.items source.date_ranges c.requires)
