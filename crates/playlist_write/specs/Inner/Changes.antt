-- What stands before the time of a segment.
use Rattle.std.specs.Prelude.{ℕ, Bool, ◌&&◌, ◌==◌, List, [], ◌∷◌, ◌++◌, length, replicate, is_none}
use Rattle.playlist_model.specs.declared.Key.{Key}
use Rattle.playlist_model.specs.declared.in_common.InCommon.{InCommon}
use Rattle.playlist_model.specs.InCommon.{IsInCommon}
use Rattle.playlist_model.specs.Segments.{Segment}
use Rattle.playlist_model.specs.Said.{Said, discontinuity}
use Rattle.stitcher.specs.declared.OutSegment.{OutSegment}
use Rattle.playlist_write.specs.Owed.{Current, changed_written_init_section, init_section_owed, written_keys_then, keys_owed}

-- so many discontinuities before a segment, and the tags of its initialisation section and its keys
abbrev pub segment_changes_owed : Current → ℕ → Segment → List Said
segment_changes_owed current steps segment =
    let changed = changed_written_init_section current.init_section segment.init_section in
    replicate steps discontinuity
    ++ (init_section_owed current.keys changed
    ++ keys_owed (written_keys_then current.keys changed) segment.keys)

-- the same of a segment that is written
abbrev pub changes_owed : Current → OutSegment → List Said
changes_owed current out = segment_changes_owed current out.discontinuities out.segment

-- what is in force has this in common with the segment
abbrev pub HasInCommon : InCommon → Current → OutSegment → Type 0
HasInCommon common current out = IsInCommon common current.keys current.init_section out.segment.keys out.segment.init_section

-- and with the first of these, if there is one
abbrev pub HasFirstInCommon : InCommon → Current → List OutSegment → Type 0
HasFirstInCommon common current [] = Unit {0}
HasFirstInCommon common current (out ∷ later) = HasInCommon common current out

-- no discontinuity, no initialisation section, and no keys before or after
abbrev pub written_segment_changes_nothing : List Key → OutSegment → Bool
written_segment_changes_nothing keys out =
    (out.discontinuities == 0)
    && (is_none out.segment.init_section && ((length keys == 0) && (length out.segment.keys == 0)))
