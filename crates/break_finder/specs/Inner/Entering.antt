-- What proofs and inner functions say with the definitions of `Entering`.
use Rattle.break_finder.specs.Entering.{is_inside, EntryLimits, entered}
use Rattle.std.specs.Prelude.{List, ℤ, Option, Some, None, if◌then◌else◌}
use Rattle.playlist_model.specs.LookBack.{or_earlier}
use Rattle.pod_store.specs.Marks.{Mark, mark_in}
use Rattle.pod_store.specs.Store.{Store}
use Rattle.break_finder.specs.Breaks.{Break}

-- ---- marks

-- the mark of the segment before, if this one is inside that break
abbrev pub continued : EntryLimits → List Break → Option ℤ → Option Mark → Option Mark
continued m breaks instant None = None
continued m breaks instant (Some mark) = if is_inside breaks mark.id instant m.tolerance mark.pod then Some mark else None

-- a segment's mark, from that of the segment before
abbrev pub next_mark : EntryLimits → Store → List Break → Option ℤ → Option Mark → Option Mark
next_mark m store breaks instant before =
    or_earlier (continued m breaks instant before) (mark_in store (entered m store breaks instant))
