use Rattle.std.proofs.Common.{arith}
use Rattle.std.proofs.lemmas.Grind.{common_steps}
use Rattle.playlist_parse.proofs.TagNames.{takes_named, exactly, named_exactly}
use Rattle.playlist_parse.proofs.progress.Progress.tag.Goals as goal

pub returns-in-Inf : goal.returns-in-Inf
returns-in-Inf c = grind (arith, common_steps, takes_named)

pub returns-in-Discontinuity : goal.returns-in-Discontinuity
returns-in-Discontinuity c = grind (arith, common_steps, takes_named)

pub returns-in-Version : goal.returns-in-Version
returns-in-Version c = grind (arith, common_steps, takes_named, exactly, named_exactly)

pub returns-in-TargetDuration : goal.returns-in-TargetDuration
returns-in-TargetDuration c = grind (arith, common_steps, takes_named, exactly, named_exactly)

pub returns-in-MediaSequence : goal.returns-in-MediaSequence
returns-in-MediaSequence c = grind (arith, common_steps, takes_named, exactly, named_exactly)

pub returns-in-DiscontinuitySequence : goal.returns-in-DiscontinuitySequence
returns-in-DiscontinuitySequence c = grind (arith, common_steps, takes_named, exactly, named_exactly)

pub returns-in-PlaylistType : goal.returns-in-PlaylistType
returns-in-PlaylistType c = grind (arith, common_steps, takes_named, exactly, named_exactly)

pub returns-in-EndList : goal.returns-in-EndList
returns-in-EndList c = grind (arith, common_steps, takes_named, exactly, named_exactly)

pub returns-in-ByteRange : goal.returns-in-ByteRange
returns-in-ByteRange c = grind (arith, common_steps, takes_named)

pub returns-in-Key : goal.returns-in-Key
returns-in-Key c = grind (arith, common_steps, takes_named)

pub returns-in-InitSection : goal.returns-in-InitSection
returns-in-InitSection c = grind (arith, common_steps, takes_named)

pub returns-in-ProgramDateTime : goal.returns-in-ProgramDateTime
returns-in-ProgramDateTime c = grind (arith, common_steps, takes_named)

pub returns-in-DateRange : goal.returns-in-DateRange
returns-in-DateRange c = grind (arith, common_steps, takes_named)
