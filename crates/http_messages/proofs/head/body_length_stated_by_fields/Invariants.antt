use Rattle.std.proofs.Common.{drop}
use Rattle.http_messages.proofs.Lengths.{IsSaidSoFar}
use Rattle.http_messages.proofs.head.body_length_stated_by_fields.Given as goal

abbrev pub invariant-loop-field : goal.invariant-loop-field
invariant-loop-field l = IsSaidSoFar l.fields (drop l.field-index l.fields) l.said l.any
