use Rattle.scte35_codec.specs.Section.{body_fields}
use Rattle.scte35_codec.proofs.Appends.{Appends-then}
use Rattle.scte35_codec.proofs.writing.put_insert_body.Goals as goal

pub returns : goal.returns
unfolding body_fields
returns c =
    let ids = Appends-then (Appends-then c.in_ok-put_splice_u16.ensures c.in_ok-put_splice_u8.ensures) c.in_ok-put_splice_u8-2.ensures in
    Appends-then (Appends-then (Appends-then c.in_ok-put_splice_flags.ensures c.in_ok-put_splice_target.ensures) c.in_ok-put_break_duration.ensures) ids
