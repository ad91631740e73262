use Rattle.scte35_codec.specs.Section.{splice_insert}
use Rattle.scte35_codec.proofs.Appends.{Appends-then, cancelled}
use Rattle.scte35_codec.proofs.writing.put_splice_insert.Goals as goal

pub returns : goal.returns
unfolding splice_insert
returns c =
    let cancel = cancelled _ _ _ _ c.is_none.ensures c.in_ok-put_splice_cancel.ensures in
    Appends-then (Appends-then c.in_ok-put_splice_u32.ensures cancel) c.in_ok-put_optional_insert_body.ensures
