use Rattle.std.proofs.Common.{ℕ, List, [], ◌∷◌, ap}
use Rattle.scte35_codec.specs.Layout.{BitField, Is}
use Rattle.scte35_codec.proofs.Appends.{Appends-then, Appends-is}
use Rattle.scte35_codec.proofs.writing.put_section_heading.Goals as goal

pub returns : goal.returns
returns c =
    let byte : ℕ → List BitField = λ n. (8, Is n) ∷ [] in
    let kind = Appends-is (ap byte c.type_of_splice_command.ensures) c.in_ok-put_splice_u8-2.ensures in
    Appends-then (Appends-then (Appends-then c.in_ok-put_pts_adjustment.ensures c.in_ok-put_splice_u8.ensures) c.in_ok-put_splice_tier.ensures) kind
