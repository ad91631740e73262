use Rattle.std.proofs.Common.{◌≡◌, ℕ, List, [], ◌∷◌, length, ap, arith}
use Rattle.scte35_codec.specs.Layout.{BitField, Is, bytes_of}
use Rattle.scte35_codec.proofs.Appends.{Appends-then, Appends-is}
use Rattle.scte35_codec.proofs.writing.put_section_tail.Goals as goal

pub returns : goal.returns
returns c =
    let info = c.args.info.now in
    let word : ℕ → List BitField = λ n. (16, Is n) ∷ [] in
    let len : c.len.result ≡ length info.descriptors.items = omega (arith, c.len.ensures, info.descriptors.ok.0) in
    let count = Appends-is (ap word len) c.in_ok-put_splice_u16.ensures in
    let descriptors = Appends-is (ap bytes_of c.deref.ensures.value) c.in_ok-put_splice_bytes.ensures in
    let stuffing = Appends-is (ap bytes_of c.deref-2.ensures.value) c.in_ok-put_splice_bytes-2.ensures in
    Appends-then (Appends-then count descriptors) stuffing
