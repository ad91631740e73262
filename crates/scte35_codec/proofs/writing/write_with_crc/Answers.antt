use Rattle.std.proofs.Common.{◌≡◌, ◌++◌, arith}
use Rattle.std.specs.Int.{bytes_high_first}
use Rattle.std.proofs.lemmas.Grind.{common_steps}
use Rattle.scte35_codec.specs.Crc.{crc_of}
use Rattle.scte35_codec.proofs.Checked.{checked}
use Rattle.scte35_codec.proofs.Registers.{crc_is_zero}
use Rattle.scte35_codec.proofs.writing.write_with_crc.Goals as goal

pub returns-clause-checked : goal.returns-clause-checked
returns-clause-checked c =
    let front = c.in_ok-out.out.items in
    let bytes = c.put_splice_number.new.out.items in
    let whole : bytes ≡ front ++ bytes_high_first 4 (crc_of front) = cc (c.in_ok-put_splice_number.ensures, c.crc_of-crc.ensures, c.deref.ensures.value, c.from.ensures) in
    checked _ _ _ c.in_ok-out.ensures.fits c.in_ok-out.ensures.front whole

pub returns-clause-zero : goal.returns-clause-zero
returns-clause-zero c = grind (arith, common_steps, crc_is_zero)
