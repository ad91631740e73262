use Rattle.std.proofs.Common.{◌≡◌, Ok, Err, length, refl, arith}
use Rattle.std.specs.Prelude.{MatchResult}
use Rattle.std.proofs.lemmas.Grind.{common_steps}
use Rattle.hex.specs.Hex.{decode_sized}
use Rattle.scte35_codec.proofs.Hexadecimals.{decodes}
use Rattle.scte35_codec.proofs.hexadecimal.decode_section_digits.Goals as goal

pub unwrap-requires : goal.unwrap-requires
unwrap-requires c =
    let r = c.decode_to_slice.result in
    let out = c.decode_to_slice.new.out in
    let room = length c.args.out.now in
    let is : MatchResult (decode_sized c.args.digits.now room) (λ bytes. (r ≡ Ok tt) × (out ≡ bytes)) (λ e. r ≡ Err e) = c.decode_to_slice.ensures.value in
    rw (decodes c.args.digits.now room r out c.requires.pairs c.requires.len is).0 refl

pub returns : goal.returns
returns c = grind (arith, common_steps, decodes)
