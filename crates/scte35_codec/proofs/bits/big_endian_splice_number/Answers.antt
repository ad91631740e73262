use Rattle.std.proofs.Common.{arith}
use Rattle.std.proofs.lemmas.Grind.{common_steps}
use Rattle.scte35_codec.proofs.Numbers.{number_below, take_whole, number_below_take, more_fits, product_fits}
use Rattle.scte35_codec.proofs.bits.big_endian_splice_number.Goals as goal

pub overflow_mul-number : goal.overflow_mul-number
overflow_mul-number c =
    let xs = c.args.bytes.now in
    let i = c.loop-byte.byte-index in
    let fits = number_below_take xs i (omega arith) (λ k. omega (arith, c.type_inv.bytes k)) in
    omega (arith, product_fits c.loop-byte.number i (rw c.loop-byte.invariant fits) (omega arith))

pub overflow_add-number : goal.overflow_add-number
overflow_add-number c =
    let xs = c.args.bytes.now in
    let i = c.loop-byte.byte-index in
    let fits = number_below_take xs i (omega arith) (λ k. omega (arith, c.type_inv.bytes k)) in
    omega (arith, more_fits c.loop-byte.number c.from.result i (rw c.loop-byte.invariant fits) (omega arith) (omega arith))

pub returns-clause-below : goal.returns-clause-below
returns-clause-below c = grind (arith, common_steps, number_below, take_whole)
