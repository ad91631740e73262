use Rattle.std.proofs.Common.{◌≡◌, ◌∙◌, ◌==◌, ◌+◌, suc, ap, sym, arith}
use Rattle.std.specs.Int.{bit_at}
use Rattle.std.proofs.lemmas.Nat.Bits.{bit_at-suc}
use Rattle.playlist_model.proofs.in_common.KeyPlaces.later.Goals as goal

pub returns : goal.returns
returns c = λ place. let next : place + 1 ≡ suc place = omega arith in ap (λ bit. bit == 1) (sym (bit_at-suc c.args.self.bits place) ∙ ap (bit_at c.args.self.bits) (sym next))
