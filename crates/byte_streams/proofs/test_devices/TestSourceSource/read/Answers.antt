use Rattle.std.proofs.Common.{ℕ, ◌≡◌, ◌+◌, ◌-◌, ◌≤◌, List, ◌++◌, take, drop, length, sym, ◌∙◌, ap, arith, take-append-drop, length-drop}
use Rattle.std.proofs.lemmas.List.{length-take-le, drop-drop, take_all, drop_all}
use Rattle.std.proofs.Math.Seq.{take-append_seam}
use Rattle.byte_streams.specs.TestDevices.{SourceState}
use Rattle.byte_streams.proofs.test_devices.TestSourceSource.read.Goals as goal

-- the next n bytes, and what stands after them
piece : (n p : ℕ) (xs given rest : List ℕ) → p + n ≤ length xs → given ≡ take n (drop p xs) → drop p xs ≡ take n (given ++ rest) ++ drop (p + n) xs
piece n p xs given rest within e =
    let long : length given ≡ n = ap length e ∙ length-take-le n (drop p xs) (omega (arith, length-drop p xs)) in
    let front : take n (given ++ rest) ≡ given = rw (← long) (take-append_seam given rest) in
    rw (front, e, ← drop-drop n p xs) (sym (take-append-drop n (drop p xs)))

pub returns-clause-bytes : goal.returns-clause-bytes
returns-clause-bytes c =
    let bytes = c.self.inside.bytes.now in
    let place = c.self.inside.place in
    let n = c.count-count.result in
    let within : place + n ≤ length bytes = c.count-count.ensures.within in
    let left = take_all (length bytes - place) (drop place bytes) (omega (arith, length-drop place bytes)) in (
      ap (λ (s : SourceState). drop s.place s.bytes) (sym c.self.view_is)
          ∙ piece n place bytes c.copy_from_slice.new.self (drop n c.args.buf.now) within (c.copy_from_slice.ensures.after ∙ ap (take n) left),
      λ none room. drop_all (place + n) bytes (omega (arith, c.count-count.ensures.some none (omega (arith, c.requires)))),
    )
