-- Reading components one after the other, as a loop does.
use Rattle.std.proofs.Common.{◌≡◌, ℕ, suc, ◌-◌, ◌+◌, ◌≤◌, ◌<◌, Bool, List, [], ◌∷◌, ◌++◌, Option, Result, Ok, Err, refl, sym, ap, ◌∙◌, append_assoc, arith}
use Rattle.std.proofs.lemmas.List.{append-nil}
use Rattle.scte35_codec.specs.declared.fault.SpliceFault.{SpliceFault}
use Rattle.scte35_codec.specs.declared.fault.SpliceFault.TheVariants.{OutOfMemory}
use Rattle.scte35_codec.specs.declared.info.SpliceTime.{SpliceTime}
use Rattle.spec_words.specs.Outcomes.{◌>>=◌, Refuses}
use Rattle.scte35_codec.specs.Reading.{component_at, components_at}

abbrev pub Component : Type 0
Component = ℕ × Option SpliceTime

-- what was read before, and what is still read
abbrev pub with_front : List Component → Result (List Component × List ℕ) SpliceFault → Result (List Component × List ℕ) SpliceFault
with_front front read = read >>= λ x. Ok (front ++ x.0, x.1)

regroup : (front : List Component) (c : Component) (read : Result (List Component × List ℕ) SpliceFault) → with_front front (read >>= λ x. Ok (c ∷ x.0, x.1)) ≡ with_front (front ++ c ∷ []) read
regroup front c (Ok x) = ap (λ (cs : List Component). Ok (cs, x.1)) (simp append_assoc)
regroup front c (Err f) = refl

pub goes_on : (immediate : Bool) (front : List Component) (count i : ℕ) (bytes : List ℕ) (c : Component) (after : List ℕ) (total : Result (List Component × List ℕ) SpliceFault) → i < count → component_at immediate bytes ≡ Ok (c, after)
    → with_front front (components_at immediate (count - i) bytes) ≡ total → with_front (front ++ c ∷ []) (components_at immediate (count - (i + 1)) after) ≡ total
unfolding components_at
goes_on immediate front count i bytes c after total lt h so_far =
    let k : count - i ≡ suc (count - (i + 1)) = omega arith in
    let one : with_front front (components_at immediate (count - i) bytes) ≡ with_front (front ++ c ∷ []) (components_at immediate (count - (i + 1)) after) = rw (k, h) (regroup front c (components_at immediate (count - (i + 1)) after)) in
    sym one ∙ so_far

pub stops : (immediate : Bool) (fault : SpliceFault) (front : List Component) (count i : ℕ) (bytes : List ℕ) (total : Result (List Component × List ℕ) SpliceFault) → i < count → Refuses OutOfMemory fault (component_at immediate bytes)
    → with_front front (components_at immediate (count - i) bytes) ≡ total → Refuses OutOfMemory fault total
unfolding components_at
stops immediate fault front count i bytes total lt refused so_far = grind arith

pub is_done : (immediate : Bool) (front : List Component) (count i : ℕ) (bytes : List ℕ) (total : Result (List Component × List ℕ) SpliceFault) → count ≤ i → with_front front (components_at immediate (count - i) bytes) ≡ total → total ≡ Ok (front, bytes)
unfolding components_at
is_done immediate front count i bytes total le so_far = grind (arith, append-nil)
