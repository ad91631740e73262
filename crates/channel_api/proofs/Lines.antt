-- The lines of the known breaks.
use Rattle.std.proofs.Common.{◌≡◌, ℕ, ◌+◌, ◌<◌, List, [], ◌∷◌, ◌++◌, length, map, take, refl, sym, ap, ◌∙◌, arith, true≢false, suc, append-nil, inl, inr}
use Rattle.std.specs.Prelude.{Option, Some, None, option_map, is_some, slice_get, unwrap_or}
use Rattle.std.specs.List.{flat_map}
use Rattle.std.proofs.lemmas.Option.{slice_get_within, get_or_from_slice_get, slice_get_cases}
use Rattle.std.proofs.lemmas.Grind.{flat_map-append}
use Rattle.std.proofs.lemmas.List.{map-append, take_all}
use Rattle.std.proofs.Math.Seq.{take-suc}
use Rattle.break_finder.specs.Breaks.{Break}
use Rattle.break_finder.specs.Entering.{id_of_break}

pub record IsOneMore (f : List ℕ → List ℕ) (breaks : List Break) (n : ℕ) (id : List ℕ) : Type 0 where
  pub within : n < length breaks
  pub lines : flat_map f (map id_of_break (take (n + 1) breaks)) ≡ flat_map f (map id_of_break (take n breaks)) ++ f id

taken_more : (breaks : List Break) (n : ℕ) (x : Break) → slice_get breaks n ≡ Some x → take (n + 1) breaks ≡ take n breaks ++ x ∷ []
taken_more breaks n x e =
    let next : n + 1 ≡ suc n = omega arith in
    ap (λ k. take k breaks) next ∙ take-suc breaks n x (slice_get_within breaks n x e) ∙ ap (λ y. take n breaks ++ y ∷ []) (get_or_from_slice_get breaks n x x e)

with_break : (f : List ℕ → List ℕ) (breaks : List Break) (n : ℕ) (id : List ℕ) (o : Option Break) → slice_get breaks n ≡ o → Some id ≡ option_map id_of_break o → IsOneMore f breaks n id
with_break f breaks n id None e h = absurd (true≢false (ap is_some h))
with_break f breaks n id (Some x) e h = record {
  within = slice_get_within breaks n x e;
  lines = ap (λ l. flat_map f (map id_of_break l)) (taken_more breaks n x e) ∙ ap (flat_map f) (map-append id_of_break (take n breaks) (x ∷ []))
      ∙ flat_map-append f (map id_of_break (take n breaks)) (id_of_break x ∷ [])
      ∙ ap (λ l. flat_map f (map id_of_break (take n breaks)) ++ l) (append-nil (f (id_of_break x)) ∙ ap (λ i. f (unwrap_or i [])) (sym h));
}

-- the line of the break at a place comes after those before it
pub one_more : (f : List ℕ → List ℕ) (breaks : List Break) (n : ℕ) (id : List ℕ) → Some id ≡ option_map id_of_break (slice_get breaks n) → IsOneMore f breaks n id
one_more f breaks n id h = with_break f breaks n id (slice_get breaks n) refl h

-- at a place with no break there are no more
pub no_more : (breaks : List Break) (n : ℕ) → None ≡ option_map id_of_break (slice_get breaks n) → take n breaks ≡ breaks
no_more breaks n h = grind (arith, slice_get_cases, inl, true≢false, inr, take_all)
