-- The paced list grows.
use Rattle.std.proofs.Common.{◌≡◌, ℕ, ◌+◌, ◌-◌, ◌≤◌, Bool, true, false, cond, List, [], ◌∷◌, ◌++◌, length, reverse, refl, ap, sym, ◌∙◌, subst, append_assoc, arith}
use Rattle.std.proofs.lemmas.List.{append-nil, reverse-append}
use Rattle.std.proofs.lemmas.Bool.{leb-true, leb-false}
use Rattle.std.specs.Prelude.{Option, Some, None, nat_le}
use Rattle.pod_store.specs.Marks.{Mark, Marked, continues}
use Rattle.stitcher.specs.Stitched.{Piece, is_kept, kept_piece, pod_pieces, run_pieces, stitched}
use Rattle.stitcher.specs.Paced.{first_of_run, run_length, older, due, newest_pieces, due_stitched}
use Rattle.channel_spec.specs.LiveLaws.{GoesOn}
use Rattle.channel_spec.proofs.Growth.{goes_nowhere, goes_on_through}
use Rattle.channel_spec.proofs.Windows.{In, in_front}
use Rattle.channel_spec.proofs.Runs.{newest_item}
use Rattle.channel_spec.proofs.Tops.{pod_not_kept}

-- ---- prefixes

pub record Prefix (front whole : List Piece) : Type 0 where
  pub rest : List Piece
  pub is : front ++ rest ≡ whole

due_step : (p : Piece) (pieces : List Piece) (b : Bool) (k : ℕ) → Prefix (due k pieces) pieces → Prefix (p ∷ cond b [] (due k pieces)) (p ∷ pieces)
due_step p pieces true k h = record { rest = pieces; is = refl }
due_step p pieces false k h = record { rest = h.rest; is = ap (λ xs. p ∷ xs) h.is }

pub due_prefix : (length : ℕ) (pieces : List Piece) → Prefix (due length pieces) pieces
due_prefix length [] = record { rest = []; is = refl }
due_prefix length (p ∷ pieces) = due_step p pieces (nat_le length p.segment.duration) (length - p.segment.duration) (due_prefix (length - p.segment.duration) pieces)

longer_step : (a b : ℕ) → a ≤ b → (p : Piece) (pieces : List Piece) (c d : Bool) → nat_le a p.segment.duration ≡ c → nat_le b p.segment.duration ≡ d
    → Prefix (due (a - p.segment.duration) pieces) (due (b - p.segment.duration) pieces)
    → Prefix (p ∷ cond c [] (due (a - p.segment.duration) pieces)) (p ∷ cond d [] (due (b - p.segment.duration) pieces))
longer_step a b h p pieces true true e f k = record { rest = []; is = refl }
longer_step a b h p pieces true false e f k = record { rest = due (b - p.segment.duration) pieces; is = refl }
longer_step a b h p pieces false true e f k = absurd (omega (arith, h, leb-false a p.segment.duration e, leb-true b p.segment.duration f))
longer_step a b h p pieces false false e f k = record { rest = k.rest; is = ap (λ xs. p ∷ xs) k.is }

pub due_longer : (a b : ℕ) → a ≤ b → (pieces : List Piece) → Prefix (due a pieces) (due b pieces)
due_longer a b h [] = record { rest = []; is = refl }
due_longer a b h (p ∷ pieces) = grind (arith, longer_step, due_longer (a - p.segment.duration) (b - p.segment.duration) (omega (arith, h)) pieces)

turned : (front whole : List Piece) → Prefix front whole → GoesOn (reverse front) (reverse whole)
turned front whole h = (reverse h.rest, ap reverse (sym h.is) ∙ reverse-append front h.rest)

-- ---- the newest item

-- what isn't shown of the newest item yet is of a pod
pub record Rest (now whole : List Piece) : Type 0 where
  pub rest : List Piece
  pub is : whole ≡ rest ++ now
  pub of_pod : (q : Piece) → In q rest → is_kept q ≡ false

item_rest : (ended : Bool) (length : ℕ) (s : Marked) (fill : Option Mark) → Rest (newest_pieces ended length s fill) (run_pieces s fill)
unfolding In
item_rest ended length s None = record { rest = []; is = refl; of_pod = λ q h. absurd h }
item_rest true length s (Some f) = record { rest = []; is = refl; of_pod = λ q h. absurd h }
item_rest false length s (Some f) =
    let g = turned (due length (pod_pieces f)) (pod_pieces f) (due_prefix length (pod_pieces f)) in
    record { rest = g.0; is = g.1; of_pod = λ q h. pod_not_kept f q (subst (λ xs. In q xs) (sym g.1) (in_front q g.0 (reverse (due length (pod_pieces f))) h)) }

pub list_rest : (ended : Bool) (history : List Marked) → Rest (due_stitched ended history) (stitched history)
unfolding In
list_rest ended [] = record { rest = []; is = refl; of_pod = λ q h. absurd h }
list_rest ended (s ∷ before) =
    let f = first_of_run s before in
    let now = newest_pieces ended (run_length (s ∷ before)) f f.mark in
    let k = item_rest ended (run_length (s ∷ before)) f f.mark in
    record {
      rest = k.rest;
      is = newest_item s before ∙ ap (λ xs. xs ++ stitched (older (s ∷ before))) k.is ∙ append_assoc k.rest now (stitched (older (s ∷ before)));
      of_pod = k.of_pod;
    }

pub whole_list : (history : List Marked) → due_stitched true history ≡ stitched history
whole_list history = grind (arith, newest_item)

-- ---- growth

more_pieces : (ended : Bool) (a b : ℕ) → a ≤ b → (s : Marked) (fill : Option Mark) → GoesOn (newest_pieces false a s fill) (newest_pieces ended b s fill)
more_pieces ended a b h s None = goes_nowhere (kept_piece s ∷ [])
more_pieces true a b h s (Some f) = grind (arith, turned, due_prefix)
more_pieces false a b h s (Some f) = grind (arith, turned, due_longer)

behind : (xs ys zs : List Piece) → GoesOn xs ys → GoesOn (xs ++ zs) (ys ++ zs)
behind xs ys zs (more, e) = (more, ap (λ l. l ++ zs) e ∙ append_assoc more xs zs)

one_step : (ended : Bool) (s t : Marked) (before : List Marked) (b : Bool) → continues s (t ∷ before) ≡ b → GoesOn (due_stitched false (t ∷ before)) (due_stitched ended (s ∷ t ∷ before))
one_step ended s t before true e =
    let f = first_of_run t before in
    let n = run_length (t ∷ before) in
    let k = behind (newest_pieces false n f f.mark) (newest_pieces ended (s.segment.duration + n) f f.mark) (stitched (older (t ∷ before)))
    (more_pieces ended n (s.segment.duration + n) (omega arith) f f.mark) in
    rw e k
one_step ended s t before false e =
    let r = list_rest false (t ∷ before) in
    let here = newest_pieces ended (s.segment.duration + 0) s s.mark in
    let k : GoesOn (due_stitched false (t ∷ before)) (here ++ stitched (t ∷ before)) = goes_on_through (due_stitched false (t ∷ before)) (stitched (t ∷ before)) (here ++ stitched (t ∷ before)) (r.rest, r.is) (here, refl) in
    rw e k

pub due_grows_one : (ended : Bool) (s : Marked) (history : List Marked) → GoesOn (due_stitched false history) (due_stitched ended (s ∷ history))
due_grows_one ended s [] = (due_stitched ended (s ∷ []), sym (append-nil (due_stitched ended (s ∷ []))))
due_grows_one ended s (t ∷ before) = one_step ended s t before (continues s (t ∷ before)) refl

pub due_ends : (ended : Bool) (history : List Marked) → GoesOn (due_stitched false history) (due_stitched ended history)
due_ends true history = let r = list_rest false history in (r.rest, whole_list history ∙ r.is)
due_ends false history = goes_nowhere (due_stitched false history)

pub due_grows : (ended : Bool) (more history : List Marked) → GoesOn (due_stitched false history) (due_stitched ended (more ++ history))
due_grows ended [] history = due_ends ended history
due_grows ended (s ∷ more) history =
    goes_on_through (due_stitched false history) (due_stitched false (more ++ history)) (due_stitched ended (s ∷ (more ++ history)))
    (due_grows false more history) (due_grows_one ended s (more ++ history))
