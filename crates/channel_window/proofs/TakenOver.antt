-- Segments that were taken over from a list are as they were in it.
use Rattle.std.proofs.Common.{◌≡◌, ℕ, ◌+◌, ◌≤◌, Bool, true, false, zero, suc, List, [], ◌∷◌, ◌++◌, map, take, drop, length, refl, ap, sym, ◌∙◌, arith, subst, append_assoc}
use Rattle.std.specs.Prelude.{Option, Some, None, not, ◌==◌, find}
use Rattle.std.specs.List.{AllByRecursion}
use Rattle.std.proofs.lemmas.Bool.{eqb-true}
use Rattle.std.proofs.lemmas.List.{take-append-drop}
use Rattle.playlist_model.specs.Segments.{Segment}
use Rattle.playlist_model.specs.LookBack.{or_earlier}
use Rattle.playlist_model.specs.Same.{kept_parts}
use Rattle.playlist_model.proofs.SameSegments.{same_segment_decides}
use Rattle.channel_spec.specs.declared.fault.RefreshFault.TheVariants.{Changed}
use Rattle.channel_spec.specs.Sound.{RiseFrom}
use Rattle.channel_spec.specs.Successor.{first_number, first_changed, difference, fault_if}
use Rattle.channel_spec.proofs.WrittenPods.{all_drop}
use Rattle.playlist_kept.specs.Kept.{with_taken}
use Rattle.channel_window.specs.Checked.{AreContiguous, AreTaken}

abbrev has_number : ℕ → Segment → Bool
has_number n t = t.media_sequence == n

-- ---- a list's own segments are found in it

other : (a b : ℕ) → (a ≡ b → ⊥) → (t : Bool) → (a == b) ≡ t → t ≡ false
other a b h true e = absurd (h (eqb-true a b e))
other a b h false e = refl

find_past : (n k : ℕ) (front rest : List Segment) → RiseFrom n (front ++ rest) → n + length front ≤ k → find (has_number k) (front ++ rest) ≡ find (has_number k) rest
find_past n k [] rest r h = refl
find_past n k (s ∷ front) rest r h = grind (arith, find_past (n + 1) k front rest r.1 (omega (arith, h)))

number_is : (n : ℕ) (front : List Segment) (s : Segment) (later : List Segment) → RiseFrom n (front ++ s ∷ later) → s.media_sequence ≡ n + length front
number_is n [] s later r = omega (arith, r.0)
number_is n (t ∷ front) s later r = let at = number_is (n + 1) front s later r.1 in omega (arith, at)

find_here : (s : Segment) (later : List Segment) → find (has_number s.media_sequence) (s ∷ later) ≡ Some s
find_here s later = grind arith

are_found : (n : ℕ) (front rest : List Segment) → RiseFrom n (front ++ rest) → AllByRecursion (λ (s : Segment). find (has_number s.media_sequence) (front ++ rest) ≡ Some s) rest
are_found n front [] r = tt
are_found n front (s ∷ later) r =
    let at : s.media_sequence ≡ n + length front = number_is n front s later r in
    let joined : (front ++ s ∷ []) ++ later ≡ front ++ s ∷ later = append_assoc front (s ∷ []) later in (
      find_past n s.media_sequence front (s ∷ later) r (omega (arith, at)) ∙ find_here s later,
      subst (λ all. AllByRecursion (λ (t : Segment). find (has_number t.media_sequence) all ≡ Some t) later) joined
          (are_found n (front ++ s ∷ []) later (subst (RiseFrom n) (sym joined) r)),
    )

-- ---- so that they are as they were

itself : (s : Segment) → difference s (Some s) ≡ None
itself s = ap (λ b. fault_if (not b) (Changed s.media_sequence)) ((same_segment_decides s s).1 refl)

unchanged : (old segments : List Segment) → AllByRecursion (λ (s : Segment). find (has_number s.media_sequence) old ≡ Some s) segments → first_changed old segments ≡ None
unchanged old [] h = refl
unchanged old (s ∷ later) h = grind (arith, itself, unchanged old later h.1)

all_take : {A : Type 0} (P : A → Type 0) (n : ℕ) (xs : List A) → AllByRecursion P xs → AllByRecursion P (take n xs)
all_take P zero xs h = tt
all_take P (suc n) [] h = tt
all_take P (suc n) (x ∷ xs) h = (h.0, all_take P n xs h.1)

changed_of : (old segments : List Segment) → first_changed old (map kept_parts segments) ≡ first_changed old segments
changed_of old [] = refl
changed_of old (s ∷ later) = grind (arith, changed_of old later)

-- ---- the parts of a list

earlier_twice : {A : Type 0} (a b c : Option A) → or_earlier a (or_earlier b c) ≡ or_earlier (or_earlier a b) c
earlier_twice (Some x) b c = refl
earlier_twice None b c = refl

changed_in_two : (old front back : List Segment) → first_changed old (front ++ back) ≡ or_earlier (first_changed old front) (first_changed old back)
changed_in_two old [] back = refl
changed_in_two old (s ∷ front) back = grind (arith, changed_in_two old front back)

module _ (old taken : List Segment) (contiguous : AreContiguous old) (a : AreTaken old taken) where
  common_unchanged : first_changed old taken ≡ None
  common_unchanged =
      sym (changed_of old taken)
      ∙ (ap (first_changed old) a.same ∙ changed_of old (drop a.from (take a.till old)))
      ∙ unchanged old (drop a.from (take a.till old))
      (all_drop _ a.from (take a.till old) (all_take _ a.till old (are_found (first_number old) [] old contiguous)))

-- the first that changed is the first of those that were read
pub changed_apart : (old : List Segment) (front : ℕ) (read taken : List Segment) → AreContiguous old → AreTaken old taken
    → first_changed old (with_taken front read taken) ≡ first_changed old read
changed_apart old front read taken contiguous a =
    changed_in_two old (take front read) (taken ++ drop front read)
    ∙ (ap (or_earlier (first_changed old (take front read)))
    (changed_in_two old taken (drop front read) ∙ ap (λ o. or_earlier o (first_changed old (drop front read))) (common_unchanged old taken contiguous a))
    ∙ (sym (changed_in_two old (take front read) (drop front read)) ∙ ap (first_changed old) (take-append-drop front read)))
