-- Where the segment of a number stands.
use Rattle.std.proofs.Common.{◌≡◌, ℕ, ◌+◌, ◌-◌, ◌<◌, ◌≤◌, Bool, true, false, cond, zero, suc, List, [], ◌∷◌, ◌++◌, map, refl, ap, sym, ◌∙◌, arith, get_or}
use Rattle.std.specs.Prelude.{Some, None, is_none, not, ◌==◌, find, slice_get, nat_lt, length}
use Rattle.std.proofs.lemmas.Bool.{eqb-true, eq-eqb, ltb-true, ltb-false}
use Rattle.std.proofs.lemmas.List.{reverse-reverse}
use Rattle.playlist_model.specs.Segments.{Segment}
use Rattle.pod_store.specs.Store.{Store}
use Rattle.stitcher.specs.declared.marked.MarkedSegment.{MarkedSegment as Held}
use Rattle.stitcher.specs.StitchedSegments.{meant}
use Rattle.channel_spec.specs.Kept.{origin_segment, listed}
use Rattle.channel_window.specs.Marking.{history_in}
use Rattle.channel_window.specs.Listed.{held_segment, window_segments_in}
use Rattle.playlist_model.specs.Same.{same_segment}
use Rattle.channel_spec.specs.declared.fault.RefreshFault.{RefreshFault}
use Rattle.channel_spec.specs.declared.fault.RefreshFault.TheVariants.{Changed}
use Rattle.channel_spec.specs.Sound.{RiseFrom}
use Rattle.channel_spec.specs.Successor.{first_number, last_discontinuity, difference, fault_if}
use Rattle.channel_window.specs.Checked.{AreContiguous}
use Rattle.channel_window.specs.Inner.Checked.{is_as_before}

abbrev has_number : ℕ → Segment → Bool
has_number n t = t.media_sequence == n

is_not : (a b : ℕ) → (a ≡ b → ⊥) → (t : Bool) → (a == b) ≡ t → t ≡ false
is_not a b h true e = absurd (h (eqb-true a b e))
is_not a b h false e = refl

below : (n k : ℕ) (segments : List Segment) → RiseFrom n segments → k < n → find (has_number k) segments ≡ None
below n k [] r h = refl
below n k (s ∷ later) r h = grind (arith, below (n + 1) k later r.1 (omega (arith, h)))

there : (n k : ℕ) (segments : List Segment) → RiseFrom n segments → n ≤ k → find (has_number k) segments ≡ slice_get segments (k - n)
there n k [] r h = sym (nothing (k - n))
  where
    nothing : (i : ℕ) → slice_get {X = Segment} [] i ≡ None
    nothing zero = refl
    nothing (suc i) = refl
there n k (s ∷ later) r h = step (s.media_sequence == k) refl (λ e. there (n + 1) k later r.1 e)
  where
    step : (b : Bool) → (s.media_sequence == k) ≡ b → ((n + 1 ≤ k) → find (has_number k) later ≡ slice_get later (k - (n + 1))) → cond b (Some s) (find (has_number k) later) ≡ slice_get (s ∷ later) (k - n)
    step true e rec =
        let at : k - n ≡ 0 = omega (arith, eqb-true s.media_sequence k e, r.0) in sym (ap (slice_get (s ∷ later)) at)
    step false e rec =
        let apart : s.media_sequence ≡ k → ⊥ = λ same. (let no : true ≡ false = sym (eq-eqb s.media_sequence k same) ∙ e in absurd (cc)) in
        let more : n + 1 ≤ k = beyond apart in
        let at : k - n ≡ suc (k - (n + 1)) = omega (arith, more) in
        rec more ∙ sym (ap (slice_get (s ∷ later)) at)
      where
        beyond : (s.media_sequence ≡ k → ⊥) → n + 1 ≤ k
        beyond apart = omega (arith, apart, r.0, h)

judged : (b : Bool) (f : RefreshFault) → b ≡ is_none (fault_if (not b) f)
judged true f = refl
judged false f = refl

pub was_before : (old : List Segment) (s : Segment) (first : ℕ) → AreContiguous old → first ≡ first_number old → s.media_sequence < first → true ≡ is_as_before old s
was_before old s first r e h = sym (ap (λ o. is_none (difference s o)) (below (first_number old) s.media_sequence old r (omega (arith, e, h))))

slice_there : (xs : List Segment) (i : ℕ) (x : Segment) → i < length xs → x ≡ get_or xs i x → slice_get xs i ≡ Some x
slice_there [] i x h e = absurd (omega (arith, h))
slice_there (y ∷ ys) zero x h e = ap Some (sym e)
slice_there (y ∷ ys) (suc i) x h e = slice_there ys i x (omega (arith, h)) e

slice_past : (xs : List Segment) (i : ℕ) → length xs ≤ i → slice_get xs i ≡ None
slice_past [] zero h = refl
slice_past [] (suc i) h = refl
slice_past (y ∷ ys) zero h = absurd (omega (arith, h))
slice_past (y ∷ ys) (suc i) h = slice_past ys i (omega (arith, h))

pub was_there : (old : List Segment) (s t : Segment) (first : ℕ) → AreContiguous old → first ≡ first_number old → first ≤ s.media_sequence
    → true ≡ nat_lt (s.media_sequence - first) (length old) → t ≡ get_or old (s.media_sequence - first) t → same_segment s t ≡ is_as_before old s
was_there old s t first r e h inside k =
    let at = slice_there old (s.media_sequence - first) t (ltb-true (s.media_sequence - first) (length old) (sym inside)) k in
    let found = there (first_number old) s.media_sequence old r (omega (arith, e, h)) ∙ (ap (λ n. slice_get old (s.media_sequence - n)) (sym e) ∙ at) in
    judged (same_segment s t) (Changed s.media_sequence) ∙ sym (ap (λ o. is_none (difference s o)) found)

pub was_after : (old : List Segment) (s : Segment) (first : ℕ) → AreContiguous old → first ≡ first_number old → first ≤ s.media_sequence
    → false ≡ nat_lt (s.media_sequence - first) (length old) → true ≡ is_as_before old s
was_after old s first r e h outside =
    let at = slice_past old (s.media_sequence - first) (ltb-false (s.media_sequence - first) (length old) (sym outside)) in
    let found = there (first_number old) s.media_sequence old r (omega (arith, e, h)) ∙ (ap (λ n. slice_get old (s.media_sequence - n)) (sym e) ∙ at) in
    sym (ap (λ o. is_none (difference s o)) found)

-- ---- of the segments that are held

pub held_there : (held : List Held) (i : ℕ) (m : Held) → i < length held → m ≡ get_or held i m → m.segment ≡ get_or (window_segments_in held) i m.segment
held_there [] i m h e = absurd (omega (arith, h))
held_there (x ∷ held) zero m h e = ap held_segment e
held_there (x ∷ held) (suc i) m h e = held_there held i m (omega (arith, h)) e

pub held_length : (held : List Held) → length (window_segments_in held) ≡ length held
held_length [] = refl
held_length (x ∷ held) = omega (arith, held_length held)

pub held_last : (held : List Held) (m : Held) → last_discontinuity (window_segments_in (held ++ m ∷ [])) ≡ m.segment.discontinuity_sequence
held_last [] m = refl
held_last (x ∷ []) m = refl
held_last (x ∷ y ∷ held) m = held_last (y ∷ held) m

meant_listed : (store : Store) (held : List Held) → map origin_segment (map (meant store) held) ≡ window_segments_in held
meant_listed store [] = refl
meant_listed store (m ∷ held) = ap (λ ss. m.segment ∷ ss) (meant_listed store held)

-- as they are meant, the newest first, they are listed as they are held
pub held_listed : (store : Store) (held : List Held) → listed (history_in store held) ≡ window_segments_in held
held_listed store held = grind (arith, reverse-reverse, meant_listed)

pub last_append : (xs : List Segment) (x : Segment) → last_discontinuity (xs ++ x ∷ []) ≡ x.discontinuity_sequence
last_append [] x = refl
last_append (y ∷ []) x = refl
last_append (y ∷ z ∷ xs) x = last_append (z ∷ xs) x
