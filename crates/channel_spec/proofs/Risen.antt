-- The numbers of the history, and the segments that a refresh adds.
use Rattle.std.proofs.Common.{◌≡◌, ℕ, ◌+◌, ◌<◌, ◌≤◌, Bool, true, false, List, [], ◌∷◌, length, refl, ap, sym, ◌∙◌, subst, arith}
use Rattle.std.proofs.lemmas.Bool.{ltb-true, ltb-false, eqb-true, eqb-false}
use Rattle.std.specs.Prelude.{Option, Some, None, nat_lt, ◌==◌, find, filter}
use Rattle.playlist_model.specs.Segments.{Segment}
use Rattle.playlist_model.specs.LookBack.{or_earlier}
use Rattle.pod_store.specs.Marks.{Marked}
use Rattle.channel_spec.specs.Marking.{Moment, next_shown, show_all}
use Rattle.channel_spec.specs.Sound.{RiseFrom}
use Rattle.channel_spec.specs.Successor.{last_discontinuity, difference, first_changed}

-- numbers fall by one, from one below `number` on
abbrev pub FallFrom : ℕ → List Marked → Type 0
FallFrom number [] = Unit {0}
FallFrom number (s ∷ before) = (s.segment.media_sequence + 1 ≡ number) × FallFrom s.segment.media_sequence before

abbrev pub newest_discontinuity : List Marked → ℕ
newest_discontinuity [] = 0
newest_discontinuity (s ∷ before) = s.segment.discontinuity_sequence

pub fall_on : (m : Moment) (number : ℕ) (history : List Marked) (segments : List Segment) → FallFrom number history → RiseFrom number segments
    → FallFrom (number + length segments) (show_all m history segments)
fall_on m number history [] f r = subst (λ n. FallFrom n history) (omega arith) f
fall_on m number history (s ∷ later) f r =
    let here = next_shown m history s later in
    let next : FallFrom (number + 1) (here ∷ history) = (ap (λ n. n + 1) r.0, subst (λ n. FallFrom n history) (sym r.0) f) in
    subst (λ n. FallFrom n (show_all m (here ∷ history) later)) (omega arith) (fall_on m (number + 1) (here ∷ history) later next r.1)

pub length_on : (m : Moment) (history : List Marked) (segments : List Segment) → length (show_all m history segments) ≡ length history + length segments
length_on m history [] = omega arith
length_on m history (s ∷ later) = omega (arith, length_on m (next_shown m history s later ∷ history) later)

pub newest_on : (m : Moment) (history : List Marked) (segments : List Segment) → 0 < length segments
    → newest_discontinuity (show_all m history segments) ≡ last_discontinuity segments
newest_on m history [] h = absurd (omega (arith, h))
newest_on m history (s ∷ []) h = refl
newest_on m history (s ∷ t ∷ later) h = newest_on m (next_shown m history s (t ∷ later) ∷ history) (t ∷ later) (omega arith)

-- ---- the new segments of a refresh: those past the newest number

abbrev pub past : ℕ → List Segment → List Segment
past newest segments = filter (λ (s : Segment). nat_lt newest s.media_sequence) segments

pub all_past : (newest number : ℕ) (segments : List Segment) → newest < number → RiseFrom number segments → past newest segments ≡ segments
all_past newest number [] h r = refl
all_past newest number (s ∷ later) h r = grind (arith, all_past newest (number + 1) later (omega (arith, h)) r.1)

-- what is known of the new ones
pub record ArePast (newest number : ℕ) (segments : List Segment) : Type 0 where
  pub rise : RiseFrom (newest + 1) (past newest segments)
  pub count : newest + 1 ≤ number + length segments → newest + 1 + length (past newest segments) ≡ number + length segments
  pub last : 0 < length (past newest segments) → last_discontinuity (past newest segments) ≡ last_discontinuity segments

last_later : (s : Segment) (later : List Segment) → 0 < length later → last_discontinuity (s ∷ later) ≡ last_discontinuity later
last_later s [] h = absurd (omega (arith, h))
last_later s (t ∷ later) h = refl

past_length : (newest : ℕ) (segments : List Segment) → length (past newest segments) ≤ length segments
past_length newest [] = omega arith
past_length newest (s ∷ later) = grind (arith, past_length newest later)

past_step : (newest number : ℕ) (s : Segment) (later : List Segment) → number ≤ newest + 1 → (s.media_sequence ≡ number) → RiseFrom (number + 1) later
    → (number + 1 ≤ newest + 1 → ArePast newest (number + 1) later) → (b : Bool) → nat_lt newest s.media_sequence ≡ b → ArePast newest number (s ∷ later)
past_step newest number s later h e r rec true t =
    let here : s.media_sequence ≡ newest + 1 = omega (arith, ltb-true newest s.media_sequence t, h, e) in
    let same : past newest (s ∷ later) ≡ s ∷ later = rw t (ap (λ xs. s ∷ xs) (all_past newest (number + 1) later (omega (arith, here, e)) r)) in
    record {
      rise = subst (λ xs. RiseFrom (newest + 1) xs) (sym same) (here, subst (λ n. RiseFrom n later) (omega (arith, here, e)) r);
      count = λ c. omega (arith, ap length same, here, e);
      last = λ c. ap last_discontinuity same;
    }
past_step newest number s later h e r rec false t =
    let below : number + 1 ≤ newest + 1 = omega (arith, ltb-false newest s.media_sequence t, e) in
    let k = rec below in
    let same : past newest (s ∷ later) ≡ past newest later = rw t refl in
    record {
      rise = subst (λ xs. RiseFrom (newest + 1) xs) (sym same) k.rise;
      count = λ c. let n = k.count (omega (arith, c)) in omega (arith, ap length same, n);
      last = λ c. let some : 0 < length (past newest later) = omega (arith, c, ap length same) in
          ap last_discontinuity same ∙ k.last some ∙ sym (last_later s later (omega (arith, some, past_length newest later)));
    }

pub are_past : (newest number : ℕ) (segments : List Segment) → number ≤ newest + 1 → RiseFrom number segments → ArePast newest number segments
are_past newest number [] h r = record { rise = tt; count = λ c. omega (arith, c, h); last = λ c. refl }
are_past newest number (s ∷ later) h r =
    past_step newest number s later h r.0 r.1 (λ k. are_past newest (number + 1) later k r.1) (nat_lt newest s.media_sequence) refl

-- ---- the last segment in common is as it was

or_none : {A : Type 0} (a b : Option A) → or_earlier a b ≡ None → (a ≡ None) × (b ≡ None)
or_none None b e = (refl, e)
or_none (Some x) b e = absurd (cc)

alike : (s t : Segment) → difference s (Some t) ≡ None → s.discontinuity_sequence ≡ t.discontinuity_sequence
alike s t e = grind arith

record Found (s : Segment) (old : List Segment) : Type 0 where
  one : Segment
  is : find (λ (t : Segment). t.media_sequence == s.media_sequence) old ≡ Some one
  last : one.discontinuity_sequence ≡ last_discontinuity old

found_step : (s t : Segment) (old : List Segment) → 0 < length old → ((t.media_sequence == s.media_sequence) ≡ false) → Found s old → Found s (t ∷ old)
found_step s t old h n k = grind arith

find_last : (s : Segment) (number : ℕ) (old : List Segment) → RiseFrom number old → s.media_sequence + 1 ≡ number + length old → 0 < length old → Found s old
find_last s number [] r e h = absurd (omega (arith, h))
find_last s number (t ∷ []) r e h =
    let test : (t.media_sequence == s.media_sequence) ≡ true = elim (t.media_sequence == s.media_sequence) as (λ b. (t.media_sequence == s.media_sequence) ≡ b → b ≡ true) [ true ↦ λ k. refl | false ↦ λ k. absurd (eqb-false t.media_sequence s.media_sequence k (omega (arith, r.0, e))) ] refl in
    record { one = t; is = rw test refl; last = refl }
find_last s number (t ∷ u ∷ old) r e h =
    let test : (t.media_sequence == s.media_sequence) ≡ false = elim (t.media_sequence == s.media_sequence) as (λ b. (t.media_sequence == s.media_sequence) ≡ b → b ≡ false) [ true ↦ λ k. absurd (omega (arith, eqb-true t.media_sequence s.media_sequence k, r.0, e)) | false ↦ λ k. refl ] refl in
    found_step s t (u ∷ old) (omega arith) test (find_last s (number + 1) (u ∷ old) r.1 (omega (arith, e)) (omega arith))

pub last_same : (old new : List Segment) (was number : ℕ) → first_changed old new ≡ None → RiseFrom was old → RiseFrom number new
    → number + length new ≡ was + length old → 0 < length old → 0 < length new → last_discontinuity new ≡ last_discontinuity old
last_same old [] was number c r q e h k = absurd (omega (arith, k))
last_same old (s ∷ []) was number c r q e h k =
    let f = find_last s was old r (omega (arith, q.0, e)) h in
    let d : difference s (Some f.one) ≡ None = subst (λ (o : Option Segment). difference s o ≡ None) f.is (or_none _ _ c).0 in
    alike s f.one d ∙ f.last
last_same old (s ∷ t ∷ new) was number c r q e h k =
    last_same old (t ∷ new) was (number + 1) (or_none (difference s (find (λ (u : Segment). u.media_sequence == s.media_sequence) old)) _ c).1 r q.1 (omega (arith, e)) h (omega arith)
