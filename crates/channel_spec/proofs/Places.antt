-- The places where windows begin.
use Rattle.std.proofs.Common.{◌≡◌, ℕ, ◌+◌, ◌<◌, ◌≤◌, Bool, true, false, cond, List, [], ◌∷◌, ◌++◌, length, refl, ap, sym, subst, length-append, arith}
use Rattle.std.proofs.lemmas.Bool.{ltb-true, ltb-false}
use Rattle.std.specs.Prelude.{nat_lt}
use Rattle.pod_store.specs.Marks.{Marked, continues}
use Rattle.stitcher.specs.Stitched.{Piece, stitched, newest_place, up_to}
use Rattle.channel_spec.specs.LiveLaws.{GoesOn}
use Rattle.channel_spec.proofs.Growth.{goes_nowhere, goes_on_through}
use Rattle.channel_spec.proofs.Risen.{FallFrom}

place_step : (b : Bool) (pieces : List Piece) (place : ℕ) (before : List Piece) → place ≤ length before
    → cond b place (length before) ≤ length (cond b [] pieces ++ before)
place_step true pieces place before h = h
place_step false pieces place before h = omega (arith, length-append pieces before)

pub place_within : (history : List Marked) → newest_place history ≤ length (stitched history)
place_within [] = omega arith
place_within (s ∷ before) = grind (arith, place_step, place_within before)

inside_step : (b : Bool) (pieces : List Piece) (place : ℕ) (before : List Piece) → 0 < length pieces → (b ≡ true → place < length before)
    → cond b place (length before) < length (cond b [] pieces ++ before)
inside_step true pieces place before h k = k refl
inside_step false pieces place before h k = omega (arith, length-append pieces before, h)

grow_step : (b : Bool) (old place most : ℕ) → old ≤ place → place ≤ most → old ≤ cond b place most
grow_step true old place most h k = h
grow_step false old place most h k = omega (arith, h, k)

pub place_grows : (history new : List Marked) → GoesOn history new → newest_place history ≤ newest_place new
place_grows history new (more, e) = subst (λ h. newest_place history ≤ newest_place h) (sym e) (after more)
  where
    after : (more : List Marked) → newest_place history ≤ newest_place (more ++ history)
    after [] = omega arith
    after (s ∷ more) = grow_step (continues s (more ++ history)) (newest_place history) (newest_place (more ++ history)) (length (stitched (more ++ history))) (after more) (place_within (more ++ history))

pub length_grows : {A : Type 0} (old new : List A) → GoesOn old new → length old ≤ length new
length_grows old new (more, e) = omega (arith, ap length e, length-append more old)

pub one_more : {A : Type 0} (x : A) (xs : List A) → GoesOn xs (x ∷ xs)
one_more x xs = (x ∷ [], refl)

chosen_goes_on : (b : Bool) (old here there : List Marked) → GoesOn old here → GoesOn old there → GoesOn old (cond b here there)
chosen_goes_on true old here there f g = f
chosen_goes_on false old here there f g = g

chosen_goes_to : (b : Bool) (new here there : List Marked) → GoesOn here new → GoesOn there new → GoesOn (cond b here there) new
chosen_goes_to true new here there f g = f
chosen_goes_to false new here there f g = g

pub up_to_within : (number : ℕ) (history : List Marked) → GoesOn (up_to number history) history
up_to_within number [] = goes_nowhere []
up_to_within number (s ∷ before) =
    chosen_goes_to (nat_lt number s.segment.media_sequence) (s ∷ before) (up_to number before) (s ∷ before)
    (goes_on_through (up_to number before) before (s ∷ before) (up_to_within number before) (one_more s before)) (goes_nowhere (s ∷ before))

up_to_later : (number later : ℕ) (history : List Marked) → number ≤ later → GoesOn (up_to number history) (up_to later history)
up_to_later number later [] h = goes_nowhere []
up_to_later number later (s ∷ before) h = step (nat_lt number s.segment.media_sequence) refl (nat_lt later s.segment.media_sequence) refl (up_to_later number later before h)
  where
    step : (b : Bool) → nat_lt number s.segment.media_sequence ≡ b → (c : Bool) → nat_lt later s.segment.media_sequence ≡ c → GoesOn (up_to number before) (up_to later before)
        → GoesOn (cond b (up_to number before) (s ∷ before)) (cond c (up_to later before) (s ∷ before))
    step true p true q k = k
    step true p false q k = goes_on_through (up_to number before) before (s ∷ before) (up_to_within number before) (one_more s before)
    step false p true q k = absurd (omega (arith, ltb-false number s.segment.media_sequence p, ltb-true later s.segment.media_sequence q, h))
    step false p false q k = goes_nowhere (s ∷ before)

pub up_to_grows : (number later : ℕ) (more history : List Marked) → number ≤ later → GoesOn (up_to number history) (up_to later (more ++ history))
up_to_grows number later [] history h = up_to_later number later history h
up_to_grows number later (s ∷ more) history h =
    chosen_goes_on (nat_lt later s.segment.media_sequence) (up_to number history) (up_to later (more ++ history)) (s ∷ (more ++ history))
    (up_to_grows number later more history h)
    (goes_on_through (up_to number history) history (s ∷ (more ++ history)) (up_to_within number history) (s ∷ more, refl))

some_step : (number : ℕ) (s : Marked) (before : List Marked) (b : Bool) → nat_lt number s.segment.media_sequence ≡ b
    → (number < s.segment.media_sequence → 0 < length (up_to number before)) → 0 < length (cond b (up_to number before) (s ∷ before))
some_step number s before true e rec = rec (ltb-true number s.segment.media_sequence e)
some_step number s before false e rec = omega arith

-- the window's first segment is in the history
pub up_to_some : (number end : ℕ) (history : List Marked) → FallFrom end history → number < end → end ≤ number + length history → 0 < length (up_to number history)
up_to_some number end [] f h k = absurd (omega (arith, h, k))
up_to_some number end (s ∷ before) f h k =
    some_step number s before (nat_lt number s.segment.media_sequence) refl (λ below. up_to_some number s.segment.media_sequence before f.1 below (omega (arith, f.0, k)))

pub fall_length : (end : ℕ) (more : List Marked) (s : Marked) (before : List Marked) → FallFrom end (more ++ (s ∷ before)) → s.segment.media_sequence + 1 + length more ≡ end
fall_length end [] s before f = omega (arith, f.0)
fall_length end (x ∷ more) s before f = omega (arith, f.0, fall_length x.segment.media_sequence more s before f.1)

-- where a window begins that starts no later than one past the old end
pub data Begins (number : ℕ) (more : List Marked) (s : Marked) (before : List Marked) : Type 0 where
  stays : up_to number (more ++ (s ∷ before)) ≡ up_to number (s ∷ before) → Begins number more s before
  next : (x : Marked) (later : List Marked) → more ≡ later ++ (x ∷ []) → number ≡ s.segment.media_sequence + 1 → up_to number (more ++ (s ∷ before)) ≡ x ∷ s ∷ before → Begins number more s before

pub begins : (number end : ℕ) (more : List Marked) (s : Marked) (before : List Marked) → FallFrom end (more ++ (s ∷ before)) → number ≤ s.segment.media_sequence + 1 → Begins number more s before
begins number end [] s before f h = stays refl
begins number end (x ∷ more) s before f h = begin_step number end x more s before f h (nat_lt number x.segment.media_sequence) refl (begins number x.segment.media_sequence more s before f.1 h)
  where
    begin_step : (number end : ℕ) (x : Marked) (more : List Marked) (s : Marked) (before : List Marked) → FallFrom end (x ∷ (more ++ (s ∷ before))) → number ≤ s.segment.media_sequence + 1
        → (b : Bool) → nat_lt number x.segment.media_sequence ≡ b → Begins number more s before → Begins number (x ∷ more) s before
    begin_step number end x more s before f h true e (stays p) = stays (rw e p)
    begin_step number end x more s before f h true e (next y later p q r) = next y (x ∷ later) (ap (λ xs. x ∷ xs) p) q (rw e r)
    begin_step number end x [] s before f h false e k = next x [] refl (omega (arith, ltb-false number x.segment.media_sequence e, f.1.0, h)) (rw e refl)
    begin_step number end x (y ∷ more) s before f h false e k =
        absurd (omega (arith, ltb-false number x.segment.media_sequence e, fall_length x.segment.media_sequence (y ∷ more) s before f.1, h))
