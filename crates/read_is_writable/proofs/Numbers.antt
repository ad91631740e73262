-- The numbers of the segments that are read (RFC 8216, sections 4.3.3.2 and 4.3.3.3).
use Rattle.std.proofs.Common.{◌≡◌, ℕ, ◌+◌, ◌<◌, true, not, List, [], ◌∷◌, ◌++◌, length, refl, ap, ◌∙◌, arith, length-append}
use Rattle.std.specs.Prelude.{unwrap_or}
use Rattle.std.proofs.lemmas.Bool.{and_parts, and_from, lt-ltb, ltb-true, le-leb, not-true}
use Rattle.playlist_model.specs.Segments.{Segment}
use Rattle.playlist_model.specs.Said.{Said, sequence, discontinuity_sequence, discontinuity, media}
use Rattle.playlist_model.specs.LookBack.{latest, the_sequence, the_discontinuity_sequence, is_media, is_discontinuity, count, segments_of, segment_at, discontinuity_at, steps_at}
use Rattle.playlist_model.specs.Reading.{has}
use Rattle.playlist_model.proofs.SaidCounts.{none_counted, some_counted}
use Rattle.playlist_write.specs.WellFormed.{is_well_formed_number}
use Rattle.playlist_model.specs.Numbering.{segment_numbers, all_follow}
use Rattle.read_is_writable.specs.Read.{numbers_read}
use Rattle.read_is_writable.proofs.Lines.{is_good, all_good}

pub first_number : List Said → ℕ
first_number said = unwrap_or (latest the_sequence said) 0

pub stated_discontinuity_sequence : List Said → ℕ
stated_discontinuity_sequence said = unwrap_or (latest the_discontinuity_sequence said) 0

-- segments that begin at a media number and follow a discontinuity number, and the discontinuity number of the last
pub Runs : ℕ → ℕ → List Segment → ℕ → Type 0
Runs number before [] last = before ≡ last
Runs number before (s ∷ later) last = (s.media_sequence ≡ number) × (s.discontinuity_sequence ≡ before + s.discontinuities) × Runs (number + 1) s.discontinuity_sequence later last

one_more : (number before : ℕ) (xs : List Segment) (last : ℕ) (s : Segment)
    → Runs number before xs last → s.media_sequence ≡ number + length xs → s.discontinuity_sequence ≡ last + s.discontinuities → Runs number before (xs ++ s ∷ []) s.discontinuity_sequence
unfolding Runs
one_more number before [] last s h e f = (omega (arith, e), omega (arith, f, h), refl)
one_more number before (x ∷ xs) last s (a, b, rest) e f = (a, b, one_more (number + 1) x.discontinuity_sequence xs last s rest (omega (arith, e)) f)

none_run : (number before m b : ℕ) (xs : List Segment) (last : ℕ) → length xs ≡ 0 → Runs number before xs last → (before ≡ last) × Runs m b xs b
unfolding Runs
none_run number before m b [] last h r = (r, refl)
none_run number before m b (x ∷ xs) last h r = absurd (omega arith)

other_number : (number before m : ℕ) (xs : List Segment) (last : ℕ) → length xs ≡ 0 → Runs number before xs last → Runs m before xs last
unfolding Runs
other_number number before m [] last h r = r
other_number number before m (x ∷ xs) last h r = absurd (omega arith)

pub record Numbered (said : List Said) : Type 0 where
  pub last : ℕ
  pub runs : Runs (first_number said) (stated_discontinuity_sequence said) (segments_of said) last
  pub stands : discontinuity_at said ≡ last + steps_at said
  pub counted : length (segments_of said) ≡ count is_media said

moved : (first last count steps k : ℕ) → first + count ≡ last + steps → first ≡ last → k + count ≡ k + steps
moved first last count steps k h e = omega arith

next : (before : List Said) (said : Said) → Numbered before → is_good before said ≡ true → Numbered (said ∷ before)
unfolding first_number stated_discontinuity_sequence
next before (media u) n h = record {
  last = discontinuity_at before;
  runs = one_more (first_number before) (stated_discontinuity_sequence before) (segments_of before) n.last (segment_at before u) n.runs (omega (arith, n.counted)) n.stands;
  stands = omega arith;
  counted = length-append (segments_of before) (segment_at before u ∷ []) ∙ ap (λ k. k + 1) n.counted;
}
next before (sequence k) n h =
    let none : length (segments_of before) ≡ 0 = n.counted ∙ none_counted is_media before (not-true _ (and_parts _ _ h).1) in record {
      last = n.last;
      runs = other_number (first_number before) (stated_discontinuity_sequence before) k (segments_of before) n.last none n.runs;
      stands = n.stands;
      counted = n.counted;
    }
next before (discontinuity_sequence k) n h =
    let apart : (not (has is_media before) ≡ true) × (not (has is_discontinuity before) ≡ true) = and_parts _ _ (and_parts _ _ h).1 in
    let none : length (segments_of before) ≡ 0 = n.counted ∙ none_counted is_media before (not-true _ apart.0) in
    let r : (stated_discontinuity_sequence before ≡ n.last) × Runs (first_number before) k (segments_of before) k = none_run (first_number before) (stated_discontinuity_sequence before) (first_number before) k (segments_of before) n.last none n.runs in record {
      last = k;
      runs = r.1;
      stands = moved (unwrap_or (latest the_discontinuity_sequence before) 0) n.last (count is_discontinuity before) (steps_at before) k n.stands r.0;
      counted = n.counted;
    }
next before discontinuity n h = record { last = n.last; runs = n.runs; stands = omega (arith, n.stands); counted = n.counted }
next before _ n h = record { last = n.last; runs = n.runs; stands = n.stands; counted = n.counted }

pub numbered : (said : List Said) → all_good said ≡ true → Numbered said
unfolding first_number stated_discontinuity_sequence Runs
numbered [] h = record { last = 0; runs = refl; stands = refl; counted = refl }
numbered (said ∷ before) h = let a = and_parts _ _ h in next before said (numbered before a.1) a.0

all_rise : (number : ℕ) (s : Segment) (later : List Segment) (last : ℕ) → number ≡ s.media_sequence + 1 → Runs number s.discontinuity_sequence later last → all_follow segment_numbers s later ≡ true
unfolding Runs
all_rise number s [] last h r = refl
all_rise number s (t ∷ later) last h (a, b, rest) = grind (arith, all_rise (number + 1) t later last (omega (arith, a)) rest)

rise : (number before : ℕ) (xs : List Segment) (last : ℕ) → 0 < length xs → Runs number before xs last → numbers_read xs ≡ true
unfolding Runs
rise number before xs last some r = grind (arith, and_from, le-leb, all_rise)

-- the numbers of what is said rise
pub numbers_rise : (said : List Said) → all_good said ≡ true → has is_media said ≡ true → numbers_read (segments_of said) ≡ true
numbers_rise said h some =
    let n = numbered said h in
    rise (first_number said) (stated_discontinuity_sequence said) (segments_of said) n.last (omega (arith, n.counted, some_counted is_media said some)) n.runs

-- ---- words

-- a discontinuity number is a word
step_word : (before : List Said) (said : Said) → is_good before said ≡ true → is_well_formed_number (discontinuity_at before) ≡ true → is_well_formed_number (discontinuity_at (said ∷ before)) ≡ true
step_word before said h w = grind (arith, and_parts, none_counted, not-true, ltb-true, lt-ltb)

pub discontinuity_word : (said : List Said) → all_good said ≡ true → is_well_formed_number (discontinuity_at said) ≡ true
discontinuity_word [] h = refl
discontinuity_word (said ∷ before) h = let a = and_parts _ _ h in step_word before said a.0 (discontinuity_word before a.1)
