-- The front of EXTINF's text, up to its comma.
use Rattle.std.proofs.Common.{◌≡◌, ℕ, ◌+◌, ◌<◌, ◌≤◌, Bool, List, ◌++◌, length, take, drop, get_or, refl, ap, sym, ◌∙◌, arith, Ok, length-append}
use Rattle.std.specs.Prelude.{◌==◌, slice_range}
use Rattle.std.specs.List.{position_or_len, before_first}
use Rattle.std.proofs.lemmas.Grind.{common_steps}
use Rattle.std.proofs.lemmas.List.{take-append-drop, length-take-le}
use Rattle.std.proofs.lemmas.List.Sums.{position_or_len_is, fails_before_first, passes_at_first}
use Rattle.fixed_duration.specs.Duration.{duration_of}
use Rattle.playlist_model.specs.Said.{duration, duration_said}
use Rattle.segment_state.specs.Inner.Fronts.{IsDurationFront}

-- an element of the front, with other elements after it
within_front : (xs after : List ℕ) (n k : ℕ) → n < length xs → k ≤ n → get_or (take (n + 1) xs ++ after) k 0 ≡ get_or xs k 0
within_front xs after n k h l = grind (arith, common_steps)

-- the first that passes stays the first, whatever follows it
cut_again : (p : ℕ → Bool) (xs after : List ℕ) (n : ℕ) → n ≡ position_or_len p xs → n < length xs → position_or_len p (take (n + 1) xs ++ after) ≡ n
cut_again p xs after n e h =
    let size : length (take (n + 1) xs) ≡ n + 1 = length-take-le (n + 1) xs (omega arith) in
    position_or_len_is p (take (n + 1) xs ++ after) n 0 (omega (arith, size, length-append (take (n + 1) xs) after))
    (λ k l. ap p (within_front xs after n k h (omega (arith, l))) ∙ fails_before_first p xs k 0 (omega (arith, e, l)))
    (λ _. ap p (within_front xs after n n h (omega arith)) ∙ ap (λ i. p (get_or xs i 0)) e ∙ passes_at_first p xs 0 (omega (arith, e, h)))

before_again : (xs after : List ℕ) (n : ℕ) → n < length xs → take n (take (n + 1) xs ++ after) ≡ take n xs
before_again xs after n h = grind (arith, common_steps)

after_again : (xs after : List ℕ) (n : ℕ) → n < length xs → drop (n + 1) (take (n + 1) xs ++ after) ≡ after
after_again xs after n h = grind (arith, common_steps)

said_at : (text : List ℕ) (n nanos : ℕ) (title : List ℕ) → position_or_len (λ b. b == 44) text ≡ n → duration_of (take n text) ≡ Ok nanos → drop (n + 1) text ≡ title → duration_said text ≡ Ok (duration nanos title)
said_at text n nanos title e d t = rw (e, d, t) refl

-- the front with any title states the duration of what stands before its comma
pub front_states : (text front : List ℕ) (nanos n : ℕ) → n ≡ length (before_first (λ b. b == 44) text) → front ≡ slice_range text 0 (n + 1) → n + 1 ≤ length text
    → Ok nanos ≡ duration_of (before_first (λ b. b == 44) text) → IsDurationFront front nanos
front_states text front nanos n size is within stated = λ title.
    let at : n ≡ position_or_len (λ b. b == 44) text = grind (arith, common_steps, size, within) in
    let below : n < length text = omega (arith, within) in
    let front_is : front ≡ take (n + 1) text = is ∙ ap (λ k. take k text) (omega arith) in
    let value : duration_of (take n (take (n + 1) text ++ title)) ≡ Ok nanos = rw (before_again text title n below, at) (sym stated) in
    rw front_is (said_at (take (n + 1) text ++ title) n nanos title (cut_again (λ b. b == 44) text title n at below) value (after_again text title n below))

-- so does a text with that front
pub stated_again : (text front title : List ℕ) (nanos n : ℕ) → IsDurationFront front nanos → front ≡ take n text → title ≡ drop n text → duration_said text ≡ Ok (duration nanos title)
stated_again text front title nanos n h f t =
    let whole : front ++ title ≡ text = rw (f, t) (take-append-drop n text) in rw whole at (h title)
