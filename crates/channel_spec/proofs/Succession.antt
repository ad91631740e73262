-- Each window succeeds the one before.
use Rattle.std.proofs.Common.{◌≡◌, inl, ℕ, ◌+◌, ◌<◌, ◌≤◌, Bool, List, [], ◌∷◌, ◌++◌, length, reverse, refl, ap, sym, ◌∙◌, subst, length-append, arith}
use Rattle.std.specs.List.{AllByRecursion}
use Rattle.playlist_model.specs.Segments.{Segment}
use Rattle.stitcher.specs.Stitched.{Piece, Numbers, numbers_at, steps_between, from_place}
use Rattle.channel_spec.proofs.Numbered.{numbered, numbered_segment}
use Rattle.channel_spec.specs.Successor.{first_number, end_number, first_discontinuity, last_discontinuity, has_init_sections, AgreesWith}
use Rattle.channel_spec.specs.LiveLaws.{GoesOn}
use Rattle.channel_spec.proofs.Windows.{In, in_after, Split, split_at, window_of, window_is, onto, reverse-cons, first_of_window, end_of_window, windows_agree}
use Rattle.channel_spec.proofs.Fills.{HaveInitSections}

-- a window of the pieces
pub cut : Numbers → ℕ → List Piece → List Segment
cut first place pieces = reverse (from_place place (numbered first pieces))

pub cut_is : (first : Numbers) (place : ℕ) (pieces : List Piece) → cut first place pieces ≡ reverse (from_place place (numbered first pieces))
unfolding cut
cut_is first place pieces = refl

pub cut_at : (first : Numbers) (place : ℕ) (pieces front : List Piece) (q : Piece) (after : List Piece) → pieces ≡ front ++ (q ∷ after) → length after ≡ place
    → cut first place pieces ≡ window_of first front q after
unfolding cut
cut_at first place pieces front q after e h = grind (arith, reverse, numbered, window_is)

-- a piece that stands just above the old list is at most so many discontinuities away
pub record Above (pieces old : List Piece) : Type 0 where
  pub front : List Piece
  pub here : Piece
  pub is : pieces ≡ front ++ (here ∷ old)
  pub near : (p : Piece) (before : List Piece) → old ≡ p ∷ before → steps_between p here ≤ 1000

-- what a window owes to the one before
pub record Follows (new old : List Segment) : Type 0 where
  pub with_init_sections : has_init_sections new ≡ has_init_sections old
  pub not_back : first_number old ≤ first_number new
  pub no_gap : first_number new ≤ end_number old
  pub not_shrunk : end_number old ≤ end_number new
  pub same : AllByRecursion (AgreesWith new) old
  pub apart : first_number new ≡ end_number old → (last_discontinuity old ≤ first_discontinuity new) × (first_discontinuity new ≤ last_discontinuity old + 1000)

last_append : (xs : List Segment) (x : Segment) → last_discontinuity (xs ++ (x ∷ [])) ≡ x.discontinuity_sequence
last_append [] x = refl
last_append (y ∷ []) x = refl
last_append (y ∷ z ∷ xs) x = last_append (z ∷ xs) x

-- the last segment of a window is the newest piece
last_of_window : (first : Numbers) (front : List Piece) (q : Piece) (after : List Piece) (p : Piece) (before : List Piece) → front ++ (q ∷ after) ≡ p ∷ before
    → last_discontinuity (window_of first front q after) ≡ (numbers_at first p before).discontinuity_sequence
unfolding window_of onto
last_of_window first [] q after p before e =
    let n : numbers_at first q after ≡ numbers_at first p before = cc in ap (λ (n : Numbers). n.discontinuity_sequence) n
last_of_window first (r ∷ front) q after p before e =
    let here = numbered_segment q (numbers_at first q after) in
    let top = numbered_segment r (numbers_at first r (front ++ (q ∷ after))) in
    let turned : window_of first (r ∷ front) q after ≡ (here ∷ reverse (onto first (q ∷ after) front)) ++ (top ∷ [])
    = ap (λ xs. here ∷ xs) (reverse-cons top (onto first (q ∷ after) front)) in
    let n : numbers_at first r (front ++ (q ∷ after)) ≡ numbers_at first p before = cc in
    ap last_discontinuity turned ∙ last_append (here ∷ reverse (onto first (q ∷ after) front)) top ∙ ap (λ (n : Numbers). n.discontinuity_sequence) n

window_has_init_sections : (m : Bool) (first : Numbers) (front : List Piece) (q : Piece) (after : List Piece) → HaveInitSections m (front ++ (q ∷ after)) → has_init_sections (window_of first front q after) ≡ m
unfolding window_of HaveInitSections In
window_has_init_sections m first front q after h = h q (in_after q front (q ∷ after) (inl refl))

first_of : (first : Numbers) (front : List Piece) (q p : Piece) (before : List Piece)
    → first_discontinuity (window_of first front q (p ∷ before)) ≡ (numbers_at first p before).discontinuity_sequence + steps_between p q
unfolding window_of
first_of first front q p before = refl

pub follows : (m : Bool) (first : Numbers) (old new : List Piece) (place later : ℕ) → GoesOn old new → HaveInitSections m old → HaveInitSections m new
    → place < length old → place ≤ later → later ≤ length old → later < length new → (later ≡ length old → Above new old)
    → Follows (cut first later new) (cut first place old)
follows m first old new place later grown om nm inside on within some above =
    let a = split_at place old inside in
    let b = split_at later new some in
    let was = cut_at first place old a.front a.here a.after a.is a.at in
    let is = cut_at first later new b.front b.here b.after b.is b.at in
    let start = ap first_number was ∙ first_of_window first a.front a.here a.after in
    let end : end_number (cut first place old) ≡ first.media_sequence + length old = ap end_number was ∙ end_of_window first a.front a.here a.after ∙ ap (λ (ps : List Piece). first.media_sequence + length ps) (sym a.is) in
    let start2 = ap first_number is ∙ first_of_window first b.front b.here b.after in
    let end2 : end_number (cut first later new) ≡ first.media_sequence + length new = ap end_number is ∙ end_of_window first b.front b.here b.after ∙ ap (λ (ps : List Piece). first.media_sequence + length ps) (sym b.is) in
    let longer : length old ≤ length new = omega (arith, ap length grown.1, length-append grown.0 old) in
    let list : b.front ++ (b.here ∷ b.after) ≡ grown.0 ++ (a.front ++ (a.here ∷ a.after)) = sym b.is ∙ grown.1 ∙ ap (λ ps. grown.0 ++ ps) a.is in
    let agree = windows_agree first a.front a.here a.after b.front b.here b.after grown.0 list in
    record {
      with_init_sections = ap has_init_sections is ∙ window_has_init_sections m first b.front b.here b.after (subst (λ ps. HaveInitSections m ps) b.is nm)
          ∙ sym (ap has_init_sections was ∙ window_has_init_sections m first a.front a.here a.after (subst (λ ps. HaveInitSections m ps) a.is om));
      not_back = omega (arith, start, start2, a.at, b.at, on);
      no_gap = omega (arith, start2, end, b.at, within);
      not_shrunk = omega (arith, end, end2, longer);
      same = subst (λ (new_window : List Segment). AllByRecursion (AgreesWith new_window) (cut first place old)) (sym is)
          (subst (λ (old_window : List Segment). AllByRecursion (AgreesWith (window_of first b.front b.here b.after)) old_window) (sym was) agree);
      apart = λ e. apart_step first old new place later a was (omega (arith, e, start2, end, b.at)) (above (omega (arith, e, start2, end, b.at)));
    }
  where
    apart_step : (first : Numbers) (old new : List Piece) (place later : ℕ) (a : Split place old) → cut first place old ≡ window_of first a.front a.here a.after → later ≡ length old → Above new old
        → (last_discontinuity (cut first place old) ≤ first_discontinuity (cut first later new)) × (first_discontinuity (cut first later new) ≤ last_discontinuity (cut first place old) + 1000)
    apart_step first [] new place later a was e k = absurd (omega (arith, ap length a.is, length-append a.front (a.here ∷ a.after)))
    apart_step first (p ∷ before) new place later a was e k =
        let last = ap last_discontinuity was ∙ last_of_window first a.front a.here a.after p before (sym a.is) in
        let is = cut_at first later new k.front k.here (p ∷ before) k.is (sym e) in
        let next : first_discontinuity (cut first later new) ≡ (numbers_at first p before).discontinuity_sequence + steps_between p k.here = ap first_discontinuity is ∙ first_of first k.front k.here p before in
        let few = k.near p before refl in
        (omega (arith, last, next), omega (arith, last, next, few))
