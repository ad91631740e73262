-- The lines of the segments that a window goes on are those that stood in the text before.
use Rattle.std.proofs.Common.{◌≡◌, ℕ, zero, suc, ◌+◌, ◌-◌, ◌<◌, ◌≤◌, true, List, [], ◌∷◌, ◌++◌, length, take, drop, refl, ap, sym, ◌∙◌, arith, append_assoc, length-append}
use Rattle.std.specs.Prelude.{◌||◌, is_some, is_none}
use Rattle.std.proofs.lemmas.List.{take-append-drop, take-take, drop-take, take_at, drop_at}
use Rattle.playlist_model.specs.Said.{Said}
use Rattle.stitcher.specs.declared.OutSegment.{OutSegment}
use Rattle.playlist_write.specs.declared.OutPlaylist.{OutPlaylist}
use Rattle.playlist_write.specs.declared.resumed.WrittenText.{WrittenText}
use Rattle.playlist_write.specs.Owed.{Current, none_yet, after_segment, segment_owed, segments_owed, said_text, header_owed, ended_owed, with_feed, date_ranges_text, playlist_text}
use Rattle.playlist_write.specs.Laid.{after_segments, first_written_segment_states_all, current_of, IsLaid, IsFrontLength}
use Rattle.playlist_write.specs.Inner.Laid.{front_text}
use Rattle.std.specs.Prelude.{codes}

-- ---- the law

abbrev pub lines : Current → List OutSegment → List ℕ
lines s xs = said_text (segments_owed s xs)

owed_joined : (s : Current) (xs ys : List OutSegment) → segments_owed s (xs ++ ys) ≡ segments_owed s xs ++ segments_owed (after_segments s xs) ys
owed_joined s [] ys = refl
owed_joined s (x ∷ xs) ys = grind (arith, append_assoc, owed_joined (after_segment s x) xs ys)

said_joined : (a b : List Said) → said_text (a ++ b) ≡ said_text a ++ said_text b
said_joined [] b = refl
said_joined (x ∷ a) b = grind (arith, append_assoc, said_joined a b)

-- the lines of segments that come after others are what the state after those makes of them
pub lines_joined : (s : Current) (xs ys : List OutSegment) → lines s (xs ++ ys) ≡ lines s xs ++ lines (after_segments s xs) ys
lines_joined s xs ys = grind (arith, owed_joined, said_joined)

pub after_joined : (s : Current) (xs ys : List OutSegment) → after_segments s (xs ++ ys) ≡ after_segments (after_segments s xs) ys
after_joined s [] ys = refl
after_joined s (x ∷ xs) ys = after_joined (after_segment s x) xs ys

stated : (s : Current) (x : OutSegment) → (is_some x.segment.init_section || is_none s.init_section) ≡ true → after_segment s x ≡ after_segment none_yet x
stated s x h = grind arith

-- of a window whose first segments are gone, `again` stand in the next one, which starts with a segment that states all that
-- is in force after it: its lines are those of that segment by itself, what stood in the text before after that segment, and
-- the lines of the new segments after what was in force at the end
pub record GoesOn (gone all : List OutSegment) (again : ℕ) (fresh : List OutSegment) : Type 0 where
  pub kept : List ℕ
  pub old : lines none_yet (gone ++ take again all) ≡ (lines none_yet gone ++ lines (after_segments none_yet gone) (take 1 all)) ++ kept
  pub new : lines none_yet all ≡ lines none_yet (take 1 all) ++ (kept ++ lines (after_segments none_yet (gone ++ take again all)) fresh)
  pub end : after_segments none_yet all ≡ after_segments (after_segments none_yet (gone ++ take again all)) fresh

goes_by : (gone : List OutSegment) (x : OutSegment) (rest : List OutSegment) (k : ℕ) → (is_some x.segment.init_section || is_none (after_segments none_yet gone).init_section) ≡ true
    → GoesOn gone (x ∷ rest) (suc k) (drop k rest)
goes_by gone x rest k h =
    let g = after_segments none_yet gone in
    let e = stated g x h in
    let front = take k rest in
    let back = drop k rest in
    let n = after_segment none_yet x in
    let whole = take-append-drop k rest in
    let here : after_segments none_yet (gone ++ (x ∷ front)) ≡ after_segments n front = after_joined none_yet gone (x ∷ front) ∙ ap (λ s. after_segments s front) e in
    record {
      kept = lines n front;
      old =
          lines_joined none_yet gone (x ∷ front)
          ∙ (ap (λ t. lines none_yet gone ++ t) (lines_joined g (x ∷ []) front)
          ∙ (sym (append_assoc (lines none_yet gone) (lines g (x ∷ [])) (lines (after_segment g x) front))
          ∙ ap (λ s. (lines none_yet gone ++ lines g (x ∷ [])) ++ lines s front) e));
      new =
          lines_joined none_yet (x ∷ []) rest
          ∙ ap (λ t. lines none_yet (x ∷ []) ++ t)
          (ap (lines n) (sym whole) ∙ (lines_joined n front back ∙ ap (λ s. lines n front ++ lines s back) (sym here)));
      end = ap (after_segments n) (sym whole) ∙ (after_joined n front back ∙ ap (λ s. after_segments s back) (sym here));
    }

pub goes_on : (gone all fresh : List OutSegment) (again : ℕ) → 1 ≤ again → first_written_segment_states_all (after_segments none_yet gone) all ≡ true → drop again all ≡ fresh → GoesOn gone all again fresh
goes_on gone all fresh again l h f = grind (arith, goes_by)

-- ---- the text

pub take_plus : (n k : ℕ) (xs : List OutSegment) → take (n + k) xs ≡ take n xs ++ take k (drop n xs)
take_plus n k xs =
    sym (take-append-drop n (take (n + k) xs))
    ∙ (ap (λ t. t ++ drop n (take (n + k) xs)) (take-take n (n + k) xs (omega arith)) ∙ ap (λ t. take n xs ++ t) (drop-take n k xs))

-- what stands in a text between two places
cut : (front a kept back : List ℕ) → drop (length front + length a) (take (length front + length (a ++ kept)) (front ++ ((a ++ kept) ++ back))) ≡ kept
cut front a kept back =
    ap (λ t. drop (length front + length a) (take (length front + length (a ++ kept)) t)) (sym (append_assoc front (a ++ kept) back))
    ∙ (ap (drop (length front + length a)) (take_at (front ++ (a ++ kept)) back (length front + length (a ++ kept)) (length-append front (a ++ kept)))
    ∙ (ap (drop (length front + length a)) (sym (append_assoc front a kept)) ∙ drop_at (front ++ a) kept (length front + length a) (length-append front a)))

pub kept_lines : (text front body back a kept : List ℕ) (from till : ℕ) → text ≡ front ++ (body ++ back) → body ≡ a ++ kept → from ≡ length front → till ≡ length front + length body
    → drop (from + length a) (take till text) ≡ kept
kept_lines text front body back a kept from till t b f l = grind (arith, cut)

-- the lines before the segments tell of the first of these alone
one_alone : {A : Type 0} (f : List OutSegment → A) → ((x : OutSegment) (xs : List OutSegment) → f (x ∷ xs) ≡ f (x ∷ [])) → (xs ys : List OutSegment) → take 1 xs ≡ take 1 ys → f xs ≡ f ys
one_alone f h [] [] e = refl
one_alone f h [] (y ∷ ys) e = absurd (cc)
one_alone f h (x ∷ xs) [] e = absurd (cc)
one_alone f h (x ∷ xs) (y ∷ ys) e = h x xs ∙ (ap f e ∙ sym (h y ys))

pub front_with : (p : OutPlaylist) (segments : List OutSegment) → take 1 segments ≡ take 1 p.segments → front_text (record p { segments = segments }) ≡ front_text p
unfolding front_text
front_with p segments e = grind arith

whole_text : (p : OutPlaylist) (body : List ℕ) → front_text p ++ (body ++ said_text (ended_owed p.end_list)) ≡ with_feed (codes "#EXTM3U") ++ (said_text (header_owed p) ++ (date_ranges_text p.date_ranges ++ (body ++ said_text (ended_owed p.end_list))))
unfolding front_text
whole_text p body = grind (arith, append_assoc)

-- a text of these parts is the playlist's, and laid out so
pub record Laid (p : OutPlaylist) (w : WrittenText) : Type 0 where
  pub text : w.text ≡ playlist_text p
  pub laid : IsLaid p.segments w

pub is_laid : (p : OutPlaylist) (w : WrittenText) (body : List ℕ) (end : Current) → body ≡ lines none_yet p.segments → end ≡ after_segments none_yet p.segments
    → w.text ≡ front_text p ++ (body ++ said_text (ended_owed p.end_list)) → w.from ≡ length (front_text p) → w.till ≡ length (front_text p ++ body) → w.count ≡ length p.segments → current_of w ≡ end → Laid p w
is_laid p w body end b e t f l n c = grind (arith, whole_text, length-append)

-- the parts that come together are the lines of the whole window
pub record Joins (p : OutPlaylist) (last : WrittenText) (kept : List ℕ) (fresh : List OutSegment) : Type 0 where
  pub lines_are : lines none_yet (take 1 p.segments) ++ (kept ++ lines (current_of last) fresh) ≡ lines none_yet p.segments
  pub current : after_segments (current_of last) fresh ≡ after_segments none_yet p.segments

pub joins : (p : OutPlaylist) (last : WrittenText) (before fresh : List OutSegment) (gone again len : ℕ) (kept : List ℕ) → 1 ≤ again → IsLaid (take (gone + again) before) last → drop gone before ≡ p.segments → drop again p.segments ≡ fresh
    → IsFrontLength before gone len → kept ≡ drop (last.from + len) (take last.till last.text) → Joins p last kept fresh
joins p last before fresh gone again len kept some laid on f front k =
    let first = take gone before in
    let states : first_written_segment_states_all (after_segments none_yet first) p.segments ≡ true = ap (first_written_segment_states_all (after_segments none_yet first)) (sym on) ∙ front.states in
    let n : len ≡ length (lines none_yet first ++ lines (after_segments none_yet first) (take 1 p.segments)) = front.is ∙ ap (λ xs. length (lines none_yet first ++ lines (after_segments none_yet first) (take 1 xs))) on in
    let g = goes_on first p.segments fresh again some states f in
    let stood : take (gone + again) before ≡ first ++ take again p.segments = take_plus gone again before ∙ ap (λ xs. first ++ take again xs) on in
    let a = lines none_yet first ++ lines (after_segments none_yet first) (take 1 p.segments) in
    let body : lines none_yet (take (gone + again) before) ≡ a ++ g.kept = ap (lines none_yet) stood ∙ g.old in
    let same : kept ≡ g.kept = k ∙ (ap (λ m. drop (last.from + m) (take last.till last.text)) n ∙ kept_lines last.text laid.front (lines none_yet (take (gone + again) before)) laid.back a g.kept last.from last.till laid.is body laid.from laid.till) in
    let end : current_of last ≡ after_segments none_yet (first ++ take again p.segments) = laid.current ∙ ap (after_segments none_yet) stood in
    record {
      lines_are =
          ap (λ t. lines none_yet (take 1 p.segments) ++ (t ++ lines (current_of last) fresh)) same
          ∙ (ap (λ s. lines none_yet (take 1 p.segments) ++ (g.kept ++ lines s fresh)) end ∙ sym g.new);
      current = ap (λ s. after_segments s fresh) end ∙ sym g.end;
    }

-- ---- the first segments, one after the other

take_step : (n : ℕ) (x : OutSegment) (xs : List OutSegment) → 0 < n → take n (x ∷ xs) ≡ x ∷ take (n - 1) xs
take_step zero x xs h = absurd (omega arith)
take_step (suc k) x xs h = let e : k ≡ suc k - 1 = omega arith in ap (λ i. x ∷ take i xs) e

pub text_goes : (out out' : List ℕ) (s : Current) (n : ℕ) (x : OutSegment) (left xs : List OutSegment) → 0 < n → left ≡ x ∷ xs → out' ≡ out ++ said_text (segment_owed s x)
    → out' ++ lines (after_segment s x) (take (n - 1) xs) ≡ out ++ lines s (take n left)
text_goes out out' s n x left xs h l e = grind (arith, append_assoc, take_step, said_joined)

pub force_goes : (s : Current) (n : ℕ) (x : OutSegment) (left xs : List OutSegment) → 0 < n → left ≡ x ∷ xs
    → after_segments (after_segment s x) (take (n - 1) xs) ≡ after_segments s (take n left)
force_goes s n x left xs h l = grind arith
