-- What is kept follows the whole history.
use Rattle.std.proofs.Common.{◌≡◌, ℕ, ◌+◌, ◌<◌, ◌≤◌, Bool, true, false, cond, List, [], ◌∷◌, ◌++◌, length, refl, ap, sym, ◌∙◌, subst, append_assoc, arith}
use Rattle.std.proofs.lemmas.Bool.{ltb-true, ltb-false, le-leb}
use Rattle.std.proofs.lemmas.List.{append-nil}
use Rattle.std.specs.Prelude.{Option, Some, None, option_map, nat_lt, filter}
use Rattle.playlist_model.specs.Segments.{Segment}
use Rattle.playlist_model.specs.LookBack.{or_earlier}
use Rattle.pod_store.specs.Marks.{Mark, Marked, newest_mark}
use Rattle.channel_spec.specs.Marking.{Moment, mark_id, last_mark, last_entered, next_mark, segment_instant, next_shown, show_all, is_new}
use Rattle.channel_spec.specs.Live.{marks_from}
use Rattle.channel_spec.specs.LiveLaws.{GoesOn}
use Rattle.channel_spec.specs.Kept.{shown_from, marked_on, entered_with, show_on}
use Rattle.channel_spec.proofs.Growth.{goes_nowhere, goes_on_through}
use Rattle.channel_spec.proofs.Risen.{FallFrom}

-- ---- the new marks

pub entered_cons : (mark : Option Mark) (before : List Marked) → option_map mark_id (or_earlier mark (last_mark before)) ≡ entered_with mark (last_entered before)
entered_cons None before = refl
entered_cons (Some f) before = refl

show_split : (m : Moment) (x : Marked) (front gone : List Marked) (entered : Option (List ℕ)) (segments : List Segment) → entered ≡ last_entered (x ∷ (front ++ gone))
    → show_all m (x ∷ (front ++ gone)) segments ≡ show_on m (x ∷ front) entered segments ++ gone
show_split m x front gone entered [] e = refl
show_split m x front gone entered (s ∷ later) e =
    let before = x ∷ (front ++ gone) in
    let here = marked_on m (x ∷ front) entered s later in
    let same : next_shown m before s later ≡ here = ap (λ l. record { segment = s; instant = segment_instant before s later; mark = next_mark m x.mark l (segment_instant before s later) }) (sym e) in
    ap (λ h. show_all m (h ∷ before) later) same
    ∙ show_split m here (x ∷ front) gone (entered_with here.mark entered) later (ap (entered_with here.mark) e ∙ sym (entered_cons here.mark before))

pub show_first : (m : Moment) (segments : List Segment) → show_all m [] segments ≡ show_on m [] None segments
show_first m [] = refl
show_first m (s ∷ later) =
    let here = next_shown m [] s later in
    show_split m here [] [] (entered_with here.mark None) later (sym (entered_cons here.mark [])) ∙ append-nil (show_on m (here ∷ []) (entered_with here.mark None) later)

pub show_grows : (m : Moment) (front : List Marked) (entered : Option (List ℕ)) (segments : List Segment) → GoesOn front (show_on m front entered segments)
show_grows m front entered [] = goes_nowhere front
show_grows m front entered (s ∷ later) =
    let here = marked_on m front entered s later in
    goes_on_through front (here ∷ front) (show_on m (here ∷ front) (entered_with here.mark entered) later) (here ∷ [], refl) (show_grows m (here ∷ front) (entered_with here.mark entered) later)

pub show_after : (m : Moment) (newer : List Marked) (s : Marked) (gone : List Marked) (segments : List Segment)
    → show_all m (newer ++ (s ∷ gone)) segments ≡ show_on m (newer ++ (s ∷ [])) (last_entered (newer ++ (s ∷ gone))) segments ++ gone
show_after m [] s gone segments = show_split m s [] gone (last_entered (s ∷ gone)) segments refl
show_after m (x ∷ newer) s gone segments = grind (arith, append_assoc, show_split)

pub newest_same : (newer : List Marked) (s : Marked) (gone : List Marked) → newest_mark (newer ++ (s ∷ gone)) ≡ newest_mark (newer ++ (s ∷ []))
newest_same [] s gone = refl
newest_same (x ∷ newer) s gone = refl

pub new_same : (newer : List Marked) (s : Marked) (gone : List Marked) (segments : List Segment) → filter (is_new (newer ++ (s ∷ gone))) segments ≡ filter (is_new (newer ++ (s ∷ []))) segments
new_same [] s gone segments = refl
new_same (x ∷ newer) s gone segments = refl

-- ---- where what is kept is cut

pub record Cut (first : ℕ) (history : List Marked) : Type 0 where
  pub newer : List Marked
  pub s : Marked
  pub gone : List Marked
  pub is : history ≡ newer ++ (s ∷ gone)
  pub media_sequence : s.segment.media_sequence ≡ first
  pub shown : shown_from first history ≡ newer ++ (s ∷ [])
  pub rest : FallFrom first gone

pub none_below : (first end : ℕ) (gone : List Marked) → FallFrom end gone → end ≤ first → shown_from first gone ≡ []
none_below first end [] f h = refl
none_below first end (g ∷ gone) f h = grind arith

cut_step : (first end : ℕ) (x : Marked) (before : List Marked) → x.segment.media_sequence + 1 ≡ end → FallFrom x.segment.media_sequence before → first < end
    → (first < x.segment.media_sequence → Cut first before) → (b : Bool) → nat_lt first x.segment.media_sequence ≡ b → Cut first (x ∷ before)
cut_step first end x before e f h rec true t =
    let k = rec (ltb-true first x.segment.media_sequence t) in
    record {
      newer = x ∷ k.newer;
      s = k.s;
      gone = k.gone;
      is = ap (λ xs. x ∷ xs) k.is;
      media_sequence = k.media_sequence;
      shown = ap (λ b. cond b (x ∷ shown_from first before) []) (le-leb first x.segment.media_sequence (omega (arith, ltb-true first x.segment.media_sequence t))) ∙ ap (λ xs. x ∷ xs) k.shown;
      rest = k.rest;
    }
cut_step first end x before e f h rec false t =
    let same : x.segment.media_sequence ≡ first = omega (arith, ltb-false first x.segment.media_sequence t, e, h) in
    record {
      newer = [];
      s = x;
      gone = before;
      is = refl;
      media_sequence = same;
      shown = ap (λ b. cond b (x ∷ shown_from first before) []) (le-leb first x.segment.media_sequence (omega (arith, same)))
          ∙ ap (λ xs. x ∷ xs) (none_below first x.segment.media_sequence before f (omega (arith, same)));
      rest = subst (λ n. FallFrom n before) same f;
    }

pub cut : (first end : ℕ) (history : List Marked) → FallFrom end history → first < end → end ≤ first + length history → Cut first history
cut first end [] f h k = absurd (omega (arith, h, k))
cut first end (x ∷ before) f h k =
    cut_step first end x before f.0 f.1 h (λ below. cut first x.segment.media_sequence before f.1 below (omega (arith, f.0, k))) (nat_lt first x.segment.media_sequence) refl

-- ---- lists of which the segments that are gone are no part

from_step : (first : ℕ) (x : Marked) (a b : List Marked) → a ≡ b → (t : Bool) → cond t (x ∷ a) [] ≡ cond t (x ∷ b) []
from_step first x a b e true = ap (λ xs. x ∷ xs) e
from_step first x a b e false = refl

pub shown_apart : (first : ℕ) (list gone : List Marked) → shown_from first gone ≡ [] → shown_from first (list ++ gone) ≡ shown_from first list
shown_apart first [] gone e = e
shown_apart first (x ∷ list) gone e = grind (arith, shown_apart first list gone e)

entered_append : (list gone : List Marked) → last_entered (list ++ gone) ≡ or_earlier (last_entered list) (last_entered gone)
entered_append [] gone = refl
entered_append (x ∷ list) gone = grind (arith, entered_append list gone)

-- the last break entered, of a list that goes on another before which some are gone
or_twice : (a b g : Option (List ℕ)) → or_earlier (or_earlier a b) (or_earlier b g) ≡ or_earlier (or_earlier a b) g
or_twice (Some x) b g = refl
or_twice None (Some y) g = refl
or_twice None None g = refl

pub entered_on : (more front gone : List Marked) → or_earlier (last_entered (more ++ front)) (last_entered (front ++ gone)) ≡ last_entered ((more ++ front) ++ gone)
entered_on more front gone = grind (arith, entered_append, or_twice)

-- the marks of the segments that are gone are no part
pub none_marked : (first end : ℕ) (gone : List Marked) → FallFrom end gone → end ≤ first → marks_from first gone ≡ []
none_marked first end [] f h = refl
none_marked first end (g ∷ gone) f h = grind (arith, none_marked first g.segment.media_sequence gone f.1 (omega (arith, f.0, h)))

pub marks_append : (first : ℕ) (list gone : List Marked) → marks_from first gone ≡ [] → marks_from first (list ++ gone) ≡ marks_from first list
marks_append first [] gone e = e
marks_append first (x ∷ list) gone e = grind (arith, marks_append first list gone e)
