-- Lines lead on alike from lines that left the same standing.
use Rattle.std.proofs.Common.{◌≡◌, ℕ, ◌+◌, true, List, [], ◌∷◌, ◌++◌, length, refl, ap, sym, ◌∙◌, arith, subst, append_assoc, length-append}
use Rattle.std.specs.Prelude.{Result, Ok, Err}
use Rattle.url.specs.Parts.{Parts}
use Rattle.playlist_model.specs.Said.{Said, Outcome, Reader}
use Rattle.playlist_model.specs.LookBack.{segments_of, date_ranges_of}
use Rattle.playlist_model.specs.Reading.{at_line, said_by, said_from, Fault}
use Rattle.playlist_parse.specs.Inner.Resumed.{scene_at, Alike, Resumed, ReadingGoesOn}
use Rattle.playlist_parse.proofs.OtherKinds.{is_other, Other, line_other}
use Rattle.playlist_parse.proofs.SameAnswers.{kept_line}
use Rattle.playlist_parse.proofs.Scenes.{segments_said, date_ranges_said, none_after, segments_step, date_ranges_step, count_step, sequence_step, discontinuity_sequence_step, alike_next}

-- a line that was read said something
record Told (o : Outcome Said) (f : Said → Result (List Said) Fault) (all : List Said) : Type 0 where
  said : Said
  is : o ≡ Ok said
  later : f said ≡ Ok all

told : (n : ℕ) (o : Outcome Said) (f : Said → Result (List Said) Fault) (all : List Said) → at_line n o f ≡ Ok all → Told o f all
told n (Ok said) f all h = record { said = said; is = refl; later = h }
told n (Err e) f all h = absurd (cc h)

other_said : (o : Outcome Said) (said : Said) → o ≡ Ok said → Other o → is_other said ≡ true
other_said o said is h = let there : Other (Ok said) = subst Other is h in there

ok_is : {a b : List Said} → ◌≡◌ {A = Result (List Said) Fault} (Ok a) (Ok b) → a ≡ b
ok_is h = cc h

added : {A : Type 0} (all before here : List A) (own more : List A) → here ≡ before ++ own → all ≡ here ++ more → all ≡ before ++ (own ++ more)
added all before here own more h k = k ∙ ap (λ xs. xs ++ more) h ∙ append_assoc before own more

read_on : (n : ℕ) (o : Outcome Said) (said : Said) (f : Said → Result (List Said) Fault) → o ≡ Ok said → at_line n o f ≡ f said
read_on n o said f is = ap (λ x. at_line n x f) is

module _ (reader : Reader) (base : Parts) where
  nothing_left : (old new all : List Said) → Alike old new → old ≡ all → Resumed reader base old new [] all
  nothing_left old new all alike h = record {
    said = new;
    read = refl;
    alike = subst (λ x. Alike x new) h alike;
    segments = [];
    date_ranges = [];
    old_segments = ap segments_of (sym h) ∙ none_after (segments_of old);
    new_segments = none_after (segments_of new);
    old_date_ranges = ap date_ranges_of (sym h) ∙ none_after (date_ranges_of old);
    new_date_ranges = none_after (date_ranges_of new);
    count = omega arith;
    sequence = refl;
    discontinuity_sequence = refl;
    lines_read = omega arith;
    old_lines_read = let size = ap length h in omega (arith, size);
  }

  one_line : (old new : List Said) (line : List ℕ) (later : List (List ℕ)) (all : List Said) (said : Said) → Alike old new → is_other said ≡ true
      → said_by reader base new line ≡ Ok said → Resumed reader base (said ∷ old) (said ∷ new) later all → Resumed reader base old new (line ∷ later) all
  one_line old new line later all said alike other is r =
      let scene = scene_at new in
      let segments = ap (segments_said said) (sym alike.scene) in
      let total : length (segments_said said scene ++ r.segments) ≡ length (segments_said said scene) + length r.segments = length-append (segments_said said scene) r.segments in record {
        said = r.said;
        read = read_on (length new + 1) (said_by reader base new line) said (λ x. said_from (said_by reader base) (x ∷ new) later) is ∙ r.read;
        alike = r.alike;
        segments = segments_said said scene ++ r.segments;
        date_ranges = date_ranges_said said ++ r.date_ranges;
        old_segments = added _ _ _ _ _ (segments_step said old ∙ ap (λ x. segments_of old ++ segments_said said x) alike.scene) r.old_segments;
        new_segments = added _ _ _ _ _ (segments_step said new) r.new_segments;
        old_date_ranges = added _ _ _ _ _ (date_ranges_step said old) r.old_date_ranges;
        new_date_ranges = added _ _ _ _ _ (date_ranges_step said new) r.new_date_ranges;
        count = omega (arith, r.count, count_step said new scene, total);
        sequence = r.sequence ∙ sequence_step said new other;
        discontinuity_sequence = r.discontinuity_sequence ∙ discontinuity_sequence_step said new other;
        lines_read = omega (arith, r.lines_read);
        old_lines_read = omega (arith, r.old_lines_read);
      }

  pub goes_on_by : (old new : List Said) (lines : List (List ℕ)) (all : List Said) → Alike old new → said_from (said_by reader base) old lines ≡ Ok all → Resumed reader base old new lines all
  goes_on_by old new [] all alike h = nothing_left old new all alike (ok_is h)
  goes_on_by old new (line ∷ later) all alike h =
      let t = told (length old + 1) (said_by reader base old line) (λ said. said_from (said_by reader base) (said ∷ old) later) all h in
      let other = other_said _ t.said t.is (line_other reader base old line alike.media) in
      one_line old new line later all t.said alike other (kept_line reader base old new alike line t.said t.is)
      (goes_on_by (t.said ∷ old) (t.said ∷ new) later all (alike_next t.said old new other alike) t.later)

pub goes_on : ReadingGoesOn
goes_on reader base old new lines all alike h = goes_on_by reader base old new lines all alike h
