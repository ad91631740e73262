-- New segments that are marked one after the other, each with what it has in common with the one before it.
use Rattle.std.proofs.Common.{◌≡◌, ℕ, ℤ, List, [], ◌∷◌, ◌++◌, refl, ap, sym, ◌∙◌, subst, append_assoc, append-nil}
use Rattle.std.specs.Prelude.{Option, Some, None}
use Rattle.playlist_model.specs.Segments.{Segment}
use Rattle.playlist_model.specs.InCommon.{HaveInCommon}
use Rattle.playlist_model.specs.declared.in_common.InCommon.{InCommon}
use Rattle.stitcher.specs.declared.marked.MarkedSegment.{MarkedSegment as Held}
use Rattle.stitcher.specs.Making.{is_same_stitched_run}
use Rattle.stitcher.specs.StitchedSegments.{KnowsCommon, KnowCommon}
use Rattle.stitcher.specs.Inner.StitchedSegments.{KnowAgainWithin}
use Rattle.channel_spec.specs.Marking.{Moment}
use Rattle.channel_window.specs.declared.marking.Run.{Run}
use Rattle.channel_window.specs.Marking.{Hint, next_id, mark_on, length_after}
use Rattle.channel_window.specs.Inner.Terms.{IsExtended, entered_after}
use Rattle.channel_window.specs.Inner.Marked.{AreMarked}
use Rattle.channel_window.proofs.Extended.{one_more}

-- the first of these segments has this in common with the one before it, if there are both
abbrev pub IsFirstCommon : Option Segment → InCommon → List Segment → Type 0
IsFirstCommon None common segments = Unit {0}
IsFirstCommon (Some before) common [] = Unit {0}
IsFirstCommon (Some before) common (s ∷ later) = HaveInCommon common before s

-- the second of these segments has this in common with the first, if there are both
abbrev pub IsSecondCommon : InCommon → List Segment → Type 0
IsSecondCommon common segments = (before now : Segment) (later : List Segment) → segments ≡ before ∷ (now ∷ later) → HaveInCommon common before now

-- what is done so far, and then what is left
pub record GoOn (m : Moment) (old now : Run) (segments : List Segment) (instants : List (Option ℤ)) (before done left : List Held) : Type 0 where
  pub hints : List Hint
  pub list : done ++ left ≡ before ++ mark_on m old.before old.entered hints segments instants
  pub entered : entered_after now.entered left ≡ entered_after old.entered (mark_on m old.before old.entered hints segments instants)
  pub so_far : length_after m.store now.before now.so_far left ≡ length_after m.store old.before old.so_far (mark_on m old.before old.entered hints segments instants)
  pub common : (previous : Option Segment) → KnowCommon previous (mark_on m old.before old.entered hints segments instants)

-- these segments are left, the first of which has this in common with the one before it
pub record AreMarkedTo (m : Moment) (old now : Run) (segments left : List Segment) (instants left_instants : List (Option ℤ)) (before done : List Held) (common : InCommon) : Type 0 where
  pub previous : Option Segment
  pub first : IsFirstCommon previous common left
  pub on : (again : ℕ) (hints : List Hint) → KnowCommon previous (mark_on m now.before now.entered ((common, again) ∷ hints) left left_instants)
      → GoOn m old now segments instants before done (mark_on m now.before now.entered ((common, again) ∷ hints) left left_instants)

-- ---- none is marked yet

first_of_any : (m : Moment) (newest last : Option (List ℕ)) (common : InCommon) (again : ℕ) (hints : List Hint) (segments : List Segment) (instants : List (Option ℤ)) → ((before now : Segment) → HaveInCommon common before now)
    → KnowCommon None (mark_on m newest last ((common, again) ∷ hints) segments instants) → (previous : Option Segment) → KnowCommon previous (mark_on m newest last ((common, again) ∷ hints) segments instants)
first_of_any m newest last common again hints segments instants nothing k None = k
first_of_any m newest last common again hints [] instants nothing k (Some before) = tt
first_of_any m newest last common again hints (s ∷ later) [] nothing k (Some before) = tt
first_of_any m newest last common again hints (s ∷ later) (i ∷ instants) nothing k (Some before) = (nothing before s, k.1)

pub none_marked : (m : Moment) (run : Run) (segments : List Segment) (instants : List (Option ℤ)) (done : List Held) (common : InCommon) → ((before now : Segment) → HaveInCommon common before now)
    → AreMarkedTo m run run segments segments instants instants done done common
none_marked m run segments instants done common nothing = record {
  previous = None;
  first = tt;
  on = λ again hints k. record { hints = (common, again) ∷ hints; list = refl; entered = refl; so_far = refl; common = first_of_any m run.before run.entered common again hints segments instants nothing k };
}

-- ---- one more is marked

second_is_first : (s : Segment) (later segments : List Segment) (common : InCommon) → segments ≡ s ∷ later → IsSecondCommon common segments → IsFirstCommon (Some s) common later
second_is_first s [] segments common e second = tt
second_is_first s (t ∷ later) segments common e second = second s t later e

knows_first : (previous : Option Segment) (common : InCommon) (here : Held) (s : Segment) (later : List Segment) → here.segment ≡ s → here.in_common ≡ common → IsFirstCommon previous common (s ∷ later) → KnowsCommon previous here
knows_first None common here s later e f first = tt
knows_first (Some before) common here s later e f first = subst (λ c. HaveInCommon c before here.segment) (sym f) (subst (HaveInCommon common before) (sym e) first)

module _ (m : Moment) (old now next : Run) (segments left later : List Segment) (instants left_instants more : List (Option ℤ)) (before done next_done : List Held) (common next_common : InCommon) (again : ℕ) (s : Segment) (instant : Option ℤ) (here : Held) where
  pub one_marked_on : AreMarkedTo m old now segments left instants left_instants before done common → left ≡ s ∷ later → left_instants ≡ instant ∷ more
      → here ≡ record { segment = s; instant = instant; mark = next_id m now.before now.entered instant; goes_on = is_same_stitched_run (next_id m now.before now.entered instant) now.before; in_common = common; again = again }
      → IsExtended m.store s.duration here.mark now next → IsSecondCommon next_common left → next_done ≡ done ++ here ∷ []
      → AreMarkedTo m old next segments later instants more before next_done next_common
  one_marked_on so_far e f is goes second put = record {
    previous = Some s;
    first = second_is_first s later left next_common e second;
    on = λ next_again hints k.
        let one = one_more m now next common again ((next_common, next_again) ∷ hints) s later left instant more left_instants here e f is goes in
        let rest = mark_on m next.before next.entered ((next_common, next_again) ∷ hints) later more in
        let segment : here.segment ≡ s = ap (λ (h : Held). h.segment) is in
        let knows : KnowsCommon so_far.previous here =
        knows_first so_far.previous common here s later segment (ap (λ (h : Held). h.in_common) is) (subst (IsFirstCommon so_far.previous common) e so_far.first) in
        let known : KnowCommon so_far.previous (here ∷ rest) = (knows, subst (λ t. KnowCommon (Some t) rest) (sym segment) k) in
        let on = so_far.on again ((next_common, next_again) ∷ hints) (subst (KnowCommon so_far.previous) (sym one.list) known) in
        record {
          hints = on.hints;
          list = ap (λ xs. xs ++ rest) put ∙ (append_assoc done (here ∷ []) rest ∙ (ap (λ xs. done ++ xs) (sym one.list) ∙ on.list));
          entered = one.entered ∙ on.entered;
          so_far = one.so_far ∙ on.so_far;
          common = on.common;
        };
  }

-- ---- none is left

module _ (m : Moment) (old now : Run) (segments left : List Segment) (instants left_instants : List (Option ℤ)) (before done : List Held) (common : InCommon) (so_far : AreMarkedTo m old now segments left instants left_instants before done common) where
  all_marked : mark_on m now.before now.entered ((common, 0) ∷ []) left left_instants ≡ [] → AreMarked m old now segments instants before done
  all_marked none =
      let known = so_far.on 0 [] (subst (KnowCommon so_far.previous) (sym none) tt) in
      let on = subst (GoOn m old now segments instants before done) none known in
      record { hints = on.hints; list = sym (append-nil done) ∙ on.list; entered = on.entered; so_far = on.so_far; common = on.common }

  pub no_segment_left : left ≡ [] → AreMarked m old now segments instants before done
  no_segment_left e = all_marked (ap (λ xs. mark_on m now.before now.entered ((common, 0) ∷ []) xs left_instants) e)

  pub no_instant_left : left_instants ≡ [] → AreMarked m old now segments instants before done
  no_instant_left e = all_marked (ap (mark_on m now.before now.entered ((common, 0) ∷ []) left) e ∙ none_on left)
    where
      none_on : (xs : List Segment) → mark_on m now.before now.entered ((common, 0) ∷ []) xs [] ≡ []
      none_on [] = refl
      none_on (x ∷ xs) = refl

-- ---- what comes after the segments that are shown

pub record AreMarks (m : Moment) (newest last : Option (List ℕ)) (before : ℕ) (segments : List Segment) (instants : List (Option ℤ)) (made : List Held) (now : Option (List ℕ)) (lasted : ℕ) : Type 0 where
  pub list : (hints : List Hint) × (made ≡ mark_on m newest last hints segments instants)
  pub common : (previous : Option Segment) → KnowCommon previous made
  pub again : KnowAgainWithin made
  pub entered : now ≡ entered_after last made
  pub so_far : lasted ≡ length_after m.store newest before made

pub are_marks : (m : Moment) (old new : Run) (newest last : Option (List ℕ)) (before : ℕ) (segments : List Segment) (instants : List (Option ℤ)) (none list : List Held)
    → AreMarked m old new segments instants none list → KnowAgainWithin list → none ≡ [] → old.before ≡ newest → old.entered ≡ last → old.so_far ≡ before
    → AreMarks m newest last before segments instants list new.entered new.so_far
are_marks m old new newest last before segments instants none list h again e n l b =
    let made = mark_on m old.before old.entered h.hints segments instants in
    let is : list ≡ made = h.list ∙ ap (λ xs. xs ++ made) e in
    record {
      list = (h.hints, is ∙ (ap (λ o. mark_on m o old.entered h.hints segments instants) n ∙ ap (λ o. mark_on m newest o h.hints segments instants) l));
      common = λ previous. subst (KnowCommon previous) (sym is) (h.common previous);
      again = again;
      entered = h.entered ∙ (ap (entered_after old.entered) (sym is) ∙ ap (λ o. entered_after o list) l);
      so_far = h.so_far ∙ (ap (length_after m.store old.before old.so_far) (sym is) ∙ (ap (λ o. length_after m.store o old.so_far list) n ∙ ap (λ k. length_after m.store newest k list) b));
    }
