-- A run with one segment more.
use Rattle.std.proofs.Common.{◌≡◌, ℕ, ◌+◌, ℤ, Bool, true, false, cond, List, ◌∷◌, refl, ap, sym, ◌∙◌}
use Rattle.std.specs.Prelude.{Option, Some, None, is_some}
use Rattle.std.proofs.lemmas.Slice.Eq.{bytes_eq-Decides}
use Rattle.playlist_model.specs.Segments.{Segment}
use Rattle.playlist_model.specs.declared.in_common.InCommon.{InCommon}
use Rattle.playlist_model.specs.LookBack.{or_earlier}
use Rattle.pod_store.specs.Store.{Store}
use Rattle.stitcher.specs.declared.marked.MarkedSegment.{MarkedSegment as Held}
use Rattle.stitcher.specs.Making.{is_same_stitched_run}
use Rattle.break_finder.specs.Entering.{entered}
use Rattle.channel_spec.specs.Marking.{Moment, limits}
use Rattle.channel_window.specs.Marking.{Hint, stays, next_id, mark_on, capped_in, length_before, length_after}
use Rattle.channel_window.specs.Inner.Terms.{entered_after}
use Rattle.channel_window.specs.declared.marking.Run.{Run}
use Rattle.channel_window.specs.Inner.Terms.{IsExtended, HasItsTerms, window_run_length_capped_at, window_segment_stays_in}

-- ---- a segment without a mark, after another

pub unmarked_on : (store : Store) (duration : ℕ) (run : Run) (mark : Option (List ℕ)) → run.before ≡ None → mark ≡ run.before → IsExtended store duration mark run (record run { so_far = 0 })
unmarked_on store duration run mark none is =
    let here : mark ≡ None = is ∙ none in
    record {
      before = sym is;
      entered = sym (ap (λ o. or_earlier o run.entered) here);
      so_far = sym (ap (λ o. capped_in store o (duration + length_before o run.before run.so_far)) here);
    }

-- ---- a segment that stays in its run

length_itself : (m : Moment) (mark : Option (List ℕ)) (instant : Option ℤ) (n : ℕ) → stays m mark instant ≡ true → length_before mark mark n ≡ n
length_itself m None instant n h = absurd (cc)
length_itself m (Some id) instant n h = ap (λ b. cond b n 0) ((bytes_eq-Decides id id).1 refl)

pub stays_on : (m : Moment) (run : Run) (duration n : ℕ) (instant : Option ℤ) (mark : Option (List ℕ)) → HasItsTerms m run → window_segment_stays_in run.terms instant ≡ true → n ≡ window_run_length_capped_at run.terms (duration + run.so_far) → mark ≡ run.before
    → IsExtended m.store duration mark run (record run { so_far = n })
stays_on m run duration n instant mark r h k is =
    let stay : stays m run.before instant ≡ true = sym (r.terms.stays instant) ∙ h in
    record {
      before = sym is;
      entered = sym (ap (λ o. or_earlier o run.entered) is ∙ r.entered);
      so_far =
          k
          ∙ (r.terms.capped (duration + run.so_far)
          ∙ (ap (λ (n : ℕ). capped_in m.store run.before (duration + n)) (sym (length_itself m run.before instant run.so_far stay))
          ∙ ap (λ o. capped_in m.store o (duration + length_before o run.before run.so_far)) (sym is)));
    }

pub stays_next : (m : Moment) (run : Run) (instant : Option ℤ) (mark : Option (List ℕ)) → HasItsTerms m run → window_segment_stays_in run.terms instant ≡ true → mark ≡ run.before → mark ≡ next_id m run.before run.entered instant
stays_next m run instant mark r h is =
    let stay : stays m run.before instant ≡ true = sym (r.terms.stays instant) ∙ h in
    is ∙ sym (ap (λ b. cond b run.before (entered (limits m run.entered) m.store m.breaks instant)) stay)

pub same_run : (mark before : Option (List ℕ)) (same : Bool) → mark ≡ before → same ≡ is_some before → same ≡ is_same_stitched_run mark before
same_run mark None same is e = e ∙ sym (ap (λ o. is_same_stitched_run o None) is)
same_run mark (Some id) same is e = e ∙ sym (ap (λ o. is_same_stitched_run o (Some id)) is ∙ (bytes_eq-Decides id id).1 refl)

-- ---- one that begins a run

pub begins_next : (m : Moment) (run : Run) (instant : Option ℤ) (mark : Option (List ℕ)) → HasItsTerms m run → window_segment_stays_in run.terms instant ≡ false → mark ≡ entered (limits m run.entered) m.store m.breaks instant
    → mark ≡ next_id m run.before run.entered instant
begins_next m run instant mark r h is =
    let stay : stays m run.before instant ≡ false = sym (r.terms.stays instant) ∙ h in
    is ∙ sym (ap (λ b. cond b run.before (entered (limits m run.entered) m.store m.breaks instant)) stay)

pub earlier_twice : (mark last : Option (List ℕ)) → or_earlier mark (or_earlier mark last) ≡ or_earlier mark last
earlier_twice None last = refl
earlier_twice (Some id) last = refl

-- ---- the marks of the next segments

pub one_marked : (m : Moment) (newest last mark : Option (List ℕ)) (common : InCommon) (again : ℕ) (hints : List Hint) (s : Segment) (later segments : List Segment) (instant : Option ℤ) (more instants : List (Option ℤ)) → segments ≡ s ∷ later → instants ≡ instant ∷ more
    → mark ≡ next_id m newest last instant
    → mark_on m newest last ((common, again) ∷ hints) segments instants
    ≡ record { segment = s; instant = instant; mark = mark; goes_on = is_same_stitched_run mark newest; in_common = common; again = again } ∷ mark_on m mark (or_earlier mark last) hints later more
one_marked m newest last mark common again hints s later segments instant more instants e f is =
    ap (λ ss. mark_on m newest last ((common, again) ∷ hints) ss instants) e
    ∙ (ap (mark_on m newest last ((common, again) ∷ hints) (s ∷ later)) f
    ∙ ap (λ id. record { segment = s; instant = instant; mark = id; goes_on = is_same_stitched_run id newest; in_common = common; again = again } ∷ mark_on m id (or_earlier id last) hints later more) (sym is))

pub record OneMore (m : Moment) (old new : Run) (common : InCommon) (again : ℕ) (hints : List Hint) (segments later : List Segment) (instants more : List (Option ℤ)) (here : Held) : Type 0 where
  pub list : mark_on m old.before old.entered ((common, again) ∷ hints) segments instants ≡ here ∷ mark_on m new.before new.entered hints later more
  pub entered : entered_after new.entered (mark_on m new.before new.entered hints later more) ≡ entered_after old.entered (mark_on m old.before old.entered ((common, again) ∷ hints) segments instants)
  pub so_far : length_after m.store new.before new.so_far (mark_on m new.before new.entered hints later more) ≡ length_after m.store old.before old.so_far (mark_on m old.before old.entered ((common, again) ∷ hints) segments instants)

pub one_more : (m : Moment) (old new : Run) (common : InCommon) (again : ℕ) (hints : List Hint) (s : Segment) (later segments : List Segment) (instant : Option ℤ) (more instants : List (Option ℤ)) (here : Held) → segments ≡ s ∷ later → instants ≡ instant ∷ more
    → here ≡ record { segment = s; instant = instant; mark = next_id m old.before old.entered instant; goes_on = is_same_stitched_run (next_id m old.before old.entered instant) old.before; in_common = common; again = again }
    → IsExtended m.store s.duration here.mark old new → OneMore m old new common again hints segments later instants more here
one_more m old new common again hints s later segments instant more instants here e f is goes =
    let rest = mark_on m new.before new.entered hints later more in
    let mark : here.mark ≡ next_id m old.before old.entered instant = ap (λ (h : Held). h.mark) is in
    let itself : record { segment = s; instant = instant; mark = here.mark; goes_on = is_same_stitched_run here.mark old.before; in_common = common; again = again } ≡ here =
    ap (λ id. record { segment = s; instant = instant; mark = id; goes_on = is_same_stitched_run id old.before; in_common = common; again = again }) mark ∙ sym is in
    let list : mark_on m old.before old.entered ((common, again) ∷ hints) segments instants ≡ here ∷ rest =
    one_marked m old.before old.entered here.mark common again hints s later segments instant more instants e f mark
    ∙ (ap (λ (h : Held). h ∷ mark_on m here.mark (or_earlier here.mark old.entered) hints later more) itself
    ∙ (ap (λ id. here ∷ mark_on m id (or_earlier here.mark old.entered) hints later more) (sym goes.before)
    ∙ ap (λ id. here ∷ mark_on m new.before id hints later more) (sym goes.entered))) in
    record {
      list = list;
      entered = ap (λ id. entered_after id rest) goes.entered ∙ sym (ap (entered_after old.entered) list);
      so_far =
          ap (λ id. length_after m.store id new.so_far rest) goes.before
          ∙ (ap (λ n. length_after m.store here.mark n rest) goes.so_far
          ∙ (ap (λ (t : Segment). length_after m.store here.mark (capped_in m.store here.mark (t.duration + length_before here.mark old.before old.so_far)) rest) (sym (ap (λ (h : Held). h.segment) is))
          ∙ sym (ap (length_after m.store old.before old.so_far) list)));
    }
