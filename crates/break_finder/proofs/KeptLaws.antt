-- The known breaks beside what is kept of them.
use Rattle.std.proofs.Common.{◌≡◌, ℕ, Bool, true, false, cond, List, [], ◌∷◌, map, refl, sym, ap, ◌∙◌, Some, option_map, filter, not, ◌&&◌, arith}
use Rattle.std.specs.Prelude.{Option, bytes_eq, fold}
use Rattle.std.specs.List.{AllZip, AllByRecursion, IsDistinct}
use Rattle.std.specs.Map.{keys_of}
use Rattle.indexmap.specs.IndexMap.{insert_entry}
use Rattle.playlist_model.specs.declared.DateRange.{DateRange}
use Rattle.break_finder.specs.declared.described.Described.{Described}
use Rattle.break_finder.specs.Breaks.{Break, said_of, said_in, described_break_and_tag}
use Rattle.break_finder.specs.Known.{Accepted, is_tagged_or_carried, carry}
use Rattle.break_finder.specs.Inner.Known.{with_tag, break_stands}
use Rattle.break_finder.proofs.Walked.{Fits, walked_is_carried}
use Rattle.break_finder.specs.Kept.{break_at}
use Rattle.break_finder.specs.Inner.Kept.{BreaksById, break_kept_for, said_or_nothing}

for_cond : (b : Bool) (x : Break) (o : Option Break) (p : Option Described) → option_map said_in o ≡ p → option_map said_in (cond b (Some x) o) ≡ cond b (Some x.said) p
for_cond true x o p h = refl
for_cond false x o p h = h

kept_all : (id : List ℕ) (es : BreaksById) → said_of (map break_at es) id ≡ break_kept_for id es
kept_all id [] = refl
kept_all id (e ∷ es) = grind (arith, kept_all id es)

-- what is kept of an ID is what is said of its break
pub said_kept : (id : List ℕ) (es : BreaksById) (breaks : List Break) (found : Option Described) → map break_at es ≡ breaks → found ≡ break_kept_for id es → found ≡ said_of breaks id
said_kept id es breaks found view_is found_is = found_is ∙ sym (kept_all id es) ∙ ap (λ bs. said_of bs id) view_is

-- what is inserted is what the tag adds
pub added : (es : BreaksById) (k : List ℕ) (said : Described) (tag : DateRange) → k ≡ tag.id → said ≡ described_break_and_tag (said_or_nothing (break_kept_for tag.id es)) tag
    → map break_at (insert_entry bytes_eq es k said) ≡ with_tag (map break_at es) tag
added [] k said tag i h = grind arith
added (e ∷ es) k said tag i h = grind (arith, added es k said tag i)

pub filtered : (date_ranges : List DateRange) (carried : Option (List ℕ)) (es : BreaksById)
    → map break_at (filter (λ (e : List ℕ × Described). is_tagged_or_carried date_ranges carried e.0) es) ≡ filter (break_stands date_ranges carried) (map break_at es)
filtered date_ranges carried [] = refl
filtered date_ranges carried (e ∷ es) = grind (arith, filtered date_ranges carried es)

-- a clone has the same breaks
pub cloned : (es fs : BreaksById) → AllZip (λ (p q : List ℕ × Described). (q.0 ≡ p.0) × (q.1 ≡ p.1)) es fs → map break_at fs ≡ map break_at es
cloned [] [] h = refl
cloned [] (f ∷ fs) h = absurd h
cloned (e ∷ es) [] h = absurd h
cloned (e ∷ es) (f ∷ fs) h = grind (arith, cloned es fs h.1)

apart_both : (p : List ℕ → Bool) (k : List ℕ) (ks : List (List ℕ)) → AllByRecursion (λ (j : List ℕ). p j ≡ true) ks → AllByRecursion (λ (j : List ℕ). bytes_eq k j ≡ false) ks
    → AllByRecursion (λ (j : List ℕ). (p j && not (bytes_eq k j)) ≡ true) ks
apart_both p k [] h d = tt
apart_both p k (j ∷ ks) h d = grind (arith, apart_both p k ks h.1 d.1)

-- keys that are distinct give breaks of distinct IDs
pub fits_from : (p : List ℕ → Bool) (es : BreaksById) → AllByRecursion (λ (j : List ℕ). p j ≡ true) (keys_of es) → IsDistinct bytes_eq (keys_of es) → Fits p (map break_at es)
unfolding Fits IsDistinct
fits_from p [] h d = tt
fits_from p (e ∷ es) h d = (h.0, fits_from (λ id. p id && not (bytes_eq e.0 id)) es (apart_both p e.0 (keys_of es) h.1 d.0) d.1)

all_true : (ks : List (List ℕ)) → AllByRecursion (λ (j : List ℕ). true ≡ true) ks
all_true [] = tt
all_true (k ∷ ks) = (refl, all_true ks)

pub fits_kept : (es : BreaksById) → IsDistinct bytes_eq (keys_of es) → Fits (λ id. true) (map break_at es)
fits_kept es d = fits_from (λ id. true) es (all_true (keys_of es)) d

-- the breaks that stand, with the tags added, are those that are carried on
pub carried_on : (r : Accepted) (breaks new : List Break) (tags : List DateRange) (es kept : BreaksById) → map break_at es ≡ breaks → tags ≡ r.playlist.date_ranges
    → map break_at kept ≡ filter (break_stands tags r.carried) (map break_at es) → IsDistinct bytes_eq (keys_of kept)
    → new ≡ fold with_tag (map break_at kept) tags → new ≡ carry r breaks
carried_on r breaks new tags es kept view_is tags_are stands distinct new_is = grind (arith, walked_is_carried, Fits, fits_kept)
