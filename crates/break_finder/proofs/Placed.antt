-- The places of breaks in the list of those that can be entered.
use Rattle.std.proofs.Common.{◌≡◌, ◌∙◌, ◌+◌, ◌&&◌, ℕ, ℤ, Bool, true, false, cond, List, [], ◌∷◌, ◌++◌, map, length, zero, suc, refl, ap, sym, subst, arith, ◌==◌}
use Rattle.std.specs.Prelude.{Option, Some, None, Result, Ok, Err, IfOk, bytes_eq, slice_get, option_map}
use Rattle.std.specs.Option.{option_or}
use Rattle.std.specs.List.{AllByRecursion, IsDistinct}
use Rattle.std.proofs.lemmas.List.{append_assoc, append-nil, length-append}
use Rattle.std.proofs.lemmas.Bool.Decides.{nat_tests}
use Rattle.std.proofs.lemmas.Slice.Eq.{bytes_eq-Decides}
use Rattle.std.specs.Map.{keys_of}
use Rattle.pod_store.specs.Pods.{Pod, pod_fits, total}
use Rattle.pod_store.specs.Store.{Store, pod_for}
use Rattle.break_finder.specs.Breaks.{Break, break_end_of}
use Rattle.break_finder.specs.Signals.{is_break_leaving_signal}
use Rattle.break_finder.specs.Kept.{break_at}
use Rattle.break_finder.specs.Inner.Kept.{BreaksById}
use Rattle.break_finder.specs.Known.{is_this_break}
use Rattle.break_finder.specs.Entrances.{Entrance, and_later, break_entrance_of, entrance_id, entrance_with, entrances_in}
use Rattle.break_finder.specs.declared.spans.EnteredBreak.{EnteredBreak}
use Rattle.break_finder.specs.Places.{AreApart, IsAt, IsPlaced, IsPlacedAt, entered_id, entered_place}
use Rattle.break_finder.specs.Inner.Entrances.{StandAt}

some_is : {A : Type 0} {a b : A} → ◌≡◌ {A = Option A} (Some a) (Some b) → a ≡ b
some_is h = cc h

-- ---- two places, two IDs

none_later : (id : List ℕ) (found : List Entrance) (place : ℕ) (e : Entrance) → AllByRecursion (λ (j : List ℕ). bytes_eq id j ≡ false) (map entrance_id found) → slice_get found place ≡ Some e → bytes_eq id e.id ≡ false
none_later id [] place e all f = absurd (cc f)
none_later id (x ∷ found) zero e all f = ap (λ (y : Entrance). bytes_eq id y.id) (sym (some_is f)) ∙ all.0
none_later id (x ∷ found) (suc place) e all f = none_later id found place e all.1 f

same_back : (a b : List ℕ) → bytes_eq a b ≡ false → bytes_eq b a ≡ false
same_back a b h = grind (arith, bytes_eq-Decides)

apart_places : (q : ℕ) → (0 == suc q) ≡ false
apart_places q = grind (arith, nat_tests)

same_places : (p q : ℕ) → (suc p == suc q) ≡ (p == q)
same_places p q = grind (arith, nat_tests)

places_apart : (p : ℕ) → (suc p == 0) ≡ false
places_apart p = grind (arith, nat_tests)

pub same_bytes : (a b : List ℕ) → bytes_eq a b ≡ true → a ≡ b
same_bytes a b h = grind (arith, bytes_eq-Decides)

-- the places differ just if the IDs do
told_by_place : (found : List Entrance) (p q : ℕ) (a b : Entrance) → AreApart found → slice_get found p ≡ Some a → slice_get found q ≡ Some b → (p == q) ≡ bytes_eq a.id b.id
unfolding IsDistinct
told_by_place [] p q a b apart f g = absurd (cc f)
told_by_place (x ∷ found) zero zero a b apart f g = grind (arith, bytes_eq-Decides)
told_by_place (x ∷ found) zero (suc q) a b apart f g =
    apart_places q ∙ sym (ap (λ (y : Entrance). bytes_eq y.id b.id) (sym (some_is f)) ∙ none_later x.id found q b apart.0 g)
told_by_place (x ∷ found) (suc p) zero a b apart f g =
    places_apart p ∙ sym (ap (λ (y : Entrance). bytes_eq a.id y.id) (sym (some_is g)) ∙ same_back x.id a.id (none_later x.id found p a apart.0 f))
told_by_place (x ∷ found) (suc p) (suc q) a b apart f g = same_places p q ∙ told_by_place found p q a b apart.1 f g

is_last_by_place : (found : List Entrance) (place last_place : ℕ) (id : List ℕ) (last : Option (List ℕ)) → AreApart found → IsAt found place (Some id) → IsAt found last_place last
    → (place == last_place) ≡ is_this_break id last
is_last_by_place found place last_place id last apart (a, f, is) (b, g, last_is) =
    told_by_place found place last_place a b apart f g
    ∙ (ap (λ x. bytes_eq x b.id) (sym (some_is is)) ∙ ap (is_this_break id) (sym last_is))

pub is_last_if_placed : (found : List Entrance) (p q : Option ℕ) (place last_place : ℕ) (id : List ℕ) (last : Option (List ℕ)) → AreApart found → p ≡ Some place → q ≡ Some last_place
    → IsPlacedAt found p (Some id) → IsPlacedAt found q last → (place == last_place) ≡ is_this_break id last
is_last_if_placed found p q place last_place id last apart is_p is_q here there =
    is_last_by_place found place last_place id last apart (subst (λ (o : Option ℕ). IsPlacedAt found o (Some id)) is_p here) (subst (λ (o : Option ℕ). IsPlacedAt found o last) is_q there)

-- ---- breaks that are entered

pub placed_in : (found : List Entrance) (e : Option EnteredBreak) → IsPlacedAt found (entered_place e) (option_map entered_id e) → IsPlaced found e
placed_in found None h = tt
placed_in found (Some e) h = h

pub placed_out : (found : List Entrance) (e : Option EnteredBreak) → IsPlaced found e → IsPlacedAt found (entered_place e) (option_map entered_id e)
placed_out found None h = tt
placed_out found (Some e) h = h

pub placed_or : (found : List Entrance) (a b : Option EnteredBreak) → IsPlaced found a → IsPlaced found b → IsPlaced found (option_or a b)
placed_or found None b h k = k
placed_or found (Some e) b h k = h

-- ---- halves of a list

pub if_ok : {A E : Type 0} {P Q : A → Type 0} (r : Result A E) → IfOk r P → ((x : A) → P x → Q x) → IfOk r Q
if_ok (Ok x) p f = f x p
if_ok (Err e) p f = p

pub front_stands : (found list before after : List Entrance) (place : ℕ) → list ≡ before ++ after → StandAt found place list → StandAt found place before
front_stands found list before after place is (front, back, these, at) =
    (front, after ++ back, these ∙ ap (λ l. front ++ (l ++ back)) is ∙ ap (λ l. front ++ l) (append_assoc before after back), at)

pub back_stands : (found list before after : List Entrance) (place : ℕ) → list ≡ before ++ after → StandAt found place list → StandAt found (place + length before) after
back_stands found list before after place is (front, back, these, at) =
    (front ++ before, back, these ∙ ap (λ l. front ++ (l ++ back)) is ∙ ap (λ l. front ++ l) (append_assoc before after back) ∙ sym (append_assoc front before (after ++ back)), length-append front before ∙ ap (λ n. n + length before) at)

pub whole_stands : (list : List Entrance) → StandAt list 0 list
whole_stands list = ([], [], sym (append-nil list), refl)

-- ---- the breaks that can be entered are apart, as the known ones are

-- the entrance of a break has its ID
id_of_entrance : (target : ℕ) (with_init_sections : Bool) (b : Break) (pod : Option Pod) (e : Entrance) → break_entrance_of target with_init_sections b pod ≡ Some e → e.id ≡ b.id
id_of_entrance target with_init_sections b pod e is = at_start b.said.start pod is
  where
    at_pod : (start : ℤ) (pod : Pod) (can : Bool) → cond can (Some (record { id = b.id; start = start; end = break_end_of b.said (total pod) })) None ≡ Some e → e.id ≡ b.id
    at_pod start pod true h = cc h
    at_pod start pod false h = absurd (cc h)

    at_start : (start : Option ℤ) (pod : Option Pod) → entrance_with target with_init_sections b start pod ≡ Some e → e.id ≡ b.id
    at_start None pod h = absurd (cc h)
    at_start (Some start) None h = absurd (cc h)
    at_start (Some start) (Some pod) h = at_pod start pod (is_break_leaving_signal b.said.scte35_out && pod_fits target with_init_sections pod) h

ids_among : (target : ℕ) (with_init_sections : Bool) (store : Store) (id : List ℕ) (es : BreaksById) → AllByRecursion (λ (j : List ℕ). bytes_eq id j ≡ false) (keys_of es)
    → AllByRecursion (λ (j : List ℕ). bytes_eq id j ≡ false) (map entrance_id (entrances_in target with_init_sections store (map break_at es)))
ids_among target with_init_sections store id [] h = tt
ids_among target with_init_sections store id (x ∷ es) h =
    and_one (break_entrance_of target with_init_sections (break_at x) (pod_for store x.0)) (id_of_entrance target with_init_sections (break_at x) (pod_for store x.0)) (ids_among target with_init_sections store id es h.1)
  where
    and_one : (o : Option Entrance) → ((e : Entrance) → o ≡ Some e → e.id ≡ x.0) → AllByRecursion (λ (j : List ℕ). bytes_eq id j ≡ false) (map entrance_id (entrances_in target with_init_sections store (map break_at es)))
        → AllByRecursion (λ (j : List ℕ). bytes_eq id j ≡ false) (map entrance_id (and_later o (entrances_in target with_init_sections store (map break_at es))))
    and_one None is all = all
    and_one (Some e) is all = (ap (bytes_eq id) (is e refl) ∙ h.0, all)

apart_in : (target : ℕ) (with_init_sections : Bool) (store : Store) (es : BreaksById) → IsDistinct bytes_eq (keys_of es) → AreApart (entrances_in target with_init_sections store (map break_at es))
unfolding IsDistinct
apart_in target with_init_sections store [] h = tt
apart_in target with_init_sections store (x ∷ es) h =
    put_on (break_entrance_of target with_init_sections (break_at x) (pod_for store x.0)) (id_of_entrance target with_init_sections (break_at x) (pod_for store x.0)) (ids_among target with_init_sections store x.0 es h.0) (apart_in target with_init_sections store es h.1)
  where
    later : List Entrance
    later = entrances_in target with_init_sections store (map break_at es)

    put_on : (o : Option Entrance) → ((e : Entrance) → o ≡ Some e → e.id ≡ x.0) → AllByRecursion (λ (j : List ℕ). bytes_eq x.0 j ≡ false) (map entrance_id later) → AreApart later → AreApart (and_later o later)
    put_on None is all apart = apart
    put_on (Some e) is all apart = (subst (λ id. AllByRecursion (λ (j : List ℕ). bytes_eq id j ≡ false) (map entrance_id later)) (sym (is e refl)) all, apart)

pub are_apart : (target : ℕ) (with_init_sections : Bool) (store : Store) (es : BreaksById) (found : List Entrance) → IsDistinct bytes_eq (keys_of es) → found ≡ entrances_in target with_init_sections store (map break_at es) → AreApart found
are_apart target with_init_sections store es found h is = subst AreApart (sym is) (apart_in target with_init_sections store es h)
