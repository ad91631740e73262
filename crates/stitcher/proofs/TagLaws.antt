-- The key tags lead from keys to keys.
use Rattle.std.proofs.Common.{◌≡◌, Bool, true, false, not, cond, List, [], ◌∷◌, map, refl, ap, sym, ◌∙◌, subst, inl, inr, arith}
use Rattle.std.specs.Prelude.{filter, bytes_eq, ◌⊎◌}
use Rattle.std.specs.List.{list_any, list_all}
use Rattle.std.proofs.lemmas.Bool.{and_parts, and_from, or_cases}
use Rattle.std.proofs.lemmas.Slice.Eq.{bytes_eq-Decides}
use Rattle.attr_list.proofs.Elements.{all_from, none_from}
use Rattle.playlist_model.specs.declared.Key.{Key}
use Rattle.playlist_model.specs.LookBack.{put_key, insert_key, is_before, are_sorted}
use Rattle.playlist_model.proofs.ListTests.{all_with, all_filter, filter_like, filter_all}
use Rattle.playlist_model.proofs.KeyOrder.{not_back, differ_back, differ, like, like_after, chained}
use Rattle.playlist_model.specs.declared.KeyTag.TheVariants.{End, Set}
use Rattle.playlist_model.specs.Same.{same_key}
use Rattle.stitcher.specs.KeyTags.{has_its_format, is_new_key, keeps_formats, transition, after_tags}
use Rattle.playlist_model.proofs.SameParts.{key_is}

-- ---- the same key

same_format : (j k : Key) → same_key j k ≡ true → bytes_eq j.format k.format ≡ true
same_format j k h = grind arith

other_format : (j k : Key) (b : Bool) → same_key j k ≡ b → bytes_eq j.format k.format ≡ false → b ≡ false
other_format j k true e h = absurd (cc (same_format j k e))
other_format j k false e h = refl

-- ---- keys put

put_past : (x k : Key) (keys : List Key) → is_before x k ≡ true → put_key k (x ∷ keys) ≡ x ∷ put_key k keys
put_past x k keys h = let e = differ_back x k h in let n = not_back x k h in rw (e, n) refl

put_into : (y : Key) (keys : List Key) → list_all (is_before y) keys ≡ true → insert_key y keys ≡ y ∷ keys
put_into y [] h = refl
put_into y (k ∷ keys) h = let e : is_before y k ≡ true = (and_parts _ _ h).0 in rw e refl

keeps : (y k : Key) → is_before y k ≡ true → not (bytes_eq y.format k.format) ≡ true
keeps y k h = ap not (differ y k h)

put_first : (y : Key) (keys : List Key) → list_all (is_before y) keys ≡ true → put_key y keys ≡ y ∷ keys
put_first y keys h = grind (arith, filter_all, keeps, put_into)

put_same : (y x : Key) (keys : List Key) → bytes_eq x.format y.format ≡ true → list_all (is_before x) keys ≡ true → put_key y (x ∷ keys) ≡ y ∷ keys
put_same y x keys e h = grind (arith, bytes_eq-Decides, put_first, all_from, like)

pub put_all : List Key → List Key → List Key
put_all keys [] = keys
put_all keys (k ∷ later) = put_all (put_key k keys) later

put_all_past : (x : Key) (later keys : List Key) → list_all (is_before x) later ≡ true → put_all (x ∷ keys) later ≡ x ∷ put_all keys later
unfolding put_all
put_all_past x [] keys h = refl
put_all_past x (k ∷ later) keys h =
    let a = and_parts _ _ h in ap (λ ks. put_all ks later) (put_past x k keys a.0) ∙ put_all_past x later (put_key k keys) a.1

-- ---- the formats of some among those of others

dropped_step : (k y : Key) (ys : List Key) → bytes_eq k.format y.format ≡ false → has_its_format (y ∷ ys) k ≡ true → has_its_format ys k ≡ true
dropped_step k y ys e h = rw e at h

after_step : (y x k : Key) (ys : List Key) → (bytes_eq x.format k.format ≡ true) ⊎ (has_its_format ys x ≡ true) → is_before y k ≡ true → (has_its_format ys x ≡ true → is_before y x ≡ true) → is_before y x ≡ true
after_step y x k ys (inl e) b ih = like_after y x k e b
after_step y x k ys (inr e) b ih = ih e

-- a key whose format is another's in a list that stands after y stands after y
stands_after : (y x : Key) (ys : List Key) → list_all (is_before y) ys ≡ true → has_its_format ys x ≡ true → is_before y x ≡ true
stands_after y x [] h g = cc
stands_after y x (k ∷ ys) h g = let a = and_parts _ _ h in after_step y x k ys (or_cases _ _ g) a.0 (stands_after y x ys a.1)

-- keys after y have their formats among ys
without_first : (y : Key) (ys keys : List Key) → list_all (is_before y) keys ≡ true → list_all (has_its_format (y ∷ ys)) keys ≡ true → list_all (has_its_format ys) keys ≡ true
without_first y ys keys h g = grind (arith, all_with, dropped_step, differ_back)

-- a key apart from all of them is new
new_among : (y : Key) (keys : List Key) → list_all (is_before y) keys ≡ true → is_new_key keys y ≡ true
new_among y keys h = grind (arith, none_from, other_format, differ)

-- ---- the keys that the tags lead to

Leads : List Key → List Key → Type 0
Leads old new = put_all old (filter (is_new_key old) new) ≡ new

same_new_step : (k x : Key) (xs : List Key) → is_before x k ≡ true → is_new_key (x ∷ xs) k ≡ is_new_key xs k
same_new_step k x xs h = grind (arith, other_format, differ_back)

-- a new first key
leads_new : (y : Key) (ys old : List Key) → list_all (is_before y) ys ≡ true → list_all (is_before y) old ≡ true → Leads old ys → Leads old (y ∷ ys)
unfolding Leads put_all
leads_new y ys old h g ih = grind (arith, new_among, put_all, put_first, put_all_past, all_filter)

-- a first key of the same format
leads_same : (y x : Key) (ys xs : List Key) → bytes_eq x.format y.format ≡ true → list_all (is_before y) ys ≡ true → list_all (is_before x) xs ≡ true
    → ((j k : Key) → same_key j k ≡ true → j ≡ k) → Leads xs ys → (b : Bool) → same_key y x ≡ b → Leads (x ∷ xs) (y ∷ ys)
unfolding Leads put_all
leads_same y x ys xs e h g same ih true s =
    let one : y ≡ x = same y x s in
    let hx : list_all (is_before x) ys ≡ true = subst (λ k. list_all (is_before k) ys ≡ true) one h in
    let f = filter_like (is_before x) (is_new_key (x ∷ xs)) (is_new_key xs) ys hx (λ k b. same_new_step k x xs b) in
    rw (s, f) (put_all_past x (filter (is_new_key xs) ys) xs (all_filter (is_before x) (is_new_key xs) ys hx) ∙ ap (λ ks. x ∷ ks) ih ∙ ap (λ k. k ∷ ys) (sym one))
leads_same y x ys xs e h g same ih false s =
    let f : bytes_eq y.format x.format ≡ true = (bytes_eq-Decides y.format x.format).1 (sym ((bytes_eq-Decides x.format y.format).0 e)) in
    let hx : list_all (is_before x) ys ≡ true = all_from (is_before y) (is_before x) ys h (λ k b. like x y k f b) in
    let gy : list_all (is_before y) xs ≡ true = all_from (is_before x) (is_before y) xs g (λ k b. like y x k e b) in
    let n : list_any (same_key y) xs ≡ false = none_from (is_before y) (same_key y) xs gy (λ k b. other_format y k _ refl (differ y k b)) in
    let t = filter_like (is_before x) (is_new_key (x ∷ xs)) (is_new_key xs) ys hx (λ k b. same_new_step k x xs b) in
    rw (s, n, t) (ap (λ ks. put_all ks (filter (is_new_key xs) ys)) (put_same y x xs e g)
    ∙ put_all_past y (filter (is_new_key xs) ys) xs (all_filter (is_before y) (is_new_key xs) ys h) ∙ ap (λ ks. y ∷ ks) ih)

-- ---- all

leads_step : (y : Key) (ys old : List Key) → list_all (is_before y) ys ≡ true → are_sorted old ≡ true → list_all (has_its_format (y ∷ ys)) old ≡ true
    → ((keys : List Key) → are_sorted keys ≡ true → list_all (has_its_format ys) keys ≡ true → Leads keys ys) → Leads old (y ∷ ys)
leads_step y ys [] h s f ih = leads_new y ys [] h refl (ih [] refl refl)
leads_step y ys (x ∷ xs) h s f ih = grind (arith, and_parts, Leads, all_from, like, leads_same, key_is, without_first, dropped_step, stands_after, and_from, chained, leads_new)

no_formats : (old : List Key) → list_all (has_its_format []) old ≡ true → Leads old []
unfolding Leads put_all
no_formats [] h = refl
no_formats (x ∷ xs) h = cc

leads : (new old : List Key) → are_sorted new ≡ true → are_sorted old ≡ true → list_all (has_its_format new) old ≡ true → Leads old new
leads [] old h s f = no_formats old f
leads (y ∷ ys) old h s f =
    let a : (list_all (is_before y) ys ≡ true) × (are_sorted ys ≡ true) = and_parts _ _ h in
    leads_step y ys old a.0 s f (λ keys sk fk. leads ys keys a.1 sk fk)

-- all keys put, one after another
all_put : (new : List Key) → are_sorted new ≡ true → put_all [] new ≡ new
unfolding put_all
all_put [] h = refl
all_put (y ∷ ys) h =
    let a : (list_all (is_before y) ys ≡ true) × (are_sorted ys ≡ true) = and_parts _ _ h in
    put_all_past y ys [] a.0 ∙ ap (λ ks. y ∷ ks) (all_put ys a.1)

-- ---- the tags

sets : (keys old : List Key) → after_tags old (map Set keys) ≡ put_all old keys
unfolding put_all
sets [] old = refl
sets (k ∷ keys) old = sets keys (put_key k old)

leads_to : (old new : List Key) → are_sorted old ≡ true → are_sorted new ≡ true
    → (b : Bool) → keeps_formats old new ≡ b → after_tags old (cond b (map Set (filter (is_new_key old) new)) (End ∷ map Set new)) ≡ new
unfolding Leads
leads_to old new so sn true f = sets (filter (is_new_key old) new) old ∙ leads new old sn so f
leads_to old new so sn false f = sets new [] ∙ all_put new sn

-- the tags owed lead from these keys to those
pub transition_leads : (old new : List Key) → are_sorted old ≡ true → are_sorted new ≡ true → after_tags old (transition old new) ≡ new
transition_leads old new so sn = leads_to old new so sn _ refl
