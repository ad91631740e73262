-- The router finds each path of a channel's name: at each byte of the front one row goes on, the parameter takes the name, and what
-- follows is one of the texts of the routes.
use Rattle.std.proofs.Common.{◌≡◌, ℕ, zero, suc, ◌+◌, ◌-◌, ◌<◌, List, [], ◌∷◌, ◌++◌, length, take, drop, Bool, true, false, not, cond, ◌&&◌, ◌==◌, refl, sym, ap, ◌∙◌, arith, true≢false, nat_eq, one-add}
use Rattle.std.specs.Prelude.{Some, None, codes, ltb}
use Rattle.std.specs.List.{list_all, before_first, position_or_len}
use Rattle.std.specs.Cmp.Lexicographic.{pointwise}
use Rattle.std.proofs.lemmas.Bool.{ne_eqb, lt-ltb}
use Rattle.std.proofs.lemmas.List.{append-nil, length-append}
use Rattle.std.proofs.Math.Bool.{and-false}
use Rattle.std.proofs.Math.Seq.{drop-append_seam}
use Rattle.matchit.specs.Rows.{RowsOf}
use Rattle.matchit.specs.Router.{RouteOf}
use Rattle.matchit.specs.Seek.{seek, param_step, step, segment, has_slash, cuts}
use Rattle.channel_api.specs.declared.routes.Resource.{Resource}
use Rattle.channel_api.specs.declared.routes.Resource.TheVariants.{Channel, Origin, Decisions, Live, Why}
use Rattle.channel_api.specs.Routes.{is_channel_name_byte, is_channel_name, front, row, found_at, channel_name_in_route, route_of, path_to}

-- ---- a walk over rows

param_step_empty : {K : Type 0} (p : List ℕ) → (param_step {K = K} [] p).1 ≡ []
unfolding param_step
param_step_empty {K = K} p = grind arith

-- without rows nothing is found
seek_empty : {K : Type 0} (k : ℕ) (p : List ℕ) → seek {K = K} k [] p ≡ None
unfolding seek
seek_empty k [] = refl
seek_empty (suc k) (b ∷ p) = seek_empty k p
seek_empty {K = K} zero (b ∷ p) = simp (seek_empty {K = K} 0 p, param_step_empty {K = K} (b ∷ p), seek_empty {K = K} (((param_step {K = K} [] (b ∷ p)).0) - 1) p)

-- what a byte leads to is found
goes_on : {K : Type 0} (b : ℕ) (rows : RowsOf K) (p : List ℕ) (r : K) → seek 0 (step b rows) p ≡ Some r → seek 0 rows (b ∷ p) ≡ Some r
unfolding seek
goes_on b rows p r e = rw e refl

-- what is skipped is passed over
seek_skip : {K : Type 0} (rows : RowsOf K) (p q : List ℕ) → seek (length p) rows (p ++ q) ≡ seek 0 rows q
unfolding seek
seek_skip rows [] q = refl
seek_skip rows (b ∷ p) q = seek_skip rows p q

-- ---- the rows behind the front, and behind a name

abbrev in_name : RowsOf (RouteOf Resource)
in_name =
    (256 ∷ codes "/decisions", (row (codes "/decisions") Decisions).1) ∷ (256 ∷ codes "/live.m3u8", (row (codes "/live.m3u8") Live).1)
    ∷ (256 ∷ codes "/origin", (row (codes "/origin") Origin).1) ∷ (256 ∷ codes "/why", (row (codes "/why") Why).1) ∷ (256 ∷ [], (row [] Channel).1) ∷ []

abbrev after_slash : RowsOf (RouteOf Resource)
after_slash =
    (codes "/decisions", (row (codes "/decisions") Decisions).1) ∷ (codes "/live.m3u8", (row (codes "/live.m3u8") Live).1)
    ∷ (codes "/origin", (row (codes "/origin") Origin).1) ∷ (codes "/why", (row (codes "/why") Why).1) ∷ []

abbrev after_name : RowsOf (RouteOf Resource)
after_name = after_slash ++ ([], (row [] Channel).1) ∷ []

-- what is found behind the front is found for the path
behind_front : (p : List ℕ) (r : RouteOf Resource) → seek 0 in_name p ≡ Some r → found_at (front ++ p) ≡ Some r
behind_front p r e =
    goes_on 47 _ _ r (goes_on 99 _ _ r (goes_on 104 _ _ r (goes_on 97 _ _ r (goes_on 110 _ _ r (goes_on 110 _ _ r (goes_on 101 _ _ r (goes_on 108 _ _ r (goes_on 115 _ _ r (goes_on 47 _ _ r e)))))))))

-- a byte that is no token of a parameter leads into the name
into_name : (b : ℕ) (p : List ℕ) (n : ℕ) (rows : RowsOf (RouteOf Resource)) (r : RouteOf Resource) → (256 == b) ≡ false
    → param_step after_name (b ∷ p) ≡ (n, rows) → seek (n - 1) rows p ≡ Some r → seek 0 in_name (b ∷ p) ≡ Some r
unfolding seek
into_name b p n rows r other taken e = simp (other, seek_empty {K = RouteOf Resource} 0 p, taken, e)

-- ---- names

not_token : (b : ℕ) → is_channel_name_byte b ≡ true → (256 == b) ≡ false
not_token b h = ne_eqb 256 b (λ e. true≢false (sym h ∙ ap is_channel_name_byte (sym e)))

not_slash : (b : ℕ) → is_channel_name_byte b ≡ true → (b == 47) ≡ false
not_slash b h = ne_eqb b 47 (λ e. true≢false (sym h ∙ ap is_channel_name_byte e))

slash_differs : (b : ℕ) → is_channel_name_byte b ≡ true → nat_eq 47 b ≡ false
slash_differs b h = ne_eqb 47 b (λ e. true≢false (sym h ∙ ap is_channel_name_byte (sym e)))

both : (a b : Bool) → (a && b) ≡ true → (a ≡ true) × (b ≡ true)
both true b h = (refl, h)
both false b h = absurd (true≢false (sym h))

abbrev AreNameBytes : List ℕ → Type 0
AreNameBytes name = list_all is_channel_name_byte name ≡ true

of_first : (b : ℕ) (name : List ℕ) → AreNameBytes (b ∷ name) → is_channel_name_byte b ≡ true
of_first b name h = (both (is_channel_name_byte b) (list_all is_channel_name_byte name) h).0

of_others : (b : ℕ) (name : List ℕ) → AreNameBytes (b ∷ name) → AreNameBytes name
of_others b name h = (both (is_channel_name_byte b) (list_all is_channel_name_byte name) h).1

segment_alone : (name : List ℕ) → AreNameBytes name → segment name ≡ name
segment_alone [] h = refl
segment_alone (b ∷ name) h = rw (not_slash b (of_first b name h), segment_alone name (of_others b name h)) refl

segment_before : (name t : List ℕ) → AreNameBytes name → segment (name ++ 47 ∷ t) ≡ name ++ 47 ∷ []
segment_before [] t h = refl
segment_before (b ∷ name) t h = rw (not_slash b (of_first b name h), segment_before name t (of_others b name h)) refl

no_slash : (name : List ℕ) → AreNameBytes name → has_slash name ≡ false
no_slash [] h = refl
no_slash (b ∷ name) h = rw (not_slash b (of_first b name h)) (no_slash name (of_others b name h))

no_end : (k : ℕ) (name : List ℕ) → AreNameBytes name → pointwise nat_eq (47 ∷ []) (drop k name) ≡ false
no_end zero [] h = refl
no_end (suc k) [] h = refl
no_end zero (b ∷ name) h = rw (slash_differs b (of_first b name h)) refl
no_end (suc k) (b ∷ name) h = no_end k name (of_others b name h)

not_cut : (name : List ℕ) → AreNameBytes name → cuts name (47 ∷ []) ≡ false
not_cut name h = rw (no_end (length name - 1) name h) (and-false _)

is_cut : (b : ℕ) (name : List ℕ) → cuts ((b ∷ name) ++ 47 ∷ []) (47 ∷ []) ≡ true
is_cut b name =
    let n : length ((b ∷ name) ++ 47 ∷ []) - 1 ≡ length (b ∷ name) = omega (arith, length-append (b ∷ name) (47 ∷ [])) in
    let long : 1 < length ((b ∷ name) ++ 47 ∷ []) = omega (arith, length-append (b ∷ name) (47 ∷ [])) in
    let last : drop (length ((b ∷ name) ++ 47 ∷ []) - 1) ((b ∷ name) ++ 47 ∷ []) ≡ 47 ∷ [] =
    ap (λ k. drop k ((b ∷ name) ++ 47 ∷ [])) n ∙ drop-append_seam (b ∷ name) (47 ∷ []) in
    ap (λ x. ltb 1 (length ((b ∷ name) ++ 47 ∷ [])) && pointwise nat_eq (47 ∷ []) x) last ∙ ap (λ v. v && true) (lt-ltb 1 _ long)

-- what the parameter takes
takes_all : (name : List ℕ) → AreNameBytes name → param_step after_name name ≡ (length name, after_name)
unfolding param_step
takes_all name h = simp (segment_alone name h, not_cut name h, no_slash name h)

takes_front : (b : ℕ) (name t : List ℕ) → AreNameBytes (b ∷ name)
    → param_step after_name ((b ∷ name) ++ 47 ∷ t) ≡ (length ((b ∷ name) ++ 47 ∷ []) - 1, after_slash)
unfolding param_step
takes_front b name t h = simp (segment_before (b ∷ name) t h, is_cut b name)

-- ---- what is found

found_alone : (b : ℕ) (name : List ℕ) → AreNameBytes (b ∷ name) → found_at (front ++ b ∷ name) ≡ Some ((row [] Channel).1)
unfolding seek
found_alone b name h = behind_front (b ∷ name) _ (into_name b name _ after_name _ (not_token b (of_first b name h)) (takes_all (b ∷ name) h) at_end)
  where
    at_end : seek (length (b ∷ name) - 1) after_name name ≡ Some ((row [] Channel).1)
    at_end = ap (λ k. seek k after_name name) (omega arith) ∙ ap (λ p. seek (length name) after_name p) (sym (append-nil name)) ∙ seek_skip after_name name []

found_behind : (b : ℕ) (name t : List ℕ) (r : RouteOf Resource) → AreNameBytes (b ∷ name) → seek 0 after_slash (47 ∷ t) ≡ Some r
    → found_at (front ++ ((b ∷ name) ++ 47 ∷ t)) ≡ Some r
found_behind b name t r h e =
    behind_front _ r (into_name b (name ++ 47 ∷ t) _ after_slash r (not_token b (of_first b name h)) (takes_front b name t h) there)
  where
    skipped : length ((b ∷ name) ++ 47 ∷ []) - 1 - 1 ≡ length name
    skipped = omega (arith, length-append (b ∷ name) (47 ∷ []))

    there : seek (length ((b ∷ name) ++ 47 ∷ []) - 1 - 1) after_slash (name ++ 47 ∷ t) ≡ Some r
    there = ap (λ k. seek k after_slash (name ++ 47 ∷ t)) skipped ∙ seek_skip after_slash name (47 ∷ t) ∙ e

-- ---- the name in a path

before_slash : (name t : List ℕ) → AreNameBytes name → before_first (λ b. b == 47) (name ++ 47 ∷ t) ≡ name
before_slash [] t h = refl
before_slash (b ∷ name) t h =
    let l = name ++ 47 ∷ t in
    let n = position_or_len (λ c. c == 47) l in
    ap (λ v. take (cond (not v) (1 + n) 0) (b ∷ l)) (not_slash b (of_first b name h)) ∙ ap (λ m. take m (b ∷ l)) (one-add n)
    ∙ ap (λ x. b ∷ x) (before_slash name t (of_others b name h))

before_end : (name : List ℕ) → AreNameBytes name → before_first (λ b. b == 47) name ≡ name
before_end [] h = refl
before_end (b ∷ name) h =
    let n = position_or_len (λ c. c == 47) name in
    ap (λ v. take (cond (not v) (1 + n) 0) (b ∷ name)) (not_slash b (of_first b name h)) ∙ ap (λ m. take m (b ∷ name)) (one-add n)
    ∙ ap (λ x. b ∷ x) (before_end name (of_others b name h))

with_name : (name p : List ℕ) (r : RouteOf Resource) → is_channel_name name ≡ true → channel_name_in_route p ≡ name → found_at p ≡ Some r → route_of p ≡ Some (name, r.value)
with_name name p r h n e = grind arith

behind : (b : ℕ) (name t : List ℕ) (r : RouteOf Resource) → is_channel_name (b ∷ name) ≡ true → AreNameBytes (b ∷ name) → seek 0 after_slash (47 ∷ t) ≡ Some r
    → route_of (front ++ ((b ∷ name) ++ 47 ∷ t)) ≡ Some (b ∷ name, r.value)
behind b name t r h bytes e = with_name (b ∷ name) (front ++ ((b ∷ name) ++ 47 ∷ t)) r h (before_slash (b ∷ name) t bytes) (found_behind b name t r bytes e)

-- each name has its routes
pub each : (name : List ℕ) (resource : Resource) → is_channel_name name ≡ true → route_of (path_to name resource) ≡ Some (name, resource)
unfolding seek param_step
each [] resource h = absurd (true≢false (sym h))
each (b ∷ name) Channel h =
    let bytes : AreNameBytes (b ∷ name) = (both _ _ h).1 in
    with_name (b ∷ name) (front ++ b ∷ name) _ h (before_end (b ∷ name) bytes) (found_alone b name bytes)
each (b ∷ name) Origin h = behind b name (codes "origin") _ h ((both _ _ h).1) refl
each (b ∷ name) Decisions h = behind b name (codes "decisions") _ h ((both _ _ h).1) refl
each (b ∷ name) Live h = behind b name (codes "live.m3u8") _ h ((both _ _ h).1) refl
each (b ∷ name) Why h = behind b name (codes "why") _ h ((both _ _ h).1) refl

-- and what has no name has none
pub other : (path : List ℕ) → is_channel_name (channel_name_in_route path) ≡ false → route_of path ≡ None
other path h = grind arith
