-- A playlist succeeds another exactly if it has no fault.
use Rattle.std.proofs.Common.{◌≡◌, inl, inr, ℕ, ◌+◌, ◌<◌, ◌≤◌, Bool, true, false, ◌&&◌, not, List, [], ◌∷◌, cond, refl, ap, sym, ◌∙◌, subst, arith}
use Rattle.std.proofs.lemmas.Bool.{eq-eqb}
use Rattle.std.specs.Prelude.{Option, Some, None, nat_lt, ◌==◌, find}
use Rattle.std.specs.List.{AllByRecursion}
use Rattle.playlist_model.specs.Segments.{Segment}
use Rattle.playlist_model.specs.declared.Playlist.{Playlist}
use Rattle.playlist_model.specs.declared.PlaylistKind.{PlaylistKind}
use Rattle.playlist_model.specs.declared.PlaylistKind.TheVariants.{Event, Vod}
use Rattle.playlist_model.specs.LookBack.{or_earlier}
use Rattle.playlist_model.specs.Same.{same_segment, kept_parts, kind_eq}
use Rattle.playlist_model.proofs.SameSegments.{same_segment_decides}
use Rattle.channel_spec.specs.declared.fault.RefreshFault.{RefreshFault}
use Rattle.channel_spec.specs.declared.fault.RefreshFault.TheVariants.{VersionChanged, TargetChanged, TypeChanged, MapsChanged, Back, Gap, Shrunk, Changed, Ended}
use Rattle.channel_spec.specs.Sound.{RiseFrom, IsSoundPlaylist}
use Rattle.channel_spec.specs.Successor.{AgreesWith, MayFollow, fault_if, first_number, end_number, first_discontinuity, last_discontinuity, has_init_sections, are_different, difference, first_changed, discontinuity_out_of_range, is_same_window, successor_fault}
use Rattle.channel_spec.specs.LiveLaws.{NoFaultSucceeds}
use Rattle.channel_spec.proofs.Windows.{In, all_from}
use Rattle.channel_spec.proofs.Passed.{passed}

-- ---- members

or_none : {A : Type 0} (a b : Option A) → or_earlier a b ≡ None → (a ≡ None) × (b ≡ None)
or_none None b e = (refl, e)
or_none (Some x) b e = absurd (cc)

none_of : {A : Type 0} (a b : Option A) → a ≡ None → b ≡ None → or_earlier a b ≡ None
none_of None b e h = h
none_of (Some x) b e h = absurd (cc)

pub from_all : {A : Type 0} (P : A → Type 0) (xs : List A) (x : A) → AllByRecursion P xs → In x xs → P x
unfolding In
from_all P [] x a h = absurd h
from_all P (y ∷ ys) x a (inl e) = subst P (sym e) a.0
from_all P (y ∷ ys) x a (inr h) = from_all P ys x a.1 h

-- ---- segments of one number

abbrev has_number : ℕ → Segment → Bool
has_number n t = t.media_sequence == n

at_least : (n : ℕ) (segments : List Segment) (s : Segment) → RiseFrom n segments → In s segments → n ≤ s.media_sequence
unfolding In
at_least n [] s r h = absurd h
at_least n (t ∷ later) s r (inl e) = omega (arith, ap (λ (u : Segment). u.media_sequence) e, r.0)
at_least n (t ∷ later) s r (inr h) = omega (arith, at_least (n + 1) later s r.1 h)

is_not : (a b : ℕ) → a < b → (a == b) ≡ false
is_not a b h = grind arith

found_one : (n : ℕ) (segments : List Segment) (s : Segment) (k : ℕ) → RiseFrom n segments → In s segments → s.media_sequence ≡ k → find (has_number k) segments ≡ Some s
unfolding In
found_one n [] s k r h e = absurd h
found_one n (t ∷ later) s k r (inl same) e =
    let test : (t.media_sequence == k) ≡ true = eq-eqb t.media_sequence k (ap (λ (u : Segment). u.media_sequence) (sym same) ∙ e) in rw test (ap Some (sym same))
found_one n (t ∷ later) s k r (inr h) e =
    let test : (t.media_sequence == k) ≡ false = is_not t.media_sequence k (omega (arith, r.0, at_least (n + 1) later s r.1 h, e)) in rw test (found_one (n + 1) later s k r.1 h e)

record Found (k : ℕ) (segments : List Segment) (s : Segment) : Type 0 where
  inside : In s segments
  media_sequence : s.media_sequence ≡ k

found_step : (t : Segment) (later : List Segment) (k : ℕ) (s : Segment) (b : Bool) → (t.media_sequence == k) ≡ b → cond b (Some t) (find (has_number k) later) ≡ Some s
    → (find (has_number k) later ≡ Some s → Found k later s) → Found k (t ∷ later) s
unfolding In
found_step t later k s b e h rec = grind arith

found_there : (segments : List Segment) (k : ℕ) (s : Segment) → find (has_number k) segments ≡ Some s → Found k segments s
found_there [] k s h = absurd (cc)
found_there (t ∷ later) k s h = found_step t later k s (t.media_sequence == k) refl h (found_there later k s)

-- ---- no segment has changed

no_difference : (old new : List Segment) (t : Segment) → first_changed old new ≡ None → In t new → difference t (find (has_number t.media_sequence) old) ≡ None
unfolding In
no_difference old [] t e h = absurd h
no_difference old (u ∷ later) t e (inl same) = grind arith
no_difference old (u ∷ later) t e (inr h) = grind (arith, no_difference old later t (or_none (difference u (find (has_number u.media_sequence) old)) _ e).1 h)

not_different : (s t : Segment) (b : Bool) → same_segment s t ≡ b → fault_if (not b) (Changed s.media_sequence) ≡ None → same_segment s t ≡ true
not_different s t true e h = e
not_different s t false e h = absurd (cc)

agree : (n : ℕ) (old new : List Segment) → RiseFrom n old → first_changed old new ≡ None → AllByRecursion (AgreesWith new) old
agree n old new r e =
    all_from (AgreesWith new) old (λ s h.
    all_from (λ (t : Segment). s.media_sequence ≡ t.media_sequence → kept_parts s ≡ kept_parts t) new (λ t k same.
    let d : difference t (Some s) ≡ None = subst (λ o. difference t o ≡ None) (found_one n old s t.media_sequence r h same) (no_difference old new t e k) in
    sym ((same_segment_decides t s).0 (not_different t s (same_segment t s) refl d))))

unchanged_one : (old new : List Segment) (t : Segment) → AllByRecursion (AgreesWith new) old → In t new → (o : Option Segment) → find (has_number t.media_sequence) old ≡ o → difference t o ≡ None
unchanged_one old new t a h None e = refl
unchanged_one old new t a h (Some u) e =
    let f = found_there old t.media_sequence u e in
    let all : AgreesWith new u = from_all (AgreesWith new) old u a f.inside in
    let same : kept_parts u ≡ kept_parts t = from_all (λ (t : Segment). u.media_sequence ≡ t.media_sequence → kept_parts u ≡ kept_parts t) new t all h f.media_sequence in
    ap (λ b. fault_if (not b) (Changed t.media_sequence)) ((same_segment_decides t u).1 (sym same))

unchanged : (old all new : List Segment) → AllByRecursion (AgreesWith all) old → ((t : Segment) → In t new → In t all) → first_changed old new ≡ None
unfolding In
unchanged old all [] a within = refl
unchanged old all (t ∷ later) a within =
    none_of _ _ (unchanged_one old all t a (within t (inl refl)) (find (has_number t.media_sequence) old) refl) (unchanged old all later a (λ u h. within u (inr h)))

-- ---- tests

kind_same : (a : Option PlaylistKind) → kind_eq a a ≡ true
kind_same None = refl
kind_same (Some Event) = refl
kind_same (Some Vod) = refl

not_unlike : (a : Bool) → are_different a a ≡ false
not_unlike true = refl
not_unlike false = refl

at_most : (a b : ℕ) → b ≤ a → nat_lt a b ≡ false
at_most a b h = grind arith

no_fault : (b : Bool) (f : RefreshFault) → b ≡ false → fault_if b f ≡ None
no_fault true f e = absurd (cc)
no_fault false f e = refl

turned : (b : Bool) → b ≡ true → not b ≡ false
turned true e = refl
turned false e = absurd (cc)

near : (old new : List Segment) → (first_number new ≡ end_number old → (last_discontinuity old ≤ first_discontinuity new) × (first_discontinuity new ≤ last_discontinuity old + 1000)) → discontinuity_out_of_range old new ≡ false
near old new h = grind arith

both : (a b : Bool) → a ≡ true → b ≡ true → (a && b) ≡ true
both true b e h = h
both false b e h = absurd (cc)

still_ended : (was is same : Bool) → (was ≡ true → (is ≡ true) × (same ≡ true)) → (was && not (is && same)) ≡ false
still_ended true is same h = let k = h refl in turned (is && same) (both is same k.0 k.1)
still_ended false is same h = refl

-- ---- both ways

no_fault_succeeds_to : (old new : Playlist) → IsSoundPlaylist old → successor_fault old new ≡ None → MayFollow new old
no_fault_succeeds_to old new r e = grind (arith, passed, agree, near)

succeeds_no_fault : (old new : Playlist) → MayFollow new old → successor_fault old new ≡ None
succeeds_no_fault old new s =
    none_of _ _ (no_fault _ VersionChanged (turned _ (eq-eqb new.version old.version s.version)))
    (none_of _ _ (no_fault _ TargetChanged (turned _ (eq-eqb new.target_duration old.target_duration s.target_duration)))
    (none_of _ _ (no_fault _ TypeChanged (turned _ (ap (λ k. kind_eq k old.playlist_type) s.playlist_type ∙ kind_same old.playlist_type)))
    (none_of _ _ (no_fault _ MapsChanged (ap (λ b. are_different b (has_init_sections old.segments)) s.with_init_sections ∙ not_unlike (has_init_sections old.segments)))
    (none_of _ _ (no_fault _ Back (at_most (first_number new.segments) (first_number old.segments) s.not_back))
    (none_of _ _ (no_fault _ Gap (at_most (end_number old.segments) (first_number new.segments) s.no_gap))
    (none_of _ _ (no_fault _ Shrunk (at_most (end_number new.segments) (end_number old.segments) s.not_shrunk))
    (none_of _ _ (unchanged old.segments new.segments new.segments s.same (λ t h. h))
    (none_of _ _ (no_fault _ (Changed (first_number new.segments)) (near old.segments new.segments s.apart))
    (no_fault _ Ended (still_ended old.end_list new.end_list (is_same_window old.segments new.segments) (λ e.
    let k = s.end_list e in (k.0, both _ _ (eq-eqb _ _ k.1) (eq-eqb _ _ k.2)))))))))))))

pub no_fault_succeeds : NoFaultSucceeds
no_fault_succeeds old new r n = (no_fault_succeeds_to old new r, succeeds_no_fault old new)
