-- What is read and decided is what the laws of windows ask for.
use Rattle.std.proofs.Common.{◌≡◌, ◌+◌, ◌<◌, Bool, true, false, List, [], ◌∷◌, length, refl, ap, subst, arith}
use Rattle.std.specs.Prelude.{is_some, ◌||◌, not}
use Rattle.std.specs.List.{list_all, list_any, AllByRecursion}
use Rattle.std.proofs.lemmas.Bool.{and_parts, or_parts, eqb-true}
use Rattle.playlist_model.specs.Segments.{Segment}
use Rattle.playlist_model.specs.declared.Playlist.{Playlist}
use Rattle.pod_store.specs.Pods.{Pod}
use Rattle.playlist_model.specs.Reading.{limited, has_init_section}
use Rattle.playlist_model.specs.Numbering.{segment_numbers, follows, all_follow}
use Rattle.read_is_writable.specs.Read.{numbers_read, init_sections_agree, AreRead}
use Rattle.channel_spec.specs.Successor.{first_number, has_init_sections}
use Rattle.channel_spec.specs.Sound.{RiseFrom, IsSoundPlaylist, IsSoundPod, AllPods, IsSoundEvent}
use Rattle.pod_store.specs.declared.Decisions.{Decisions}
use Rattle.channel_spec.specs.Live.{Event, decided, refreshed}
use Rattle.owed_is_denoted.specs.Laws.{KeepsRules, CanBeGiven}
use Rattle.channel_spec.proofs.SoundPods.{kept_is_sound}

pub all_more : {A : Type 0} (P Q : A → Type 0) (xs : List A) → ((x : A) → P x → Q x) → AllByRecursion P xs → AllByRecursion Q xs
all_more P Q [] f h = tt
all_more P Q (x ∷ xs) f h = (f x h.0, all_more P Q xs f h.1)

rise : (s : Segment) (later : List Segment) → all_follow segment_numbers s later ≡ true → RiseFrom (s.media_sequence + 1) later
rise s [] h = tt
rise s (t ∷ later) h =
    let a = and_parts (follows (segment_numbers s) (segment_numbers t)) (all_follow segment_numbers t later) h in
    let n : t.media_sequence ≡ s.media_sequence + 1 = eqb-true t.media_sequence (s.media_sequence + 1) (and_parts _ _ a.0).0 in
    (n, subst (λ k. RiseFrom k later) (ap (λ k. k + 1) n) (rise t later a.1))

numbers_rise : (segments : List Segment) → numbers_read segments ≡ true → (0 < length segments) × RiseFrom (first_number segments) segments
numbers_rise [] h = absurd (cc)
numbers_rise (s ∷ later) h = (omega arith, (refl, rise s later (and_parts _ _ h).1))

all_have : (segments : List Segment) → list_all has_init_section segments ≡ true → AllByRecursion (λ (s : Segment). is_some s.init_section ≡ true) segments
all_have [] h = tt
all_have (s ∷ later) h = let a = and_parts _ _ h in (a.0, all_have later a.1)

none_have : (segments : List Segment) → list_any has_init_section segments ≡ false → AllByRecursion (λ (s : Segment). is_some s.init_section ≡ false) segments
none_have [] h = tt
none_have (s ∷ later) h = let a = or_parts (has_init_section s) (list_any has_init_section later) h in (a.0, none_have later a.1)

as_first : (b : Bool) (segments : List Segment) → AllByRecursion (λ (s : Segment). is_some s.init_section ≡ b) segments → AllByRecursion (λ (s : Segment). is_some s.init_section ≡ has_init_sections segments) segments
as_first b [] h = tt
as_first b (s ∷ later) h = grind (arith, all_more)

init_sections_alike : (segments : List Segment) → init_sections_agree segments ≡ true → AllByRecursion (λ (s : Segment). is_some s.init_section ≡ has_init_sections segments) segments
init_sections_alike segments h = step (list_all has_init_section segments) refl (list_any has_init_section segments) refl h
  where
    step : (a : Bool) → list_all has_init_section segments ≡ a → (b : Bool) → list_any has_init_section segments ≡ b → (a || not b) ≡ true
        → AllByRecursion (λ (s : Segment). is_some s.init_section ≡ has_init_sections segments) segments
    step true e b f h = as_first true segments (all_have segments e)
    step false e true f h = absurd (cc)
    step false e false f h = as_first false segments (none_have segments f)

pub is_read : (p : Playlist) → AreRead limited p → IsSoundPlaylist p
is_read p r =
    let n = numbers_rise p.segments r.numbers in
    record { some = n.0; numbers = n.1; with_init_sections = init_sections_alike p.segments r.init_sections }

pub all_of : (P Q : Pod → Type 0) (ds : Decisions) → ((x : Pod) → P x → Q x) → AllPods P ds → AllPods Q ds
all_of P Q ds f h = grind (arith, all_more)

given : (event : Event) → CanBeGiven event → IsSoundEvent event
given (decided ds) h = all_of KeepsRules IsSoundPod ds (λ d k. kept_is_sound d k) h
given (refreshed p) h = is_read p h.limits

pub all_given : (events : List Event) → AllByRecursion CanBeGiven events → AllByRecursion IsSoundEvent events
all_given [] h = tt
all_given (event ∷ before) h = (given event h.0, all_given before h.1)
