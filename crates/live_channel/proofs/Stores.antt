-- Decisions leave the marks that are kept as they are.
use Rattle.std.proofs.Common.{◌≡◌, ℕ, List, [], ◌∷◌, map, reverse, refl, sym, subst, arith}
use Rattle.std.specs.Prelude.{Option, Some, None, IsSome}
use Rattle.std.specs.List.{AllByRecursion}
use mathlib.Core.List.{reverse_aux}
use Rattle.pod_store.specs.Pods.{Pod}
use Rattle.pod_store.specs.Marks.{Mark, Marked, mark_with, mark_in}
use Rattle.pod_store.specs.Store.{Store, pod_for}
use Rattle.stitcher.specs.declared.marked.MarkedSegment.{MarkedSegment as Held}
use Rattle.stitcher.specs.declared.ends.Rest.{Rest}
use Rattle.stitcher.specs.StitchedSegments.{meant, rest_in, IsDecided, AreDecided}
use Rattle.channel_window.specs.Listed.{IsRestDecided}
use Rattle.channel_spec.specs.Kept.{Kept}
use Rattle.channel_spec.specs.LiveLaws.{HasPod, rest_mark}
use Rattle.channel_spec.proofs.KeptPods.{kept_have_pods}
use Rattle.live_channel.specs.Channel.{Channel, Given, Represents, events_of}
use Rattle.live_channel.proofs.Steps.{all_given}

pub unturned : {A : Type 0} (P : A → Type 0) (xs acc : List A) → AllByRecursion P (reverse_aux xs acc) → AllByRecursion P xs × AllByRecursion P acc
unturned P [] acc h = (tt, h)
unturned P (x ∷ xs) acc h = let k = unturned P xs (x ∷ acc) h in ((k.1.0, k.0), k.1.1)

pod_stays : (old new : Store) (id : List ℕ) (p : Option Pod) → ((mark : Option Mark) → HasPod old mark → HasPod new mark) → IsSome p → HasPod old (mark_with id p)
    → (mark_in new (Some id) ≡ mark_with id p) × IsSome (pod_for new id)
pod_stays old new id p keeps d h = grind arith

mark_stays : (old new : Store) (o : Option (List ℕ)) → ((mark : Option Mark) → HasPod old mark → HasPod new mark) → IsDecided old o → HasPod old (mark_in old o)
    → (mark_in new o ≡ mark_in old o) × IsDecided new o
mark_stays old new None keeps d h = (refl, tt)
mark_stays old new (Some id) keeps d h = pod_stays old new id (pod_for old id) keeps d h

-- each mark is as it was
pub record MarksStay (old new : Store) (held : List Held) : Type 0 where
  pub same : map (meant new) held ≡ map (meant old) held
  pub decided : AreDecided new held

-- and the rest
pub record RestStays (old new : Store) (rest : Option Rest) : Type 0 where
  pub same : rest_in new rest ≡ rest_in old rest
  pub decided : IsRestDecided new rest

pub record Stay (old new : Store) (held : List Held) (left : Option Rest) : Type 0 where
  pub marks : MarksStay old new held
  pub rest : RestStays old new left

marks_stay : (old new : Store) (held : List Held) → ((mark : Option Mark) → HasPod old mark → HasPod new mark) → AreDecided old held
    → AllByRecursion (λ (s : Marked). HasPod old s.mark) (map (meant old) held) → MarksStay old new held
marks_stay old new [] keeps d h = record { same = refl; decided = tt }
marks_stay old new (m ∷ later) keeps d h = grind (arith, marks_stay old new later keeps d.1 h.1)

rest_stays : (old new : Store) (rest : Option Rest) → ((mark : Option Mark) → HasPod old mark → HasPod new mark) → IsRestDecided old rest → HasPod old (rest_mark (rest_in old rest)) → RestStays old new rest
rest_stays old new rest keeps d h = grind arith

abbrev KeptPods : Kept → Type 0
KeptPods k = AllByRecursion (λ (x : Marked). HasPod k.store x.mark) k.shown × HasPod k.store (rest_mark k.rest)

kept_pods : (c : Channel) (given : List Given) → Represents c given → KeptPods c.kept
kept_pods c given s = subst KeptPods (sym s.kept) (kept_have_pods c.tolerance (events_of c.base given) (all_given c.base given))

-- whatever keeps the used pods, keeps the marks
pub all_stay : (c : Channel) (given : List Given) (new : Store) (held : List Held) (rest : Option Rest) → Represents c given → c.kept.shown ≡ reverse (map (meant c.kept.store) held) → c.kept.rest ≡ rest_in c.kept.store rest
    → AreDecided c.kept.store held → IsRestDecided c.kept.store rest → ((mark : Option Mark) → HasPod c.kept.store mark → HasPod new mark) → Stay c.kept.store new held rest
all_stay c given new held rest s e f d r keeps =
    let pods = kept_pods c given s in
    record {
      marks =
          marks_stay c.kept.store new held keeps d
          (unturned (λ (x : Marked). HasPod c.kept.store x.mark) (map (meant c.kept.store) held) [] (subst (λ xs. AllByRecursion (λ (x : Marked). HasPod c.kept.store x.mark) xs) e pods.0)).0;
      rest = rest_stays c.kept.store new rest keeps r (subst (λ o. HasPod c.kept.store (rest_mark o)) f pods.1);
    }
