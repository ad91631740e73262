-- Whatever is answered passes a test.
use Rattle.std.proofs.Common.{◌≡◌, Bool, true, false, cond, refl, ap, ◌∙◌, sym}
use Rattle.std.specs.Prelude.{Result, Ok, Err, Option, Some, None}
use Rattle.playlist_model.specs.declared.FaultKind.{FaultKind}
use Rattle.spec_words.specs.Outcomes.{◌>>=◌, or_fault, mended, refuse_if}
use Rattle.playlist_model.specs.Said.{Outcome}

-- each answer passes this test
pub record Gives {A : Type 0} (p : A → Bool) (o : Outcome A) : Type 0 where
  pub passes : (x : A) → o ≡ Ok x → p x ≡ true

pub any : {A : Type 0} → A → Bool
any x = true

module _ {A : Type 0} (p : A → Bool) where
  pub answers : (x : A) → p x ≡ true → Gives p (Ok x)
  answers x h = record { passes = λ y e. (let same : x ≡ y = cc in sym (ap p same) ∙ h) }

  pub fails : (e : FaultKind) → Gives p (Err e)
  fails e = record { passes = λ y e. absurd (no e) }
    where
      no : {e : FaultKind} {y : A} → Err e ≡ Ok y → ⊥
      no h = cc

  -- unless it is refused, the test didn't hold
  pub guarded : (b : Bool) (e : FaultKind) (o : Outcome A) → (b ≡ false → Gives p o) → Gives p (refuse_if b e o)
  guarded true e o g = fails e
  guarded false e o g = g refl

  pub refused : (b : Bool) (e : FaultKind) (o : Outcome A) → Gives p o → Gives p (refuse_if b e o)
  refused b e o g = guarded b e o (λ _. g)

  pub chosen : (b : Bool) (o q : Outcome A) → (b ≡ true → Gives p o) → (b ≡ false → Gives p q) → Gives p (cond b o q)
  chosen true o q f g = f refl
  chosen false o q f g = g refl

  pub found : (e : FaultKind) (o : Option A) → ((x : A) → o ≡ Some x → p x ≡ true) → Gives p (or_fault e o)
  found e None f = fails e
  found e (Some x) f = answers x (f x refl)

  pub told : {E : Type 0} (e : FaultKind) (o : Result A E) → ((x : A) → o ≡ Ok x → p x ≡ true) → Gives p (mended e o)
  told e (Ok x) f = answers x (f x refl)
  told e (Err d) f = fails e

-- what follows an answer may use that it passes its own test
pub bound : {A B : Type 0} (q : A → Bool) (p : B → Bool) (o : Outcome A) (f : A → Outcome B) → Gives q o → ((x : A) → q x ≡ true → Gives p (f x)) → Gives p (o >>= f)
bound q p (Ok x) f g h = h x (g.passes x refl)
bound q p (Err e) f g h = fails p e

pub after : {A B : Type 0} (p : B → Bool) (o : Outcome A) (f : A → Outcome B) → ((x : A) → Gives p (f x)) → Gives p (o >>= f)
after p (Ok x) f h = h x
after p (Err e) f h = fails p e
