-- An outcome is a value, or the first fault that was met.
use Rattle.std.specs.Prelude.{◌≡◌, ◌≢◌, Bool, true, false, List, [], ◌∷◌, ◌++◌, Option, Some, None, Result, Ok, Err, MatchResult}

-- ---- steps

-- what follows a value; a fault ends it
infixl 10 ◌>>=◌
abbrev pub ◌>>=◌ : {A B F : Type 0} → Result A F → (A → Result B F) → Result B F
(Ok x) >>= f = f x
(Err e) >>= f = Err e

-- the value, or this fault if there is none
abbrev pub or_fault : {A F : Type 0} → F → Option A → Result A F
or_fault e None = Err e
or_fault e (Some x) = Ok x

-- the value, or this fault in place of another
abbrev pub mended : {A E F : Type 0} → F → Result A E → Result A F
mended e (Ok x) = Ok x
mended e (Err d) = Err e

-- this fault if the test holds, else what follows
abbrev pub refuse_if : {A F : Type 0} → Bool → F → Result A F → Result A F
refuse_if true e outcome = Err e
refuse_if false e outcome = outcome

abbrev pub some_value : {A F : Type 0} → Result A F → Result (Option A) F
some_value (Ok x) = Ok (Some x)
some_value (Err e) = Err e

-- nothing of nothing
abbrev pub optional : {A B F : Type 0} → (A → Result B F) → Option A → Result (Option B) F
optional read None = Ok None
optional read (Some x) = some_value (read x)

-- each in turn, after those before it
abbrev pub each_after : {A B F : Type 0} → (List B → A → Result B F) → List B → List A → Result (List B) F
each_after next done [] = Ok done
each_after next done (x ∷ later) = next done x >>= λ y. each_after next (done ++ y ∷ []) later

-- ---- what a call answers

-- the fault is the outcome's, unless it is `memory`: a failed allocation says nothing of the rest
abbrev pub Refuses : {A F : Type 0} → F → F → Result A F → Type 0
Refuses memory e outcome = e ≢ memory → outcome ≡ Err e

-- the value means what is owed, or the fault is the one owed, a failed allocation apart
abbrev pub Gives : {A B F : Type 0} → F → (A → B) → Result A F → Result B F → Type 0
Gives memory means result outcome = MatchResult result (λ x. outcome ≡ Ok (means x)) (λ e. Refuses memory e outcome)

-- the same of a call that takes no memory
abbrev pub GivesExactly : {A B F : Type 0} → (A → B) → Result A F → Result B F → Type 0
GivesExactly means result outcome = MatchResult result (λ x. outcome ≡ Ok (means x)) (λ e. outcome ≡ Err e)

-- the outcome's fault is answered whatever memory there is
abbrev pub Tells : {A B F : Type 0} → Result A F → Result B F → Type 0
Tells {A} {B} {F} result outcome = (e : F) → outcome ≡ Err e → result ≡ Err e
