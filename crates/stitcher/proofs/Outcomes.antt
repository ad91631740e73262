-- From what a call answered to what its caller answers.
use Rattle.std.proofs.Common.{◌≡◌}
use Rattle.std.specs.Prelude.{Result, Ok, Err, OnOk, IfOk, IfErr}
use Rattle.std.specs.Result.{IsErrAnd}
use Rattle.stitcher.specs.declared.fault.StitchFault.{StitchFault}
use Rattle.stitcher.specs.declared.fault.StitchFault.TheVariants.{NumberRange, OutOfMemory}
use Rattle.stitcher.specs.StitchedSegments.{RefusesNumber}

pub on_ok : {A E : Type 0} {P Q : Type 0} (r : Result A E) → OnOk r P → (P → Q) → OnOk r Q
on_ok (Ok x) p f = f p
on_ok (Err e) p f = p

pub if_ok : {A E : Type 0} {P Q : A → Type 0} (r : Result A E) → IfOk r P → ((x : A) → P x → Q x) → IfOk r Q
if_ok (Ok x) p f = f x p
if_ok (Err e) p f = p

pub number_refused : (e : StitchFault) {P : Type 0} → e ≡ NumberRange → P → RefusesNumber e P
number_refused NumberRange h p = p
number_refused OutOfMemory h p = tt

pub refuses_more : (e : StitchFault) {P Q : Type 0} → RefusesNumber e P → (P → Q) → RefusesNumber e Q
refuses_more NumberRange p f = f p
refuses_more OutOfMemory p f = p

-- a fault is handed on
pub handed_on : {A : Type 0} (r : Result A StitchFault) (e : StitchFault) {P Q : Type 0} → IsErrAnd r (λ d. d ≡ e) → RefusesNumber e P → (P → Q) → IfErr r (λ d. RefusesNumber d Q)
handed_on (Ok x) e h p f = absurd h
handed_on (Err d) e h p f = rw h (refuses_more e p f)
