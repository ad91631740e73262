-- A route that no other one is in the way of is refused for a failed allocation alone.
use Rattle.std.proofs.Common.{◌≡◌, refl, ◌∙◌}
use Rattle.std.specs.Prelude.{ℕ, List, None, Result, Ok, Err, IfErr}
use Rattle.std.specs.Result.{IsErrAnd}
use Rattle.matchit.specs.Rows.{RowsOf}
use Rattle.matchit.specs.Router.{RouteOf, Refused, nearest}
use Rattle.matchit.specs.declared.error.InsertError.{InsertError}
use Rattle.matchit.specs.declared.error.InsertError.TheVariants.{Conflict, OutOfMemory, InvalidParamSegment, InvalidParam, InvalidCatchAll}
use Rattle.channel_api.specs.Routes.{IsOutOfMemory}

refused : {T : Type 0} (p : List ℕ) (rows : RowsOf (RouteOf T)) (e : InsertError) → Refused p rows e → nearest p rows ≡ None → IsOutOfMemory e
refused p rows (Conflict with) r none = let is = r.1 in absurd (cc)
refused p rows OutOfMemory r none = refl
refused p rows InvalidParamSegment r none = absurd r
refused p rows InvalidParam r none = absurd r
refused p rows InvalidCatchAll r none = absurd r

pub told : {T A : Type 0} (p : List ℕ) (rows : RowsOf (RouteOf T)) (r : Result A InsertError) (e : InsertError)
    → IsErrAnd r (λ d. d ≡ e) → Refused p rows e → nearest p rows ≡ None → IfErr r IsOutOfMemory
told p rows (Ok a) e h why none = absurd h
told p rows (Err d) e h why none = h ∙ refused p rows e why none
