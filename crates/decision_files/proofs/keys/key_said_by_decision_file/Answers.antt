use Rattle.std.proofs.Common.{rules, ◌≡◌, true, Option, Some, None, Result, Err}
use Rattle.std.specs.Prelude.{is_some}
use Rattle.serde_json.specs.View.{view}
use Rattle.serde_json.specs.Find.{as_object}
use Rattle.spec_words.specs.Outcomes.{or_fault, ◌>>=◌}
use Rattle.decision_files.proofs.keys.key_said_by_decision_file.Goals as goal

-- what follows a value that is there has the fault of both
after_some : {A B F : Type 0} (o : Option A) (lacking e : F) (next : Result B F) → is_some o ≡ true → (or_fault lacking o >>= λ x. next) ≡ Err e → next ≡ Err e
after_some (Some x) lacking e next there is = is
after_some None lacking e next there is = absurd (cc there)

pub returns-clause-told : goal.returns-clause-told
returns-clause-told c = λ e is.
    let there : is_some (as_object (view c.args.value.now)) ≡ true = search rules in
    c.key_members_in_decision_file.ensures.told e (after_some (as_object (view c.args.value.now)) _ e _ there is)
