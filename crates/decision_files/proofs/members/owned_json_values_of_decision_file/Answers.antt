use Rattle.std.proofs.Common.{Some, sym, ap, ◌∙◌}
use Rattle.serde_json.specs.Data.{Data}
use Rattle.serde_json.specs.View.{view}
use Rattle.serde_json.specs.declared.value.Value.{Value}
use Rattle.serde_json.proofs.Views.{view-Array}
use Rattle.decision_files.specs.Json.{json_values_in_decision_file}
use Rattle.decision_files.proofs.Lists.{list_of_items}
use Rattle.decision_files.proofs.members.owned_json_values_of_decision_file.Goals as goal

pub returns-in-Array : goal.returns-in-Array
returns-in-Array c =
    ap Some (sym (list_of_items c.in-Array.list.items))
    ∙ (ap (λ (d : Data). json_values_in_decision_file d) (sym (view-Array c.in-Array.list)) ∙ ap (λ (value : Value). json_values_in_decision_file (view value)) (sym c.in-Array.is))
