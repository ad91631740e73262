-- The items of a JSON array as a list.
use Rattle.std.proofs.Common.{◌≡◌, List, [], ◌∷◌, map, refl, ap}
use Rattle.serde_json.specs.View.{view, items_view}
use Rattle.serde_json.specs.declared.value.Value.{Value}
use Rattle.decision_files.specs.Json.{items_as_list}

pub list_of_items : (vs : List Value) → items_as_list (items_view vs) ≡ map view vs
list_of_items [] = refl
list_of_items (v ∷ vs) = ap (λ ds. view v ∷ ds) (list_of_items vs)
