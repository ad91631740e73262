use Rattle.std.proofs.Common.{◌≡◌, Bool, List, [], ◌∷◌, map, refl, ap, ◌∙◌, arith}
use Rattle.std.specs.Prelude.{option_map, find}
use Rattle.attr_list.specs.declared.attr.Attr.{Attr}
use Rattle.attr_list.specs.Attributes.{Pair, is_named}
use Rattle.attr_list.specs.Attrs.{attr_pair}
use Rattle.attr_list.proofs.list.AttrList.get.Goals as goal

find-map : (p : Pair → Bool) (attrs : List Attr) → option_map attr_pair (find (λ attr. p (attr_pair attr)) attrs) ≡ find p (map attr_pair attrs)
find-map p [] = refl
find-map p (attr ∷ attrs) = grind (arith, find-map p attrs)

pub returns-clause-pair : goal.returns-clause-pair
returns-clause-pair c =
    let found = rw (c.deref.ensures.value, c.self.view_is) at c.find_named_attribute.ensures in
    ap (option_map attr_pair) found ∙ find-map (is_named c.args.name.now) c.args.self.now
