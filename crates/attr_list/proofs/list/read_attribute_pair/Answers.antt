use Rattle.std.proofs.Common.{◌≡◌, ℕ, ◌<◌, false, List, [], ◌∷◌, map, length, refl, sym, ap, ◌∙◌, arith, Some}
use Rattle.std.specs.Prelude.{◌||◌}
use Rattle.std.specs.List.{list_any}
use Rattle.std.proofs.lemmas.Bool.{lt-leb}
use Rattle.std.proofs.lemmas.List.{length-map}
use Rattle.std.proofs.lemmas.Result.{err_from_is_err_and}
use Rattle.attr_list.specs.Attributes.{is_full, is_named}
use Rattle.attr_list.specs.Attrs.{attr_pair}
use Rattle.attr_list.specs.declared.attr.Attr.{Attr}
use Rattle.attr_list.proofs.Steps.{named_twice, value_faulty, pair_read, starts_with_pair}
use Rattle.attr_list.proofs.list.read_attribute_pair.Goals as goal

has_room : (before : List Attr) → length before < 64 → is_full (Some 64) (length (map attr_pair before)) ≡ false
has_room before h = lt-leb 64 (length (map attr_pair before)) (omega (arith, length-map before attr_pair))

any-map : (name : List ℕ) (attrs : List Attr) → list_any (is_named name) (map attr_pair attrs) ≡ list_any (λ attr. is_named name (attr_pair attr)) attrs
any-map name [] = refl
any-map name (attr ∷ attrs) = ap (λ b. is_named name (attr_pair attr) || b) (any-map name attrs)

pub returns-then-has_named_attribute : goal.returns-then-has_named_attribute
returns-then-has_named_attribute c =
    named_twice (Some 64) (map attr_pair c.args.before.now) c.args.text.now c.in_ok-name.name.now c.in_ok-name.rest.now c.in_ok-name.ensures (has_room c.args.before.now (omega arith)) (any-map c.in_ok-name.name.now c.args.before.now ∙ sym c.if-has_named_attribute.ensures)

pub returns-in_err-value : goal.returns-in_err-value
returns-in_err-value c =
    let p = err_from_is_err_and c.from_residual-in_err-value.result c.from_residual-in_err-value.ensures.1 in
    rw (p.1, p.2) (value_faulty (Some 64) (map attr_pair c.args.before.now) c.args.text.now c.in_ok-name.name.now c.in_ok-name.rest.now _ c.in_ok-name.ensures (has_room c.args.before.now (omega arith)) (any-map c.in_ok-name.name.now c.args.before.now ∙ sym c.if-has_named_attribute.ensures) c.in_err-value.ensures)

pub returns : goal.returns
returns c =
    let starts = starts_with_pair c.args.text.now c.in_ok-name.name.now c.in_ok-name.rest.now c.in_ok-value.value.value.now c.in_ok-value.value.after.now c.in_ok-value.value.quoted c.in_ok-name.ensures c.in_ok-value.ensures in
    (starts, pair_read (Some 64) (map attr_pair c.args.before.now) _ starts.fits (has_room c.args.before.now (omega arith)) (any-map c.in_ok-name.name.now c.args.before.now ∙ sym c.if-has_named_attribute.ensures))
