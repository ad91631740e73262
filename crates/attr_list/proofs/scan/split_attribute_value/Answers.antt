use Rattle.std.proofs.Common.{◌≡◌, ◌≢◌, ℕ, false, List, [], ◌∷◌, refl, ap, lit<, None}
use Rattle.std.proofs.lemmas.Str.Pattern.{strip_prefix_char}
use Rattle.std.proofs.lemmas.Bool.{ne_eqb}
use Rattle.attr_list.specs.Inner.Scanning.{begins_quoted}
use Rattle.attr_list.proofs.scan.split_attribute_value.Goals as goal

unquoted : (text : List ℕ) → ((rest : List ℕ) → text ≢ 34 ∷ rest) → begins_quoted text ≡ false
unquoted [] h = refl
unquoted (b ∷ text) h = ne_eqb b 34 (λ e. h text (ap (λ c. c ∷ text) e))

pub split_plain_attribute_value-requires : goal.split_plain_attribute_value-requires
split_plain_attribute_value-requires c = unquoted c.args.text.now (strip_prefix_char 34 c.args.text.now None c.in-None.ensures.cases (lit< tt))
