use Rattle.std.proofs.Common.{rules, arith}
use Rattle.std.proofs.lemmas.Str.{is_utf8-from_IsUtf8}
use Rattle.uri_resolver.proofs.resolved_uri_can_be_written.Goals as goal

pub returns-then-not-has_control : goal.returns-then-not-has_control
returns-then-not-has_control c = let utf8 = is_utf8-from_IsUtf8 c.args.text.now c.utf8.text in grind (arith, rules)
