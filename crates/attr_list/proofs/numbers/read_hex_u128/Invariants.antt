use Rattle.std.proofs.Common.{◌≡◌, take, true}
use Rattle.std.specs.List.{list_all}
use Rattle.std.specs.Char.{is_ascii_hexdigit}
use Rattle.std.specs.Str.Parse.{digits_value}
use Rattle.attr_list.proofs.numbers.read_hex_u128.Given as goal

abbrev pub invariant-loop-digit : goal.invariant-loop-digit
invariant-loop-digit l = record {
  value : l.value ≡ digits_value 16 (take l.digit-index l.digits);
  digits : list_all is_ascii_hexdigit (take l.digit-index l.digits) ≡ true;
}
