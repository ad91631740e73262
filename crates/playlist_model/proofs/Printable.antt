-- A text of printable ASCII holds no control character.
use Rattle.std.proofs.Common.{◌≡◌, ℕ, zero, suc, ◌<◌, true, false, List, [], ◌∷◌, arith}
use Rattle.std.specs.List.{list_all}
use Rattle.std.specs.Char.{is_control}
use Rattle.std.specs.Str.{IsAscii}
use Rattle.std.proofs.lemmas.Bool.{and_parts}
use Rattle.std.proofs.lemmas.Bool.Decides.{nat_tests}
use Rattle.std.proofs.lemmas.Str.{chars-IsAscii}
use Rattle.attr_list.proofs.Elements.{none_from}
use Rattle.playlist_model.specs.Lines.{has_control}
use Rattle.playlist_model.specs.Inner.Lines.{is_printable_playlist_byte}

below : (b : ℕ) → is_printable_playlist_byte b ≡ true → b < 128
below b h = grind (arith, nat_tests)

no_control : (b : ℕ) → is_printable_playlist_byte b ≡ true → is_control b ≡ false
no_control b h = grind (arith, nat_tests)

pub ascii : (bs : List ℕ) → list_all is_printable_playlist_byte bs ≡ true → IsAscii bs
ascii [] h i = omega arith
ascii (b ∷ bs) h zero = let a = and_parts _ _ h in below b a.0
ascii (b ∷ bs) h (suc i) = let a = and_parts _ _ h in ascii bs a.1 i

pub printable_has_no_control : (text : List ℕ) → list_all is_printable_playlist_byte text ≡ true → has_control text ≡ false
printable_has_no_control text h = grind (arith, chars-IsAscii, ascii, none_from, no_control)
