-- What proofs and inner functions say with the definitions of `Lines`.
use Rattle.std.specs.Prelude.{ℕ, Bool, ◌&&◌, nat_le, nat_lt}
use Rattle.spec_words.specs.Bytes.{space}

-- the control character after the printable ones
abbrev pub delete : ℕ
delete = 127

-- an ASCII character that is no control character
abbrev pub is_printable_playlist_byte : ℕ → Bool
is_printable_playlist_byte b = nat_le space b && nat_lt b delete
