-- The limits of a request.
use Rattle.std.specs.Prelude.{ℕ}

-- the most bytes of a head: 16 KiB
abbrev pub head_limit : ℕ
head_limit = 16384

-- the most fields of a head
abbrev pub field_limit : ℕ
field_limit = 64

-- the most bytes of a body: 4 MiB
abbrev pub body_limit : ℕ
body_limit = 4194304
