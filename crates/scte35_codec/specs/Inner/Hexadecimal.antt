-- What proofs and inner functions say with the definitions of `Hexadecimal`.
use Rattle.scte35_codec.specs.Hexadecimal.{decoded}
use Rattle.std.specs.Prelude.{ℕ, List, Result}
use Rattle.hex.specs.Hex.{decode_of}
use Rattle.scte35_codec.specs.declared.fault.SpliceFault.{SpliceFault}
use Rattle.scte35_codec.specs.Section.{Section}
use Rattle.spec_words.specs.Outcomes.{◌>>=◌}
use Rattle.scte35_codec.specs.Reading.{reading}

-- what the bytes of pairs of digits say
abbrev pub reading_digits : List ℕ → Result Section SpliceFault
reading_digits digits = decoded (decode_of digits) >>= reading
