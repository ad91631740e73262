-- Parts of a key's line, for the functions that write it.
use Rattle.std.specs.Prelude.{◌≡◌, ℕ, List, [], ◌∷◌, ◌++◌, Option, Some, None, codes}
use Rattle.spec_words.specs.Bytes.{line_feed, quote}
use Rattle.date_times.specs.Digits.{fixed_digits}
use Rattle.playlist_model.specs.declared.Key.{Key}
use Rattle.playlist_model.specs.Carried.{after_commas}
use Rattle.playlist_write.specs.Spelling.{iv_pairs, format_pairs}
use Rattle.playlist_write.specs.Owed.{keys_owed, said_text}
use Rattle.playlist_write.specs.Inner.Owed.{key_line}

-- what stands after the URI
abbrev pub text_after_uri : Key → List ℕ
text_after_uri k = (quote ∷ after_commas (iv_pairs k.iv)) ++ (after_commas (format_pairs k.format) ++ (k.other_attributes ++ line_feed ∷ []))

-- what stands before the closing quote of the URI
abbrev pub text_before_quote : Key → List ℕ
text_before_quote k = (codes "#EXT-X-KEY:METHOD=" ++ (k.method ++ codes ",URI=\"")) ++ k.uri

-- the key with another initialisation vector
abbrev pub with_iv : Option ℕ → Key → Key
with_iv iv k = record k { iv = iv }

-- whatever the initialisation vector of the key, its line is this front and that
pub record HasKeyFront (k : Key) (front : List ℕ) : Type 0 where
  pub line : (iv : ℕ) → key_line (with_iv (Some iv) k) ≡ front ++ (codes "\",IV=0x" ++ (fixed_digits 16 32 iv ++ line_feed ∷ []))

-- this is the only one of these keys, if it is known
abbrev pub IsOnlyKey : Option Key → List Key → Type 0
IsOnlyKey None keys = Unit {0}
IsOnlyKey (Some key) keys = keys ≡ key ∷ []

-- a text grew by the tag that leads from the only key that was known to the only one of these keys, which is known then
pub record LeadsOn (old new : Option Key) (keys : List Key) (before text : List ℕ) : Type 0 where
  pub last : Key
  pub next : Key
  pub last_is : old ≡ Some last
  pub next_is : new ≡ Some next
  pub keys_are : keys ≡ next ∷ []
  pub grown : text ≡ before ++ said_text (keys_owed (last ∷ []) (next ∷ []))
