-- The table is held against the definition at each of the 256 bytes, by computing.
use Rattle.std.proofs.Common.{◌≡◌, ℕ, ◌<◌, Bool, true, false, not, nat_eq, get_or, List, refl, arith}
use Rattle.std.specs.Bool.{beq}
use Rattle.url.proofs.SetLemmas.{all_below, checked}
use Rattle.uri_resolver.specs.declared.plain.TheConstants.{SEGMENT_BYTES}
use Rattle.uri_resolver.specs.Plain.{is_path_segment_byte}
use Rattle.uri_resolver.proofs.plain.is_path_segment_byte.Goals as goal

same : (x y : Bool) → beq x y ≡ true → x ≡ y
same true true h = refl
same true false h = cc
same false true h = cc
same false false h = refl

from_table : (table : List ℕ) (b : ℕ) → b < 256
    → all_below (λ k. beq (not (nat_eq (get_or table k 0) 47)) (is_path_segment_byte k)) 256 ≡ true
    → not (nat_eq (get_or table b 0) 47) ≡ is_path_segment_byte b
from_table table b lt h = same _ _ (checked (λ k. beq (not (nat_eq (get_or table k 0) 47)) (is_path_segment_byte k)) 256 h b lt)

pub returns : goal.returns
returns c = from_table SEGMENT_BYTES c.args.b (omega arith) refl
