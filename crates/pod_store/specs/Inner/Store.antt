-- What proofs and inner functions say with the definitions of `Store`.
use Rattle.pod_store.specs.Store.{Entry, Store, is_one_of, with_copies, with_entries}
use Rattle.std.specs.Prelude.{◌≡◌, ℕ, List, ◌++◌}

-- ---- copies

-- entries may have come after those that were there
abbrev pub GrowsBy : Store → Store → Type 0
GrowsBy old new = (more : List Entry) × (new ≡ with_entries old (old.entries ++ more))

-- ---- lists of breaks in use

-- both lists name the same breaks, and lead to the same copies in the same order
pub record NameTheSame (short long : List (List ℕ)) : Type 0 where
  pub ids : (id : List ℕ) → is_one_of short id ≡ is_one_of long id
  pub copies : (store : Store) → with_copies store short ≡ with_copies store long
