-- The store once it is said which breaks are in use, by any test of what is used.
use Rattle.std.specs.Prelude.{ℕ, Bool, not, ◌||◌, List, map, filter}
use Rattle.pod_store.specs.Store.{Entry}

-- the entries that stay, if the breaks of this test are in use
abbrev pub entries_after : (List ℕ → Bool) → List Entry → List Entry
entries_after used entries =
    map (λ (e : Entry). record e { used = used e.id }) (filter (λ (e : Entry). not e.used || used e.id) entries)
