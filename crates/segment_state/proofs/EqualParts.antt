-- What is the same at two stops is equal.
use Rattle.std.proofs.Common.{◌≡◌, ℕ, true, List, sym}
use Rattle.std.specs.Prelude.{Option, Some}
use Rattle.std.specs.Cmp.Lexicographic.{pointwise}
use Rattle.playlist_model.specs.declared.Key.{Key}
use Rattle.playlist_model.specs.declared.InitSection.{InitSection}
use Rattle.playlist_model.specs.Same.{same_key, same_init_section}
use Rattle.playlist_model.specs.LookBack.{Extent}
use Rattle.playlist_model.proofs.SameParts as parts

pub keys_are : (xs ys : List Key) → true ≡ pointwise same_key xs ys → xs ≡ ys
keys_are xs ys h = parts.keys_are xs ys (sym h)

pub some_init_section : (a b : InitSection) → true ≡ same_init_section a b → ◌≡◌ {A = Option InitSection} (Some a) (Some b)
some_init_section a b h = sym (parts.init_section_is a (Some b) (sym h))

pub same_extent : (u v : List ℕ) (l m o p : ℕ) → u ≡ v → l ≡ m → o ≡ p
    → ◌≡◌ {A = Option Extent} (Some (record { uri = u; byte_range = record { length = l; offset = o } })) (Some (record { uri = v; byte_range = record { length = m; offset = p } }))
same_extent u v l m o p a b c = cc
