-- No tag stands between keys that are the same.
use Rattle.std.proofs.Common.{◌≡◌, Bool, true, false, cond, ◌||◌, List, [], ◌∷◌, ◌++◌, map, filter, refl, ap, sym, ◌∙◌, append_assoc, arith}
use Rattle.std.specs.List.{list_any, list_all}
use Rattle.std.specs.Cmp.Lexicographic.{pointwise}
use Rattle.std.proofs.lemmas.List.Folds.{list_any-append}
use Rattle.std.proofs.lemmas.Bool.{and_from}
use Rattle.std.proofs.lemmas.Slice.Eq.{bytes_eq-Decides}
use Rattle.playlist_model.specs.declared.Key.{Key}
use Rattle.playlist_model.specs.declared.KeyTag.TheVariants.{Set, End}
use Rattle.playlist_model.specs.Same.{same_key}
use Rattle.playlist_model.proofs.SameParts.{key_same, keys_are}
use Rattle.stitcher.specs.KeyTags.{has_its_format, is_new_key, transition}
use Rattle.playlist_write.specs.Owed.{keys_owed, said_text}
use Rattle.playlist_model.specs.Said.{key_tag_said}

or_true : (b c : Bool) → (b || (true || c)) ≡ true
or_true true c = refl
or_true false c = refl

-- what holds of a key is found in the keys around it
there : (p : Key → Bool) (front : List Key) (key : Key) (later : List Key) → p key ≡ true → list_any p (front ++ key ∷ later) ≡ true
there p front key later h = grind (arith, list_any-append, or_true)

formats_there : (front keys : List Key) → list_all (has_its_format (front ++ keys)) keys ≡ true
formats_there front [] = refl
formats_there front (key ∷ later) = grind (arith, and_from, there, bytes_eq-Decides, append_assoc, formats_there (front ++ key ∷ []) later)

none_new : (front keys : List Key) → filter (is_new_key (front ++ keys)) keys ≡ []
none_new front [] = refl
none_new front (key ∷ later) = grind (arith, there, key_same, append_assoc, none_new (front ++ key ∷ []) later)

same_lead : (keys : List Key) → transition keys keys ≡ []
same_lead keys =
    ap (λ b. cond b (map Set (filter (is_new_key keys) keys)) (End ∷ map Set keys)) (formats_there [] keys) ∙ ap (map Set) (none_new [] keys)

pub same_keys_owe_nothing : (old new : List Key) → pointwise same_key old new ≡ true → [] ≡ said_text (keys_owed old new)
same_keys_owe_nothing old new h = sym (ap (λ keys. said_text (keys_owed keys new)) (keys_are old new h) ∙ ap (λ tags. said_text (map key_tag_said tags)) (same_lead new))
