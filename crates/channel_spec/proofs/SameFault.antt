-- Which playlist may follow another is asked of what is the same of its segments alone.
use Rattle.std.proofs.Common.{◌≡◌, ℕ, List, [], ◌∷◌, map, length, refl, ap, sym, ◌∙◌, arith}
use Rattle.std.specs.Prelude.{Option, Some, None, option_map, ◌==◌, find}
use Rattle.playlist_model.specs.Segments.{Segment}
use Rattle.playlist_model.specs.declared.Playlist.{Playlist}
use Rattle.channel_spec.specs.declared.heading.Heading.{Heading}
use Rattle.playlist_model.specs.LookBack.{or_earlier}
use Rattle.playlist_model.specs.Same.{kept_parts}
use Rattle.channel_spec.specs.Successor.{first_number, last_discontinuity, has_init_sections, difference, first_changed, following_fault}

parts_first : (xs : List Segment) → first_number (map kept_parts xs) ≡ first_number xs
parts_first [] = refl
parts_first (x ∷ xs) = refl

parts_length : (xs : List Segment) → length (map kept_parts xs) ≡ length xs
parts_length [] = refl
parts_length (x ∷ xs) = omega (arith, parts_length xs)

parts_init : (xs : List Segment) → has_init_sections (map kept_parts xs) ≡ has_init_sections xs
parts_init [] = refl
parts_init (x ∷ xs) = refl

parts_last : (xs : List Segment) → last_discontinuity (map kept_parts xs) ≡ last_discontinuity xs
parts_last [] = refl
parts_last (x ∷ []) = refl
parts_last (x ∷ y ∷ xs) = parts_last (y ∷ xs)

find_parts : (n : ℕ) (xs : List Segment) → find (λ (t : Segment). t.media_sequence == n) (map kept_parts xs) ≡ option_map kept_parts (find (λ (t : Segment). t.media_sequence == n) xs)
find_parts n [] = refl
find_parts n (x ∷ xs) = grind (arith, find_parts n xs)

difference_parts : (s : Segment) (o : Option Segment) → difference s (option_map kept_parts o) ≡ difference s o
difference_parts s None = refl
difference_parts s (Some t) = refl

parts_changed : (xs new : List Segment) → first_changed (map kept_parts xs) new ≡ first_changed xs new
parts_changed xs [] = refl
parts_changed xs (s ∷ later) =
    ap (λ o. or_earlier o (first_changed (map kept_parts xs) later)) (ap (difference s) (find_parts s.media_sequence xs) ∙ difference_parts s (find (λ (t : Segment). t.media_sequence == s.media_sequence) xs))
    ∙ ap (or_earlier (difference s (find (λ (t : Segment). t.media_sequence == s.media_sequence) xs))) (parts_changed xs later)

fault_parts : (h : Heading) (xs : List Segment) (p : Playlist) → following_fault h (map kept_parts xs) p ≡ following_fault h xs p
fault_parts h xs p = grind (arith, parts_first, parts_length, parts_init, parts_last, parts_changed)

-- segments that are the same in what is asked of them have one fault, and one first number
pub same_fault : (h : Heading) (xs ys : List Segment) (p : Playlist) → map kept_parts xs ≡ map kept_parts ys → following_fault h xs p ≡ following_fault h ys p
same_fault h xs ys p e = sym (fault_parts h xs p) ∙ (ap (λ zs. following_fault h zs p) e ∙ fault_parts h ys p)

pub same_first : (xs ys : List Segment) → map kept_parts xs ≡ map kept_parts ys → first_number xs ≡ first_number ys
same_first xs ys e = sym (parts_first xs) ∙ (ap first_number e ∙ parts_first ys)

pub same_init : (xs ys : List Segment) → map kept_parts xs ≡ map kept_parts ys → has_init_sections xs ≡ has_init_sections ys
same_init xs ys e = sym (parts_init xs) ∙ (ap has_init_sections e ∙ parts_init ys)
