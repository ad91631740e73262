-- The window is the rest of the stitched list.
use Rattle.std.specs.List.{list_all}
use Rattle.std.specs.Prelude.{◌&&◌}
use Rattle.stitcher.specs.StitchedSegments.{item_fits}
use Rattle.std.proofs.Common.{◌≡◌, ℕ, ◌+◌, ◌-◌, ◌≤◌, zero, List, [], ◌∷◌, ◌++◌, map, take, drop, length, reverse, refl, ap, sym, ◌∙◌, suc, arith, length-append}
use Rattle.std.proofs.lemmas.List.{take-append-drop, reverse-append, drop-map, length-map}
use Rattle.std.proofs.Math.Seq.{drop-append_seam}
use Rattle.stitcher.specs.Stitched.{Item, can_be_numbered}
use Rattle.stitcher.specs.StitchedSegments.{item_fits}
use Rattle.stitcher.specs.Written.{written_item}
use Rattle.channel_spec.proofs.Windows.{length-reverse}
use Rattle.channel_spec.proofs.Reversed.{list_all-reverse}
use Rattle.channel_window.specs.WindowLaws.{WindowIsRestOfStitched, NumberRangeIsStitched}

length-take : {A : Type 0} (n : ℕ) (xs : List A) → n ≤ length xs → length (drop n xs) + n ≡ length xs
length-take n xs h = omega (arith, ap length (take-append-drop n xs), length-append (take n xs) (drop n xs), taken n xs h)
  where
    taken : {A : Type 0} (n : ℕ) (xs : List A) → n ≤ length xs → length (take n xs) ≡ n
    taken zero xs h = refl
    taken (suc n) [] h = absurd (omega (arith, h))
    taken (suc n) (x ∷ xs) h = ap suc (taken n xs (omega (arith, h)))

reverse-take : {A : Type 0} (k : ℕ) (xs : List A) → k ≤ length xs → reverse (take (length xs - k) xs) ≡ drop k (reverse xs)
reverse-take k xs h =
    let m = length xs - k in
    let front = reverse (drop m xs) in
    let back = reverse (take m xs) in
    let size : length front ≡ k = omega (arith, length-reverse (drop m xs), length-take m xs (omega arith), h) in
    let whole : reverse xs ≡ front ++ back = ap reverse (sym (take-append-drop m xs)) ∙ reverse-append (take m xs) (drop m xs) in
    sym (ap (λ n. drop n (reverse xs)) (sym size) ∙ (ap (drop (length front)) whole ∙ drop-append_seam front back))

pub window_is_stitched : WindowIsRestOfStitched
window_is_stitched store first ends marked place h = grind (arith, reverse, length-map, length-reverse, reverse-take, drop-map)

pub written_fit : (items : List Item) → list_all item_fits (map written_item items) ≡ list_all can_be_numbered items
written_fit [] = refl
written_fit (item ∷ items) = ap (λ b. can_be_numbered item && b) (written_fit items)

pub number_range_is_stitched : NumberRangeIsStitched
number_range_is_stitched store first ends marked = grind (arith, reverse, written_fit, list_all-reverse)
