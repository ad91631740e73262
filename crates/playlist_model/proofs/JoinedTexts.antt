-- Texts in two parts that are compared.
use Rattle.std.proofs.Common.{◌≡◌, ◌∙◌, ℕ, ◌≤◌, Bool, true, false, ◌&&◌, List, [], ◌∷◌, ◌++◌, bytes_eq, nat_eq, length, take, drop, refl, ap, sym, arith, append_assoc}
use Rattle.std.proofs.lemmas.List.{take-append-drop, length-take-le}

and_assoc : (a b c : Bool) → (a && (b && c)) ≡ ((a && b) && c)
and_assoc true b c = refl
and_assoc false b c = refl

-- parts of one length are compared one by one
pub equal_by_parts : (a b c d : List ℕ) → length a ≡ length b → bytes_eq (a ++ c) (b ++ d) ≡ (bytes_eq a b && bytes_eq c d)
equal_by_parts [] [] c d l = refl
equal_by_parts [] (y ∷ b) c d l = absurd (omega (arith, l))
equal_by_parts (x ∷ a) [] c d l = absurd (omega (arith, l))
equal_by_parts (x ∷ a) (y ∷ b) c d l = ap (λ rest. nat_eq x y && rest) (equal_by_parts a b c d (omega (arith, l))) ∙ and_assoc (nat_eq x y) (bytes_eq a b) (bytes_eq c d)

-- a front is compared with as much of a longer one, and then what is left of that with the rest
pub equal_by_longer : (front rest other_front other_rest begin middle rest_begin rest_end : List ℕ) → length front ≤ length other_front → begin ≡ take (length front) other_front → middle ≡ drop (length front) other_front
    → length middle ≤ length rest → rest_begin ≡ take (length middle) rest → rest_end ≡ drop (length middle) rest
    → bytes_eq (front ++ rest) (other_front ++ other_rest) ≡ (bytes_eq front begin && (bytes_eq rest_begin middle && bytes_eq rest_end other_rest))
equal_by_longer front rest other_front other_rest begin middle rest_begin rest_end l b m k rb re =
    let other : other_front ++ other_rest ≡ begin ++ (middle ++ other_rest) =
    ap (λ x. x ++ other_rest) (sym (take-append-drop (length front) other_front)) ∙ append_assoc (take (length front) other_front) (drop (length front) other_front) other_rest
    ∙ ap (λ x. x ++ (drop (length front) other_front ++ other_rest)) (sym b) ∙ ap (λ x. begin ++ (x ++ other_rest)) (sym m) in
    let own : rest ≡ rest_begin ++ rest_end = sym (take-append-drop (length middle) rest) ∙ ap (λ x. x ++ drop (length middle) rest) (sym rb) ∙ ap (λ x. rest_begin ++ x) (sym re) in
    let begin_length : length front ≡ length begin = sym (ap length b ∙ length-take-le (length front) other_front l) in
    let middle_length : length rest_begin ≡ length middle = ap length rb ∙ length-take-le (length middle) rest k in
    ap (λ x. bytes_eq (front ++ rest) x) other ∙ equal_by_parts front begin rest (middle ++ other_rest) begin_length
    ∙ ap (λ x. bytes_eq front begin && bytes_eq x (middle ++ other_rest)) own ∙ ap (λ x. bytes_eq front begin && x) (equal_by_parts rest_begin middle rest_end other_rest middle_length)
