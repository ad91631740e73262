-- A playlist in the segments that were read and those that were taken over between them.
use Rattle.std.proofs.Common.{◌≡◌, ℕ, ◌+◌, ◌≤◌, List, [], ◌∷◌, ◌++◌, take, drop, length, refl, ap, sym, ◌∙◌, arith, length-append, append_assoc}
use Rattle.std.proofs.lemmas.List.{take-append-drop, take-append-le, drop-append-le, take_all, drop_all, length-take-le}
use Rattle.playlist_model.specs.Segments.{Segment}
use Rattle.std.specs.Prelude.{Some}
use Rattle.playlist_kept.specs.Kept.{first_of, with_taken}

empty : {A : Type 0} (xs : List A) → length xs ≡ 0 → xs ≡ []
empty [] h = refl
empty (x ∷ xs) h = absurd (cc)

-- nothing was taken over
pub none_between : (front : ℕ) (read taken : List Segment) → length taken ≡ 0 → with_taken front read taken ≡ read
none_between front read taken none = ap (λ xs. take front read ++ (xs ++ drop front read)) (empty taken none) ∙ take-append-drop front read

-- what stands between is what was taken over
between : (xs ys zs : List Segment) (n m : ℕ) → n ≡ length xs → m ≡ length xs + length ys → drop n (take m (xs ++ (ys ++ zs))) ≡ ys
between xs ys zs n m first last =
    ap (λ k. drop k (take m (xs ++ (ys ++ zs)))) first
    ∙ (ap (λ k. drop (length xs) (take k (xs ++ (ys ++ zs)))) last
    ∙ (ap (λ all. drop (length xs) (take (length xs + length ys) all)) (sym (append_assoc xs ys zs))
    ∙ (ap (drop (length xs)) (take-append-le (length xs + length ys) (xs ++ ys) zs (let size = length-append xs ys in omega (arith, size))
    ∙ take_all (length xs + length ys) (xs ++ ys) (let size = length-append xs ys in omega (arith, size)))
    ∙ (drop-append-le (length xs) xs ys (omega arith) ∙ ap (λ all. all ++ ys) (drop_all (length xs) xs (omega arith))))))

pub taken_there : (front start end : ℕ) (read taken there : List Segment) → front ≤ length read → front ≡ start → front + length taken ≡ end
    → drop start (take end (with_taken front read taken)) ≡ there → taken ≡ there
taken_there front start end read taken there within at till same =
    let size : length (take front read) ≡ front = length-take-le front read within in
    sym (between (take front read) taken (drop front read) start end (omega (arith, size, at)) (omega (arith, size, till))) ∙ same

-- ---- the first of all, and how many they are

pub first_before : (front : ℕ) (read taken later : List Segment) (s : Segment) → take front read ≡ s ∷ later → first_of (with_taken front read taken) ≡ Some s
first_before front read taken later s is = ap (λ xs. first_of (xs ++ (taken ++ drop front read))) is

pub first_taken : (front : ℕ) (read taken later : List Segment) (s : Segment) → take front read ≡ [] → taken ≡ s ∷ later → first_of (with_taken front read taken) ≡ Some s
first_taken front read taken later s none is = ap (λ xs. first_of (xs ++ (taken ++ drop front read))) none ∙ ap (λ xs. first_of (xs ++ drop front read)) is

pub first_since : (front : ℕ) (read taken : List Segment) → take front read ≡ [] → taken ≡ [] → first_of (with_taken front read taken) ≡ first_of (drop front read)
first_since front read taken none nothing = ap (λ xs. first_of (xs ++ (taken ++ drop front read))) none ∙ ap (λ xs. first_of (xs ++ drop front read)) nothing

pub count_of_all : (front : ℕ) (read taken : List Segment) → length (with_taken front read taken) ≡ length read + length taken
count_of_all front read taken =
    let all = length-append (take front read) (taken ++ drop front read) in
    let later = length-append taken (drop front read) in
    let parts = sym (length-append (take front read) (drop front read)) ∙ ap length (take-append-drop front read) in
    omega (arith, all, later, parts)
