-- Bytes of a plain reference after the front of a segment.
use Rattle.std.proofs.Common.{◌≡◌, ℕ, ◌<◌, Bool, true, false, not, ◌&&◌, ◌||◌, ◌==◌, cond, List, [], ◌∷◌, slice_index, refl, arith}
use Rattle.std.specs.List.{list_all}
use Rattle.std.proofs.lemmas.Bool.{and_parts}
use Rattle.std.proofs.lemmas.Bool.Decides.{nat_tests}
use Rattle.uri_resolver.specs.Plain.{is_path_segment_byte, is_reference_query_byte, is_plain_reference_path}

below : (b : ℕ) → is_path_segment_byte b ≡ true → b < 128
below b segment = grind (arith, nat_tests)

holds : (c d : Bool) → (not c || d) ≡ true → c ≡ true → d ≡ true
holds c d either here = rw here at either

-- neither `?` nor `/`
abbrev is_no_mark : ℕ → Bool
is_no_mark b = not (b == 63) && not (b == 47)

no_mark : (b : ℕ) → is_path_segment_byte b ≡ true → is_no_mark b ≡ true
no_mark b segment = grind arith

pub no_slash : (b : ℕ) → is_path_segment_byte b ≡ true → (b == 47) ≡ false
no_slash b segment = grind arith

pub no_question : (b : ℕ) → is_path_segment_byte b ≡ true → (b == 63) ≡ false
no_question b segment = grind arith

passes : (question segment dot slash query : Bool) (later : Bool → Bool) → not question ≡ true → segment ≡ true → not slash ≡ true
    → cond question query ((segment || slash) && not (false && dot) && later slash) ≡ later false
passes false true _ false query later q p s = refl
passes _ _ _ _ query later q p s = absurd (cc)

-- what is left after it decides
pub segment_goes_on : (b : ℕ) (bytes : List ℕ) → is_path_segment_byte b ≡ true → is_plain_reference_path false (b ∷ bytes) ≡ is_plain_reference_path false bytes
segment_goes_on b bytes segment =
    let marks = and_parts _ _ (no_mark b segment) in
    passes (b == 63) (is_path_segment_byte b) (b == 46) (b == 47) (list_all is_reference_query_byte bytes) (λ (slash : Bool). is_plain_reference_path slash bytes) marks.0 segment marks.1

dotless : (b : ℕ) (query : Bool) (rest : Bool) (path : Bool)
    → cond (b == 63) query (path && not (true && b == 46) && rest) ≡ (not (b == 46) && cond (b == 63) query (path && not (false && b == 46) && rest))
dotless b query rest path = grind (arith, nat_tests)

-- at the front of a segment no dot may stand
pub front_has_no_dot : (bytes : List ℕ) → is_plain_reference_path true bytes ≡ (not (slice_index bytes 0 == 46) && is_plain_reference_path false bytes)
front_has_no_dot [] = refl
front_has_no_dot (b ∷ bytes) = grind arith

-- after a slash no dot may stand
pub slash_goes_on : (b : ℕ) (bytes : List ℕ) → b ≡ 47 → (slice_index bytes 0 == 46) ≡ false → is_plain_reference_path false (b ∷ bytes) ≡ is_plain_reference_path false bytes
slash_goes_on b bytes slash dotless = rw slash (rw dotless at (front_has_no_dot bytes))

pub dot_stops : (b : ℕ) (bytes : List ℕ) → b ≡ 47 → (slice_index bytes 0 == 46) ≡ true → is_plain_reference_path false (b ∷ bytes) ≡ false
dot_stops b bytes slash dot = rw slash (rw dot at (front_has_no_dot bytes))

stops : (question segment slash dot query later : Bool) → question ≡ false → segment ≡ false → slash ≡ false
    → cond question query ((segment || slash) && not (false && dot) && later) ≡ false
stops question segment slash dot query later q s n = rw q (rw s (rw n refl))

-- any other byte ends it
pub other_stops : (b : ℕ) (bytes : List ℕ) → is_path_segment_byte b ≡ false → ¬ (b ≡ 63) → ¬ (b ≡ 47) → is_plain_reference_path false (b ∷ bytes) ≡ false
other_stops b bytes other question slash = grind arith
