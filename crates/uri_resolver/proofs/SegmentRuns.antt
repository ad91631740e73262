-- Runs of bytes of a segment, after which a plain reference goes on.
use Rattle.std.proofs.Common.{◌≡◌, ℕ, zero, suc, ◌+◌, ◌<◌, ◌≤◌, Bool, true, false, not, cond, ◌&&◌, ◌==◌, slice_index, length, List, [], ◌∷◌, take, drop, refl, sym, ◌∙◌, ap, arith}
use Rattle.std.specs.List.{list_all, prefix_len}
use Rattle.std.proofs.lemmas.Bool.{and_parts}
use Rattle.uri_resolver.specs.Plain.{is_path_segment_byte, is_reference_query_byte, is_plain_reference_path, is_relative_reference}
use Rattle.uri_resolver.proofs.SegmentBytes.{segment_goes_on, slash_goes_on, dot_stops, other_stops, front_has_no_dot, no_slash, no_question}

abbrev pub after : (ℕ → Bool) → List ℕ → List ℕ
after test bytes = drop (prefix_len test bytes) bytes

after_one : (b : ℕ) (n : ℕ) (bytes : List ℕ) → drop (1 + n) (b ∷ bytes) ≡ drop n bytes
after_one b n bytes = grind arith

pub one_goes_on : (test : ℕ → Bool) (b : ℕ) (bytes : List ℕ) → test b ≡ true → after test (b ∷ bytes) ≡ after test bytes
one_goes_on test b bytes here = rw here (after_one b (prefix_len test bytes) bytes)

pub one_stops : (test : ℕ → Bool) (b : ℕ) (bytes : List ℕ) → test b ≡ false → after test (b ∷ bytes) ≡ b ∷ bytes
one_stops test b bytes here = rw here refl

pub taken_go_on : (test : ℕ → Bool) (k : ℕ) (bytes : List ℕ) → list_all test (take k bytes) ≡ true → after test (drop k bytes) ≡ after test bytes
taken_go_on test zero bytes all = refl
taken_go_on test (suc k) [] all = refl
taken_go_on test (suc k) (b ∷ bytes) all =
    let parts = and_parts (test b) (list_all test (take k bytes)) all in
    taken_go_on test k bytes parts.1 ∙ sym (one_goes_on test b bytes parts.0)

-- ---- runs of the first bytes alone

pub all_run : (test : ℕ → Bool) (bytes : List ℕ) → length bytes ≤ prefix_len test bytes → list_all test bytes ≡ true
all_run test [] run = refl
all_run test (b ∷ bytes) run = all_run_on (test b) (length bytes) (prefix_len test bytes) (list_all test bytes) (omega (arith, run)) (λ h. all_run test bytes h)
  where
    all_run_on : (passes : Bool) (size count : ℕ) (later : Bool) → 1 + size ≤ cond passes (1 + count) 0 → (size ≤ count → later ≡ true) → (passes && later) ≡ true
    all_run_on true size count later run on = on (omega (arith, run))
    all_run_on false size count later run on = absurd (omega (arith, run))

run_on : (passes : Bool) (size count more : ℕ) → cond passes (1 + count) 0 < 1 + size → (count < size → more ≡ count) → cond passes (1 + more) 0 ≡ cond passes (1 + count) 0
run_on true size count more ends on = ap (λ n. 1 + n) (on (omega (arith, ends)))
run_on false size count more ends on = refl

-- a run that ends among the first bytes ends there among all
pub run_within : (test : ℕ → Bool) (k : ℕ) (bytes : List ℕ) → prefix_len test (take k bytes) < length (take k bytes) → prefix_len test bytes ≡ prefix_len test (take k bytes)
run_within test zero bytes ends = absurd (omega (arith, ends))
run_within test (suc k) [] ends = refl
run_within test (suc k) (b ∷ bytes) ends = run_on (test b) (length (take k bytes)) (prefix_len test (take k bytes)) (prefix_len test bytes) (omega (arith, ends)) (λ h. run_within test k bytes h)

run_of : (b : ℕ) (bytes : List ℕ) (is_segment : Bool) → is_path_segment_byte b ≡ is_segment
    → is_plain_reference_path false (after is_path_segment_byte bytes) ≡ is_plain_reference_path false bytes
    → is_plain_reference_path false (after is_path_segment_byte (b ∷ bytes)) ≡ is_plain_reference_path false (b ∷ bytes)
run_of b bytes true here later = ap (λ rest. is_plain_reference_path false rest) (one_goes_on is_path_segment_byte b bytes here) ∙ later ∙ sym (segment_goes_on b bytes here)
run_of b bytes false here later = ap (λ rest. is_plain_reference_path false rest) (one_stops is_path_segment_byte b bytes here)

pub run_goes_on : (bytes : List ℕ) → is_plain_reference_path false (after is_path_segment_byte bytes) ≡ is_plain_reference_path false bytes
run_goes_on [] = refl
run_goes_on (b ∷ bytes) = run_of b bytes (is_path_segment_byte b) refl (run_goes_on bytes)

head_of : (a b : ℕ) (xs ys : List ℕ) → a ∷ xs ≡ b ∷ ys → a ≡ b
head_of a b xs ys e = cc

end_of : (a : ℕ) (bytes : List ℕ) (b : ℕ) (later : List ℕ) (is_segment : Bool) → is_path_segment_byte a ≡ is_segment
    → after is_path_segment_byte (a ∷ bytes) ≡ b ∷ later → (after is_path_segment_byte bytes ≡ b ∷ later → is_path_segment_byte b ≡ false) → is_path_segment_byte b ≡ false
end_of a bytes b later true here e before = before (sym (one_goes_on is_path_segment_byte a bytes here) ∙ e)
end_of a bytes b later false here e before = rw (sym (head_of a b bytes later (sym (one_stops is_path_segment_byte a bytes here) ∙ e))) here

-- a run ends before a byte of another kind
pub end_stops : (bytes : List ℕ) (b : ℕ) (later : List ℕ) → after is_path_segment_byte bytes ≡ b ∷ later → is_path_segment_byte b ≡ false
end_stops [] b later e = absurd (cc)
end_stops (a ∷ bytes) b later e = end_of a bytes b later (is_path_segment_byte a) refl e (λ f. end_stops bytes b later f)

-- ---- what stands after a run decides

after_run : (bytes rest : List ℕ) → after is_path_segment_byte bytes ≡ rest → is_plain_reference_path false bytes ≡ is_plain_reference_path false rest
after_run bytes rest e = sym (run_goes_on bytes) ∙ ap (λ r. is_plain_reference_path false r) e

none_of : (bytes : List ℕ) → length bytes ≡ 0 → bytes ≡ []
none_of [] e = refl
none_of (b ∷ bytes) e = absurd (omega (arith, e))

pub nothing_left : (bytes rest : List ℕ) → after is_path_segment_byte bytes ≡ rest → length rest ≡ 0 → true ≡ is_plain_reference_path false bytes
nothing_left bytes rest e none = sym (after_run bytes [] (e ∙ none_of rest none))

pub query_leads : (bytes : List ℕ) (b : ℕ) (later : List ℕ) → after is_path_segment_byte bytes ≡ b ∷ later → b ≡ 63
    → list_all is_reference_query_byte later ≡ is_plain_reference_path false bytes
query_leads bytes b later e question = grind (arith, after_run)

pub slash_leads : (bytes : List ℕ) (b : ℕ) (later : List ℕ) → after is_path_segment_byte bytes ≡ b ∷ later → b ≡ 47 → (slice_index later 0 == 46) ≡ false
    → is_plain_reference_path false later ≡ is_plain_reference_path false bytes
slash_leads bytes b later e slash dotless = sym (after_run bytes (b ∷ later) e ∙ slash_goes_on b later slash dotless)

pub dot_ends : (bytes : List ℕ) (b : ℕ) (later : List ℕ) → after is_path_segment_byte bytes ≡ b ∷ later → b ≡ 47 → (slice_index later 0 == 46) ≡ true
    → false ≡ is_plain_reference_path false bytes
dot_ends bytes b later e slash dot = sym (after_run bytes (b ∷ later) e ∙ dot_stops b later slash dot)

pub other_ends : (bytes : List ℕ) (b : ℕ) (later : List ℕ) → after is_path_segment_byte bytes ≡ b ∷ later → ¬ (b ≡ 63) → ¬ (b ≡ 47)
    → false ≡ is_plain_reference_path false bytes
other_ends bytes b later e question slash = sym (after_run bytes (b ∷ later) e ∙ other_stops b later (end_stops bytes b later e) question slash)

-- ---- a segment alone

all_taken : (test : ℕ → Bool) (bytes : List ℕ) → list_all test bytes ≡ true → after test bytes ≡ []
all_taken test [] all = refl
all_taken test (b ∷ bytes) all = let parts = and_parts (test b) (list_all test bytes) all in one_goes_on test b bytes parts.0 ∙ all_taken test bytes parts.1

alone : (slash question dot path : Bool) → slash ≡ false → question ≡ false → path ≡ true → (not slash && not question && (not dot && path)) ≡ not dot
alone false false true true s q p = refl
alone false false false true s q p = refl
alone _ _ _ _ s q p = absurd (cc)

pub segment_is_relative : (bytes : List ℕ) (first : ℕ) (later : List ℕ) → list_all is_path_segment_byte bytes ≡ true → bytes ≡ first ∷ later
    → is_relative_reference bytes ≡ not (first == 46)
segment_is_relative bytes first later all is =
    let front : list_all is_path_segment_byte (first ∷ later) ≡ true = rw is at all in
    let parts = and_parts (is_path_segment_byte first) (list_all is_path_segment_byte later) front in
    let path : is_plain_reference_path false (first ∷ later) ≡ true = after_run (first ∷ later) [] (all_taken is_path_segment_byte (first ∷ later) front) in
    rw (is, front_has_no_dot (first ∷ later)) (alone (first == 47) (first == 63) (first == 46) (is_plain_reference_path false (first ∷ later)) (no_slash first parts.0) (no_question first parts.0) path)
