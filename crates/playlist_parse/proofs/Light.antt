-- A fault of lines that take no memory is answered.
use Rattle.std.proofs.Common.{◌≡◌, ℕ, ◌+◌, Bool, true, false, List, [], ◌∷◌, ◌++◌, length, refl, ap, sym, ◌∙◌, subst, arith}
use Rattle.std.specs.Prelude.{◌≢◌, Option, Some, None, Result, Ok, Err, IsOk, ◌||◌, if◌then◌else◌}
use Rattle.url.specs.Parts.{Parts}
use Rattle.attr_list.specs.Numbers.{decimal_of}
use Rattle.spec_words.specs.Outcomes.{◌>>=◌, or_fault, refuse_if}
use Rattle.playlist_model.specs.declared.FaultKind.{FaultKind}
use Rattle.playlist_model.specs.declared.FaultKind.TheVariants as fault
use Rattle.playlist_model.specs.declared.FaultKind.TheVariants.{OutOfMemory}
use Rattle.playlist_model.specs.Lines.{Kind, ignored, uri, tag, kind_of, has_control}
use Rattle.playlist_model.specs.Said.{Name, version_tag, target_tag, sequence_tag, discontinuity_sequence_tag, type_tag, ended_tag, independent_tag, frames_tag, master_tag, duration_tag, byte_range_tag, discontinuity_tag, key_tag, init_section_tag, time_tag, date_range_tag, unknown_tag, Said, nothing, number_said, version_of, playlist_type_of, Outcome}
use Rattle.playlist_model.specs.LookBack.{the_version, the_target, the_sequence, the_discontinuity_sequence, the_type, is_media, is_discontinuity, is_ended, segments_of, with_said}
use Rattle.playlist_model.specs.Reading.{has, is_set, name_of, said_by_tag, said_by_kind, said_by, said_from, at_line, limited, Fault}
use Rattle.playlist_parse.specs.Light.{IsOfWhole, IsLightKind, IsLight, AreLight}
use Rattle.playlist_parse.specs.Inner.Answers.{fault_at_line}
use Rattle.playlist_parse.specs.Inner.Progress.{Progress, progress_at, TakesLineExactly}
use Rattle.playlist_parse.specs.Inner.Reached.{Telling, IsToBeTold, left_in}
use Rattle.playlist_parse.specs.declared.reading.Reading.{Reading}
use Rattle.playlist_parse.proofs.Reached.{own_base, same_base, kept_line}

-- ---- no such line lacks memory

abbrev Lacks : {A : Type 0} → Outcome A → Type 0
Lacks (Ok x) = Unit {0}
Lacks (Err e) = e ≢ OutOfMemory

after : {A B : Type 0} (o : Outcome A) (f : A → Outcome B) → Lacks o → ((x : A) → Lacks (f x)) → Lacks (o >>= f)
after (Ok x) f h g = g x
after (Err e) f h g = h

refused : {A : Type 0} (b : Bool) (e : FaultKind) (o : Outcome A) → e ≢ OutOfMemory → Lacks o → Lacks (refuse_if b e o)
refused true e o h g = h
refused false e o h g = g

owed : {A : Type 0} (e : FaultKind) (o : Option A) → e ≢ OutOfMemory → Lacks (or_fault e o)
owed e None h = h
owed e (Some x) h = tt

chosen : {A : Type 0} (b : Bool) (x y : Outcome A) → Lacks x → Lacks y → Lacks (if b then x else y)
chosen true x y h g = h
chosen false x y h g = g

a_number : (rest : List ℕ) → Lacks (number_said rest)
a_number rest = owed fault.BadValue (decimal_of rest) (λ f. cc)

a_version : (rest : List ℕ) → Lacks (version_of rest)
a_version rest = grind arith

a_type : (rest : List ℕ) → Lacks (playlist_type_of rest)
a_type rest = grind arith

module _ (base : Parts) where
  light_tag : (before : List Said) (name : Name) (rest : List ℕ) → IsOfWhole name → Lacks (said_by_tag limited base before name rest)
  light_tag before version_tag rest h = refused (is_set the_version before) _ _ (λ f. cc) (after (version_of rest) _ (a_version rest) (λ n. tt))
  light_tag before target_tag rest h = refused (is_set the_target before) _ _ (λ f. cc) (after (number_said rest) _ (a_number rest) (λ n. tt))
  light_tag before sequence_tag rest h =
      refused (is_set the_sequence before) _ _ (λ f. cc) (refused (has is_media before) _ _ (λ f. cc) (after (number_said rest) _ (a_number rest) (λ n. tt)))
  light_tag before discontinuity_sequence_tag rest h =
      refused (is_set the_discontinuity_sequence before) _ _ (λ f. cc)
      (refused (has is_media before || has is_discontinuity before) _ _ (λ f. cc) (after (number_said rest) _ (a_number rest) (λ n. tt)))
  light_tag before type_tag rest h = refused (is_set the_type before) _ _ (λ f. cc) (after (playlist_type_of rest) _ (a_type rest) (λ kind. tt))
  light_tag before ended_tag rest h = refused (has is_ended before) _ _ (λ f. cc) tt
  light_tag before independent_tag rest h = tt
  light_tag before frames_tag rest h = λ f. cc
  light_tag before master_tag rest h = λ f. cc
  light_tag before unknown_tag rest h = tt
  light_tag before duration_tag rest h = absurd h
  light_tag before byte_range_tag rest h = absurd h
  light_tag before discontinuity_tag rest h = absurd h
  light_tag before key_tag rest h = absurd h
  light_tag before init_section_tag rest h = absurd h
  light_tag before time_tag rest h = absurd h
  light_tag before date_range_tag rest h = absurd h

  light_kind : (before : List Said) (kind : Kind) → IsLightKind kind → Lacks (said_by_kind limited base before kind)
  light_kind before ignored h = tt
  light_kind before (uri reference) h = absurd h
  light_kind before (tag name rest colon) h = light_tag before (name_of name colon) rest h

  light_line : (before : List Said) (line : List ℕ) → IsLight line → Lacks (said_by limited base before line)
  light_line before line h = refused (has_control line) fault.Control _ (λ f. cc) (light_kind before (kind_of line) h)

-- ---- no such line names a segment

abbrev Keeps : List Said → Outcome Said → Type 0
Keeps before (Ok said) = segments_of (said ∷ before) ≡ segments_of before
Keeps before (Err e) = Unit {0}

module _ (before : List Said) where
  keeps_after : {A : Type 0} (o : Outcome A) (f : A → Outcome Said) → ((x : A) → Keeps before (f x)) → Keeps before (o >>= f)
  keeps_after (Ok x) f h = h x
  keeps_after (Err e) f h = tt

  keeps_refused : (b : Bool) (e : FaultKind) (o : Outcome Said) → Keeps before o → Keeps before (refuse_if b e o)
  keeps_refused true e o h = tt
  keeps_refused false e o h = h

  tag_keeps : (base : Parts) (name : Name) (rest : List ℕ) → IsOfWhole name → Keeps before (said_by_tag limited base before name rest)
  tag_keeps base version_tag rest h = keeps_refused (is_set the_version before) _ _ (keeps_after (version_of rest) _ (λ n. refl))
  tag_keeps base target_tag rest h = keeps_refused (is_set the_target before) _ _ (keeps_after (number_said rest) _ (λ n. refl))
  tag_keeps base sequence_tag rest h = keeps_refused (is_set the_sequence before) _ _ (keeps_refused (has is_media before) _ _ (keeps_after (number_said rest) _ (λ n. refl)))
  tag_keeps base discontinuity_sequence_tag rest h =
      keeps_refused (is_set the_discontinuity_sequence before) _ _
      (keeps_refused (has is_media before || has is_discontinuity before) _ _ (keeps_after (number_said rest) _ (λ n. refl)))
  tag_keeps base type_tag rest h = keeps_refused (is_set the_type before) _ _ (keeps_after (playlist_type_of rest) _ (λ kind. refl))
  tag_keeps base ended_tag rest h = keeps_refused (has is_ended before) _ _ refl
  tag_keeps base independent_tag rest h = refl
  tag_keeps base frames_tag rest h = tt
  tag_keeps base master_tag rest h = tt
  tag_keeps base unknown_tag rest h = refl
  tag_keeps base duration_tag rest h = absurd h
  tag_keeps base byte_range_tag rest h = absurd h
  tag_keeps base discontinuity_tag rest h = absurd h
  tag_keeps base key_tag rest h = absurd h
  tag_keeps base init_section_tag rest h = absurd h
  tag_keeps base time_tag rest h = absurd h
  tag_keeps base date_range_tag rest h = absurd h

  kind_keeps : (base : Parts) (kind : Kind) → IsLightKind kind → Keeps before (said_by_kind limited base before kind)
  kind_keeps base ignored h = refl
  kind_keeps base (uri reference) h = absurd h
  kind_keeps base (tag name rest colon) h = tag_keeps base (name_of name colon) rest h

  line_keeps : (base : Parts) (line : List ℕ) → IsLight line → Keeps before (said_by limited base before line)
  line_keeps base line h = keeps_refused (has_control line) fault.Control _ (kind_keeps base (kind_of line) h)

  none_yet : (o : Outcome Said) → IsOk o → Keeps before o → segments_of before ≡ [] → segments_of (with_said before o) ≡ []
  none_yet (Ok said) ok h none = h ∙ none
  none_yet (Err e) ok h none = absurd (cc ok)

-- ---- going over the lines

pub to_be_told : (base : Parts) (progress : Progress) (all : List (List ℕ)) → progress ≡ progress_at base (nothing ∷ []) → IsToBeTold base progress 2 all all
to_be_told base progress all is = grind arith

none_left : (before : List Said) (base : Parts) (front later : List (List ℕ)) (e : Fault) → [] ≡ front ++ later → said_from (said_by limited base) before front ≡ Err e → ⊥
none_left before base [] later e h said = cc said
none_left before base (x ∷ xs) later e h said = cc h

pub is_over : {base : Parts} {progress : Progress} {n : ℕ} {e : Fault} → Telling base progress n [] e → ⊥
is_over {base = base} {e = e} t = none_left t.before base t.front t.later e t.left_is t.said

-- the next line is one of those
record Opened (base : Parts) (before : List Said) (line : List ℕ) (rest : List (List ℕ)) (e : Fault) : Type 0 where
  front : List (List ℕ)
  later : List (List ℕ)
  left_is : rest ≡ front ++ later
  first : IsLight line
  light : AreLight front
  said : said_from (said_by limited base) before (line ∷ front) ≡ Err e

opened : (base : Parts) (before : List Said) (line : List ℕ) (rest front later : List (List ℕ)) (e : Fault) → line ∷ rest ≡ front ++ later → AreLight front
    → said_from (said_by limited base) before front ≡ Err e → Opened base before line rest e
opened base before line rest [] later e h light said = absurd (cc said)
opened base before line rest (x ∷ xs) later e h light said = grind arith

-- the next line is light if a fault of such lines is still to be met
pub told_first : {base : Parts} {progress : Progress} {n : ℕ} {line : List ℕ} {rest : List (List ℕ)} {e : Fault} → Telling base progress n (line ∷ rest) e → IsLight line
told_first {base = base} {line = line} {rest = rest} {e = e} t =
    let o = opened base t.before line rest t.front t.later e t.left_is t.light t.said in o.first

one_more : (before : List Said) (o : Outcome Said) (n : ℕ) (f : List Said → Result (List Said) Fault) (e : Fault) → IsOk o → at_line n o (λ said. f (said ∷ before)) ≡ Err e
    → (f (with_said before o) ≡ Err e) × (length (with_said before o) ≡ length before + 1)
one_more before (Ok said) n f e ok h = (h, omega arith)
one_more before (Err d) n f e ok h = absurd (cc ok)

abbrev Exact : Progress → List ℕ → Result (Unit {0}) FaultKind → Progress → Type 0
Exact old line result new = IsLight line → TakesLineExactly (λ base before. said_by limited base before line) old new result

pub still_told : (base : Parts) (progress new : Progress) (n : ℕ) (line : List ℕ) (rest : List (List ℕ)) (e : Fault) (x : Unit {0}) → Exact progress line (Ok x) new
    → Telling base progress n (line ∷ rest) e → Telling base new (n + 1) rest e
still_told base progress new n line rest e x takes t =
    let o = opened base t.before line rest t.front t.later e t.left_is t.light t.said in
    let taken : IsOk (said_by limited base t.before line) × (new ≡ progress_at base (with_said t.before (said_by limited base t.before line))) =
    subst (λ b. IsOk (said_by limited b t.before line) × (new ≡ progress_at b (with_said t.before (said_by limited b t.before line))))
    (same_base base progress t.before t.progress_is) (takes o.first t.before (own_base base progress t.before t.progress_is)) in
    let more = one_more t.before (said_by limited base t.before line) (length t.before + 1) (λ before. said_from (said_by limited base) before o.front) e taken.0 o.said in
    record {
      before = with_said t.before (said_by limited base t.before line);
      front = o.front;
      later = o.later;
      progress_is = taken.1;
      count = ap (λ k. k + 1) more.1 ∙ ap (λ k. k + 1) t.count;
      none = none_yet t.before (said_by limited base t.before line) taken.0 (line_keeps t.before base line o.first) t.none;
      left_is = o.left_is;
      light = o.light;
      said = more.0;
    }

its_fault : (o : Outcome Said) (kind : FaultKind) → Lacks o → o ≡ Err kind → kind ≢ OutOfMemory
its_fault (Ok x) kind h is = absurd (cc is)
its_fault (Err e) kind h is = λ f. h (let same : e ≡ kind = cc in same ∙ f)

pub is_told : (base : Parts) (progress new : Progress) (n : ℕ) (line : List ℕ) (rest : List (List ℕ)) (e : Fault) (kind : FaultKind) → Exact progress line (Err kind) new
    → Telling base progress n (line ∷ rest) e → fault_at_line kind n ≡ e
is_told base progress new n line rest e kind takes t =
    let o = opened base t.before line rest t.front t.later e t.left_is t.light t.said in
    let says : said_by limited base t.before line ≡ Err kind =
    subst (λ b. said_by limited b t.before line ≡ Err kind) (same_base base progress t.before t.progress_is) (takes o.first t.before (own_base base progress t.before t.progress_is)) in
    let some = its_fault (said_by limited base t.before line) kind (light_line base t.before line o.first) says in
    let at : said_from (said_by limited base) t.before (line ∷ o.front) ≡ Err (record { kind = kind; line = n }) =
    ap (λ x. at_line (length t.before + 1) x (λ said. said_from (said_by limited base) (said ∷ t.before) o.front)) says
    ∙ ap (λ k. Err (record { kind = kind; line = k })) t.count in
    let same : (record { kind = kind; line = n }) ≡ e = inner (sym at ∙ o.said) in
    ap (λ k. record { kind = kind; line = k }) (kept_line kind n some) ∙ same
  where
    inner : {a b : Fault} → (let l : Result (List Said) Fault = Err a in l) ≡ Err b → a ≡ b
    inner h = cc

-- ---- a reading

-- if such a fault is still to be met, no segment is read
pub none_read : {base : Parts} {progress : Progress} {n : ℕ} {left : List (List ℕ)} {e : Fault} → Telling base progress n left e → progress.segments ≡ []
none_read t = ap (λ (p : Progress). p.segments) t.progress_is ∙ t.none

-- before its first line
pub told_at : (base : Parts) (reading : Reading) (tail body : List (List ℕ)) → left_in reading ++ tail ≡ body → reading.number ≡ 2
    → ((all : List (List ℕ)) → IsToBeTold base reading.progress 2 all all)
    → (front later : List (List ℕ)) (e : Fault) → body ≡ front ++ later → AreLight front → said_from (said_by limited base) (nothing ∷ []) front ≡ Err e
    → Telling base reading.progress reading.number (left_in reading ++ tail) e
told_at base reading tail body whole first light front later e is are_light said = grind arith

-- after its last one
pub told_after : {base : Parts} {e : Fault} (tail : List (List ℕ)) (reading : Reading) → reading.lines ≡ []
    → Telling base reading.progress reading.number (left_in reading ++ tail) e → Telling base reading.progress reading.number tail e
told_after {base = base} {e = e} tail reading none t = grind arith
