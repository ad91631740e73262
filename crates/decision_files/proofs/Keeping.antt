-- What a decision file says keeps the rules of pods.
use Rattle.std.proofs.Common.{ap, suc, ◌≡◌, ◌≤◌, ℕ, ◌+◌, ◌^◌, Bool, true, false, not, cond, List, [], ◌∷◌, ◌++◌, length, map, sum, codes, refl, sym, ◌∙◌, subst, Some, None, arith, length-append}
use Rattle.std.specs.Prelude.{Option, Ok, Err, ◌==◌, nat_lt, nat_le, unwrap_or, is_some, bytes_eq}
use Rattle.std.specs.Str.{is_utf8, chars}
use Rattle.std.specs.List.{list_all, list_any}
use Rattle.std.proofs.lemmas.Bool.{and_from, le-leb}
use Rattle.std.proofs.lemmas.Bool.Decides.{nat_tests}
use Rattle.std.proofs.lemmas.List.{length-map, map-append}
use Rattle.std.proofs.lemmas.List.Sums.{sum_by_push}
use Rattle.std.proofs.lemmas.List.Folds.{list_all-append}
use Rattle.fixed_duration.specs.Duration.{duration_of}
use Rattle.playlist_model.specs.declared.ByteRange.{ByteRange}
use Rattle.playlist_model.specs.declared.Key.{Key}
use Rattle.pod_store.specs.Limits.{most_pod_segments}
use Rattle.pod_store.specs.Pods.{PodSegment, Ad, Pod, Decision, is_id, is_uri, is_key_method, is_format, segment_count}
use Rattle.serde_json.specs.Data.{Data}
use Rattle.serde_json.specs.Find.{get, as_null, as_str, as_object}
use Rattle.pod_store.specs.declared.Decisions.{Decisions}
use Rattle.pod_store.specs.declared.Decisions.TheVariants.{Breaks, Withdraw, Fallback, NoFallback}
use Rattle.pod_store.specs.declared.fault.DecisionFault.{DecisionFault}
use Rattle.pod_store.specs.declared.fault.Place.{Place}
use Rattle.pod_store.specs.declared.fault.DecisionKind.TheVariants.{Shape, BadUri, BadDuration, BadKey, EmptyPod, TooMany}
use Rattle.spec_words.specs.Outcomes.{◌>>=◌, or_fault, mended, refuse_if, optional, some_value, each_after}
use Rattle.pod_store.specs.Outcome.{DecisionOutcome, fault_at, nowhere, in_break, in_ad, in_segment}
use Rattle.decision_files.specs.Json.{json_text_in_decision_file, json_list_in_decision_file, json_values_in_decision_file}
use Rattle.decision_files.specs.Decided as said
use Rattle.pod_store.specs.Rules.{byte_range_fits, segment_keeps, key_keeps, ad_keeps, ads_keep}
use Rattle.writable.specs.Fitting.{iv_is_writable}
use Rattle.writable.proofs.Hexadecimal.{hex_is_iv}
use Rattle.decision_files.proofs.Bounds.{duration_is_small}

-- ---- steps that are passed

pub record Passed {A B : Type 0} (first : DecisionOutcome A) (next : A → DecisionOutcome B) (y : B) : Type 0 where
  pub x : A
  pub was : first ≡ Ok x
  pub then : next x ≡ Ok y

module _ {A B : Type 0} where
  bind_ok : (m : DecisionOutcome A) (f : A → DecisionOutcome B) (y : B) → (m >>= f) ≡ Ok y → Passed m f y
  bind_ok (Ok x) f y h = record { x = x; was = refl; then = h }
  bind_ok (Err e) f y h = absurd (cc)

  -- what holds of each answer of what follows, holds of the answer
  after : (P : B → Type 0) (m : DecisionOutcome A) (f : A → DecisionOutcome B) → ((x : A) → m ≡ Ok x → (y : B) → f x ≡ Ok y → P y) → (y : B) → (m >>= f) ≡ Ok y → P y
  after P m f each y h = let p = bind_ok m f y h in each p.x p.was y p.then

passed : {A : Type 0} (P : A → Type 0) (test : Bool) (e : DecisionFault) (o : DecisionOutcome A) → (test ≡ false → (x : A) → o ≡ Ok x → P x) → (x : A) → refuse_if test e o ≡ Ok x → P x
passed P true e o each x h = absurd (cc)
passed P false e o each x h = each refl x h

abbrev Are : {A : Type 0} → DecisionOutcome A → DecisionOutcome A → Type 0
Are a b = a ≡ b

same_ok : {A : Type 0} (x y : A) → Are (Ok x) (Ok y) → x ≡ y
same_ok x y h = cc

answers : {A : Type 0} (P : A → Type 0) (x : A) → P x → (y : A) → Are (Ok x) (Ok y) → P y
answers P x p y h = subst P (same_ok x y h) p

not_is : (b : Bool) → not b ≡ false → b ≡ true
not_is true e = refl
not_is false e = absurd (cc)

-- ---- ranges and parts

abbrev Fit : Option ByteRange → Type 0
Fit byte_range = byte_range_fits byte_range ≡ true

byte_range_is : (place : Place) (o l : Option Data) (byte_range : Option ByteRange) → said.byte_range_from place o l ≡ Ok byte_range → Fit byte_range
byte_range_is place o l = grind arith

abbrev PartKeeps : said.Part → Type 0
PartKeeps part = (is_uri part.0 ≡ true) × Fit part.1

part_keeps : (place : Place) (uri : List ℕ) (d : Data) (part : said.Part) → said.part_said_by_decision_file place uri d ≡ Ok part → PartKeeps part
part_keeps place uri d =
    passed PartKeeps (not (is_uri uri)) (fault_at place BadUri) (said.byte_range_said_by_decision_file place d >>= λ byte_range. Ok (uri, byte_range))
    (λ t. after PartKeeps (said.byte_range_said_by_decision_file place d) (λ byte_range. Ok (uri, byte_range))
    (λ byte_range was. answers PartKeeps (uri, byte_range) (not_is _ t, byte_range_is place (get (codes "offset") d) (get (codes "length") d) byte_range was)))

-- ---- segments

abbrev Keeps : PodSegment → Type 0
Keeps s = segment_keeps s ≡ true

small : (e : DecisionFault) (text : List ℕ) (n : ℕ) → mended e (duration_of text) ≡ Ok n → nat_lt n (10 ^ 15) ≡ true
small e text n h = grind (arith, same_ok, duration_is_small)

texts_keep : (place : Place) (uri duration : List ℕ) (d : Data) (s : PodSegment) → said.segment_texts_in_decision_file place uri duration d ≡ Ok s → Keeps s
texts_keep place uri duration d =
    after Keeps (said.part_said_by_decision_file place uri d) (λ part. mended (fault_at place BadDuration) (duration_of duration) >>= λ nanos. Ok (record { uri = part.0; byte_range = part.1; duration = nanos }))
    (λ part was. after Keeps (mended (fault_at place BadDuration) (duration_of duration)) (λ nanos. Ok (record { uri = part.0; byte_range = part.1; duration = nanos }))
    (λ nanos is. let k = part_keeps place uri d part was in
    answers Keeps (record { uri = part.0; byte_range = part.1; duration = nanos }) (and_from _ _ (and_from _ _ k.0 k.1) (small (fault_at place BadDuration) duration nanos is))))

said_keeps : (place : Place) (d : Data) (s : PodSegment) → said.segment_said_by_decision_file place d ≡ Ok s → Keeps s
said_keeps place d =
    after Keeps (or_fault (fault_at place Shape) (json_text_in_decision_file (codes "uri") d)) (λ uri. or_fault (fault_at place Shape) (json_text_in_decision_file (codes "duration") d) >>= λ duration. said.segment_texts_in_decision_file place uri duration d)
    (λ uri was. after Keeps (or_fault (fault_at place Shape) (json_text_in_decision_file (codes "duration") d)) (λ duration. said.segment_texts_in_decision_file place uri duration d)
    (λ duration is. texts_keep place uri duration d))

next_keeps : (ad : Place) (before : ℕ) (done : List PodSegment) (d : Data) (s : PodSegment) → said.next_segment_of_decision_file ad before done d ≡ Ok s → Keeps s
next_keeps ad before done d =
    passed Keeps (nat_le most_pod_segments (before + length done)) (fault_at (in_segment ad (length done)) TooMany) (said.segment_said_by_decision_file (in_segment ad (length done)) d)
    (λ t. said_keeps (in_segment ad (length done)) d)

-- ---- lists

module _ {A B : Type 0} (test : B → Bool) (next : List B → A → DecisionOutcome B) (keeps : (done : List B) (x : A) (y : B) → next done x ≡ Ok y → test y ≡ true) where
  pub each_keeps : (done : List B) (xs : List A) → list_all test done ≡ true → (ys : List B) → each_after next done xs ≡ Ok ys → list_all test ys ≡ true
  each_keeps done [] h = answers (λ ys. list_all test ys ≡ true) done h
  each_keeps done (x ∷ xs) h =
      after (λ ys. list_all test ys ≡ true) (next done x) (λ y. each_after next (done ++ y ∷ []) xs)
      (λ y was. each_keeps (done ++ y ∷ []) xs (list_all-append test done (y ∷ []) ∙ and_from _ _ h (and_from _ _ (keeps done x y was) refl)))

-- ---- an ad's map and key

abbrev KeyKeeps : Key → Type 0
KeyKeeps k = key_keeps k ≡ true

abbrev HasFormat : Option (List ℕ) → Type 0
HasFormat o = is_format (unwrap_or o (codes "identity")) ≡ true

identity_is : HasFormat None
unfolding chars is_utf8 lib.Utf8.encode
identity_is = refl

method_is : (place : Place) (d : Data) (m : List ℕ) → said.method_said_by_decision_file place d ≡ Ok m → is_key_method m ≡ true
method_is place d = grind arith

key_uri_is : (place : Place) (d : Data) (m : List ℕ) → said.key_uri_said_by_decision_file place d ≡ Ok m → is_uri m ≡ true
key_uri_is place d =
    after (λ m. is_uri m ≡ true) (or_fault (fault_at place BadKey) (json_text_in_decision_file (codes "uri") d)) (λ m. refuse_if (not (is_uri m)) (fault_at place BadUri) (Ok m))
    (λ m was. passed (λ x. is_uri x ≡ true) (not (is_uri m)) (fault_at place BadUri) (Ok m) (λ t. answers (λ x. is_uri x ≡ true) m (not_is _ t)))

format_is : (place : Place) (d : Data) (m : List ℕ) → said.format_said_by_decision_file place d ≡ Ok m → is_format m ≡ true
format_is place d = grind arith

some_is : {A : Type 0} (P : Option A → Type 0) (o : DecisionOutcome A) → ((x : A) → o ≡ Ok x → P (Some x)) → (y : Option A) → some_value o ≡ Ok y → P y
some_is P (Ok x) each = answers P (Some x) (each x refl)
some_is P (Err e) each = λ y h. absurd (cc)

optional_is : {A B : Type 0} (P : Option B → Type 0) (read : A → DecisionOutcome B) (o : Option A) → P None → ((a : A) (x : B) → read a ≡ Ok x → P (Some x)) → (y : Option B) → optional read o ≡ Ok y → P y
optional_is P read None none each = answers P None none
optional_is P read (Some a) none each = some_is P (read a) (each a)

found : {A : Type 0} (e : DecisionFault) (o : Option A) (x : A) → or_fault e o ≡ Ok x → o ≡ Some x
found e None x h = absurd (cc)
found e (Some y) x h = ap Some (same_ok y x h)

iv_is : (place : Place) (d : Data) (n : ℕ) → said.iv_said_by_decision_file place d ≡ Ok n → iv_is_writable n ≡ true
iv_is place d = grind (arith, codes, hex_is_iv, found)

abbrev key : List ℕ → List ℕ → ℕ → Option (List ℕ) → Key
key method uri iv format = record { format = unwrap_or format (codes "identity"); method = method; uri = uri; iv = Some iv; other_attributes = [] }

members_keep : (place : Place) (d : Data) (k : Key) → said.key_members_in_decision_file place d ≡ Ok k → KeyKeeps k
members_keep place d =
    after KeyKeeps (said.method_said_by_decision_file place d) (λ method. said.key_uri_said_by_decision_file place d >>= λ uri. said.iv_said_by_decision_file place d >>= λ iv. optional (said.format_said_by_decision_file place) (get (codes "format") d) >>= λ format. Ok (key method uri iv format))
    (λ method m. after KeyKeeps (said.key_uri_said_by_decision_file place d) (λ uri. said.iv_said_by_decision_file place d >>= λ iv. optional (said.format_said_by_decision_file place) (get (codes "format") d) >>= λ format. Ok (key method uri iv format))
    (λ uri u. after KeyKeeps (said.iv_said_by_decision_file place d) (λ iv. optional (said.format_said_by_decision_file place) (get (codes "format") d) >>= λ format. Ok (key method uri iv format))
    (λ iv i. after KeyKeeps (optional (said.format_said_by_decision_file place) (get (codes "format") d)) (λ format. Ok (key method uri iv format))
    (λ format f. answers KeyKeeps (key method uri iv format)
    (and_from _ _ (and_from _ _ (and_from _ _ (and_from _ _ (method_is place d method m) (key_uri_is place d uri u)) (iv_is place d iv i))
    (optional_is HasFormat (said.format_said_by_decision_file place) (get (codes "format") d) identity_is (λ a x e. format_is place a x e) format f)) refl)))))

key_is : (place : Place) (d : Data) (k : Key) → said.key_said_by_decision_file place d ≡ Ok k → KeyKeeps k
key_is place d = after KeyKeeps (or_fault (fault_at place Shape) (as_object d)) (λ members. said.key_members_in_decision_file place d) (λ members was. members_keep place d)

init_section_is : (place : Place) (d : Data) (part : said.Part) → said.init_section_said_by_decision_file place d ≡ Ok part → PartKeeps part
init_section_is place d = after PartKeeps (or_fault (fault_at place Shape) (json_text_in_decision_file (codes "uri") d)) (λ uri. said.part_said_by_decision_file place uri d) (λ uri was. part_keeps place uri d)

-- ---- ads

abbrev OptionalPart : Option said.Part → Type 0
OptionalPart None = Unit {0}
OptionalPart (Some part) = PartKeeps part

abbrev OptionalKey : Option Key → Type 0
OptionalKey None = Unit {0}
OptionalKey (Some key) = KeyKeeps key

abbrev SegmentsKeep : List PodSegment → Type 0
SegmentsKeep segments = (nat_lt 0 (length segments) ≡ true) × (list_all segment_keeps segments ≡ true)

abbrev AdKeeps : Ad → Type 0
AdKeeps ad = ad_keeps ad ≡ true

none_after : {A B : Type 0} (next : List B → A → DecisionOutcome B) (done : List B) (xs : List A) (n : ℕ) → length done ≡ n → (ys : List B) → each_after next done xs ≡ Ok ys → length ys ≡ n + length xs
none_after next done [] n e = answers (λ ys. length ys ≡ n + 0) done (omega (arith, e))
none_after {B = B} next done (x ∷ xs) n e =
    after (λ ys. length ys ≡ n + length (x ∷ xs)) (next done x) (λ y. each_after next (done ++ y ∷ []) xs)
    (λ y was ys h. more (length ys) (length xs) (none_after next (done ++ y ∷ []) xs (n + 1) (one_more done y n e) ys h))
  where
    one_more : (done : List B) (y : B) (n : ℕ) → length done ≡ n → length (done ++ y ∷ []) ≡ n + 1
    one_more done y n e = grind (arith, length-append)

    more : (a b : ℕ) → a ≡ n + 1 + b → a ≡ n + suc b
    more a b h = omega (arith, h)

not_none : (n : ℕ) → (n == 0) ≡ false → nat_lt 0 n ≡ true
not_none n h = grind (arith, nat_tests)

some_read : {A B : Type 0} (next : List B → A → DecisionOutcome B) (xs : List A) (ys : List B) → (length xs == 0) ≡ false → each_after next [] xs ≡ Ok ys → nat_lt 0 (length ys) ≡ true
some_read next xs ys some h = let e : length ys ≡ length xs = omega (arith, none_after next [] xs 0 refl ys h) in subst (λ n. nat_lt 0 n ≡ true) (sym e) (not_none (length xs) some)

segments_keep : (ad : Place) (before : ℕ) (d : Data) (segments : List PodSegment) → said.segments_said_by_decision_file ad before d ≡ Ok segments → SegmentsKeep segments
segments_keep ad before d =
    after SegmentsKeep (or_fault (fault_at ad Shape) (json_list_in_decision_file (codes "segments") d))
    (λ list. refuse_if (length list == 0) (fault_at ad EmptyPod) (each_after (said.next_segment_of_decision_file ad before) [] list))
    (λ list was. passed SegmentsKeep (length list == 0) (fault_at ad EmptyPod) (each_after (said.next_segment_of_decision_file ad before) [] list)
    (λ some segments h. (
      some_read (said.next_segment_of_decision_file ad before) list segments some h,
      each_keeps segment_keeps (said.next_segment_of_decision_file ad before) (next_keeps ad before) [] list refl segments h,
    )))

ad_is : (part : Option said.Part) (key : Option Key) (segments : List PodSegment) → OptionalPart part → OptionalKey key → SegmentsKeep segments → AdKeeps (said.ad_of_decision_file part key segments)
ad_is part key segments p k s = grind arith

ad_said_keeps : (ad : Place) (before : ℕ) (d : Data) (a : Ad) → said.ad_said_by_decision_file ad before d ≡ Ok a → AdKeeps a
ad_said_keeps ad before d =
    after AdKeeps (optional (said.init_section_said_by_decision_file ad) (get (codes "map") d))
    (λ part. optional (said.key_said_by_decision_file ad) (get (codes "key") d) >>= λ key. said.segments_said_by_decision_file ad before d >>= λ segments. Ok (said.ad_of_decision_file part key segments))
    (λ part p. after AdKeeps (optional (said.key_said_by_decision_file ad) (get (codes "key") d)) (λ key. said.segments_said_by_decision_file ad before d >>= λ segments. Ok (said.ad_of_decision_file part key segments))
    (λ key k. after AdKeeps (said.segments_said_by_decision_file ad before d) (λ segments. Ok (said.ad_of_decision_file part key segments))
    (λ segments s. answers AdKeeps (said.ad_of_decision_file part key segments)
    (ad_is part key segments (optional_is OptionalPart (said.init_section_said_by_decision_file ad) (get (codes "map") d) tt (λ a x e. init_section_is ad a x e) part p)
    (optional_is OptionalKey (said.key_said_by_decision_file ad) (get (codes "key") d) tt (λ a x e. key_is ad a x e) key k)
    (segments_keep ad before d segments s)))))

-- the ads that are read keep the rules
pub ads_read_keep : (pod : Place) (list : List Data) (ads : List Ad) → (length list == 0) ≡ false → each_after (said.next_ad pod) [] list ≡ Ok ads → sum (map segment_count ads) ≤ most_pod_segments → ads_keep ads ≡ true
ads_read_keep pod list ads some h most =
    and_from _ _ (and_from _ _ (some_read (said.next_ad pod) list ads some h) (le-leb _ _ most))
    (each_keeps ad_keeps (said.next_ad pod) (λ done d a e. ad_said_keeps (in_ad pod (length done)) (sum (map segment_count done)) d a e) [] list refl ads h)

pub some_seen : {A B : Type 0} (f : A → B) (xs : List A) → (length xs == 0) ≡ false → (length (map f xs) == 0) ≡ false
some_seen f xs h = rw (length-map xs f) h

-- ---- no pod has more segments than one may have

module _ {A B : Type 0} (next : List B → A → DecisionOutcome B) (before : ℕ)
    (below : (done : List B) (x : A) (y : B) → next done x ≡ Ok y → nat_le most_pod_segments (before + length done) ≡ false) where
  one_below : (done : List B) (y : B) → nat_le most_pod_segments (before + length done) ≡ false → before + length (done ++ y ∷ []) ≤ most_pod_segments
  one_below done y h = grind (arith, length-append, nat_tests)

  few_after : (done : List B) (xs : List A) → before + length done ≤ most_pod_segments → (ys : List B) → each_after next done xs ≡ Ok ys → before + length ys ≤ most_pod_segments
  few_after done [] h = answers (λ ys. before + length ys ≤ most_pod_segments) done h
  few_after done (x ∷ xs) h =
      after (λ ys. before + length ys ≤ most_pod_segments) (next done x) (λ y. each_after next (done ++ y ∷ []) xs)
      (λ y was. few_after (done ++ y ∷ []) xs (one_below done y (below done x y was)))

next_below : (ad : Place) (before : ℕ) (done : List PodSegment) (d : Data) (s : PodSegment) → said.next_segment_of_decision_file ad before done d ≡ Ok s → nat_le most_pod_segments (before + length done) ≡ false
next_below ad before done d =
    passed (λ s. nat_le most_pod_segments (before + length done) ≡ false) (nat_le most_pod_segments (before + length done)) (fault_at (in_segment ad (length done)) TooMany) (said.segment_said_by_decision_file (in_segment ad (length done)) d)
    (λ t s h. t)

abbrev IsFew : ℕ → Ad → Type 0
IsFew before ad = before + segment_count ad ≤ most_pod_segments

few_segments : (ad : Place) (before : ℕ) → before ≤ most_pod_segments → (d : Data) (segments : List PodSegment) → said.segments_said_by_decision_file ad before d ≡ Ok segments → before + length segments ≤ most_pod_segments
few_segments ad before most d =
    after (λ segments. before + length segments ≤ most_pod_segments) (or_fault (fault_at ad Shape) (json_list_in_decision_file (codes "segments") d))
    (λ list. refuse_if (length list == 0) (fault_at ad EmptyPod) (each_after (said.next_segment_of_decision_file ad before) [] list))
    (λ list was. passed (λ segments. before + length segments ≤ most_pod_segments) (length list == 0) (fault_at ad EmptyPod) (each_after (said.next_segment_of_decision_file ad before) [] list)
    (λ some. few_after (said.next_segment_of_decision_file ad before) before (next_below ad before) [] list (omega (arith, most))))

ad_is_few : (ad : Place) (before : ℕ) → before ≤ most_pod_segments → (d : Data) (a : Ad) → said.ad_said_by_decision_file ad before d ≡ Ok a → IsFew before a
ad_is_few ad before most d =
    after (IsFew before) (optional (said.init_section_said_by_decision_file ad) (get (codes "map") d))
    (λ part. optional (said.key_said_by_decision_file ad) (get (codes "key") d) >>= λ key. said.segments_said_by_decision_file ad before d >>= λ segments. Ok (said.ad_of_decision_file part key segments))
    (λ part p. after (IsFew before) (optional (said.key_said_by_decision_file ad) (get (codes "key") d)) (λ key. said.segments_said_by_decision_file ad before d >>= λ segments. Ok (said.ad_of_decision_file part key segments))
    (λ key k. after (IsFew before) (said.segments_said_by_decision_file ad before d) (λ segments. Ok (said.ad_of_decision_file part key segments))
    (λ segments s. answers (IsFew before) (said.ad_of_decision_file part key segments) (few_segments ad before most d segments s))))

counts_with : (ads : List Ad) (ad : Ad) → sum (map segment_count (ads ++ ad ∷ [])) ≡ sum (map segment_count ads) + segment_count ad
counts_with ads ad = ap sum (map-append segment_count ads (ad ∷ [])) ∙ sum_by_push (λ n. n) (map segment_count ads) (segment_count ad)

abbrev AreFew : List Ad → Type 0
AreFew ads = sum (map segment_count ads) ≤ most_pod_segments

few_ads : (pod : Place) (done : List Ad) (list : List Data) → AreFew done → (ads : List Ad) → each_after (said.next_ad pod) done list ≡ Ok ads → AreFew ads
few_ads pod done [] h = answers AreFew done h
few_ads pod done (d ∷ list) h =
    after AreFew (said.next_ad pod done d) (λ ad. each_after (said.next_ad pod) (done ++ ad ∷ []) list)
    (λ ad was. let few = ad_is_few (in_ad pod (length done)) (sum (map segment_count done)) h d ad was in
    few_ads pod (done ++ ad ∷ []) list (omega (arith, few, counts_with done ad)))

-- ---- what a file says

abbrev PodKeeps : Pod → Type 0
PodKeeps pod = ads_keep pod.ads ≡ true

pod_is : (place : Place) (list : List Data) (pod : Pod) → said.pod_said_by_decision_file place list ≡ Ok pod → PodKeeps pod
pod_is place list =
    passed PodKeeps (length list == 0) (fault_at place EmptyPod) (each_after (said.next_ad place) [] list >>= λ ads. Ok (record { ads = ads }))
    (λ some. after PodKeeps (each_after (said.next_ad place) [] list) (λ ads. Ok (record { ads = ads }))
    (λ ads was. answers PodKeeps (record { ads = ads }) (ads_read_keep place list ads some was (few_ads place [] list (omega arith) ads was))))

abbrev pub decision_keeps : Decision → Bool
decision_keeps decision = ads_keep decision.1.ads

decision_is : (done : List Decision) (d : Data) (decision : Decision) → said.next_break done d ≡ Ok decision → decision_keeps decision ≡ true
decision_is done d =
    after (λ x. decision_keeps x ≡ true) (said.id_said_by_decision_file (length done) d)
    (λ id. or_fault (fault_at (in_break (length done)) Shape) (json_list_in_decision_file (codes "ads") d) >>= λ ads. refuse_if (list_any (bytes_eq id) (map said.decision_id done)) (fault_at (in_break (length done)) Shape) (said.pod_said_by_decision_file (in_break (length done)) ads >>= λ pod. Ok (id, pod)))
    (λ id was. after (λ x. decision_keeps x ≡ true) (or_fault (fault_at (in_break (length done)) Shape) (json_list_in_decision_file (codes "ads") d))
    (λ ads. refuse_if (list_any (bytes_eq id) (map said.decision_id done)) (fault_at (in_break (length done)) Shape) (said.pod_said_by_decision_file (in_break (length done)) ads >>= λ pod. Ok (id, pod)))
    (λ ads is. passed (λ x. decision_keeps x ≡ true) (list_any (bytes_eq id) (map said.decision_id done)) (fault_at (in_break (length done)) Shape) (said.pod_said_by_decision_file (in_break (length done)) ads >>= λ pod. Ok (id, pod))
    (λ new. after (λ x. decision_keeps x ≡ true) (said.pod_said_by_decision_file (in_break (length done)) ads) (λ pod. Ok (id, pod))
    (λ pod p. answers (λ x. decision_keeps x ≡ true) (id, pod) (pod_is (in_break (length done)) ads pod p)))))

-- all decided pods keep the rules
abbrev pub DecisionsKeep : Decisions → Type 0
DecisionsKeep (Breaks decisions) = list_all decision_keeps decisions ≡ true
DecisionsKeep (Withdraw id) = Unit {0}
DecisionsKeep (Fallback pod) = PodKeeps pod
DecisionsKeep NoFallback = Unit {0}

breaks_keep : (d : Data) (ds : Decisions) → said.breaks_said_by_decision_file d ≡ Ok ds → DecisionsKeep ds
breaks_keep d =
    after DecisionsKeep (or_fault (fault_at nowhere Shape) (json_values_in_decision_file d)) (λ breaks. each_after said.next_break [] breaks >>= λ all. Ok (Breaks all))
    (λ breaks was. after DecisionsKeep (each_after said.next_break [] breaks) (λ all. Ok (Breaks all))
    (λ all h. answers DecisionsKeep (Breaks all) (each_keeps decision_keeps said.next_break decision_is [] breaks refl all h)))

withdraw_keeps : (d : Data) (ds : Decisions) → said.withdrawal_said_by_decision_file d ≡ Ok ds → DecisionsKeep ds
withdraw_keeps d =
    after DecisionsKeep (or_fault (fault_at nowhere Shape) (as_str d)) (λ id. refuse_if (not (is_id id)) (fault_at nowhere Shape) (Ok (Withdraw id)))
    (λ id was. passed DecisionsKeep (not (is_id id)) (fault_at nowhere Shape) (Ok (Withdraw id)) (λ t. answers DecisionsKeep (Withdraw id) tt))

fallback_keeps : (d : Data) (ds : Decisions) → said.fallback_pod_of_decision_file d ≡ Ok ds → DecisionsKeep ds
fallback_keeps d =
    after DecisionsKeep (or_fault (fault_at nowhere Shape) (json_list_in_decision_file (codes "ads") d)) (λ ads. said.pod_said_by_decision_file nowhere ads >>= λ pod. Ok (Fallback pod))
    (λ ads was. after DecisionsKeep (said.pod_said_by_decision_file nowhere ads) (λ pod. Ok (Fallback pod))
    (λ pod p. answers DecisionsKeep (Fallback pod) (pod_is nowhere ads pod p)))

fallback_or_none : (none : Bool) (d : Data) (ds : Decisions) → cond none (Ok NoFallback) (said.fallback_pod_of_decision_file d) ≡ Ok ds → DecisionsKeep ds
fallback_or_none true d = answers DecisionsKeep NoFallback tt
fallback_or_none false d = fallback_keeps d

members_are : (breaks withdraw fallback : Option Data) (ds : Decisions) → said.members_said breaks withdraw fallback ≡ Ok ds → DecisionsKeep ds
members_are (Some d) None None = breaks_keep d
members_are None (Some d) None = withdraw_keeps d
members_are None None (Some d) = fallback_or_none (is_some (as_null d)) d
members_are None None None = λ ds h. absurd (cc)
members_are (Some a) (Some b) fallback = λ ds h. absurd (cc)
members_are (Some a) None (Some b) = λ ds h. absurd (cc)
members_are None (Some a) (Some b) = λ ds h. absurd (cc)

-- the pods of a decision file keep the rules of pods
pub decided_keep : (bytes : List ℕ) (ds : Decisions) → said.decisions_of bytes ≡ Ok ds → DecisionsKeep ds
decided_keep bytes = after DecisionsKeep (said.json_of_decision_file bytes) said.decisions_said_by_json (λ d was. members_are (get (codes "breaks") d) (get (codes "withdraw") d) (get (codes "fallback") d))
