-- A plain reference joins to what stands before the path of the base, or before its last segment, with the reference after it.
use Rattle.std.proofs.Math.Nat.{sub-zero}
use Rattle.std.proofs.lemmas.List.{get_or-reverse, length-reverse}
use Rattle.std.proofs.Common.{◌≡◌, ◌≢◌, ℕ, zero, suc, ◌+◌, ◌<◌, Bool, true, false, not, ◌&&◌, ◌||◌, ◌==◌, cond, List, [], ◌∷◌, ◌++◌, length, get_or, Some, None, Ok, All, IsAscii, sym, refl, ap, ◌∙◌, subst, ⊎_elim, append_assoc, append-nil, one-add, arith, take_all, eq-eqb}
use Rattle.std.specs.Prelude.{Option, Err, codes, is_some, unwrap_or, option_map}
use Rattle.std.specs.List.{concat, prefix_len, list_any}
use Rattle.std.specs.Char.{is_ascii_alphabetic, is_control}
use Rattle.std.proofs.lemmas.Bool.{cond-true, cond-false, cases_Bool, and_from, true≢false, and_parts, and_left, and_right, ne_eqb, or_from, not-true}
use Rattle.std.proofs.lemmas.Bool.Decides.{nat_tests}
use Rattle.std.proofs.lemmas.List.Elements.{All-nil, All-cons, All-head, All-tail, All-append, All-push, All-weaker}
use Rattle.std.proofs.lemmas.List.Folds.{list_any-append}
use Rattle.std.proofs.lemmas.Slice.Eq.{bytes_eq-Decides}
use Rattle.std.proofs.lemmas.Str.{chars-IsAscii, IsAscii-append, IsUtf8-from_ascii, is_utf8-from_IsUtf8}
use Rattle.std.proofs.lemmas.Str.Ascii.{IsAscii-from_all}
use Rattle.percent_encoding.specs.Percent.{IsKept, percent_encode}
use Rattle.percent_encoding.proofs.PercentLemmas.{percent_encode_unchanged}
use Rattle.url.specs.declared.sets.TheConstants.{PATH, SPECIAL_QUERY}
use Rattle.url.specs.declared.scheme.SchemeType.TheVariants.{SpecialNotFile}
use Rattle.url.specs.declared.slicing.Position.TheVariants.{AfterPort}
use Rattle.url.specs.Path.{dot_count, push_segment, parse_segments, shorten_path, parse_path}
use Rattle.url.specs.Input.{is_c0_control_or_space, is_tab_or_new_line, trim_c0_control_and_space, strip_tabs_and_new_lines, split_once}
use Rattle.url.specs.Scheme.{is_slash, is_special, is_file, scheme_type, scheme_len, default_port}
use Rattle.url.specs.Head.{head_only}
use Rattle.url.specs.Parts.{Parts, kind_of, has_authority, needs_guard, cannot_be_a_base, pieces, text_before, serialize, IsValid}
use Rattle.url.specs.Parser.{Parsed, and_then, with_path, with_tail, before_tail, leading_slashes, parse_relative, parse_body, parse_parts, split_scheme, parse_by_scheme, parse_url}
use Rattle.url.proofs.SetLemmas.{checked, kept_from_passes}
use Rattle.url.proofs.InputLemmas.{IsNot, Passes, split_once_none, split_once_at, filter_all, is_empty_nonempty, list_any_none, All_from_list_all}
use Rattle.url.proofs.PiecesLemmas.{concat-split}
use Rattle.url.proofs.ValidLemmas.{special_has_authority, base_from_authority}
use Rattle.playlist_model.specs.Lines.{has_control}
use Rattle.playlist_model.specs.Uri.{has_scheme, can_be_written, resolved, is_web_scheme}
use Rattle.playlist_model.specs.Uri.{is_uri_scheme_byte as scheme_byte}
use Rattle.uri_resolver.specs.Plain.{is_reference_path_byte, is_reference_query_byte, is_plain_reference_path, is_relative_reference, reference_begins_with_slash, is_rooted_reference, StandsBefore}

-- ---- bytes

abbrev IsPath : ℕ → Type 0
IsPath b = is_reference_path_byte b ≡ true

abbrev IsQuery : ℕ → Type 0
IsQuery b = is_reference_query_byte b ≡ true

path_below : (b : ℕ) → IsPath b → b < 128
path_below b plain = grind (arith, nat_tests)

query_below : (b : ℕ) → IsQuery b → b < 128
query_below b plain = grind (arith, nat_tests)

-- what a test that holds of each plain byte says, by looking at all of them
abbrev implied : (ℕ → Bool) → (ℕ → Bool) → ℕ → Bool
implied from test b = not (from b) || test b

holds : (c d : Bool) → (not c || d) ≡ true → c ≡ true → d ≡ true
holds c d either here = rw here at either

of_path : (test : ℕ → Bool) → ((k : ℕ) → k < 128 → implied is_reference_path_byte test k ≡ true) → (b : ℕ) → IsPath b → test b ≡ true
of_path test all b plain = holds (is_reference_path_byte b) (test b) (all b (path_below b plain)) plain

of_query : (test : ℕ → Bool) → ((k : ℕ) → k < 128 → implied is_reference_query_byte test k ≡ true) → (b : ℕ) → IsQuery b → test b ≡ true
of_query test all b plain = holds (is_reference_query_byte b) (test b) (all b (query_below b plain)) plain

-- visible, and neither `#` nor a quote
abbrev is_calm : ℕ → Bool
is_calm b = not (is_c0_control_or_space b) && not (is_tab_or_new_line b) && not (b == 35) && not (b == 34) && not (is_control b)

path_calm : (b : ℕ) → IsPath b → is_calm b ≡ true
path_calm b plain = of_path is_calm (checked (implied is_reference_path_byte is_calm) 128 refl) b plain

query_calm : (b : ℕ) → IsQuery b → is_calm b ≡ true
query_calm b plain = of_query is_calm (checked (implied is_reference_query_byte is_calm) 128 refl) b plain

-- ---- the path and the query

-- plain bytes of a path, of which none is a dot at the front of a segment
abbrev is_path : Bool → List ℕ → Bool
is_path at_front [] = true
is_path at_front (b ∷ bytes) = is_reference_path_byte b && not (at_front && b == 46) && is_path (b == 47) bytes

abbrev query_text : Option (List ℕ) → List ℕ
query_text None = []
query_text (Some query) = 63 ∷ query

abbrev AreQuery : Option (List ℕ) → Type 0
AreQuery None = Unit {0}
AreQuery (Some query) = All IsQuery query

-- a plain reference, cut before its query
record Cut (at_front : Bool) (reference : List ℕ) : Type 0 where
  path : List ℕ
  query : Option (List ℕ)
  whole : reference ≡ path ++ query_text query
  is_path : is_path at_front path ≡ true
  are_query : AreQuery query

record PlainStep (at_front : Bool) (b : ℕ) (rest : Bool) : Type 0 where
  byte : is_reference_path_byte b ≡ true
  no_dot : not (at_front && b == 46) ≡ true
  later : rest ≡ true

plain_step : (at_front : Bool) (b : ℕ) (later : Bool) → (is_reference_path_byte b && not (at_front && b == 46) && later) ≡ true → PlainStep at_front b later
plain_step at_front b later plain = grind arith

cut : (at_front : Bool) (reference : List ℕ) → is_plain_reference_path at_front reference ≡ true → Cut at_front reference
cut at_front [] plain = record { path = []; query = None; whole = refl; is_path = refl; are_query = tt }
cut at_front (b ∷ bytes) plain =
    ⊎_elim
    (λ (question : (b == 63) ≡ true).
    let same : b ≡ 63 = grind (arith, nat_tests) in
    let query = sym (cond-true _ _ _ question) ∙ plain in
    record { path = []; query = Some bytes; whole = ap (λ c. c ∷ bytes) same; is_path = refl; are_query = All_from_list_all is_reference_query_byte bytes query })
    (λ (other : (b == 63) ≡ false).
    let step = plain_step at_front b (is_plain_reference_path (b == 47) bytes) (sym (cond-false _ _ _ other) ∙ plain) in
    let rest = cut (b == 47) bytes step.later in
    record { path = b ∷ rest.path; query = rest.query; whole = ap (λ bs. b ∷ bs) rest.whole; is_path = and_from _ _ (and_from _ _ step.byte step.no_dot) rest.is_path; are_query = rest.are_query })
    (cases_Bool (b == 63))

path_bytes : (at_front : Bool) (bytes : List ℕ) → is_path at_front bytes ≡ true → All IsPath bytes
path_bytes at_front [] plain = All-nil IsPath
path_bytes at_front (b ∷ bytes) plain =
    let step = plain_step at_front b (is_path (b == 47) bytes) plain in
    All-cons IsPath b bytes step.byte (path_bytes (b == 47) bytes step.later)

abbrev IsCalm : ℕ → Type 0
IsCalm b = is_calm b ≡ true

calm_query : (query : Option (List ℕ)) → AreQuery query → All IsCalm (query_text query)
calm_query query are = grind (arith, All-nil, All-cons, All-weaker, query_calm)

calm_cut : (at_front : Bool) (reference : List ℕ) (c : Cut at_front reference) → All IsCalm reference
calm_cut at_front reference c =
    let path = All-weaker IsPath IsCalm path_calm c.path (path_bytes at_front c.path c.is_path) in
    subst (All IsCalm) (sym c.whole) (All-append IsCalm c.path (query_text c.query) path (calm_query c.query c.are_query))

-- ---- segments

-- a byte of a plain segment
abbrev is_inside : ℕ → Bool
is_inside b = is_reference_path_byte b && not (b == 47)

abbrev IsInside : ℕ → Type 0
IsInside b = is_inside b ≡ true

inside_kept : (b : ℕ) → IsInside b → IsKept PATH b
inside_kept b inside = let plain = (and_parts _ _ inside).0 in kept_from_passes is_reference_path_byte PATH refl b (path_below b plain) plain

query_kept : (b : ℕ) → IsQuery b → IsKept SPECIAL_QUERY b
query_kept b plain = kept_from_passes is_reference_query_byte SPECIAL_QUERY refl b (query_below b plain) plain

no_percent : (b : ℕ) → IsPath b → (b == 37) ≡ false
no_percent b plain = grind arith

no_dots : (s : List ℕ) → All IsInside s → get_or s 0 0 ≢ 46 → dot_count s ≡ 0
unfolding dot_count
no_dots s all first = grind (arith, no_percent, and_parts, All-head, ne_eqb)

push_plain : (path s : List ℕ) (is_last : Bool) → All IsInside s → get_or s 0 0 ≢ 46 → push_segment SpecialNotFile path s is_last ≡ path ++ 47 ∷ s
unfolding push_segment
push_plain path s is_last all first = grind (arith, no_dots, percent_encode_unchanged, All-weaker, inside_kept)

abbrev is_nil : List ℕ → Bool
is_nil [] = true
is_nil (b ∷ bytes) = false

not_nil : (s : List ℕ) (b : ℕ) → is_nil (s ++ b ∷ []) ≡ false
not_nil [] b = refl
not_nil (c ∷ s) b = refl

first_of_more : (s : List ℕ) (b : ℕ) → get_or s 0 0 ≢ 46 → not (is_nil s && b == 46) ≡ true → get_or (s ++ b ∷ []) 0 0 ≢ 46
first_of_more [] b first no_dot same = grind (arith, nat_tests)
first_of_more (c ∷ s) b first no_dot same = first same

no_slash : (b : ℕ) → IsPath b → (b == 47) ≡ false → is_slash SpecialNotFile b ≡ false
no_slash b plain other = grind arith

is_slash_byte : (b : ℕ) → (b == 47) ≡ true → b ≡ 47
is_slash_byte b slash = grind (arith, nat_tests)

is_one : {b : ℕ} → b ≡ 47 → is_slash SpecialNotFile b ≡ true
is_one same = rw same refl

plain_segments : (path s bytes : List ℕ) → All IsInside s → get_or s 0 0 ≢ 46 → is_path (is_nil s) bytes ≡ true → parse_segments SpecialNotFile path s bytes ≡ path ++ 47 ∷ (s ++ bytes)
unfolding parse_segments
plain_segments path s [] all first plain =
    push_plain path s true all first ∙ ap (λ t. path ++ 47 ∷ t) (sym (append-nil s))
plain_segments path s (b ∷ bytes) all first plain =
    let step = plain_step (is_nil s) b (is_path (b == 47) bytes) plain in
    ⊎_elim
    (λ slash.
    let same : b ≡ 47 = grind (arith, nat_tests) in
    let later = rw slash at step.later in
    cond-true _ _ _ (is_one same)
    ∙ ap (λ p. parse_segments SpecialNotFile p [] bytes) (push_plain path s false all first)
    ∙ plain_segments (path ++ 47 ∷ s) [] bytes (All-nil IsInside) (λ e. omega arith) later
    ∙ append_assoc path (47 ∷ s) (47 ∷ bytes)
    ∙ ap (λ x. path ++ 47 ∷ (s ++ x ∷ bytes)) (sym same))
    (λ other.
    let here : IsInside b = and_from _ _ step.byte (ap not other) in
    let later = rw other at step.later in
    cond-false _ _ _ (no_slash b step.byte other)
    ∙ plain_segments path (s ++ b ∷ []) bytes (All-push IsInside s b all here) (first_of_more s b first step.no_dot) (ap (λ f. is_path f bytes) (not_nil s b) ∙ later)
    ∙ ap (λ t. path ++ 47 ∷ t) (append_assoc s (b ∷ []) bytes))
    (cases_Bool (b == 47))

-- ---- the whole reference

visible : (b : ℕ) → IsCalm b → is_c0_control_or_space b ≡ false
visible b calm = grind arith

none_at_front : (xs : List ℕ) → (0 < length xs → IsCalm (get_or xs 0 0)) → prefix_len is_c0_control_or_space xs ≡ 0
none_at_front [] first = refl
none_at_front (x ∷ xs) first = cond-false _ _ _ (visible x (first (omega arith)))

untrimmed : (xs : List ℕ) → All IsCalm xs → trim_c0_control_and_space xs ≡ xs
unfolding trim_c0_control_and_space
untrimmed xs all = grind (arith, none_at_front, length-reverse, get_or-reverse, sub-zero, take_all)

no_tab : (b : ℕ) → IsCalm b → Passes (λ k. not (is_tab_or_new_line k)) b
no_tab b calm = (and_parts _ _ (and_parts _ _ (and_parts _ _ (and_parts _ _ calm).0).0).0).1

unstripped : (xs : List ℕ) → All IsCalm xs → strip_tabs_and_new_lines xs ≡ xs
unfolding strip_tabs_and_new_lines
unstripped xs all = grind (arith, filter_all, All-weaker, Passes, no_tab)

no_hash : (b : ℕ) → IsCalm b → IsNot 35 b
no_hash b calm same = grind arith

no_question : (b : ℕ) → IsPath b → IsNot 63 b
no_question b plain same = grind arith

split_query : (path : List ℕ) (query : Option (List ℕ)) → All IsPath path → split_once 63 (path ++ query_text query) ≡ (path, query)
split_query path query all = grind (arith, append-nil, split_once_none, All-weaker, IsNot, no_question, split_once_at)

path_no_colon : (b : ℕ) → IsPath b → (b == 58) ≡ false
path_no_colon b plain = grind arith

no_colon : (xs : List ℕ) (n : ℕ) → All IsPath xs → (get_or xs n 0 == 58) ≡ false
no_colon [] n all = refl
no_colon (x ∷ xs) zero all = path_no_colon x (All-head IsPath x xs all)
no_colon (x ∷ xs) (suc n) all = no_colon xs n (All-tail IsPath x xs all)

no_scheme : (xs : List ℕ) → All IsPath xs → split_scheme xs ≡ None
unfolding split_scheme
no_scheme xs all = cond-false _ _ _ (and_right _ _ (no_colon xs (scheme_len xs) all))

parts_of_plain : (base : Parts) (reference path : List ℕ) (query : Option (List ℕ)) → All IsCalm reference → reference ≡ path ++ query_text query → All IsPath path → cannot_be_a_base base ≡ false
    → parse_url (Some base) reference ≡ parse_parts base.scheme (Some base) path query None
unfolding parse_url
parts_of_plain base reference path query calm whole all can =
    let clean = ap strip_tabs_and_new_lines (untrimmed reference calm) ∙ unstripped reference calm in
    let hash = ap (split_once 35) clean ∙ split_once_none 35 reference (All-weaker IsCalm (IsNot 35) no_hash reference calm) in
    let question = ap (λ r. split_once 63 r.0) hash ∙ ap (split_once 63) whole ∙ split_query path query all in
    let scheme = ap (λ r. split_scheme r.0) question ∙ no_scheme path all in
    (λ i. parse_by_scheme (scheme i) (Some base) (question i).0 (question i).1 (hash i).1)
    ∙ cond-false _ _ _ (and_left _ _ can)

-- ---- what it is parsed as

-- the base with this path and query, and no fragment
abbrev at_path : Parts → List ℕ → Option (List ℕ) → Parts
at_path base path query = record (with_path (head_only base) path) { query = query; fragment = None }

escaped : (query : Option (List ℕ)) → AreQuery query → option_map (percent_encode SPECIAL_QUERY) query ≡ query
escaped query are = grind (arith, percent_encode_unchanged, All-weaker, query_kept)

tail : (base : Parts) (path : List ℕ) (query : Option (List ℕ)) → kind_of base ≡ SpecialNotFile → AreQuery query
    → with_tail (before_tail (with_path (head_only base) path) query None) query None ≡ at_path base path query
tail base path query kind are = grind (arith, cond-false, and_left, escaped)

-- the path of the base without its last segment
abbrev directory : Parts → List ℕ
directory base = shorten_path (kind_of base) base.path

no_slash_in_front : (b : ℕ) (bytes : List ℕ) → IsPath b → (b == 47) ≡ false → leading_slashes SpecialNotFile (b ∷ bytes) ≡ 0
unfolding leading_slashes
no_slash_in_front b bytes plain other = cond-false _ _ _ (no_slash b plain other)

relative : (base : Parts) (b : ℕ) (bytes : List ℕ) → kind_of base ≡ SpecialNotFile → IsPath b → (b == 47) ≡ false → parse_relative base (b ∷ bytes) ≡ Ok (with_path (head_only base) (parse_path SpecialNotFile (directory base) (b ∷ bytes)))
unfolding parse_relative
relative base b bytes kind plain other = grind (arith, no_slash_in_front)

one_slash : (bytes : List ℕ) → All IsPath bytes → reference_begins_with_slash bytes ≡ false → leading_slashes SpecialNotFile (47 ∷ bytes) ≡ 1
unfolding leading_slashes
one_slash [] all first = refl
one_slash (b ∷ bytes) all first = rw (no_slash b (All-head IsPath b bytes all) first) refl

rooted : (base : Parts) (bytes : List ℕ) → kind_of base ≡ SpecialNotFile → All IsPath bytes → reference_begins_with_slash bytes ≡ false → parse_relative base (47 ∷ bytes) ≡ Ok (with_path (head_only base) (parse_path SpecialNotFile [] bytes))
unfolding parse_relative
rooted base bytes kind all first = grind (arith, one_slash)

joins_at : (base : Parts) (reference : List ℕ) (b : ℕ) (bytes path : List ℕ) (query : Option (List ℕ)) → IsValid base → kind_of base ≡ SpecialNotFile → All IsCalm reference → reference ≡ (b ∷ bytes) ++ query_text query → All IsPath (b ∷ bytes) → AreQuery query
    → parse_relative base (b ∷ bytes) ≡ Ok (with_path (head_only base) path) → parse_url (Some base) reference ≡ Ok (at_path base path query)
unfolding parse_parts parse_body
joins_at base reference b bytes path query valid kind calm whole all are parsed =
    let can = base_from_authority base (special_has_authority base valid.head (ap is_special kind)) in
    let body = cond-false _ _ _ (ap is_file kind) ∙ parsed in
    parts_of_plain base reference (b ∷ bytes) query calm whole all can
    ∙ cond-false _ _ _ (is_empty_nonempty (b ∷ bytes) (omega arith))
    ∙ ap (λ r. and_then r (λ u. Ok (with_tail (before_tail u query None) query None))) body
    ∙ ap Ok (tail base path query kind are)

-- ---- its text

query_pieces : (path : List ℕ) (query : Option (List ℕ)) → concat ([] ∷ path ∷ cond (is_some query) (codes "?") [] ∷ unwrap_or query [] ∷ [] ∷ [] ∷ []) ≡ path ++ query_text query
query_pieces path None = refl
query_pieces path (Some query) = ap (λ t. path ++ 63 ∷ t) (append-nil query)

path_text : (base : Parts) (path : List ℕ) (query : Option (List ℕ)) → has_authority base ≡ true → serialize (at_path base path query) ≡ text_before base AfterPort ++ (path ++ query_text query)
path_text base path query authority =
    let url = at_path base path query in
    let guard : needs_guard url ≡ false = and_left _ _ (and_left _ _ (ap not authority)) in
    concat-split (pieces url) 9 ∙ ap (λ t. text_before base AfterPort ++ t) (rw guard (query_pieces path query))

abbrev from_ok : Parts → Parsed Parts → Parts
from_ok url (Ok found) = found
from_ok url (Err e) = url

dot_path : (path : List ℕ) → parse_path SpecialNotFile path (46 ∷ []) ≡ path ++ 47 ∷ []
unfolding parse_segments push_segment dot_count
dot_path path = refl

-- what a reference is parsed as, with its text
record Joins (base : Parts) (reference text : List ℕ) : Type 0 where
  url : Parts
  parses : parse_url (Some base) reference ≡ Ok url
  spelled : serialize url ≡ text

-- the first byte of a path that begins with this plain byte
record FirstOf (b : ℕ) (reference : List ℕ) : Type 0 where
  at_front : Cut true (b ∷ reference)
  bytes : List ℕ
  first : at_front.path ≡ b ∷ bytes

first_of : (b : ℕ) (bytes : List ℕ) → (b == 63) ≡ false → is_plain_reference_path true (b ∷ bytes) ≡ true → FirstOf b bytes
first_of b bytes other plain =
    let step = plain_step true b (is_plain_reference_path (b == 47) bytes) (sym (cond-false _ _ _ other) ∙ plain) in
    let rest = cut (b == 47) bytes step.later in
    record {
      at_front = record { path = b ∷ rest.path; query = rest.query; whole = ap (λ bs. b ∷ bs) rest.whole; is_path = and_from _ _ (and_from _ _ step.byte step.no_dot) rest.is_path; are_query = rest.are_query };
      bytes = rest.path;
      first = refl;
    }

dot_leads : (base here : Parts) → IsValid base → kind_of base ≡ SpecialNotFile → parse_url (Some base) (46 ∷ []) ≡ Ok here → here ≡ at_path base (directory base ++ 47 ∷ []) None
dot_leads base here valid kind dot =
    let one = All-cons IsPath 46 [] refl (All-nil IsPath) in
    let calm = All-cons IsCalm 46 [] refl (All-nil IsCalm) in
    ap (from_ok here) (sym dot ∙ joins_at base (46 ∷ []) 46 [] (parse_path SpecialNotFile (directory base) (46 ∷ [])) None valid kind calm refl one tt (relative base 46 [] kind refl refl))
    ∙ ap (λ p. at_path base p None) (dot_path (directory base))

relative_joins : (base here : Parts) (reference : List ℕ) → IsValid base → kind_of base ≡ SpecialNotFile → parse_url (Some base) (46 ∷ []) ≡ Ok here → is_relative_reference reference ≡ true → Joins base reference (serialize here ++ reference)
relative_joins base here [] valid kind dot plain = absurd (true≢false (sym plain))
relative_joins base here (b ∷ bytes) valid kind dot plain =
    let authority = special_has_authority base valid.head (ap is_special kind) in
    let parts = and_parts _ _ plain in
    let others = and_parts _ _ parts.0 in
    let f = first_of b bytes (not-true _ others.1) parts.1 in
    let c = f.at_front in
    let all = subst (All IsPath) f.first (path_bytes true c.path c.is_path) in
    let whole = c.whole ∙ ap (λ p. p ++ query_text c.query) f.first in
    let segments = ap (parse_path SpecialNotFile (directory base)) (sym f.first) ∙ plain_segments (directory base) [] c.path (All-nil IsInside) (λ e. omega arith) c.is_path in
    let there = joins_at base (b ∷ bytes) b f.bytes (parse_path SpecialNotFile (directory base) (b ∷ f.bytes)) c.query valid kind (calm_cut true (b ∷ bytes) c) whole all c.are_query (relative base b f.bytes kind (All-head IsPath b f.bytes all) (not-true _ others.0)) in
    let path = directory base ++ 47 ∷ c.path in
    let front = text_before base AfterPort in
    let text = path_text base path c.query authority in
    let before = ap serialize (dot_leads base here valid kind dot) ∙ path_text base (directory base ++ 47 ∷ []) None authority ∙ ap (λ t. front ++ t) (append-nil (directory base ++ 47 ∷ [])) in
    let apart : front ++ (path ++ query_text c.query) ≡ (front ++ (directory base ++ 47 ∷ [])) ++ (c.path ++ query_text c.query) =
    ap (λ t. front ++ t) (append_assoc (directory base) (47 ∷ c.path) (query_text c.query) ∙ sym (append_assoc (directory base) (47 ∷ []) (c.path ++ query_text c.query))) ∙ sym (append_assoc front (directory base ++ 47 ∷ []) (c.path ++ query_text c.query)) in
    record {
      url = at_path base path c.query;
      parses = there ∙ ap (λ p. Ok (at_path base p c.query)) segments;
      spelled = text ∙ apart ∙ ap (λ t. t ++ (c.path ++ query_text c.query)) (sym before) ∙ ap (λ t. serialize here ++ t) (sym c.whole);
    }

rooted_joins : (base : Parts) (reference : List ℕ) → IsValid base → kind_of base ≡ SpecialNotFile → is_rooted_reference reference ≡ true → Joins base reference (text_before base AfterPort ++ reference)
rooted_joins base [] valid kind plain = absurd (true≢false (sym plain))
rooted_joins base (b ∷ bytes) valid kind plain =
    let authority = special_has_authority base valid.head (ap is_special kind) in
    let parts = and_parts _ _ plain in
    let others = and_parts _ _ parts.0 in
    let slash : b ≡ 47 = is_slash_byte b others.0 in
    let c = cut true bytes parts.1 in
    let all = path_bytes true c.path c.is_path in
    let first = path_first c.path (query_text c.query) (ap reference_begins_with_slash (sym c.whole) ∙ not-true _ others.1) in
    let segments = plain_segments [] [] c.path (All-nil IsInside) (λ e. omega arith) c.is_path in
    let whole : b ∷ bytes ≡ (47 ∷ c.path) ++ query_text c.query = ap (λ x. x ∷ bytes) slash ∙ ap (λ bs. 47 ∷ bs) c.whole in
    let calm = subst (λ (x : ℕ). All IsCalm (x ∷ bytes)) (sym slash) (All-cons IsCalm 47 bytes refl (calm_cut true bytes c)) in
    let there = joins_at base (b ∷ bytes) 47 c.path (parse_path SpecialNotFile [] c.path) c.query valid kind calm whole (All-cons IsPath 47 c.path refl all) c.are_query (rooted base c.path kind all first) in
    record {
      url = at_path base (47 ∷ c.path) c.query;
      parses = there ∙ ap (λ p. Ok (at_path base p c.query)) segments;
      spelled = path_text base (47 ∷ c.path) c.query authority ∙ ap (λ t. text_before base AfterPort ++ t) (sym whole);
    }
  where
    path_first : (path rest : List ℕ) → reference_begins_with_slash (path ++ rest) ≡ false → reference_begins_with_slash path ≡ false
    path_first [] tail first = refl
    path_first (x ∷ path) tail first = first

-- ---- what can be written

scheme_stays : (d r : List ℕ) → get_or d (prefix_len scheme_byte d) 0 ≡ 58 → get_or (d ++ r) (prefix_len scheme_byte (d ++ r)) 0 ≡ 58
scheme_stays [] r = λ h. absurd (omega (arith, h))
scheme_stays (x ∷ d) r =
    elim (scheme_byte x) as (λ v. get_or (x ∷ d) (cond v (1 + prefix_len scheme_byte d) 0) 0 ≡ 58 → get_or (x ∷ d ++ r) (cond v (1 + prefix_len scheme_byte (d ++ r)) 0) 0 ≡ 58)
    [ true ↦ λ h. rw one-add (scheme_stays d r (rw one-add at h)) | false ↦ λ h. h ]

letter_stays : (d r : List ℕ) → is_ascii_alphabetic (get_or d 0 0) ≡ true → is_ascii_alphabetic (get_or (d ++ r) 0 0) ≡ true
letter_stays [] r letter = absurd (true≢false (sym letter))
letter_stays (x ∷ d) r letter = letter

has_scheme_stays : (d r : List ℕ) → has_scheme d ≡ true → has_scheme (d ++ r) ≡ true
has_scheme_stays d r scheme = grind (arith, and_parts, get_or, nat_tests, and_from, letter_stays, eq-eqb, scheme_stays)

calm_no_control : (b : ℕ) → IsCalm b → is_control b ≡ false
calm_no_control b calm = not-true _ (and_parts _ _ calm).1

calm_no_quote : (b : ℕ) → IsCalm b → (b == 34) ≡ false
calm_no_quote b calm = not-true _ (and_parts _ _ (and_parts _ _ calm).0).1

none_more : (test : ℕ → Bool) (d r : List ℕ) → list_any test d ≡ false → list_any test r ≡ false → list_any test (d ++ r) ≡ false
none_more test d r no_d no_r = list_any-append test d r ∙ or_from _ _ no_d no_r

still_written : (d r : List ℕ) → IsAscii d → IsAscii r → All IsCalm r → can_be_written d ≡ true → can_be_written (d ++ r) ≡ true
still_written d r ascii ascii_r calm written =
    let parts = and_parts _ _ written in
    let quotes = not-true _ parts.1 in
    let first = and_parts _ _ parts.0 in
    let scheme = (and_parts _ _ first.0).1 in
    let whole = IsAscii-append d r ascii ascii_r in
    let control_d = sym (ap (list_any is_control) (chars-IsAscii d ascii)) ∙ not-true _ first.1 in
    let control_r = list_any_none is_control r (All-weaker IsCalm (λ b. is_control b ≡ false) calm_no_control r calm) in
    let control : has_control (d ++ r) ≡ false = ap (list_any is_control) (chars-IsAscii (d ++ r) whole) ∙ none_more is_control d r control_d control_r in
    let quote = none_more (λ b. b == 34) d r quotes (list_any_none (λ b. b == 34) r (All-weaker IsCalm (λ b. (b == 34) ≡ false) calm_no_quote r calm)) in
    let text = is_utf8-from_IsUtf8 (d ++ r) (IsUtf8-from_ascii (d ++ r) whole) in
    and_from _ _ (and_from _ _ (and_from _ _ text (has_scheme_stays d r scheme)) (ap not control)) (ap not quote)

abbrev IsBelow : ℕ → Type 0
IsBelow b = b < 128

below_query : (query : Option (List ℕ)) → AreQuery query → All IsBelow (query_text query)
below_query query are = grind arith

ascii_cut : (at_front : Bool) (reference : List ℕ) (c : Cut at_front reference) → IsAscii reference
ascii_cut at_front reference c =
    let path = All-weaker IsPath IsBelow path_below c.path (path_bytes at_front c.path c.is_path) in
    IsAscii-from_all reference (subst (All IsBelow) (sym c.whole) (All-append IsBelow c.path (query_text c.query) path (below_query c.query c.are_query)))

colonless : (path : List ℕ) (query : Option (List ℕ)) → All IsPath path → (get_or (path ++ query_text query) (prefix_len scheme_byte (path ++ query_text query)) 0 == 58) ≡ false
colonless [] None all = refl
colonless [] (Some query) all = refl
colonless (b ∷ path) query all =
    elim (scheme_byte b) as (λ v. (get_or (b ∷ path ++ query_text query) (cond v (1 + prefix_len scheme_byte (path ++ query_text query)) 0) 0 == 58) ≡ false)
    [ true ↦ rw one-add (colonless path query (All-tail IsPath b path all)) | false ↦ path_no_colon b (All-head IsPath b path all) ]

resolves : (base : Parts) (front reference : List ℕ) → Joins base reference (front ++ reference) → has_scheme reference ≡ false → can_be_written (front ++ reference) ≡ true → resolved base reference ≡ Some (front ++ reference)
resolves base front reference joins none written = grind arith

-- if `.` leads to a text that can be written, that text stands before relative references
pub stands_before_relative : (base here : Parts) → IsValid base → kind_of base ≡ SpecialNotFile → parse_url (Some base) (46 ∷ []) ≡ Ok here → IsAscii (serialize here) → can_be_written (serialize here) ≡ true → StandsBefore base is_relative_reference (serialize here)
stands_before_relative base here valid kind dot ascii written [] plain = absurd (true≢false (sym plain))
stands_before_relative base here valid kind dot ascii written (b ∷ bytes) plain =
    let c = cut true (b ∷ bytes) (and_parts _ _ plain).1 in
    let none : has_scheme (b ∷ bytes) ≡ false = and_right _ _ (ap (λ t. get_or t (prefix_len scheme_byte t) 0 == 58) c.whole ∙ colonless c.path c.query (path_bytes true c.path c.is_path)) in
    resolves base (serialize here) (b ∷ bytes) (relative_joins base here (b ∷ bytes) valid kind dot plain) none
    (still_written (serialize here) (b ∷ bytes) ascii (ascii_cut true (b ∷ bytes) c) (calm_cut true (b ∷ bytes) c) written)

-- if what stands before the path of the base can be written, it stands before references from the root
pub stands_before_rooted : (base : Parts) → IsValid base → kind_of base ≡ SpecialNotFile → IsAscii (text_before base AfterPort) → can_be_written (text_before base AfterPort) ≡ true → StandsBefore base is_rooted_reference (text_before base AfterPort)
stands_before_rooted base valid kind ascii written [] plain = absurd (true≢false (sym plain))
stands_before_rooted base valid kind ascii written (b ∷ bytes) plain =
    let parts = and_parts _ _ plain in
    let begins : (b == 47) ≡ true = (and_parts _ _ parts.0).0 in
    let slash : b ≡ 47 = is_slash_byte b begins in
    let c = cut true bytes parts.1 in
    let front = text_before base AfterPort in
    let none : has_scheme (b ∷ bytes) ≡ false = and_left _ _ (ap is_ascii_alphabetic slash) in
    let calm = subst (λ (x : ℕ). All IsCalm (x ∷ bytes)) (sym slash) (All-cons IsCalm 47 bytes refl (calm_cut true bytes c)) in
    let ascii_r = subst (λ (x : ℕ). IsAscii (x ∷ bytes)) (sym slash) (IsAscii-append (47 ∷ []) bytes (IsAscii-from_all (47 ∷ []) (All-cons IsBelow 47 [] (omega arith) (All-nil IsBelow))) (ascii_cut true bytes c)) in
    resolves base front (b ∷ bytes) (rooted_joins base (b ∷ bytes) valid kind plain) none (still_written front (b ∷ bytes) ascii ascii_r calm written)

or_right_true : (a b : Bool) → (a || b) ≡ true → a ≡ false → b ≡ true
or_right_true a b either other = rw other at either

-- the kind of a web URL
pub web_is_special : (base : Parts) → is_web_scheme base.scheme ≡ true → kind_of base ≡ SpecialNotFile
unfolding scheme_type default_port
web_is_special base web = grind (arith, ⊎_elim, bytes_eq-Decides, or_right_true, cases_Bool)
