-- One line, read with limits and without.
use Rattle.std.proofs.Common.{◌≡◌, ℕ, ◌+◌, ◌≤◌, Bool, true, false, List, [], ◌∷◌, length, refl, ap, sym, ◌∙◌, subst, arith}
use Rattle.std.specs.Prelude.{Result, Ok, Err, Some, nat_le}
use Rattle.std.proofs.lemmas.Bool.{false≢true, le-leb, leb-true, le-ltb, ltb-false}
use Rattle.url.specs.Parts.{Parts}
use Rattle.attr_list.specs.Attributes.{Pair}
use Rattle.attr_list.proofs.Limits.{limited_is_read, within_is_same}
use Rattle.playlist_model.specs.declared.Key.{Key}
use Rattle.playlist_model.specs.declared.FaultKind.{FaultKind}
use Rattle.playlist_model.specs.declared.FaultKind.TheVariants as fault
use Rattle.playlist_model.specs.Lines.{Kind, ignored, uri, tag, kind_of, has_control}
use Rattle.spec_words.specs.Outcomes.{◌>>=◌, mended, refuse_if}
use Rattle.playlist_model.specs.Said.{Name, key_tag, init_section_tag, date_range_tag, unknown_tag, Said, no_keys, key, media, nothing, Outcome, over, attributes, key_said, init_section_said, date_range_said}
use Rattle.playlist_model.specs.LookBack.{keys_at, count, is_media}
use Rattle.playlist_model.specs.Reading.{name_of, within_formats, with_ivs, said_by_tag, said_by_uri, said_by_kind, said_by, unlimited, limited}
use Rattle.read_is_writable.specs.Limits.{has_few, tag_keeps, kind_keeps, line_keeps}
use Rattle.read_is_writable.proofs.OwnKinds.{is_of, tag_kind, uri_kind}

-- ---- outcomes

pub bind_was : {A B : Type 0} (o : Outcome A) (f : A → Outcome B) (y : B) → (o >>= f) ≡ Ok y → (x : A) × (o ≡ Ok x) × (f x ≡ Ok y)
bind_was (Ok x) f y h = (x, refl, h)
bind_was (Err e) f y h = cc

same_bind : {A B : Type 0} (o p : Outcome A) (f : A → Outcome B) → o ≡ p → (o >>= f) ≡ (p >>= f)
same_bind o p f e = ap (λ q. q >>= f) e

refuse_was : {A : Type 0} (b : Bool) (e : FaultKind) (o : Outcome A) (x : A) → refuse_if b e o ≡ Ok x → (b ≡ false) × (o ≡ Ok x)
refuse_was true e o x h = cc
refuse_was false e o x h = (refl, h)

not_refused : {A : Type 0} (b : Bool) (e : FaultKind) (o : Outcome A) → b ≡ false → refuse_if b e o ≡ o
not_refused true e o h = cc
not_refused false e o h = refl

told_was : {A E : Type 0} (e : FaultKind) (o : Result A E) (x : A) → mended e o ≡ Ok x → o ≡ Ok x
told_was e (Ok y) x h = let same : y ≡ x = cc in ap Ok same
told_was e (Err d) x h = cc

ok_same : (a b : Said) (o p : Outcome Said) → o ≡ Ok a → p ≡ Ok b → o ≡ p → a ≡ b
ok_same a b o p g h e = let s : Ok a ≡ o = sym g in cc

-- ---- attributes

few_when : (rest : List ℕ) (f : List Pair → Outcome Said) (x : Said) → (attributes limited rest >>= f) ≡ Ok x → has_few rest ≡ true
few_when rest f x h = grind (arith, bind_was, le-leb, limited_is_read, told_was)

same_attributes : (rest : List ℕ) → has_few rest ≡ true → attributes limited rest ≡ attributes unlimited rest
same_attributes rest h = grind (arith, within_is_same, leb-true)

same_keys : (base : Parts) (rest : List ℕ) → has_few rest ≡ true → key_said limited base rest ≡ key_said unlimited base rest
same_keys base rest h = grind (arith, same_bind, same_attributes)

same_init_sections : (base : Parts) (rest : List ℕ) → has_few rest ≡ true → init_section_said limited base rest ≡ init_section_said unlimited base rest
same_init_sections base rest h = grind (arith, same_bind, same_attributes)

same_date_ranges : (rest : List ℕ) → has_few rest ≡ true → date_range_said limited rest ≡ date_range_said unlimited rest
same_date_ranges rest h = grind (arith, same_bind, same_attributes)

-- ---- tags

is_key_tag : Name → Bool
is_key_tag key_tag = true
is_key_tag _ = false

says_no_keys : (name : Name) → is_of name no_keys ≡ true → is_key_tag name ≡ true
unfolding is_key_tag
says_no_keys key_tag h = refl
says_no_keys _ h = cc

says_key : (name : Name) (k : Key) → is_of name (key k) ≡ true → is_key_tag name ≡ true
unfolding is_key_tag
says_key key_tag k h = refl
says_key _ k h = cc

says_no_media : (name : Name) (u : List ℕ) → is_of name (media u) ≡ true → ⊥
says_no_media key_tag u h = false≢true h
says_no_media _ u h = false≢true h

no_key_tag : is_key_tag unknown_tag ≡ false
unfolding is_key_tag
no_key_tag = refl

-- how many formats are in force is within the limit
abbrev pub few_formats : List Said → Bool
few_formats said = nat_le (length (keys_at said)) 16

not_over : (most n : ℕ) → n ≤ most → over (Some most) n ≡ false
not_over most n h = le-ltb _ _ h

module _ (base : Parts) (before : List Said) where
  keys_stay : (name : Name) (x : Said) → is_of name x ≡ true → is_key_tag name ≡ false → keys_at (x ∷ before) ≡ keys_at before
  keys_stay name no_keys h k = let e = says_no_keys name h in cc
  keys_stay name (key j) h k = let e = says_key name j h in cc
  keys_stay name _ h k = refl

  count_stays : (name : Name) (x : Said) → is_of name x ≡ true → count is_media (x ∷ before) ≡ count is_media before
  count_stays name (media u) h = absurd (says_no_media name u h)
  count_stays name _ h = refl

  -- what a line says with limits: it says it without them too, and keeps them
  pub record Keeps (keeps : Bool) (o : Outcome Said) (x : Said) : Type 0 where
    pub whole : o ≡ Ok x
    pub few : keeps ≡ true
    pub formats : few_formats before ≡ true → few_formats (x ∷ before) ≡ true
    pub segments : count is_media before ≤ 10000 → count is_media (x ∷ before) ≤ 10000

  plain_keeps : (name : Name) (rest : List ℕ) (x : Said) (o : Outcome Said) → is_key_tag name ≡ false → tag_keeps name rest ≡ true → is_of name x ≡ true → o ≡ Ok x → Keeps (tag_keeps name rest) o x
  plain_keeps name rest x o n t k h = record {
    whole = h;
    few = t;
    formats = λ f. ap (λ (ks : List Key). nat_le (length ks) 16) (keys_stay name x k n) ∙ f;
    segments = λ s. subst (λ (m : ℕ). m ≤ 10000) (sym (count_stays name x k)) s;
  }

  key_keeps : (rest : List ℕ) (x : Said) → said_by_tag limited base before key_tag rest ≡ Ok x → Keeps (tag_keeps key_tag rest) (said_by_tag unlimited base before key_tag rest) x
  key_keeps rest x h =
      let w = bind_was (key_said limited base rest) (within_formats limited before) x h in
      let r = refuse_was (over (Some 16) (length (keys_at (w.0 ∷ before)))) fault.TooMany (Ok w.0) x w.2 in
      let same : w.0 ≡ x = ok_same w.0 x (Ok w.0) (Ok x) refl refl r.1 in
      let few = few_when rest _ w.0 w.1 in record {
        whole = ap (λ o. o >>= within_formats unlimited before) (sym (same_keys base rest few) ∙ w.1) ∙ r.1;
        few = few;
        formats = λ _. ap (λ y. few_formats (y ∷ before)) (sym same) ∙ le-leb _ _ (ltb-false 16 (length (keys_at (w.0 ∷ before))) r.0);
        segments = λ s. subst (λ (m : ℕ). m ≤ 10000) (sym (count_stays key_tag x ((tag_kind limited base before key_tag rest).passes x h))) s;
      }

  tag_forward : (name : Name) (rest : List ℕ) (x : Said) → said_by_tag limited base before name rest ≡ Ok x → Keeps (tag_keeps name rest) (said_by_tag unlimited base before name rest) x
  unfolding is_key_tag
  tag_forward key_tag rest x h = key_keeps rest x h
  tag_forward init_section_tag rest x h =
      let w = bind_was (init_section_said limited base rest) (with_ivs before) x h in
      let few = few_when rest _ w.0 w.1 in
      plain_keeps init_section_tag rest x _ refl few ((tag_kind limited base before init_section_tag rest).passes x h) (ap (λ o. o >>= with_ivs before) (sym (same_init_sections base rest few)) ∙ h)
  tag_forward date_range_tag rest x h =
      let few = few_when rest _ x h in
      plain_keeps date_range_tag rest x _ refl few ((tag_kind limited base before date_range_tag rest).passes x h) (sym (same_date_ranges rest few) ∙ h)
  tag_forward name rest x h = plain_keeps name rest x _ refl refl ((tag_kind limited base before name rest).passes x h) h

  tag_back : (name : Name) (rest : List ℕ) (x : Said) → tag_keeps name rest ≡ true → few_formats (x ∷ before) ≡ true → said_by_tag unlimited base before name rest ≡ Ok x → said_by_tag limited base before name rest ≡ Ok x
  tag_back key_tag rest x t f h =
      let w = bind_was (key_said unlimited base rest) (within_formats unlimited before) x h in
      let same : w.0 ≡ x = ok_same w.0 x (Ok w.0) (Ok x) refl refl w.2 in
      let few : few_formats (w.0 ∷ before) ≡ true = ap (λ y. few_formats (y ∷ before)) same ∙ f in
      ap (λ o. o >>= within_formats limited before) (same_keys base rest t ∙ w.1)
      ∙ not_refused (over (Some 16) (length (keys_at (w.0 ∷ before)))) fault.TooMany (Ok w.0) (not_over 16 (length (keys_at (w.0 ∷ before))) (leb-true _ _ few)) ∙ w.2
  tag_back init_section_tag rest x t f h = ap (λ o. o >>= with_ivs before) (same_init_sections base rest t) ∙ h
  tag_back date_range_tag rest x t f h = same_date_ranges rest t ∙ h
  tag_back name rest x t f h = h

  -- ---- URI lines

  media_counts : (x : Said) → is_media x ≡ true → count is_media (x ∷ before) ≡ count is_media before + 1
  media_counts x h = rw h refl

  media_keys : (x : Said) → is_media x ≡ true → keys_at (x ∷ before) ≡ keys_at before
  media_keys (media u) h = refl
  media_keys _ h = cc

  uri_forward : (reference : List ℕ) (x : Said) → said_by_uri limited base before reference ≡ Ok x → Keeps true (said_by_uri unlimited base before reference) x
  uri_forward reference x h =
      let r = refuse_was (over (Some 10000) (count is_media before + 1)) fault.TooMany (said_by_uri unlimited base before reference) x h in
      let m = (uri_kind limited base before reference).passes x h in record {
        whole = r.1;
        few = refl;
        formats = λ f. ap (λ (ks : List Key). nat_le (length ks) 16) (media_keys x m) ∙ f;
        segments = λ _. subst (λ (n : ℕ). n ≤ 10000) (sym (media_counts x m)) (ltb-false 10000 (count is_media before + 1) r.0);
      }

  uri_back : (reference : List ℕ) (x : Said) → count is_media (x ∷ before) ≤ 10000 → said_by_uri unlimited base before reference ≡ Ok x → said_by_uri limited base before reference ≡ Ok x
  uri_back reference x s h =
      let m = (uri_kind unlimited base before reference).passes x h in
      not_refused (over (Some 10000) (count is_media before + 1)) fault.TooMany (said_by_uri unlimited base before reference)
      (not_over 10000 (count is_media before + 1) (subst (λ (n : ℕ). n ≤ 10000) (media_counts x m) s)) ∙ h

  -- ---- lines

  nothing_kept : (x : Said) (o : Outcome Said) → o ≡ Ok nothing → o ≡ Ok x → Keeps true o x
  nothing_kept x o g h = let same = ok_same x nothing o o h g refl in plain_keeps unknown_tag [] x o no_key_tag refl (ap (is_of unknown_tag) same) h

  kind_forward : (kind : Kind) (x : Said) → said_by_kind limited base before kind ≡ Ok x → Keeps (kind_keeps kind) (said_by_kind unlimited base before kind) x
  kind_forward ignored x h = nothing_kept x (Ok nothing) refl h
  kind_forward (uri reference) x h = uri_forward reference x h
  kind_forward (tag name rest colon) x h = tag_forward (name_of name colon) rest x h

  kind_back : (kind : Kind) (x : Said) → kind_keeps kind ≡ true → few_formats (x ∷ before) ≡ true → count is_media (x ∷ before) ≤ 10000 → said_by_kind unlimited base before kind ≡ Ok x → said_by_kind limited base before kind ≡ Ok x
  kind_back ignored x k f s h = h
  kind_back (uri reference) x k f s h = uri_back reference x s h
  kind_back (tag name rest colon) x k f s h = tag_back (name_of name colon) rest x k f h

  pub line_forward : (line : List ℕ) (x : Said) → said_by limited base before line ≡ Ok x → Keeps (line_keeps line) (said_by unlimited base before line) x
  line_forward line x h =
      let r = refuse_was (has_control line) fault.Control (said_by_kind limited base before (kind_of line)) x h in
      let k = kind_forward (kind_of line) x r.1 in record {
        whole = not_refused (has_control line) fault.Control (said_by_kind unlimited base before (kind_of line)) r.0 ∙ k.whole;
        few = k.few;
        formats = k.formats;
        segments = k.segments;
      }

  pub line_back : (line : List ℕ) (x : Said) → line_keeps line ≡ true → few_formats (x ∷ before) ≡ true → count is_media (x ∷ before) ≤ 10000 → said_by unlimited base before line ≡ Ok x → said_by limited base before line ≡ Ok x
  line_back line x k f s h =
      let r = refuse_was (has_control line) fault.Control (said_by_kind unlimited base before (kind_of line)) x h in
      not_refused (has_control line) fault.Control (said_by_kind limited base before (kind_of line)) r.0 ∙ kind_back (kind_of line) x k f s r.1
