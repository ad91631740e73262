-- A line says the same after lines that left the same standing, unless it was refused there.
use Rattle.std.proofs.Common.{◌≡◌, ℕ, ◌+◌, ◌≤◌, Bool, true, false, List, ◌∷◌, length, refl, ap, sym, ◌∙◌, arith}
use Rattle.std.specs.Prelude.{Ok, Err, Option, Some, None, ◌||◌, is_none}
use Rattle.std.specs.Option.{is_some}
use Rattle.std.specs.List.{list_any}
use Rattle.std.proofs.lemmas.Bool.Decides.{nat_tests}
use Rattle.url.specs.Parts.{Parts}
use Rattle.playlist_model.specs.declared.FaultKind.{FaultKind}
use Rattle.playlist_model.specs.declared.FaultKind.TheVariants as fault
use Rattle.playlist_model.specs.Lines.{Kind, ignored, uri, tag, kind_of, has_control}
use Rattle.spec_words.specs.Outcomes.{◌>>=◌, refuse_if}
use Rattle.playlist_model.specs.Said.{Name, sequence_tag, version_tag, target_tag, discontinuity_sequence_tag, type_tag, ended_tag, independent_tag, frames_tag, master_tag, duration_tag, byte_range_tag, discontinuity_tag, key_tag, init_section_tag, time_tag, date_range_tag, unknown_tag, Said, version, target, sequence, discontinuity_sequence, playlist_type, ended, discontinuity, no_keys, key, media, Reader, over, number_said, version_of, playlist_type_of, uri_of, key_said, init_section_said, Outcome}
use Rattle.playlist_model.specs.LookBack.{is_media, is_discontinuity, count, byte_range_from, keys_at, put_key}
use Rattle.playlist_model.specs.Inner.Heading.{Heading, heading_at}
use Rattle.playlist_model.specs.Reading.{has, passes, key_needs_iv, name_of, within_formats, with_ivs, said_by_tag, said_by_uri, said_by_kind, said_by}
use Rattle.playlist_parse.specs.Inner.Resumed.{Scene, Alike}

same_bound : {A B : Type 0} (o : Outcome A) (f g : A → Outcome B) → ((x : A) → f x ≡ g x) → (o >>= f) ≡ (o >>= g)
same_bound (Ok x) f g h = h x
same_bound (Err e) f g h = refl

refused_alike : (a b c d : Bool) (e f : FaultKind) (o : Outcome Said) → a ≡ b → c ≡ d → refuse_if a e (refuse_if c f o) ≡ refuse_if b e (refuse_if d f o)
refused_alike a b c d e f o h k = cc

or_is : (a b : Bool) → a ≡ true → (a || b) ≡ true
or_is a b h = rw h refl

keys_step : (said : Said) (old new : List Said) → keys_at old ≡ keys_at new → keys_at (said ∷ old) ≡ keys_at (said ∷ new)
keys_step no_keys old new e = refl
keys_step (key k) old new e = ap (put_key k) e
keys_step _ old new e = e

over_more : (limit : Option ℕ) (n m : ℕ) → n ≤ m → over limit n ≡ true → over limit m ≡ true
over_more None n m h o = absurd (cc o)
over_more (Some most) n m h o = grind (arith, nat_tests)

refused_later : (a b : Bool) (e : FaultKind) (o p : Outcome Said) → (b ≡ true → a ≡ true) → o ≡ p → (said : Said) → refuse_if a e o ≡ Ok said → refuse_if b e p ≡ Ok said
refused_later true b e o p h same said is = absurd (cc is)
refused_later false true e o p h same said is = absurd (cc (h refl))
refused_later false false e o p h same said is = sym same ∙ is

module _ (reader : Reader) (base : Parts) (old new : List Said) (alike : Alike old new) where
  heading : heading_at old ≡ heading_at new
  heading = ap (λ (s : Scene). s.heading) alike.scene

  keys : keys_at old ≡ keys_at new
  keys = ap (λ (s : Scene). s.keys) alike.scene

  media_new : has is_media new ≡ true
  media_new = sym (ap (λ (h : Heading). h.has_media) heading) ∙ alike.media

  same_tag : (name : Name) (rest : List ℕ) → said_by_tag reader base old name rest ≡ said_by_tag reader base new name rest
  same_tag version_tag rest = ap (λ (h : Heading). refuse_if (is_some h.version) fault.Repeated (version_of rest >>= λ n. Ok (version n))) heading
  same_tag target_tag rest = ap (λ (h : Heading). refuse_if (is_some h.target_duration) fault.Repeated (number_said rest >>= λ n. Ok (target n))) heading
  same_tag sequence_tag rest =
      ap (λ (h : Heading). refuse_if h.has_sequence fault.Repeated (refuse_if h.has_media fault.Misplaced (number_said rest >>= λ n. Ok (sequence n)))) heading
  same_tag discontinuity_sequence_tag rest =
      refused_alike _ _ _ _ fault.Repeated fault.Misplaced (number_said rest >>= λ n. Ok (discontinuity_sequence n)) (ap (λ (h : Heading). h.has_discontinuity_sequence) heading)
      (or_is (has is_media old) (has is_discontinuity old) alike.media ∙ sym (or_is (has is_media new) (has is_discontinuity new) media_new))
  same_tag type_tag rest = ap (λ (h : Heading). refuse_if (is_some h.playlist_type) fault.Repeated (playlist_type_of rest >>= λ kind. Ok (playlist_type kind))) heading
  same_tag ended_tag rest = ap (λ (h : Heading). refuse_if h.end_list fault.Repeated (Ok ended)) heading
  same_tag independent_tag rest = refl
  same_tag frames_tag rest = refl
  same_tag master_tag rest = refl
  same_tag duration_tag rest = refl
  same_tag byte_range_tag rest = refl
  same_tag discontinuity_tag rest = ap (λ (s : Scene). refuse_if (passes (s.discontinuity + 1)) fault.BadValue (Ok discontinuity)) alike.scene
  same_tag key_tag rest =
      same_bound (key_said reader base rest) (within_formats reader old) (within_formats reader new)
      (λ said. ap (λ ks. refuse_if (over reader.formats (length ks)) fault.TooMany (Ok said)) (keys_step said old new keys))
  same_tag init_section_tag rest =
      same_bound (init_section_said reader base rest) (with_ivs old) (with_ivs new) (λ said. ap (λ ks. refuse_if (list_any key_needs_iv ks) fault.MapWithoutIv (Ok said)) keys)
  same_tag time_tag rest = refl
  same_tag date_range_tag rest = refl
  same_tag unknown_tag rest = refl

  over_before : over reader.segments (count is_media new + 1) ≡ true → over reader.segments (count is_media old + 1) ≡ true
  over_before h = over_more reader.segments (count is_media new + 1) (count is_media old + 1) (omega (arith, alike.fewer)) h

  kept_uri : (reference : List ℕ) (said : Said) → said_by_uri reader base old reference ≡ Ok said → said_by_uri reader base new reference ≡ Ok said
  kept_uri reference said is =
      refused_later (over reader.segments (count is_media old + 1)) (over reader.segments (count is_media new + 1)) fault.TooMany _ _ over_before
      (ap (λ (s : Scene). refuse_if (is_none s.duration) fault.NoDuration (refuse_if (passes s.number) fault.BadValue
      (uri_of base reference >>= λ uri. byte_range_from s.byte_range uri s.extent >>= λ r. Ok (media uri)))) alike.scene)
      said is

  kept_kind : (kind : Kind) (said : Said) → said_by_kind reader base old kind ≡ Ok said → said_by_kind reader base new kind ≡ Ok said
  kept_kind ignored said is = is
  kept_kind (uri reference) said is = kept_uri reference said is
  kept_kind (tag name rest colon) said is = sym (same_tag (name_of name colon) rest) ∙ is

  after_control : (b : Bool) (o p : Outcome Said) → ((said : Said) → o ≡ Ok said → p ≡ Ok said) → (said : Said) → refuse_if b fault.Control o ≡ Ok said → refuse_if b fault.Control p ≡ Ok said
  after_control true o p h said is = absurd (cc is)
  after_control false o p h said is = h said is

  -- the line says what it said there
  pub kept_line : (line : List ℕ) (said : Said) → said_by reader base old line ≡ Ok said → said_by reader base new line ≡ Ok said
  kept_line line said is = after_control (has_control line) _ _ (kept_kind (kind_of line)) said is
