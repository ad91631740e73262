-- Where groups of lines lead.
use Rattle.std.proofs.Common.{◌≡◌, ℕ, zero, suc, ◌+◌, ◌^◌, ◌<◌, Bool, true, false, cond, List, [], ◌∷◌, ◌++◌, map, length, replicate, refl, ap, sym, ◌∙◌, subst, arith, Some, None}
use Rattle.std.specs.Prelude.{◌&&◌, ◌==◌, ℤ, Option, is_some, is_none, nat_lt, filter}
use Rattle.std.specs.List.{list_any, list_all}
use Rattle.std.proofs.lemmas.Bool.{and_parts, not-true, ltb-true, lt-leb, lt-ltb, cond-false, eqb-true}
use Rattle.std.proofs.lemmas.List.{append-nil, append_assoc}
use Rattle.playlist_model.specs.declared.Key.{Key}
use Rattle.playlist_model.specs.declared.ByteRange.{ByteRange}
use Rattle.playlist_model.specs.declared.InitSection.{InitSection}
use Rattle.playlist_model.specs.Segments.{Segment}
use Rattle.playlist_model.specs.Said.{Said, discontinuity, key, key_tag_said, duration, media}
use Rattle.playlist_model.specs.EffectiveKeys.{effective_key}
use Rattle.playlist_model.specs.LookBack.{or_earlier, put_key, Extent, Standing, extent_with}
use Rattle.playlist_model.specs.Reading.{passes, key_needs_iv}
use Rattle.date_times.specs.Instant.{in_range}
use Rattle.playlist_model.proofs.ListTests.{all_filter}
use Rattle.playlist_model.specs.declared.KeyTag.{KeyTag}
use Rattle.playlist_model.specs.declared.KeyTag.TheVariants.{End, Set}
use Rattle.stitcher.specs.declared.OutSegment.{OutSegment}
use Rattle.playlist_model.specs.Same.{same_init_section, same_option}
use Rattle.stitcher.specs.KeyTags.{is_new_key, after_tags}
use Rattle.playlist_model.proofs.SameParts.{init_section_is}
use Rattle.stitcher.proofs.TagLaws.{transition_leads}
use Rattle.playlist_write.specs.Owed.{Current, keys_owed, changed_written_init_section, init_section_owed, written_keys_then, time_owed, byte_range_owed, segment_owed, after_segment, segments_owed}
use Rattle.writable.specs.Fitting.{is_clean, uri_fits, quoted_uri_fits, byte_range_fits, if_some, key_is_writable, keys_are_writable, writable_key_states_iv, init_section_fits}
use Rattle.playlist_write.specs.WellFormed.{well_formed_segment_fits}
use Rattle.playlist_write.specs.Denoted.{denoted_segment}
use Rattle.playlist_write.proofs.Machine.{Known, step, run, Allowed, number_known, discontinuity_known}

-- numbers that go on from these: media numbers by one, discontinuity numbers by the steps
abbrev pub numbers_go_on : ℕ → ℕ → List OutSegment → Bool
numbers_go_on number steps [] = true
numbers_go_on number steps (out ∷ later) =
    out.media_sequence == number && out.discontinuity_sequence == steps + out.discontinuities && numbers_go_on (number + 1) out.discontinuity_sequence later

-- as one segment has a section or none, so have all
abbrev pub init_sections_alike : Bool → List OutSegment → Bool
init_sections_alike with_init_sections [] = true
init_sections_alike with_init_sections (out ∷ later) = cond with_init_sections (is_some out.segment.init_section) (is_none out.segment.init_section) && init_sections_alike with_init_sections later

-- the lines fit and can stand here, and lead there
pub record Goes (from : Known) (lines : List Said) (to : Known) : Type 0 where
  pub allowed : Allowed from lines
  pub leads : run from lines ≡ to

run-append : (xs ys : List Said) (k : Known) → run k (xs ++ ys) ≡ run (run k xs) ys
run-append [] ys k = refl
run-append (x ∷ xs) ys k = run-append xs ys (step k x)

allowed-append : (xs ys : List Said) (k : Known) → Allowed k xs → Allowed (run k xs) ys → Allowed k (xs ++ ys)
allowed-append [] ys k h g = g
allowed-append (x ∷ xs) ys k h g = (h.0, h.1, allowed-append xs ys (step k x) h.2 g)

pub goes-append : (xs ys : List Said) (a b c : Known) → Goes a xs b → Goes b ys c → Goes a (xs ++ ys) c
goes-append xs ys a b c h g = grind (arith, allowed-append, Allowed, run-append, run)

-- ---- discontinuities

goes_steps : (n : ℕ) (k : Known) → discontinuity_known k.standing + n < 2 ^ 64
    → Goes k (replicate n discontinuity) (record k { standing = record k.standing { discontinuity_count = k.standing.discontinuity_count + n; discontinuities = k.standing.discontinuities + n } })
goes_steps zero k h = grind arith
goes_steps (suc n) k h = grind (arith, goes_steps n (step k discontinuity) (omega (arith, h)))

-- ---- keys

abbrev with_keys : Known → List Key → Known
with_keys k keys = record k { standing = record k.standing { keys = keys } }

run_tags : (tags : List KeyTag) (k : Known) → run k (map key_tag_said tags) ≡ with_keys k (after_tags k.standing.keys tags)
run_tags [] k = refl
run_tags (End ∷ tags) k = run_tags tags (with_keys k [])
run_tags (Set j ∷ tags) k = run_tags tags (with_keys k (put_key j k.standing.keys))

sets_allowed : (keys : List Key) (k : Known) → list_all key_is_writable keys ≡ true → Allowed k (map key_tag_said (map Set keys))
sets_allowed [] k h = tt
sets_allowed (j ∷ keys) k h = let a = and_parts _ _ h in (a.0, tt, sets_allowed keys (step k (key j)) a.1)

tags_allowed : (b : Bool) (old new : List Key) (k : Known) → list_all key_is_writable new ≡ true → Allowed k (map key_tag_said (cond b (map Set (filter (is_new_key old) new)) (End ∷ map Set new)))
tags_allowed b old new k h = grind (arith, sets_allowed, all_filter, step)

goes_keys : (old new : List Key) (k : Known) → k.standing.keys ≡ old → keys_are_writable old ≡ true → keys_are_writable new ≡ true → Goes k (keys_owed old new) (with_keys k new)
goes_keys old new k e h g = grind (arith, and_parts, tags_allowed, run_tags, transition_leads)

-- ---- the section

abbrev with_init_section : Known → List Key → Option InitSection → Known
with_init_section k keys init_section = record k { standing = record k.standing { keys = keys; init_section = init_section } }

with_both : (k : Known) (ks : List Key) (s : Option InitSection) → k.standing.keys ≡ ks → k.standing.init_section ≡ s → k ≡ with_init_section k ks s
with_both k ks s e g = ap (with_keys k) e ∙ ap (with_init_section k ks) g

record InitSectionParts (s : InitSection) : Type 0 where
  uri : quoted_uri_fits s.uri ≡ true
  byte_range : if_some byte_range_fits s.byte_range ≡ true
  keys : keys_are_writable s.keys ≡ true
  ivs : list_any key_needs_iv s.keys ≡ false

init_section_parts : (s : InitSection) → init_section_fits s ≡ true → InitSectionParts s
init_section_parts s h = grind arith

-- the section that is written: none if it is the same
abbrev written : Bool → InitSection → Option InitSection
written same new = cond same None (Some new)

init_section_step : (same : Bool) (cur : Current) (new : InitSection) (k : Known) → same_option same_init_section (Some new) cur.init_section ≡ same → k.standing.keys ≡ cur.keys → k.standing.init_section ≡ cur.init_section → keys_are_writable cur.keys ≡ true → init_section_fits new ≡ true
    → Goes k (init_section_owed cur.keys (written same new)) (with_init_section k (written_keys_then cur.keys (written same new)) (Some new))
init_section_step true cur new k e ke se h f = record { allowed = tt; leads = with_both k cur.keys (Some new) ke (se ∙ init_section_is new cur.init_section e) }
init_section_step false cur new k e ke se h f =
    let p = init_section_parts new f in
    goes-append _ _ k (with_keys k new.keys) _ (goes_keys cur.keys new.keys k ke h p.keys) (record { allowed = ((p.uri, p.byte_range), p.ivs, tt); leads = refl })

goes_init_section : (cur : Current) (sec : Option InitSection) (k : Known) → k.standing.keys ≡ cur.keys → k.standing.init_section ≡ cur.init_section → keys_are_writable cur.keys ≡ true → if_some init_section_fits sec ≡ true
    → Goes k (init_section_owed cur.keys (changed_written_init_section cur.init_section sec)) (with_init_section k (written_keys_then cur.keys (changed_written_init_section cur.init_section sec)) (or_earlier sec cur.init_section))
goes_init_section cur None k ke se h f = grind arith
goes_init_section cur (Some new) k ke se h f = init_section_step _ cur new k refl ke se h f

then_fit : (cur : Current) (sec : Option InitSection) → keys_are_writable cur.keys ≡ true → if_some init_section_fits sec ≡ true → keys_are_writable (written_keys_then cur.keys (changed_written_init_section cur.init_section sec)) ≡ true
then_fit cur sec h f = grind arith

-- ---- the rest of a segment's lines

abbrev segment_with : Standing → OutSegment → Segment
segment_with s out = record {
  media_sequence = number_known s;
  discontinuity_sequence = discontinuity_known s;
  discontinuities = s.discontinuities;
  uri = out.segment.uri;
  byte_range = out.segment.byte_range;
  keys = map (effective_key (number_known s)) s.keys;
  init_section = s.init_section;
  duration = out.segment.duration;
  title = out.segment.title;
  program_date_time = out.program_date_time;
}

abbrev ended_segment : Known → OutSegment → Known
ended_segment k out = record k {
  heading = record k.heading { has_media = true };
  standing = record k.standing {
    media_count = k.standing.media_count + 1;
    discontinuities = 0;
    duration = None;
    byte_range = None;
    program_date_time = None;
    extent = extent_with out.segment.uri out.segment.byte_range;
  };
  segments = k.segments ++ segment_with k.standing out ∷ [];
}

abbrev fresh : Known → Known
fresh k = record k { standing = record k.standing { duration = None; byte_range = None; program_date_time = None } }

-- one segment's own parts, apart from its keys and its section
record TailFits (out : OutSegment) : Type 0 where
  uri : uri_fits out.segment.uri ≡ true
  byte_range : if_some byte_range_fits out.segment.byte_range ≡ true
  duration : out.segment.duration < 10 ^ 15
  title : is_clean out.segment.title ≡ true
  program_date_time : if_some in_range out.program_date_time ≡ true

tail : (out : OutSegment) (t : Option ℤ) (r : Option ByteRange) → List Said
tail out t r = time_owed t ++ (duration out.segment.duration out.segment.title ∷ (byte_range_owed r ++ media out.segment.uri ∷ []))

goes_tail : (out : OutSegment) (t : Option ℤ) (r : Option ByteRange) → out.program_date_time ≡ t → out.segment.byte_range ≡ r → (k : Known) → TailFits out → passes (number_known k.standing) ≡ false
    → Goes (fresh k) (tail out t r) (ended_segment (fresh k) out)
unfolding tail
goes_tail out None None te re k f n = rw (te, re) (record { allowed = ((f.duration, f.title), tt, (f.uri, (refl, n, None, refl), tt)); leads = refl })
goes_tail out None (Some r) te re k f n =
    let fits : byte_range_fits r ≡ true = subst (λ x. if_some byte_range_fits x ≡ true) re f.byte_range in
    rw (te, re) (record { allowed = ((f.duration, f.title), tt, (ltb-true _ _ fits, tt, (f.uri, (refl, n, Some r, refl), tt))); leads = refl })
goes_tail out (Some t) None te re k f n =
    let fits : in_range t ≡ true = subst (λ x. if_some in_range x ≡ true) te f.program_date_time in
    rw (te, re) (record { allowed = (fits, tt, ((f.duration, f.title), tt, (f.uri, (refl, n, None, refl), tt))); leads = refl })
goes_tail out (Some t) (Some r) te re k f n =
    let fits : byte_range_fits r ≡ true = subst (λ x. if_some byte_range_fits x ≡ true) re f.byte_range in
    let stands : in_range t ≡ true = subst (λ x. if_some in_range x ≡ true) te f.program_date_time in
    rw (te, re) (record { allowed = (stands, tt, ((f.duration, f.title), tt, (ltb-true _ _ fits, tt, (f.uri, (refl, n, Some r, refl), tt)))); leads = refl })

-- ---- one segment

-- between two segments
abbrev pub ready : Known → Current → ℕ → ℕ → Option Extent → List Segment → Known
ready h cur n d extent segments = record h {
  heading = record h.heading { has_media = nat_lt 0 n };
  standing = record h.standing {
    media_count = n;
    discontinuity_count = d;
    discontinuities = 0;
    duration = None;
    byte_range = None;
    program_date_time = None;
    keys = cur.keys;
    init_section = cur.init_section;
    extent = extent;
  };
  segments = segments;
}

effective_step : (n : ℕ) (k : Key) → writable_key_states_iv k ≡ true → effective_key n k ≡ k
effective_step n k h = cond-false _ _ _ (not-true _ h)

effective : (n : ℕ) (keys : List Key) → list_all writable_key_states_iv keys ≡ true → map (effective_key n) keys ≡ keys
effective n [] h = refl
effective n (k ∷ keys) h = let a = and_parts _ _ h in let e = effective_step n k a.0 in let t = effective n keys a.1 in cc

segment_ext : (out : OutSegment) (n d s : ℕ) (ks : List Key) (sec : Option InitSection) → n ≡ out.media_sequence → d ≡ out.discontinuity_sequence → s ≡ out.discontinuities → ks ≡ out.segment.keys → sec ≡ out.segment.init_section
    → ◌≡◌ {A = Segment} (record { media_sequence = n; discontinuity_sequence = d; discontinuities = s; uri = out.segment.uri; byte_range = out.segment.byte_range; keys = ks; init_section = sec; duration = out.segment.duration; title = out.segment.title; program_date_time = out.program_date_time }) (denoted_segment out)
segment_ext out n d s ks sec a b c e f = rw (a, b, c, e, f) refl

pub record SegmentFits (out : OutSegment) : Type 0 where
  pub media_sequence : out.media_sequence < 2 ^ 64
  pub discontinuity_sequence : out.discontinuity_sequence < 2 ^ 64
  tail : TailFits out
  keys : keys_are_writable out.segment.keys ≡ true
  ivs : list_all writable_key_states_iv out.segment.keys ≡ true
  init_section : if_some init_section_fits out.segment.init_section ≡ true

pub segment_parts : (out : OutSegment) → well_formed_segment_fits out ≡ true → SegmentFits out
segment_parts out h = grind (arith, and_parts, ltb-true, tail)

extent_of : OutSegment → Option Extent
extent_of out = extent_with out.segment.uri out.segment.byte_range

module _ (h : Known) where
  goes_segment : (cur : Current) (n d : ℕ) (extent : Option Extent) (segments : List Segment) (out : OutSegment) → SegmentFits out → keys_are_writable cur.keys ≡ true
      → or_earlier out.segment.init_section cur.init_section ≡ out.segment.init_section → h.standing.media_sequence + n ≡ out.media_sequence → h.standing.discontinuity_sequence + d + out.discontinuities ≡ out.discontinuity_sequence
      → Goes (ready h cur n d extent segments) (segment_owed cur out) (ready h (after_segment cur out) (n + 1) (d + out.discontinuities) (extent_of out) (segments ++ denoted_segment out ∷ []))
  unfolding extent_of tail
  goes_segment cur n d extent segments out f kf se media_is disc_is =
      let k0 = ready h cur n d extent segments in
      let k1 : Known = record k0 { standing = record k0.standing { discontinuity_count = d + out.discontinuities; discontinuities = 0 + out.discontinuities } } in
      let changed = changed_written_init_section cur.init_section out.segment.init_section in
      let ms = f.media_sequence in let ds = f.discontinuity_sequence in
      let k2 = with_init_section k1 (written_keys_then cur.keys changed) (or_earlier out.segment.init_section cur.init_section) in
      let k3 = with_keys k2 out.segment.keys in
      let one = goes_steps out.discontinuities k0 (omega arith) in
      let two = goes_init_section cur out.segment.init_section k1 refl refl kf f.init_section in
      let three = goes_keys (written_keys_then cur.keys changed) out.segment.keys k2 refl (then_fit cur out.segment.init_section kf f.init_section) f.keys in
      let four = goes_tail out out.program_date_time out.segment.byte_range refl refl k3 f.tail (lt-leb _ _ (omega arith)) in
      let same = segment_ext out (h.standing.media_sequence + n) (h.standing.discontinuity_sequence + (d + out.discontinuities)) (0 + out.discontinuities) (map (effective_key (h.standing.media_sequence + n)) out.segment.keys) (or_earlier out.segment.init_section cur.init_section)
      media_is (omega arith) (omega arith) (effective (h.standing.media_sequence + n) out.segment.keys f.ivs) se in
      let all = goes-append _ _ k0 k1 _ one (goes-append _ _ k1 k2 _ two (goes-append _ _ k2 k3 _ three four)) in
      let there = ready h (after_segment cur out) (n + 1) (d + out.discontinuities) (extent_of out) in
      let with_media : Bool → Segment → Known = λ b s. record (there (segments ++ s ∷ [])) { heading = record h.heading { has_media = b } } in
      let stood : nat_lt 0 (n + 1) ≡ true = lt-ltb _ _ (omega arith) in
      record { allowed = all.allowed; leads = all.leads ∙ ap (with_media true) same ∙ ap (λ b. with_media b (denoted_segment out)) (sym stood) }

  -- ---- all segments

  pub record After (cur : Current) (n d : ℕ) (extent : Option Extent) (segments : List Segment) (outs : List OutSegment) : Type 0 where
    pub current : Current
    pub count : ℕ
    pub discontinuity_count : ℕ
    pub last : Option Extent
    pub counted : count ≡ n + length outs
    pub goes : Goes (ready h cur n d extent segments) (segments_owed cur outs) (ready h current count discontinuity_count last (segments ++ map denoted_segment outs))

  kept : (with_init_sections : Bool) (sec cur : Option InitSection) → cond with_init_sections (is_some sec) (is_none sec) ≡ true → (with_init_sections ≡ false → cur ≡ None) → or_earlier sec cur ≡ sec
  kept with_init_sections (Some s) cur e f = refl
  kept true None cur e f = cc
  kept false None cur e f = f refl

  still_none : (with_init_sections : Bool) (sec cur : Option InitSection) → cond with_init_sections (is_some sec) (is_none sec) ≡ true → or_earlier sec cur ≡ sec → with_init_sections ≡ false → or_earlier sec cur ≡ None
  still_none true sec cur e g m = cc
  still_none false None cur e g m = g
  still_none false (Some s) cur e g m = cc

  pub goes_segments : (with_init_sections : Bool) (outs : List OutSegment) (cur : Current) (n d number disc : ℕ) (extent : Option Extent) (segments : List Segment) → list_all well_formed_segment_fits outs ≡ true → init_sections_alike with_init_sections outs ≡ true
      → numbers_go_on number disc outs ≡ true → number ≡ h.standing.media_sequence + n → disc ≡ h.standing.discontinuity_sequence + d → keys_are_writable cur.keys ≡ true → (with_init_sections ≡ false → cur.init_section ≡ None) → After cur n d extent segments outs
  goes_segments with_init_sections [] cur n d number disc extent segments f a g ne de kf sn =
      record { current = cur; count = n; discontinuity_count = d; last = extent; counted = omega arith; goes = record { allowed = tt; leads = ap (ready h cur n d extent) (sym (append-nil segments)) } }
  goes_segments with_init_sections (out ∷ outs) cur n d number disc extent segments f a g ne de kf sn =
      let fs = and_parts _ _ f in let al = and_parts _ _ a in
      let g1 = and_parts _ _ g in let g4 : ((out.media_sequence == number) ≡ true) × ((out.discontinuity_sequence == disc + out.discontinuities) ≡ true) = and_parts _ _ g1.0 in
      let m : out.media_sequence ≡ number = eqb-true _ _ g4.0 in let c : out.discontinuity_sequence ≡ disc + out.discontinuities = eqb-true _ _ g4.1 in
      let parts = segment_parts out fs.0 in
      let se = kept with_init_sections out.segment.init_section cur.init_section al.0 sn in
      let one = goes_segment cur n d extent segments out parts kf se (omega arith) (omega arith) in
      let rest = goes_segments with_init_sections outs (after_segment cur out) (n + 1) (d + out.discontinuities) (number + 1) out.discontinuity_sequence (extent_of out) (segments ++ denoted_segment out ∷ []) fs.1 al.1 g1.1 (omega arith) (omega arith) parts.keys
      (still_none with_init_sections out.segment.init_section cur.init_section al.0 se) in
      let all = goes-append _ _ _ _ _ one rest.goes in
      record {
        current = rest.current;
        count = rest.count;
        discontinuity_count = rest.discontinuity_count;
        last = rest.last;
        counted = omega (arith, rest.counted);
        goes = record { allowed = all.allowed; leads = all.leads ∙ ap (ready h rest.current rest.count rest.discontinuity_count rest.last) (append_assoc segments (denoted_segment out ∷ []) (map denoted_segment outs)) };
      }
