-- The text that is written denotes the playlist.
use Rattle.std.proofs.Common.{◌≡◌, ℕ, ◌+◌, ◌^◌, ◌<◌, Bool, true, false, cond, List, [], ◌∷◌, ◌++◌, map, length, refl, ap, sym, ◌∙◌, subst, arith, Ok, Some, None, inl, inr}
use Rattle.std.specs.Prelude.{◌||◌, ◌==◌, Option, is_some, is_none, unwrap_or, codes}
use Rattle.std.specs.List.{list_any, list_all, flat_map}
use Rattle.std.proofs.lemmas.Bool.{and_parts, and_from, or_parts, or_cases, not-true, ltb-true, eqb-true, not_from_true, cond-false, and_left, and_right, leb-true, eq-eqb}
use Rattle.std.proofs.lemmas.List.{append-nil, append_assoc}
use Rattle.std.proofs.lemmas.Str.{is_utf8-from_IsUtf8}
use Rattle.url.specs.Parts.{Parts}
use Rattle.playlist_model.specs.declared.DateRange.{DateRange}
use Rattle.playlist_model.specs.declared.Playlist.{Playlist}
use Rattle.playlist_model.specs.declared.InitSection.{InitSection}
use Rattle.playlist_model.specs.Said.{Said, nothing, date_range, date_range_said}
use Rattle.playlist_model.specs.Reading.{unlimited, whole, whole_fault, and_whole, of_lines, reading, are_mixed, has_init_section, Denotes}
use Rattle.playlist_model.specs.Numbering.{follows, all_follow}
use Rattle.playlist_model.proofs.SaidCounts.{counted_some}
use Rattle.stitcher.specs.declared.OutSegment.{OutSegment}
use Rattle.playlist_write.specs.declared.OutPlaylist.{OutPlaylist}
use Rattle.playlist_write.specs.Spelling.{spelled, date_range_line}
use Rattle.playlist_write.specs.Owed.{none_yet, header_owed, ended_owed, segments_owed, first_written_media_sequence, written_discontinuity_sequence, line_saying, said_text, ended_date_range_line, date_ranges_text, playlist_text}
use Rattle.writable.specs.Fitting.{is_clean, says_date_range, date_range_fits}
use Rattle.playlist_write.specs.WellFormed.{is_well_formed_number, written_version_fits, well_formed_segment_fits, out_numbers, out_numbers_rise, written_segment_has_init_section, written_init_sections_agree, well_formed}
use Rattle.playlist_write.specs.Denoted.{denoted, denoted_segment, denoted_date_range, date_range_told}
use Rattle.playlist_write.specs.Laws.{TextDenotes}
use Rattle.playlist_write.proofs.CleanTexts.{text, AllClean, clean_printable, lines_of_text, utf8_text}
use Rattle.playlist_write.proofs.DateRangeReads.{few, one_date_range, is_kept}
use Rattle.playlist_write.proofs.Machine.{Known, known_at, onto, known_onto, said_onto}
use Rattle.playlist_write.proofs.Groups.{numbers_go_on, init_sections_alike, Goes, goes-append, ready, goes_segments}

-- what the lines of the date ranges say, and what all lines say
abbrev date_ranges_owed : List (List ℕ) → List Said
date_ranges_owed texts = map date_range (flat_map denoted_date_range texts)

abbrev owed : OutPlaylist → List Said
owed p = header_owed p ++ (date_ranges_owed p.date_ranges ++ (segments_owed none_yet p.segments ++ ended_owed p.end_list))

-- ---- date ranges

date_ranges_step : (text : List ℕ) (date_ranges : List DateRange) (r : DateRange) → date_ranges ≡ r ∷ [] → r.attributes ≡ text → is_clean text ≡ true → date_range_said unlimited text ≡ Ok (date_range r) → (k : Known) (rest : List Said) (to : Known)
    → Goes (record k { date_ranges = k.date_ranges ++ date_ranges }) rest to → Goes k (map date_range date_ranges ++ rest) to
date_ranges_step text date_ranges r e t c says k rest to next = grind arith

map_joined : (xs ys : List DateRange) → map date_range (xs ++ ys) ≡ map date_range xs ++ map date_range ys
map_joined [] ys = refl
map_joined (x ∷ xs) ys = ap (λ l. date_range x ∷ l) (map_joined xs ys)

goes_date_ranges : (texts : List (List ℕ)) (k : Known) → list_all date_range_fits texts ≡ true → Goes k (date_ranges_owed texts) (record k { date_ranges = k.date_ranges ++ flat_map denoted_date_range texts })
goes_date_ranges [] k h = record { allowed = tt; leads = ap (λ rs. record k { date_ranges = rs }) (sym (append-nil k.date_ranges)) }
goes_date_ranges (text ∷ texts) k h =
    let a = and_parts _ _ h in let b : (is_clean text ≡ true) × (says_date_range (date_range_said few text) ≡ true) = and_parts _ _ a.0 in
    let one = one_date_range text a.0 in
    let next = goes_date_ranges texts (record k { date_ranges = k.date_ranges ++ denoted_date_range text }) a.1 in
    subst (λ l. Goes k l (record k { date_ranges = k.date_ranges ++ (denoted_date_range text ++ flat_map denoted_date_range texts) })) (sym (map_joined (denoted_date_range text) (flat_map denoted_date_range texts)))
    (date_ranges_step text (denoted_date_range text) one.read (ap date_range_told one.says) (is_kept text one.read one.says) b.0 one.says k (date_ranges_owed texts) _
    (record { allowed = next.allowed; leads = next.leads ∙ ap (λ rs. record k { date_ranges = rs }) (append_assoc k.date_ranges (denoted_date_range text) (flat_map denoted_date_range texts)) }))

-- ---- the header

start : Known
start = known_at (nothing ∷ [])

-- after the version, the target duration and the numbers
numbers_known : OutPlaylist → Known
unfolding start
numbers_known p = record start {
  heading = record start.heading { version = Some p.version; target_duration = Some p.target_duration; has_sequence = true; has_discontinuity_sequence = true };
  standing = record start.standing { media_sequence = first_written_media_sequence p.segments; discontinuity_sequence = written_discontinuity_sequence p.segments };
}

header_known : OutPlaylist → Known
unfolding start numbers_known
header_known p = record (numbers_known p) {
  heading = record (numbers_known p).heading { playlist_type = p.playlist_type; independent_segments = p.independent_segments };
}

goes_ended : (b : Bool) (k : Known) → k.heading.end_list ≡ false → Goes k (ended_owed b) (record k { heading = record k.heading { end_list = b } })
goes_ended b k e = grind arith

goes_header : (p : OutPlaylist) → (p.version == 6 || p.version == 7) ≡ true → p.target_duration < 2 ^ 64 → first_written_media_sequence p.segments < 2 ^ 64 → written_discontinuity_sequence p.segments < 2 ^ 64 → Goes start (header_owed p) (header_known p)
unfolding start numbers_known header_known
goes_header p v t s d = grind arith

-- ---- the whole

init_section_alike : (with_init_sections : Bool) (out : OutSegment) → cond with_init_sections (is_some out.segment.init_section) (is_none out.segment.init_section) ≡ true → has_init_section (denoted_segment out) ≡ with_init_sections
init_section_alike with_init_sections out h = grind arith

alike_any : (outs : List OutSegment) → init_sections_alike false outs ≡ true → list_any has_init_section (map denoted_segment outs) ≡ false
alike_any [] h = refl
alike_any (out ∷ outs) h = let a = and_parts _ _ h in let e = init_section_alike false out a.0 in rw e (alike_any outs a.1)

alike_all : (outs : List OutSegment) → init_sections_alike true outs ≡ true → list_all has_init_section (map denoted_segment outs) ≡ true
alike_all [] h = refl
alike_all (out ∷ outs) h = let a = and_parts _ _ h in and_from _ _ (init_section_alike true out a.0) (alike_all outs a.1)

unmixed : (with_init_sections : Bool) (outs : List OutSegment) → init_sections_alike with_init_sections outs ≡ true → are_mixed (map denoted_segment outs) ≡ false
unmixed true outs h = and_right _ _ (not_from_true _ (alike_all outs h))
unmixed false outs h = and_left _ _ (alike_any outs h)

-- what a reading that has come to an end is
playlist_known : Known → Playlist
playlist_known k = record {
  version = unwrap_or k.heading.version 1;
  target_duration = unwrap_or k.heading.target_duration 0;
  playlist_type = k.heading.playlist_type;
  independent_segments = k.heading.independent_segments;
  end_list = k.heading.end_list;
  date_ranges = k.date_ranges;
  segments = k.segments;
}

whole_reads : (said : List Said) (k : Known) → known_at said ≡ k → is_some k.heading.target_duration ≡ true → 0 < k.standing.media_count → are_mixed k.segments ≡ false → whole (whole_fault said) said ≡ Ok (playlist_known k)
unfolding playlist_known
whole_reads said k e t n m = grind (arith, counted_some, playlist_known)

numbers_after : (previous : OutSegment) (outs : List OutSegment) → all_follow out_numbers previous outs ≡ true → numbers_go_on (previous.media_sequence + 1) previous.discontinuity_sequence outs ≡ true
numbers_after previous [] h = refl
numbers_after previous (out ∷ outs) h =
    let a : (follows (out_numbers previous) (out_numbers out) ≡ true) × (all_follow out_numbers out outs ≡ true) = and_parts _ _ h in
    let b : ((out.media_sequence == previous.media_sequence + 1) ≡ true) × ((out.discontinuity_sequence == previous.discontinuity_sequence + out.discontinuities) ≡ true) = and_parts _ _ a.0 in
    let m : out.media_sequence ≡ previous.media_sequence + 1 = eqb-true _ _ b.0 in
    and_from _ _ a.0 (subst (λ n. numbers_go_on (n + 1) out.discontinuity_sequence outs ≡ true) m (numbers_after out outs a.1))

numbers_start : (outs : List OutSegment) → out_numbers_rise outs ≡ true → numbers_go_on (first_written_media_sequence outs) (written_discontinuity_sequence outs) outs ≡ true
numbers_start outs h = grind (arith, and_parts, leb-true, eq-eqb, and_from, numbers_after)

first_fits : (outs : List OutSegment) → list_all well_formed_segment_fits outs ≡ true → (first_written_media_sequence outs < 2 ^ 64) × (written_discontinuity_sequence outs < 2 ^ 64)
first_fits outs h = grind arith

some_segments : (outs : List OutSegment) → out_numbers_rise outs ≡ true → 0 < length outs
some_segments [] h = cc
some_segments (out ∷ outs) h = omega arith

abbrev first_has_init_section : List OutSegment → Bool
first_has_init_section [] = false
first_has_init_section (out ∷ later) = written_segment_has_init_section out

none_alike : (outs : List OutSegment) → list_any written_segment_has_init_section outs ≡ false → init_sections_alike false outs ≡ true
none_alike [] h = refl
none_alike (out ∷ outs) h = let a = or_parts _ _ h in and_from _ _ (without_init_section out.segment.init_section a.0) (none_alike outs a.1)
  where
    without_init_section : (s : Option InitSection) → is_some s ≡ false → is_none s ≡ true
    without_init_section None h = refl
    without_init_section (Some s) h = cc

alike : (outs : List OutSegment) → written_init_sections_agree outs ≡ true → init_sections_alike (first_has_init_section outs) outs ≡ true
alike [] h = refl
alike (out ∷ outs) h =
    elim (or_cases _ _ h) [
      | inl all ↦ let a = and_parts _ _ all in subst (λ m. init_sections_alike m (out ∷ outs) ≡ true) (sym a.0) all
      | inr none ↦ let n = not-true _ none in let a = or_parts _ _ n in subst (λ m. init_sections_alike m (out ∷ outs) ≡ true) (sym a.0) (none_alike (out ∷ outs) n)
    ]

-- ---- the text in lines

joined_text : (says : List Said) (rest : List (List ℕ)) → said_text says ++ text rest ≡ text (map spelled says ++ rest)
unfolding line_saying
joined_text [] rest = refl
joined_text (s ∷ says) rest = grind (arith, append_assoc, text, joined_text says rest)

joined_date_ranges : (texts : List (List ℕ)) (rest : List (List ℕ)) → list_all date_range_fits texts ≡ true → date_ranges_text texts ++ text rest ≡ text (map spelled (date_ranges_owed texts) ++ rest)
unfolding ended_date_range_line
joined_date_ranges [] rest h = refl
joined_date_ranges (line ∷ texts) rest h =
    let a = and_parts _ _ h in let one = one_date_range line a.0 in
    append_assoc (date_range_line line ++ 10 ∷ []) (date_ranges_text texts) (text rest) ∙ append_assoc (date_range_line line) (10 ∷ []) (date_ranges_text texts ++ text rest)
    ∙ ap (λ t. date_range_line line ++ 10 ∷ t) (joined_date_ranges texts rest a.1)
    ∙ by (denoted_date_range line) one.read (ap date_range_told one.says) (is_kept line one.read one.says)
  where
    by : (date_ranges : List DateRange) (r : DateRange) → date_ranges ≡ r ∷ [] → r.attributes ≡ line → text (date_range_line line ∷ (map spelled (date_ranges_owed texts) ++ rest)) ≡ text (map spelled (map date_range (date_ranges ++ flat_map denoted_date_range texts)) ++ rest)
    by date_ranges r e t = rw e (ap (λ l. text (date_range_line l ∷ (map spelled (date_ranges_owed texts) ++ rest))) (sym t))

map_spelled : (xs ys : List Said) → map spelled (xs ++ ys) ≡ map spelled xs ++ map spelled ys
map_spelled [] ys = refl
map_spelled (x ∷ xs) ys = ap (λ l. spelled x ∷ l) (map_spelled xs ys)

text_in_lines : (p : OutPlaylist) → list_all date_range_fits p.date_ranges ≡ true → playlist_text p ≡ text (codes "#EXTM3U" ∷ map spelled (owed p))
text_in_lines p h =
    let header = header_owed p in let segments = segments_owed none_yet p.segments in let ends = ended_owed p.end_list in
    let last : said_text ends ≡ text (map spelled ends) = sym (append-nil (said_text ends)) ∙ joined_text ends [] ∙ ap text (append-nil (map spelled ends)) in
    let four : said_text segments ++ said_text ends ≡ text (map spelled (segments ++ ends)) = ap (λ t. said_text segments ++ t) last ∙ joined_text segments (map spelled ends) ∙ ap text (sym (map_spelled segments ends)) in
    let three : date_ranges_text p.date_ranges ++ (said_text segments ++ said_text ends) ≡ text (map spelled (date_ranges_owed p.date_ranges ++ (segments ++ ends)))
    = ap (λ t. date_ranges_text p.date_ranges ++ t) four ∙ joined_date_ranges p.date_ranges (map spelled (segments ++ ends)) h ∙ ap text (sym (map_spelled (date_ranges_owed p.date_ranges) (segments ++ ends))) in
    let two : said_text header ++ (date_ranges_text p.date_ranges ++ (said_text segments ++ said_text ends)) ≡ text (map spelled (owed p))
    = ap (λ t. said_text header ++ t) three ∙ joined_text header (map spelled (date_ranges_owed p.date_ranges ++ (segments ++ ends))) ∙ ap text (sym (map_spelled header (date_ranges_owed p.date_ranges ++ (segments ++ ends)))) in
    append_assoc (codes "#EXTM3U") (10 ∷ []) (said_text header ++ (date_ranges_text p.date_ranges ++ (said_text segments ++ said_text ends))) ∙ ap (λ t. codes "#EXTM3U" ++ 10 ∷ t) two

module _ (base : Parts) (p : OutPlaylist) where
  -- where all lines lead
  record Arrives : Type 0 where
    end : Known
    goes : Goes start (owed p) end
    target_duration : is_some end.heading.target_duration ≡ true
    some : 0 < end.standing.media_count
    unmixed : are_mixed end.segments ≡ false
    playlist : playlist_known end ≡ denoted p

  arrives : well_formed p ≡ true → Arrives
  unfolding start numbers_known header_known playlist_known
  arrives w =
      let a = and_parts _ _ w in let b = and_parts _ _ a.0 in let c = and_parts _ _ b.0 in let d = and_parts _ _ c.0 in
      let f : (written_version_fits p.version ≡ true) × (is_well_formed_number p.target_duration ≡ true) = and_parts _ _ d.0 in
      let some = some_segments p.segments d.1 in
      let numbers = numbers_start p.segments d.1 in let firsts = first_fits p.segments c.1 in
      let same = alike p.segments b.1 in
      let h : Known = record (header_known p) { date_ranges = flat_map denoted_date_range p.date_ranges } in
      let one = goes_header p f.0 (ltb-true _ _ f.1) firsts.0 firsts.1 in
      let two = goes_date_ranges p.date_ranges (header_known p) a.1 in
      let three = goes_segments h (first_has_init_section p.segments) p.segments none_yet 0 0 (first_written_media_sequence p.segments) (written_discontinuity_sequence p.segments) None [] c.1 same numbers (omega arith) (omega arith) refl (λ m. refl) in
      let between : Known = ready h three.current three.count three.discontinuity_count three.last (map denoted_segment p.segments) in
      let four = goes_ended p.end_list between refl in
      let counted : 0 < three.count = omega (arith, three.counted) in
      record {
        end = record between { heading = record between.heading { end_list = p.end_list } };
        goes = goes-append _ _ start (header_known p) _ one (goes-append _ _ (header_known p) h _ two (goes-append _ _ h between _ three.goes four));
        target_duration = refl;
        some = counted;
        unmixed = unmixed (first_has_init_section p.segments) p.segments same;
        playlist = refl;
      }

  denotes : list_all date_range_fits p.date_ranges ≡ true → Arrives → Denotes base (playlist_text p) (denoted p)
  unfolding start
  denotes r h =
      let said = onto (nothing ∷ []) (owed p) in
      let known = known_onto (owed p) (nothing ∷ []) ∙ h.goes.leads in
      let read = said_onto base (owed p) (nothing ∷ []) h.goes.allowed in
      let texts = codes "#EXTM3U" ∷ map spelled (owed p) in
      let clean : AllClean texts = (clean_printable (codes "#EXTM3U") refl, read.0) in
      let utf8 = is_utf8-from_IsUtf8 (text texts) (utf8_text texts clean) in
      ap (reading unlimited base) (text_in_lines p r) ∙ cond-false _ _ _ (not_from_true _ utf8) ∙ ap (of_lines unlimited base) (lines_of_text texts clean) ∙ ap and_whole read.1
      ∙ whole_reads said h.end known h.target_duration h.some h.unmixed ∙ ap Ok h.playlist

pub text_denotes : TextDenotes
text_denotes base p w =
    let a : (_ ≡ true) × (list_all date_range_fits p.date_ranges ≡ true) = and_parts _ _ w in denotes base p a.1 (arrives base p w)
