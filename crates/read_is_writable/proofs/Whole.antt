-- What a whole text is read as can be written again.
use Rattle.std.proofs.Common.{◌≡◌, ℕ, Bool, true, false, not, cond, List, [], ◌∷◌, refl, subst, arith}
use Rattle.std.specs.Prelude.{Result, Ok, Err, Some, None, ◌||◌, ◌&&◌}
use Rattle.std.specs.List.{list_any, list_all, AllByRecursion}
use Rattle.std.specs.Str.{is_utf8, IsUtf8}
use Rattle.std.specs.Str.Lines.{lines}
use Rattle.url.specs.Parts.{Parts}
use Rattle.playlist_model.specs.declared.FaultKind.{FaultKind}
use Rattle.playlist_model.specs.declared.Playlist.{Playlist}
use Rattle.playlist_model.specs.Said.{Said, nothing, version, target, Reader}
use Rattle.playlist_model.specs.LookBack.{latest, the_version, the_target, is_media, segments_of}
use Rattle.playlist_model.specs.Reading.{has, has_init_section, are_mixed, is_set, said_by, said_from, whole_fault, playlist_of, reading, unlimited}
use Rattle.playlist_model.proofs.LimitLaws.{reads_what_is_denoted}
use Rattle.playlist_write.specs.WellFormed.{is_well_formed_number}
use Rattle.writable.specs.Fitting.{if_some}
use Rattle.read_is_writable.specs.Read.{version_reads, init_sections_agree, IsSaidBy, AreRead, numbers_read, segment_can_be_written, text_is_clean}
use Rattle.read_is_writable.proofs.Lines.{is_fit, all_good, good_from, all_fit}
use Rattle.read_is_writable.proofs.Numbers.{numbers_rise}
use Rattle.read_is_writable.proofs.Segments.{latest_fits, or_default, segments_fit, texts_clean}
use Rattle.read_is_writable.proofs.CleanCuts.{lines_are_utf8}
use Rattle.read_is_writable.proofs.DateRanges.{says_from, date_ranges_said, first_says}

says_version : (x : Said) → is_fit x ≡ true → if_some version_reads (the_version x) ≡ true
says_version (version n) h = h
says_version _ h = refl

says_target : (x : Said) → is_fit x ≡ true → if_some is_well_formed_number (the_target x) ≡ true
says_target (target n) h = h
says_target _ h = refl

-- ---- no fault of the whole

three : (aims shows mixed : Bool) (d e f : FaultKind) → cond (not aims) (Some d) (cond (not shows) (Some e) (cond mixed (Some f) None)) ≡ None → (shows ≡ true) × (mixed ≡ false)
three true true false d e f h = (refl, refl)
three true true true d e f h = cc
three true false mixed d e f h = cc
three false shows mixed d e f h = cc

agreed : (some all : Bool) → (some && not all) ≡ false → (all || not some) ≡ true
agreed some true h = refl
agreed true false h = cc
agreed false false h = refl

-- ---- the whole text

headed : {A E : Type 0} (b : Bool) (e : E) (o : Result A E) (x : A) → cond b o (Err e) ≡ Ok x → o ≡ Ok x
headed true e o x h = h
headed false e o x h = cc

-- what the lines say whose playlist a text is read as
record Lines (reader : Reader) (base : Parts) (texts : List (List ℕ)) (p : Playlist) : Type 0 where
  later : List (List ℕ)
  utf8 : AllByRecursion IsUtf8 texts → AllByRecursion IsUtf8 later
  said : List Said
  from : said_from (said_by reader base) (nothing ∷ []) later ≡ Ok said
  faultless : whole_fault said ≡ None
  whole : playlist_of said ≡ p

text_was : (reader : Reader) (base : Parts) (bytes : List ℕ) (p : Playlist) → reading reader base bytes ≡ Ok p → (is_utf8 bytes ≡ true) × Lines reader base (lines bytes) p
text_was reader base bytes p h = grind arith

-- what holds of the date ranges of a playlist
date_ranges_are : (reader : Reader) (base : Parts) (texts : List (List ℕ)) (p : Playlist) → Lines reader base texts p → AllByRecursion (IsSaidBy reader) p.date_ranges
date_ranges_are reader base texts p l =
    subst (λ (q : Playlist). AllByRecursion (IsSaidBy reader) q.date_ranges) l.whole
    (date_ranges_said reader l.said (says_from reader base (nothing ∷ []) l.later l.said (first_says reader) l.from))

pub can_be_written : (reader : Reader) (base : Parts) (bytes : List ℕ) (p : Playlist) → reading reader base bytes ≡ Ok p → AreRead reader p
can_be_written reader base bytes p h =
    let denoted = text_was unlimited base bytes p (reads_what_is_denoted reader base bytes p h) in
    let l = denoted.1 in
    let good : all_good l.said ≡ true = good_from base (nothing ∷ []) l.later l.said (l.utf8 (lines_are_utf8 bytes denoted.0)) refl l.from in
    let fit = all_fit l.said good in
    let t = three (is_set the_target l.said) (has is_media l.said) (are_mixed (segments_of l.said)) _ _ _ l.faultless in
    record {
      version = subst (λ (q : Playlist). version_reads q.version ≡ true) l.whole (or_default version_reads (latest the_version l.said) 1 (latest_fits version_reads the_version l.said says_version fit) refl);
      target_duration = subst (λ (q : Playlist). is_well_formed_number q.target_duration ≡ true) l.whole (or_default is_well_formed_number (latest the_target l.said) 0 (latest_fits is_well_formed_number the_target l.said says_target fit) refl);
      numbers = subst (λ (q : Playlist). numbers_read q.segments ≡ true) l.whole (numbers_rise l.said good t.0);
      segments = subst (λ (q : Playlist). list_all segment_can_be_written q.segments ≡ true) l.whole (segments_fit l.said good);
      init_sections = subst (λ (q : Playlist). init_sections_agree q.segments ≡ true) l.whole (agreed (list_any has_init_section (segments_of l.said)) (list_all has_init_section (segments_of l.said)) t.1);
      date_range_texts = subst (λ (q : Playlist). list_all text_is_clean q.date_ranges ≡ true) l.whole (texts_clean l.said fit);
      date_ranges = date_ranges_are reader base (lines bytes) p (text_was reader base bytes p h).1;
    }
