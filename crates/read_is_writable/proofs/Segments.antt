-- What each segment is that is read.
use Rattle.std.proofs.Common.{◌≡◌, ℕ, Bool, true, false, cond, List, [], ◌∷◌, refl, ◌∙◌, arith}
use Rattle.std.specs.Prelude.{Option, Some, None, unwrap_or, ◌&&◌, Ok, not}
use Rattle.std.specs.List.{list_all}
use Rattle.std.proofs.lemmas.Bool.{and_parts, and_from}
use Rattle.std.proofs.lemmas.List.Folds.{list_all-append}
use Rattle.std.specs.Result.{result_unwrap_or}
use Rattle.date_times.specs.Instant.{in_range}
use Rattle.spec_words.specs.Outcomes.{refuse_if}
use Rattle.playlist_model.specs.Said.{Said, duration, time, media, byte_range, date_range, byte_range_end_fits}
use Rattle.playlist_model.specs.LookBack.{or_earlier, latest, the_duration, the_time, is_media, since_media, own_duration, segments_of, segment_at, the_byte_range, own_byte_range, Extent, byte_range_from, last_extent, media_sequence_at, date_ranges_of}
use Rattle.playlist_model.specs.declared.FaultKind.TheVariants as fault
use Rattle.writable.specs.Fitting.{if_some, is_clean, byte_range_fits}
use Rattle.playlist_write.specs.WellFormed.{duration_fits}
use Rattle.read_is_writable.specs.Read.{segment_can_be_written, text_is_clean}
use Rattle.read_is_writable.proofs.CleanCuts.{clean_is, clean_nil}
use Rattle.read_is_writable.proofs.Values.{byte_range_is_fit}
use Rattle.read_is_writable.proofs.Keys.{effective_fit, init_section_is_fit}
use Rattle.read_is_writable.proofs.Lines.{is_fit, all_good, good_parts, all_parts, all_fit}
use Rattle.read_is_writable.proofs.Numbers.{discontinuity_word}

since_fit : (said : List Said) → list_all is_fit said ≡ true → list_all is_fit (since_media said) ≡ true
since_fit [] h = refl
since_fit (said ∷ before) h = let a = and_parts _ _ h in step (is_media said) said (since_media before) a.0 (since_fit before a.1)
  where
    step : (b : Bool) (said : Said) (since : List Said) → is_fit said ≡ true → list_all is_fit since ≡ true → list_all is_fit (cond b [] (said ∷ since)) ≡ true
    step true said since h g = refl
    step false said since h g = and_from _ _ h g

module _ {A : Type 0} (p : A → Bool) where
  earlier_fits : (o e : Option A) → if_some p o ≡ true → if_some p e ≡ true → if_some p (or_earlier o e) ≡ true
  earlier_fits None e h g = g
  earlier_fits (Some x) e h g = h

  pub latest_fits : (answer : Said → Option A) (said : List Said) → ((x : Said) → is_fit x ≡ true → if_some p (answer x) ≡ true) → list_all is_fit said ≡ true → if_some p (latest answer said) ≡ true
  latest_fits answer [] f h = refl
  latest_fits answer (said ∷ before) f h =
      let a = and_parts _ _ h in earlier_fits (answer said) (latest answer before) (f said a.0) (latest_fits answer before f a.1)

  pub or_default : (o : Option A) (d : A) → if_some p o ≡ true → p d ≡ true → p (unwrap_or o d) ≡ true
  or_default None d h g = g
  or_default (Some x) d h g = h

abbrev fits_duration : ℕ × List ℕ → Bool
fits_duration d = duration_fits d.0 && is_clean d.1

says_duration : (x : Said) → is_fit x ≡ true → if_some fits_duration (the_duration x) ≡ true
says_duration (duration nanos title) h = h
says_duration _ h = refl

says_time : (x : Said) → is_fit x ≡ true → if_some in_range (the_time x) ≡ true
says_time (time t) h = h
says_time _ h = refl

says_byte_range : (x : Said) → is_fit x ≡ true → if_some byte_range_is_fit (the_byte_range x) ≡ true
says_byte_range (byte_range size offset) h = h
says_byte_range _ h = refl

-- ---- the byte range (4.3.2.2)

here_fits : (b : Bool) (size offset : ℕ) → byte_range_end_fits size offset ≡ b
    → if_some byte_range_fits (result_unwrap_or (refuse_if (not b) fault.BadRange (Ok (Some (record { length = size; offset = offset })))) None) ≡ true
here_fits true size offset e = e
here_fits false size offset e = refl

byte_range_is : (own : Option (ℕ × Option ℕ)) (uri : List ℕ) (previous : Option Extent) → if_some byte_range_is_fit own ≡ true → if_some byte_range_fits (result_unwrap_or (byte_range_from own uri previous) None) ≡ true
byte_range_is own uri previous h = grind arith

-- ---- one segment

segment_fits : (before : List Said) (u : List ℕ) → all_good (media u ∷ before) ≡ true → segment_can_be_written (segment_at before u) ≡ true
segment_fits before u h =
    let a = all_parts (media u) before h in
    let here = good_parts before (media u) a.0 in
    let fit = all_fit before a.1 in
    let since = since_fit before fit in
    let own : fits_duration (unwrap_or (own_duration before) (0, [])) ≡ true =
    or_default fits_duration (own_duration before) (0, []) (latest_fits fits_duration the_duration (since_media before) says_duration since) (clean_is [] clean_nil) in
    let parts = and_parts (duration_fits (unwrap_or (own_duration before) (0, [])).0) (is_clean (unwrap_or (own_duration before) (0, [])).1) own in
    let part = byte_range_is (own_byte_range before) u (last_extent before) (latest_fits byte_range_is_fit the_byte_range (since_media before) says_byte_range since) in
    let number = here.1 in
    and_from _ _ (and_from _ _ (and_from _ _ (and_from _ _ (and_from _ _ (and_from _ _
    (and_from _ _ number (discontinuity_word before a.1))
    (and_from _ _ here.0 part))
    (effective_fit (media_sequence_at before) before fit number))
    (init_section_is_fit before a.1))
    parts.0)
    parts.1)
    (latest_fits in_range the_time (since_media before) says_time since)

pub segments_fit : (said : List Said) → all_good said ≡ true → list_all segment_can_be_written (segments_of said) ≡ true
segments_fit [] h = refl
segments_fit (media u ∷ before) h = grind (arith, list_all-append, and_from, all_parts, segment_fits, segments_fit before (all_parts (media u) before h).1)
segments_fit (said ∷ before) h = segments_fit before (all_parts said before h).1

-- ---- date ranges

pub texts_clean : (said : List Said) → list_all is_fit said ≡ true → list_all text_is_clean (date_ranges_of said) ≡ true
texts_clean [] h = refl
texts_clean (date_range r ∷ before) h =
    let a : (is_clean r.attributes ≡ true) × (list_all is_fit before ≡ true) = and_parts _ _ h in
    list_all-append text_is_clean (date_ranges_of before) (r ∷ []) ∙ and_from _ _ (texts_clean before a.1) (and_from _ _ a.0 refl)
texts_clean (said ∷ before) h = texts_clean before (and_parts (is_fit said) (list_all is_fit before) h).1
