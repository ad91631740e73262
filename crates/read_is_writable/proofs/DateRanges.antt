-- Each date range that is read is the one that its text says (RFC 8216, section 4.3.2.7).
use Rattle.std.proofs.Common.{◌≡◌, ℕ, ◌+◌, Bool, true, false, List, [], ◌∷◌, ◌++◌, length, refl, sym, subst}
use Rattle.std.specs.Prelude.{Err, Ok, codes, bytes_eq}
use Rattle.std.specs.List.{AllByRecursion}
use Rattle.std.proofs.lemmas.Slice.Eq.{bytes_eq-Decides}
use Rattle.url.specs.Parts.{Parts}
use Rattle.attr_list.specs.Attributes.{attribute}
use Rattle.playlist_model.specs.declared.DateRange.{DateRange}
use Rattle.playlist_model.specs.declared.FaultKind.{FaultKind}
use Rattle.playlist_model.specs.Lines.{Kind, ignored, uri, tag, kind_of, has_control}
use Rattle.spec_words.specs.Outcomes.{refuse_if, optional}
use Rattle.playlist_model.specs.Said.{Name, date_range_tag, unknown_tag, Said, nothing, date_range, Outcome, Reader, attributes, required, time_of, attribute_duration_of, date_range_said}
use Rattle.playlist_model.specs.LookBack.{is_media, date_ranges_of}
use Rattle.playlist_model.specs.Reading.{name_of, said_by_tag, said_by_kind, said_by, said_from}
use Rattle.read_is_writable.specs.Read.{IsSaidBy}
use Rattle.read_is_writable.proofs.Gives.{Gives, answers, after}
use Rattle.read_is_writable.proofs.Lines.{line_was}
use Rattle.read_is_writable.proofs.OwnKinds.{is_of, tag_kind, uri_kind}

-- what is said is another thing, or a date range that its own text says
pub Says : Reader → Said → Type 0
Says reader (date_range r) = IsSaidBy reader r
Says reader _ = Unit {0}

record SaysIt (reader : Reader) (o : Outcome Said) : Type 0 where
  says : (said : Said) → o ≡ Ok said → Says reader said

is_date_range_tag : Name → Bool
is_date_range_tag date_range_tag = true
is_date_range_tag _ = false

says_date_range : (name : Name) (r : DateRange) → is_of name (date_range r) ≡ true → is_date_range_tag name ≡ true
unfolding is_date_range_tag
says_date_range date_range_tag r h = refl
says_date_range _ r h = cc

other_says : (reader : Reader) (name : Name) (said : Said) → is_date_range_tag name ≡ false → is_of name said ≡ true → Says reader said
unfolding Says
other_says reader name (date_range r) n h = let e = says_date_range name r h in cc
other_says reader name _ n h = tt

media_says : (reader : Reader) (said : Said) → is_media said ≡ true → Says reader said
unfolding Says
media_says reader (date_range r) h = cc
media_says reader _ h = tt

module _ (reader : Reader) (base : Parts) where
  -- what a date range line says has the line's rest as its text
  has_text : List ℕ → Said → Bool
  has_text rest (date_range r) = bytes_eq r.attributes rest
  has_text rest _ = false

  text_kept : (rest : List ℕ) → Gives (has_text rest) (date_range_said reader rest)
  unfolding has_text
  text_kept rest =
      after _ (attributes reader rest) _ (λ pairs. after _ (required true (attribute pairs (codes "ID"))) _ (λ id.
      after _ (optional time_of (attribute pairs (codes "START-DATE"))) _ (λ start. after _ (optional time_of (attribute pairs (codes "END-DATE"))) _ (λ end.
      after _ (optional attribute_duration_of (attribute pairs (codes "DURATION"))) _ (λ length. after _ (optional attribute_duration_of (attribute pairs (codes "PLANNED-DURATION"))) _ (λ planned. answers (has_text rest) _ (same rest)))))))
    where
      same : (rest : List ℕ) → bytes_eq rest rest ≡ true
      same rest = (bytes_eq-Decides rest rest).1 refl

  date_range_says : (rest : List ℕ) → SaysIt reader (date_range_said reader rest)
  unfolding Says has_text
  date_range_says rest = record { says = λ said h. at said h ((text_kept rest).passes said h) }
    where
      at : (said : Said) → date_range_said reader rest ≡ Ok said → has_text rest said ≡ true → Says reader said
      at (date_range r) h e = let same : r.attributes ≡ rest = (bytes_eq-Decides r.attributes rest).0 e in subst (λ t. date_range_said reader t ≡ Ok (date_range r)) (sym same) h
      at _ h e = cc

  other_tag : (before : List Said) (name : Name) (rest : List ℕ) → is_date_range_tag name ≡ false → SaysIt reader (said_by_tag reader base before name rest)
  other_tag before name rest n = record { says = λ said h. other_says reader name said n ((tag_kind reader base before name rest).passes said h) }

  by_tag : (before : List Said) (name : Name) (rest : List ℕ) → SaysIt reader (said_by_tag reader base before name rest)
  unfolding is_date_range_tag
  by_tag before date_range_tag rest = date_range_says rest
  by_tag before name rest = other_tag before name rest refl

  by_kind : (before : List Said) (kind : Kind) → SaysIt reader (said_by_kind reader base before kind)
  unfolding is_date_range_tag
  by_kind before ignored = other_tag before unknown_tag [] refl
  by_kind before (uri reference) = record { says = λ said h. media_says reader said ((uri_kind reader base before reference).passes said h) }
  by_kind before (tag name rest colon) = by_tag before (name_of name colon) rest

  not_refused : (b : Bool) (e : FaultKind) (o : Outcome Said) → SaysIt reader o → SaysIt reader (refuse_if b e o)
  not_refused true e o g = record { says = λ said h. absurd (no h) }
    where
      no : {said : Said} → Err e ≡ Ok said → ⊥
      no h = cc
  not_refused false e o g = g

  by_line : (before : List Said) (line : List ℕ) → SaysIt reader (said_by reader base before line)
  by_line before line = not_refused (has_control line) _ _ (by_kind before (kind_of line))

  pub says_from : (before : List Said) (later : List (List ℕ)) (said : List Said)
      → AllByRecursion (Says reader) before → said_from (said_by reader base) before later ≡ Ok said → AllByRecursion (Says reader) said
  says_from before [] said g h = let e : before ≡ said = cc in subst (AllByRecursion (Says reader)) e g
  says_from before (line ∷ later) said g h =
      let w = line_was (length before + 1) (said_by reader base before line) (λ s. said_from (said_by reader base) (s ∷ before) later) said h in
      says_from (w.0 ∷ before) later said ((by_line before line).says w.0 w.1, g) w.2

all_append : (P : DateRange → Type 0) (xs : List DateRange) (x : DateRange) → AllByRecursion P xs → P x → AllByRecursion P (xs ++ x ∷ [])
all_append P [] x h p = (p, tt)
all_append P (y ∷ ys) x h p = (h.0, all_append P ys x h.1 p)

-- the date ranges are those that their texts say
pub date_ranges_said : (reader : Reader) (said : List Said) → AllByRecursion (Says reader) said → AllByRecursion (IsSaidBy reader) (date_ranges_of said)
unfolding Says
date_ranges_said reader [] h = tt
date_ranges_said reader (date_range r ∷ before) h = all_append (IsSaidBy reader) (date_ranges_of before) r (date_ranges_said reader before h.1) h.0
date_ranges_said reader (_ ∷ before) h = date_ranges_said reader before h.1

pub first_says : (reader : Reader) → AllByRecursion (Says reader) (nothing ∷ [])
unfolding Says
first_says reader = (tt, tt)
