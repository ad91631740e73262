-- A reader with limits reads what the bytes denote.
use Rattle.std.proofs.Common.{◌≡◌, ℕ, ◌+◌, Bool, true, false, not, cond, List, [], ◌∷◌, length, refl, arith}
use Rattle.std.specs.Prelude.{Result, Ok, Err, Option, None}
use Rattle.std.specs.Str.{is_utf8}
use Rattle.std.specs.Str.Lines.{lines}
use Rattle.url.specs.Parts.{Parts}
use Rattle.playlist_model.specs.declared.FaultKind.{FaultKind}
use Rattle.playlist_model.specs.declared.Playlist.{Playlist}
use Rattle.playlist_model.specs.Lines.{Kind, ignored, uri, tag, kind_of, has_control}
use Rattle.playlist_model.specs.declared.FaultKind.TheVariants as fault
use Rattle.attr_list.specs.declared.AttrFault.{AttrFault}
use Rattle.attr_list.specs.declared.AttrFault.TheVariants.{TooMany as TooManyAttributes}
use Rattle.attr_list.specs.Attributes.{Pair, is_full, pair_of, add_pair, pairs_from}
use Rattle.playlist_model.specs.LookBack.{keys_at, count, is_media}
use Rattle.spec_words.specs.Outcomes.{◌>>=◌, refuse_if, mended}
use Rattle.playlist_model.specs.Said.{Name, key_tag, init_section_tag, date_range_tag, Said, over, Outcome, Reader, attributes, key_said, init_section_said, date_range_said}
use Rattle.playlist_model.specs.Reading.{name_of, said_by_tag, said_by_uri, said_by_kind, said_by, said_from, at_line, Fault, and_whole, of_lines, reading, unlimited, within_formats, Denotes}

-- what the one answers, the other answers too
Grants : {A E : Type 0} → Result A E → Result A E → Type 0
Grants {A} o p = (x : A) → o ≡ Ok x → p ≡ Ok x

itself : {A E : Type 0} (o : Result A E) → Grants o o
unfolding Grants
itself o x h = h

either : {A E : Type 0} (b : Bool) (o p q : Result A E) → Grants o p → Grants (cond b o q) (cond b p q)
unfolding Grants
either true o p q g x h = g x h
either false o p q g x h = h

module _ {A : Type 0} where
  refused : (b : Bool) (e : FaultKind) (o : Outcome A) → Grants (refuse_if b e o) o
  unfolding Grants
  refused true e o x h = cc
  refused false e o x h = h

  same_refused : (b : Bool) (e : FaultKind) (o p : Outcome A) → Grants o p → Grants (refuse_if b e o) (refuse_if b e p)
  unfolding Grants
  same_refused true e o p g x h = cc
  same_refused false e o p g x h = g x h

bound : {A B : Type 0} (o p : Outcome A) (f g : A → Outcome B) → Grants o p → ((x : A) → Grants (f x) (g x)) → Grants (o >>= f) (p >>= g)
unfolding Grants
bound (Ok x) p f g s t y h = let e : p ≡ Ok x = s x refl in rw e (t x y h)
bound (Err e) p f g s t y h = cc

unlimited_pair : (b : Bool) (o : Result Pair AttrFault) → Grants (cond b (Err TooManyAttributes) o) o
unfolding Grants
unlimited_pair true o x h = cc
unlimited_pair false o x h = h

added : (before : List Pair) (o p : Result Pair AttrFault) (f g : List Pair → Result (List Pair) AttrFault)
    → Grants o p → ((pairs : List Pair) → Grants (f pairs) (g pairs)) → Grants (add_pair before o f) (add_pair before p g)
unfolding Grants
added before o p f g s t y h = grind arith

more_pairs : (most : Option ℕ) (before : List Pair) (parts : List (List ℕ)) → Grants (pairs_from most before parts) (pairs_from None before parts)
more_pairs most before [] = itself _
more_pairs most before (part ∷ later) =
    added before _ _ _ _ (unlimited_pair (is_full most (length before)) (pair_of None before part)) (λ pairs. more_pairs most pairs later)

told_as : {A E : Type 0} (e : FaultKind) (o p : Result A E) → Grants o p → Grants (mended e o) (mended e p)
unfolding Grants
told_as e (Ok x) p g y h = let same : p ≡ Ok x = g x refl in rw same h
told_as e (Err d) p g y h = cc

more_attributes : (reader : Reader) (rest : List ℕ) → Grants (attributes reader rest) (attributes unlimited rest)
more_attributes reader rest = grind (arith, told_as, more_pairs)

more_formats : (reader : Reader) (before : List Said) (said : Said) → Grants (within_formats reader before said) (within_formats unlimited before said)
more_formats reader before said = refused (over reader.formats (length (keys_at (said ∷ before)))) fault.TooMany (within_formats unlimited before said)

more_keys : (reader : Reader) (base : Parts) (rest : List ℕ) → Grants (key_said reader base rest) (key_said unlimited base rest)
more_keys reader base rest = bound _ _ _ _ (more_attributes reader rest) (λ pairs. itself _)

more_init_sections : (reader : Reader) (base : Parts) (rest : List ℕ) → Grants (init_section_said reader base rest) (init_section_said unlimited base rest)
more_init_sections reader base rest = bound _ _ _ _ (more_attributes reader rest) (λ pairs. itself _)

more_date_ranges : (reader : Reader) (rest : List ℕ) → Grants (date_range_said reader rest) (date_range_said unlimited rest)
more_date_ranges reader rest = bound _ _ _ _ (more_attributes reader rest) (λ pairs. itself _)

by_tag : (reader : Reader) (base : Parts) (before : List Said) (name : Name) (rest : List ℕ)
    → Grants (said_by_tag reader base before name rest) (said_by_tag unlimited base before name rest)
by_tag reader base before key_tag rest = bound _ _ _ _ (more_keys reader base rest) (more_formats reader before)
by_tag reader base before init_section_tag rest = bound _ _ _ _ (more_init_sections reader base rest) (λ said. itself _)
by_tag reader base before date_range_tag rest = more_date_ranges reader rest
by_tag reader base before _ rest = itself _

by_kind : (reader : Reader) (base : Parts) (before : List Said) (kind : Kind)
    → Grants (said_by_kind reader base before kind) (said_by_kind unlimited base before kind)
by_kind reader base before ignored = itself _
by_kind reader base before (uri reference) =
    refused (over reader.segments (count is_media before + 1)) fault.TooMany (said_by_uri unlimited base before reference)
by_kind reader base before (tag name rest colon) = by_tag reader base before (name_of name colon) rest

by_line : (reader : Reader) (base : Parts) (before : List Said) (line : List ℕ) → Grants (said_by reader base before line) (said_by unlimited base before line)
by_line reader base before line = same_refused (has_control line) fault.Control _ _ (by_kind reader base before (kind_of line))

from_step : (n : ℕ) (o p : Outcome Said) (f g : Said → Result (List Said) Fault) → Grants o p → ((x : Said) → Grants (f x) (g x)) → Grants (at_line n o f) (at_line n p g)
unfolding Grants
from_step n (Ok x) p f g s t y h = let e : p ≡ Ok x = s x refl in rw e (t x y h)
from_step n (Err e) p f g s t y h = cc

from : (reader : Reader) (base : Parts) (before : List Said) (lines : List (List ℕ))
    → Grants (said_from (said_by reader base) before lines) (said_from (said_by unlimited base) before lines)
from reader base before [] = itself _
from reader base before (line ∷ later) =
    from_step (length before + 1) _ _ _ _ (by_line reader base before line) (λ said. from reader base (said ∷ before) later)

whole_step : (o p : Result (List Said) Fault) → Grants o p → Grants (and_whole o) (and_whole p)
unfolding Grants
whole_step (Ok said) p g x h = let e : p ≡ Ok said = g said refl in rw e h
whole_step (Err e) p g x h = cc

of : (reader : Reader) (base : Parts) (texts : List (List ℕ)) → Grants (of_lines reader base texts) (of_lines unlimited base texts)
of reader base texts = grind (arith, itself, either, whole_step, from)

chosen : {A E : Type 0} (b long : Bool) (e f : E) (o p : Result A E) → Grants o p → Grants (cond b (Err e) (cond long (Err f) o)) (cond b (Err e) p)
unfolding Grants
chosen true long e f o p g x h = cc
chosen false true e f o p g x h = cc
chosen false false e f o p g x h = g x h

pub reads_what_is_denoted : (reader : Reader) (base : Parts) (bytes : List ℕ) (playlist : Playlist) → reading reader base bytes ≡ Ok playlist → Denotes base bytes playlist
unfolding Grants
reads_what_is_denoted reader base bytes playlist h = chosen (not (is_utf8 bytes)) _ _ _ _ _ (of reader base (lines bytes)) playlist h
