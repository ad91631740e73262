-- Rows mean what they meant when a table grows.
use Rattle.std.proofs.Common.{◌≡◌, ◌∙◌, ℕ, zero, suc, get_or, string_bytes, ◌+◌, ◌-◌, ◌^◌, ◌<◌, ◌≤◌, List, [], ◌∷◌, ◌++◌, length, take, drop, refl, ap, sym, subst, arith, length-append, Some}
use Rattle.std.specs.Prelude.{slice_range, slice_get, Option, Result, Ok, Err, OnErr}
use Rattle.std.specs.List.{AllByRecursion}
use Rattle.std.specs.Str.{IsUtf8}
use Rattle.std.proofs.lemmas.List.{append-nil, get_or_append_left, take-append-le, drop-append-le, length-drop, length-map}
use Rattle.std.proofs.Math.Seq.{drop-append_seam, get_or-append_seam, take-length}
use Rattle.std.proofs.lemmas.Option.{get_or_from_slice_get, slice_get_within}
use Rattle.playlist_model.specs.declared.places.Extra.{Extra}
use Rattle.playlist_model.specs.declared.places.Place.{Place}
use Rattle.playlist_model.specs.declared.standings.Standing.{Standing}
use Rattle.playlist_model.specs.declared.segments.Tables.{Tables}
use Rattle.playlist_model.specs.declared.segments.Row.{Row}
use Rattle.playlist_model.specs.declared.Key.{Key}
use Rattle.playlist_model.specs.declared.InitSection.{InitSection}
use Rattle.playlist_model.specs.declared.segments.SegmentParts.{SegmentParts}
use Rattle.playlist_model.specs.Segments.{Growing, Segment, segment_under}
use Rattle.playlist_model.specs.Rows.{HasExtra, extra_at, no_extra, Fits, HasText, no_standing, row_number, row_segment, row_segment_over, row_segments, row_standing, segment_text_at, title_place}
use Rattle.playlist_model.specs.Inner.Rows.{Extends, Grows, StandsOver}

pub long_rows : (tables : Tables) (rows : List Row) → length rows ≡ length (row_segments tables rows)
long_rows tables rows = sym (length-map rows (row_segment tables))

-- ---- a list that grows

longer : {A : Type 0} (xs ys : List A) → Grows xs ys → length xs ≤ length ys
longer xs ys g = let l : length (xs ++ g.more) ≡ length xs + length g.more = length-append xs g.more in rw g.is (omega (arith, l))

range_grown : {A : Type 0} (xs ys : List A) (i j : ℕ) → Grows xs ys → i ≤ j → j ≤ length xs → slice_range ys i j ≡ slice_range xs i j
range_grown xs ys i j g o h =
    let front : i ≤ length xs = omega (arith, o, h) in
    let d : length (drop i xs) ≡ length xs - i = length-drop i xs in
    let within : j - i ≤ length (drop i xs) = omega (arith, o, h, d) in
    ap (λ l. take (j - i) (drop i l)) g.is ∙ ap (take (j - i)) (drop-append-le i xs g.more front) ∙ take-append-le (j - i) (drop i xs) g.more within

-- ---- texts that are put after others

has_text_grown : (xs ys : List ℕ) (place : Place) → Grows xs ys → HasText xs place → HasText ys place
has_text_grown xs ys place g h =
    let l = longer xs ys g in
    record { ordered = h.ordered; within = omega (arith, h.within, l); utf8 = subst IsUtf8 (sym (range_grown xs ys place.from place.to g h.ordered h.within)) h.utf8 }

-- the text that was put after these
pub text_put : (old new text : List ℕ) (place : Place) → new ≡ old ++ text → place.from ≡ length old → place.to ≡ length new → IsUtf8 text
    → HasText new place × (segment_text_at new place ≡ text)
text_put old new text place grown from to u =
    let l : length (old ++ text) ≡ length old + length text = length-append old text in
    let here : length new ≡ length old + length text = ap length grown ∙ l in
    let count : place.to - place.from ≡ length text = omega (arith, from, to, here) in
    let is : segment_text_at new place ≡ text =
    ap (λ k. take (place.to - place.from) (drop k new)) from ∙ ap (λ t. take (place.to - place.from) (drop (length old) t)) grown
    ∙ ap (take (place.to - place.from)) (drop-append_seam old text) ∙ ap (λ k. take k text) count ∙ take-length text in
    (record { ordered = omega (arith, from, to, here); within = omega (arith, to); utf8 = subst IsUtf8 (sym is) u }, is)

-- the text that was found among these
pub text_is_at : (texts text : List ℕ) (place : Place) → place.from ≤ place.to → place.to ≤ length texts → slice_range texts place.from place.to ≡ text → IsUtf8 text
    → HasText texts place × (segment_text_at texts place ≡ text)
text_is_at texts text place o w is u = (record { ordered = o; within = w; utf8 = subst IsUtf8 (sym is) u }, is)

-- ---- rows under tables that grow

at_grown : {A : Type 0} (xs ys : List A) (d : A) (i : ℕ) → Grows xs ys → i < length xs → get_or ys i d ≡ get_or xs i d
at_grown xs ys d i g h = ap (λ l. get_or l i d) g.is ∙ get_or_append_left xs g.more d i h

extra_grown : (xs ys : List Extra) (place : ℕ) → Grows xs ys → HasExtra xs place → extra_at ys place ≡ extra_at xs place
extra_grown xs ys zero g h = refl
extra_grown xs ys (suc place) g h = at_grown xs ys no_extra place g h

has_extra_grown : (xs ys : List Extra) (place : ℕ) → Grows xs ys → HasExtra xs place → HasExtra ys place
has_extra_grown xs ys zero g h = h
has_extra_grown xs ys (suc place) g h = let l = longer xs ys g in omega (arith, h, l)

-- what was put after these
pub extra_put : (old new : List Extra) (place : ℕ) (extra : Extra) → new ≡ old ++ extra ∷ [] → place ≡ length new → HasExtra new place × (extra_at new place ≡ extra)
extra_put old new place extra e at =
    let l : length (old ++ extra ∷ []) ≡ length old + 1 = length-append old (extra ∷ []) in
    let here : place ≡ suc (length old) = at ∙ ap length e ∙ omega (arith, l) in
    let within : length old < length new = let n = ap length e in omega (arith, l, n) in
    (subst (HasExtra new) (sym here) within, ap (extra_at new) here ∙ ap (λ b. get_or b (length old) no_extra) e ∙ get_or-append_seam old extra [] no_extra)

row_ext : (tx ux : List ℕ) (te ue : List Extra) (s z : Standing) (row : Row) → segment_text_at ux s.uri_front ≡ segment_text_at tx s.uri_front → segment_text_at ux row.uri_rest ≡ segment_text_at tx row.uri_rest
    → segment_text_at ux (title_place row) ≡ segment_text_at tx (title_place row) → extra_at ue row.extra ≡ extra_at te row.extra → z ≡ s → row_segment_over ux ue z row ≡ row_segment_over tx te s row
row_ext tx ux te ue s z row f u t r e = grind (arith, f, u, t, r, e)

pub row_grown : (t u : Tables) (row : Row) → Extends t u → Fits t row → row_segment u row ≡ row_segment t row
row_grown t u row e h =
    row_ext _ _ _ _ _ _ row (range_grown _ _ _ _ e.texts h.uri_front.ordered h.uri_front.within) (range_grown _ _ _ _ e.texts h.uri_rest.ordered h.uri_rest.within) (range_grown _ _ _ _ e.texts h.title.ordered h.title.within)
    (extra_grown _ _ row.extra e.extras h.extra) (at_grown _ _ no_standing row.standing e.standings h.standing)

pub fits_grown : (t u : Tables) (row : Row) → Extends t u → Fits t row → Fits u row
fits_grown t u row e h =
    let l = longer _ _ e.standings in
    let here = at_grown _ _ no_standing row.standing e.standings h.standing in
    record {
      uri_front = subst (λ s. HasText (string_bytes u.texts) s.uri_front) (sym here) (has_text_grown _ _ _ e.texts h.uri_front);
      uri_rest = has_text_grown _ _ _ e.texts h.uri_rest;
      title = has_text_grown _ _ _ e.texts h.title;
      extra = has_extra_grown _ _ row.extra e.extras h.extra;
      standing = omega (arith, h.standing, l);
      number = subst (λ s. row_number s row < 2 ^ 64) (sym here) h.number;
    }

pub rows_grown : (t u : Tables) (rows : List Row) → Extends t u → AllByRecursion (Fits t) rows → row_segments u rows ≡ row_segments t rows
rows_grown t u [] e h = refl
rows_grown t u (row ∷ rows) e h = both (row_grown t u row e h.0) (rows_grown t u rows e h.1)
  where
    both : {a b : Segment} {s z : List Segment} → a ≡ b → s ≡ z → ◌≡◌ {A = List Segment} (a ∷ s) (b ∷ z)
    both e f = cc

pub all_fit : (t u : Tables) (rows : List Row) → Extends t u → AllByRecursion (Fits t) rows → AllByRecursion (Fits u) rows
all_fit t u [] e h = h
all_fit t u (row ∷ rows) e h = (fits_grown t u row e h.0, all_fit t u rows e h.1)

append_assoc : {A : Type 0} (a b c : List A) → (a ++ b) ++ c ≡ a ++ (b ++ c)
append_assoc [] b c = refl
append_assoc (x ∷ a) b c = ap (λ l. x ∷ l) (append_assoc a b c)

pub grows_on : {A : Type 0} (xs ys zs : List A) → Grows xs ys → Grows ys zs → Grows xs zs
grows_on xs ys zs g h = record { more = g.more ++ h.more; is = h.is ∙ ap (λ l. l ++ h.more) g.is ∙ append_assoc xs g.more h.more }

pub grows_by_none : {A : Type 0} (xs : List A) → Grows xs xs
grows_by_none xs = record { more = []; is = sym (append-nil xs) }

-- a text that lies among those of a list lies there still when its tables grow
pub text_stays : (t u : Tables) (place : Place) → Extends t u → HasText (string_bytes t.texts) place → HasText (string_bytes u.texts) place × (segment_text_at (string_bytes u.texts) place ≡ segment_text_at (string_bytes t.texts) place)
text_stays t u place e h = (has_text_grown _ _ place e.texts h, range_grown _ _ place.from place.to e.texts h.ordered h.within)

-- ---- a row that is added

pub row_added : (t : Tables) (rows : List Row) (row : Row) → row_segments t (rows ++ row ∷ []) ≡ row_segments t rows ++ row_segment t row ∷ []
row_added t [] row = refl
row_added t (r ∷ rows) row = ap (λ l. row_segment t r ∷ l) (row_added t rows row)

pub row_fits : (t : Tables) (rows : List Row) (row : Row) → AllByRecursion (Fits t) rows → Fits t row → AllByRecursion (Fits t) (rows ++ row ∷ [])
row_fits t [] row h f = (f, tt)
row_fits t (r ∷ rows) row h f = (h.0, row_fits t rows row h.1 f)

-- the row of a segment whose texts were put after others, under a front of its URI that lay among these
pub row_listed : (t u v : List ℕ) (extras : List Extra) (new : List Standing) (tables : Tables) (row : Row) (parts : SegmentParts) (uri_front : Place) (keys : List Key) (init_section : Option InitSection) (s : Standing)
    → string_bytes tables.texts ≡ v → tables.extras.items ≡ extras → tables.standings.items ≡ new
    → Grows t u → Grows u v → HasText t uri_front → HasText u row.uri_rest → segment_text_at u row.uri_rest ≡ parts.uri_rest.now
    → HasText v (title_place row) → segment_text_at v (title_place row) ≡ parts.title.now
    → HasExtra extras row.extra → extra_at extras row.extra ≡ record { byte_range = parts.byte_range; program_date_time = parts.program_date_time }
    → slice_get new row.standing ≡ Some s → StandsOver s row.number (record { media_sequence = parts.media_sequence; discontinuity_sequence = parts.discontinuity_sequence; discontinuities = parts.discontinuities })
    → s.keys ≡ keys → s.init_section ≡ init_section → s.uri_front ≡ uri_front → row.duration ≡ parts.duration
    → Fits tables row × (row_segment tables row ≡ segment_under keys init_section (segment_text_at t uri_front) parts)
row_listed t u v extras new tables row parts uri_front keys init_section s e r f g h front_there rest_there rest_is title there has extra_is found over keys_are section_is front_is duration_is =
    let front_later = has_text_grown u v uri_front h (has_text_grown t u uri_front g front_there) in
    let front_same = range_grown t v uri_front.from uri_front.to (grows_on t u v g h) front_there.ordered front_there.within in
    let rest_later = has_text_grown u v row.uri_rest h rest_there in
    let rest_same = range_grown u v row.uri_rest.from row.uri_rest.to h rest_there.ordered rest_there.within ∙ rest_is in
    let uri_same : segment_text_at v s.uri_front ++ segment_text_at v row.uri_rest ≡ segment_text_at t uri_front ++ parts.uri_rest.now =
    ap (λ p. segment_text_at v p ++ segment_text_at v row.uri_rest) front_is ∙ ap (λ x. x ++ segment_text_at v row.uri_rest) front_same ∙ ap (λ x. segment_text_at t uri_front ++ x) rest_same in
    let here = get_or_from_slice_get new row.standing s no_standing found in
    let place = slice_get_within new row.standing s found in
    let word : row_number s row < 2 ^ 64 = subst (λ n. n < 2 ^ 64) (sym over.media_sequence_is) over.word in
    let standing_is : row_standing tables.standings.items row.standing ≡ s = ap (λ x. row_standing x row.standing) f ∙ here in
    let fits : Fits tables row = record {
      uri_front = subst (λ x. HasText x (row_standing tables.standings.items row.standing).uri_front) (sym e) (subst (λ x. HasText v x.uri_front) (sym standing_is) (subst (HasText v) (sym front_is) front_later));
      uri_rest = subst (λ x. HasText x row.uri_rest) (sym e) rest_later;
      title = subst (λ x. HasText x (title_place row)) (sym e) title;
      extra = subst (λ x. HasExtra x row.extra) (sym r) has;
      standing = subst (λ x. row.standing < length x) (sym f) place;
      number = subst (λ x. row_number x row < 2 ^ 64) (sym standing_is) word;
    } in (
      fits,
      ap (λ x. row_segment_over x tables.extras.items (row_standing tables.standings.items row.standing) row) e
          ∙ ap (λ x. row_segment_over v x (row_standing tables.standings.items row.standing) row) r
          ∙ ap (λ x. row_segment_over v extras x row) standing_is
          ∙ grind (arith, over.media_sequence_is, over.discontinuity_sequence_is, over.discontinuities_are, keys_are, section_is, uri_same, there, extra_is, duration_is),
    )

pub front_fits : (t : Tables) (rows front : List Row) (row : Row) → rows ≡ front ++ row ∷ [] → AllByRecursion (Fits t) rows → AllByRecursion (Fits t) front
front_fits t rows front row e h = of_front front (subst (AllByRecursion (Fits t)) e h)
  where
    of_front : (rows : List Row) → AllByRecursion (Fits t) (rows ++ row ∷ []) → AllByRecursion (Fits t) rows
    of_front [] h = tt
    of_front (r ∷ rows) h = (h.0, of_front rows h.1)

-- what is listed when nothing is added but to the tables
pub still_listed : (t u : Tables) (rows later : List Row) → Extends t u → AllByRecursion (Fits t) rows → later ≡ rows → AllByRecursion (Fits u) later × (row_segments u later ≡ row_segments t rows)
still_listed t u rows later e h f = (subst (AllByRecursion (Fits u)) (sym f) (all_fit t u rows e h), ap (row_segments u) f ∙ rows_grown t u rows e h)

-- what is listed when a row is added
pub listed_on : (t u : Tables) (rows later : List Row) (row : Row) (s : Segment) → Extends t u → AllByRecursion (Fits t) rows → later ≡ rows ++ row ∷ [] → Fits u row → row_segment u row ≡ s
    → AllByRecursion (Fits u) later × (row_segments u later ≡ row_segments t rows ++ s ∷ [])
listed_on t u rows later row s e h f g is = (
  subst (AllByRecursion (Fits u)) (sym f) (row_fits u rows row (all_fit t u rows e h) g),
  ap (row_segments u) f ∙ row_added u rows row ∙ ap (λ l. l ++ row_segment u row ∷ []) (rows_grown t u rows e h) ∙ ap (λ x. row_segments t rows ++ x ∷ []) is,
)

-- what grows is equal if its parts are
pub grown_is : (keys : List Key) (init_section : Option InitSection) {s z : List Segment} {f g : List ℕ} → s ≡ z → f ≡ g
    → ◌≡◌ {A = Growing} (record { segments = s; keys = keys; init_section = init_section; uri_front = f }) (record { segments = z; keys = keys; init_section = init_section; uri_front = g })
grown_is keys init_section {s} {z} {f} {g} e h =
    ap {A = List Segment} {B = Growing} (λ s. record { segments = s; keys = keys; init_section = init_section; uri_front = f }) e ∙ ap {A = List ℕ} {B = Growing} (λ f. record { segments = z; keys = keys; init_section = init_section; uri_front = f }) h

pub always : {A E : Type 0} (r : Result A E) (P : Type 0) → P → OnErr r P
always (Ok x) P p = tt
always (Err e) P p = p

-- ---- copies

-- one more of a list is taken
pub taken_more : {A : Type 0} (xs : List A) (count : ℕ) (x : A) (later : List A) → x ∷ later ≡ drop count xs → (take (count + 1) xs ≡ take count xs ++ x ∷ []) × (later ≡ drop (count + 1) xs)
taken_more xs zero x later h = grind arith
taken_more [] (suc count) x later h = grind arith
taken_more (y ∷ xs) (suc count) x later h = let more = taken_more xs count x later h in grind (arith, more)

-- nothing is left of a list that is taken whole
pub all_taken : {A : Type 0} (xs : List A) (count : ℕ) → [] ≡ drop count xs → take count xs ≡ xs
all_taken xs zero h = h
all_taken [] (suc count) h = refl
all_taken (x ∷ xs) (suc count) h = ap (λ ys. x ∷ ys) (all_taken xs count h)

pub no_rows : (tables : Tables) (rows : List Row) → length rows ≡ 0 → [] ≡ row_segments tables rows
no_rows tables [] h = refl
no_rows tables (row ∷ rows) h = absurd (cc h)
