-- A reading that goes on with lines that were read before.
use Rattle.std.proofs.Common.{◌≡◌, ℕ, ◌+◌, ◌-◌, ◌<◌, ◌≤◌, Bool, true, List, [], ◌∷◌, ◌++◌, take, drop, length, refl, ap, sym, ◌∙◌, arith, subst, length-append, append_assoc}
use Rattle.std.specs.Prelude.{◌&&◌, Option, None, Some, Result, Ok, Err, IfOk, OnOk, MatchOption, unwrap_or}
use Rattle.std.specs.List.{list_all}
use Rattle.std.proofs.lemmas.Bool.{and_parts}
use Rattle.std.specs.Str.Lines.{lines}
use Rattle.std.proofs.lemmas.List.{append-nil, drop-append-le, drop_all, take_all, take-append-le}
use Rattle.std.proofs.Math.Seq.{take-append_seam}
use Rattle.url.specs.Parts.{Parts}
use Rattle.playlist_model.specs.Segments.{Segment}
use Rattle.playlist_model.specs.declared.DateRange.{DateRange}
use Rattle.playlist_model.specs.declared.Playlist.{Playlist}
use Rattle.playlist_model.specs.Said.{Said, nothing, media, Outcome}
use Rattle.playlist_model.specs.LookBack.{Standing, standing_at, latest, the_sequence, the_discontinuity_sequence, is_media, count, segments_of, date_ranges_of}
use Rattle.playlist_model.specs.Inner.Heading.{Heading, heading_at}
use Rattle.playlist_model.specs.Reading.{has, said_by, said_from, at_line, limited, playlist_of, Fault}
use Rattle.segment_state.specs.Continued.{Stop, IsStop, stopped_at}
use Rattle.playlist_parse.specs.Inner.Progress.{Progress, progress_at}
use Rattle.playlist_parse.specs.Inner.Reached.{Reached, left_in}
use Rattle.playlist_parse.specs.declared.reading.Reading.{Reading}
use Rattle.playlist_kept.specs.declared.read_playlist.Places.{Places}
use Rattle.playlist_kept.specs.declared.source.LastPlaylist.{LastPlaylist}
use Rattle.playlist_kept.specs.Places.{StandInBoth}
use Rattle.playlist_kept.specs.Kept.{AreKeptLines}
use Rattle.playlist_parse.specs.Inner.Resumed.{Scene, scene_at, Alike, Resumed}
use Rattle.playlist_parse.specs.Inner.LineViews.{is_free}
use Rattle.playlist_parse.specs.Inner.Source.{GoOnAlike, TakesOver, AreLinesOf, Grown, gone_to, gone_after}
use Rattle.playlist_parse.specs.Inner.HeadingView.{heading_view}
use Rattle.playlist_kept.specs.KeptLines.{SaysOfAll, LinesWereRead}
use Rattle.playlist_kept.specs.declared.source.KeptLines.{KeptLines}
use Rattle.playlist_kept.specs.declared.heading.ReadHeading.{ReadHeading}
use Rattle.playlist_parse.proofs.GoingOn.{goes_on}

-- ---- lines after lines

ok_is : {a b : List Said} → ◌≡◌ {A = Result (List Said) Fault} (Ok a) (Ok b) → a ≡ b
ok_is h = cc h

line_then : (n : ℕ) (o : Outcome Said) (f g : Said → Result (List Said) Fault) (r : Result (List Said) Fault) (all : List Said) → ((said : Said) → f said ≡ Ok all → g said ≡ r)
    → at_line n o f ≡ Ok all → at_line n o g ≡ r
line_then n (Ok said) f g r all k h = k said h
line_then n (Err e) f g r all k h = absurd (cc h)

-- what lines say after others that were read
pub said_then : (read : List Said → List ℕ → Outcome Said) (before : List Said) (lines more : List (List ℕ)) (all : List Said) → said_from read before lines ≡ Ok all
    → said_from read before (lines ++ more) ≡ said_from read all more
said_then read before [] more all h = ap (λ b. said_from read b more) (ok_is h)
said_then read before (line ∷ later) more all h =
    line_then (length before + 1) (read before line) (λ said. said_from read (said ∷ before) later) (λ said. said_from read (said ∷ before) (later ++ more)) (said_from read all more) all
    (λ said e. said_then read (said ∷ before) later more all e) h

-- ---- stops

abbrev scene_of : Heading → Stop → Scene
scene_of heading stop = record {
  heading = heading;
  number = stop.number;
  discontinuity = stop.discontinuity;
  steps = 0;
  duration = None;
  byte_range = None;
  time = None;
  keys = stop.keys;
  init_section = stop.init_section;
  extent = stop.extent;
}

scene_is : (before : List Said) (heading : Heading) (stop : Stop) → heading_at before ≡ heading → IsStop (standing_at before) stop → scene_at before ≡ scene_of heading stop
scene_is before heading stop h s = grind arith

pub count_segments : (before : List Said) → length (segments_of before) ≡ count is_media before
count_segments [] = refl
count_segments (media resource ∷ before) = grind (arith, length-append, count_segments before)
count_segments (_ ∷ before) = count_segments before

pub alike_at : (old new : List Said) (stop : Stop) → IsStop (standing_at old) stop → IsStop (standing_at new) stop → heading_at old ≡ heading_at new → has is_media old ≡ true
    → length (segments_of new) ≤ length (segments_of old) → Alike old new
alike_at old new stop s t h some fewer = grind (arith, scene_is, count_segments)

-- ---- parts of lists

pub dropped_all : {A : Type 0} (xs : List A) (n : ℕ) → length xs ≤ n → [] ≡ drop n xs
dropped_all xs n h = sym (drop_all n xs h)

pub taken_all : {A : Type 0} (xs : List A) (n : ℕ) → length xs ≤ n → xs ≡ take n xs
taken_all xs n h = sym (take_all n xs h)

-- ---- what is reached

drop_front : {A : Type 0} (xs ys : List A) → drop (length xs) (xs ++ ys) ≡ ys
drop_front xs ys = grind (arith, drop-append-le, drop_all)

counted : (first stated n number : ℕ) → first ≡ stated → stated + n ≡ number → number - first ≡ n
counted first stated n number h k = omega (arith, h, k)

stopped_is : (s : Standing) (stop : Stop) (heading : Heading) (said : List Said) → s.media_sequence ≡ unwrap_or (latest the_sequence said) 0
    → s.discontinuity_sequence ≡ unwrap_or (latest the_discontinuity_sequence said) 0 → scene_at said ≡ scene_of heading stop → stopped_at s stop ≡ standing_at said
stopped_is s stop heading said first step e = grind arith

progress_ext : (a b : Parts) (g h : Heading) (s t : Standing) (d e : List DateRange) (x y : List Segment) → a ≡ b → g ≡ h → s ≡ t → d ≡ e → x ≡ y
    → ◌≡◌ {A = Progress} (record { base = a; heading = g; standing = s; date_ranges = d; segments = x }) (record { base = b; heading = h; standing = t; date_ranges = e; segments = y })
progress_ext a b g h s t d e x y e1 e2 e3 e4 e5 = cc

-- what is taken over of a list
taken : {A : Type 0} (here now there whole front all more : List A) → here ≡ front → there ≡ drop (length now) whole → now ≡ all → whole ≡ all ++ more → here ++ there ≡ front ++ more
taken here now there whole front all more h t n w = grind (arith, drop_front)

heading_was : (heading : ReadHeading) (before : List Said) → SaysOfAll heading before → heading_at before ≡ heading_view heading
heading_was heading before h = grind arith

heading_says : (heading : ReadHeading) (before : List Said) → heading_at before ≡ heading_view heading → SaysOfAll heading before
heading_says heading before h = grind arith

module _ (base : Parts) (p q new : Progress) (n m k : ℕ) (left left_now lines_here lines_there : List (List ℕ)) (common : List ℕ) (source : KeptLines) (all : List Segment) (ranges : List DateRange)
    (here : Reached base p n left lines_here) (there : Reached base q m (lines common) lines_there) (was : LinesWereRead base source all ranges)
    (same : lines source.text ≡ lines_there) (stop : Stop) (stop_here : IsStop p.standing stop) (stop_there : IsStop q.standing stop)
    (heading : p.heading ≡ q.heading) (some : q.heading.has_media ≡ true) (fewer : length p.segments ≤ length q.segments)
    (cut : left ≡ lines common ++ left_now) (is : new ≡ gone_to p (heading_view source.heading) source.stop (drop (length q.date_ranges) (take source.date_ranges ranges)) (drop (length q.segments) (take source.segments all)))
    (number : k + m ≡ n + source.next) where
  standing_here : p.standing ≡ standing_at here.before
  standing_here = ap (λ (x : Progress). x.standing) here.progress_is

  standing_there : q.standing ≡ standing_at there.before
  standing_there = ap (λ (x : Progress). x.standing) there.progress_is

  headings : heading_at there.before ≡ heading_at here.before
  headings = sym (ap (λ (x : Progress). x.heading) there.progress_is) ∙ sym heading ∙ ap (λ (x : Progress). x.heading) here.progress_is

  media_there : has is_media there.before ≡ true
  media_there = sym (ap (λ (x : Progress). x.heading.has_media) there.progress_is) ∙ some

  segments_fewer : length (segments_of here.before) ≤ length (segments_of there.before)
  segments_fewer =
      let one = ap (λ (x : Progress). length x.segments) here.progress_is in
      let other = ap (λ (x : Progress). length x.segments) there.progress_is in
      omega (arith, one, other, fewer)

  alike : Alike there.before here.before
  alike =
      alike_at there.before here.before stop (subst (λ s. IsStop s stop) standing_there stop_there) (subst (λ s. IsStop s stop) standing_here stop_here) headings media_there segments_fewer

  read_there : said_from (said_by limited base) there.before (lines common) ≡ Ok was.before
  read_there = there.rest ∙ ap (said_from (said_by limited base) (nothing ∷ [])) (sym same) ∙ was.read

  resumed : Resumed limited base there.before here.before (lines common) was.before
  resumed = goes_on limited base there.before here.before (lines common) was.before alike read_there

  scene_now : scene_at resumed.said ≡ scene_of (heading_view source.heading) source.stop
  scene_now = sym resumed.alike.scene ∙ scene_is was.before (heading_view source.heading) source.stop (heading_was source.heading was.before was.heading) was.stop

  standing_now : stopped_at p.standing source.stop ≡ standing_at resumed.said
  standing_now =
      stopped_is p.standing source.stop (heading_view source.heading) resumed.said
      (ap (λ (s : Standing). s.media_sequence) standing_here ∙ ap (λ o. unwrap_or o 0) (sym resumed.sequence))
      (ap (λ (s : Standing). s.discontinuity_sequence) standing_here ∙ ap (λ o. unwrap_or o 0) (sym resumed.discontinuity_sequence)) scene_now

  progress_now : new ≡ progress_at base resumed.said
  progress_now =
      is ∙ progress_ext _ _ _ _ _ _ _ _ _ _ (ap (λ (x : Progress). x.base) here.progress_is) (sym (ap (λ (s : Scene). s.heading) scene_now)) standing_now
      (taken p.date_ranges q.date_ranges _ (take source.date_ranges ranges) (date_ranges_of here.before) (date_ranges_of there.before) resumed.date_ranges
      (ap (λ (x : Progress). x.date_ranges) here.progress_is) refl (ap (λ (x : Progress). x.date_ranges) there.progress_is) (sym was.date_ranges ∙ resumed.old_date_ranges)
      ∙ sym resumed.new_date_ranges)
      (taken p.segments q.segments _ (take source.segments all) (segments_of here.before) (segments_of there.before) resumed.segments
      (ap (λ (x : Progress). x.segments) here.progress_is) refl (ap (λ (x : Progress). x.segments) there.progress_is) (sym was.segments ∙ resumed.old_segments)
      ∙ sym resumed.new_segments)

  -- the lines that were read before are read here too
  pub gone_on : Reached base new k left_now lines_here
  gone_on =
      let size : length left ≡ length (lines common) + length left_now = ap length cut ∙ length-append (lines common) left_now in record {
        before = resumed.said;
        progress_is = progress_now;
        count = omega (arith, resumed.lines_read, resumed.old_lines_read, here.count, there.count, was.next, number);
        within = omega (arith, resumed.lines_read, here.within, size);
        rest = sym (said_then (said_by limited base) here.before (lines common) left_now resumed.said resumed.read)
            ∙ ap (said_from (said_by limited base) here.before) (sym cut) ∙ here.rest;
      }

-- the same, over what agrees
pub took_over : (old front new : Reading) (common : List ℕ) (source : LastPlaylist) → GoOnAlike old.progress front.progress → left_in front ≡ lines common
    → left_in old ≡ lines common ++ left_in new → new.progress ≡ gone_after old.progress front.progress source → new.number + front.number ≡ old.number + source.lines.next → TakesOver front source old new
took_over old front new common source agree same cut is number = λ base was there tail all here.
    gone_on base old.progress front.progress new.progress old.number front.number new.number (left_in old ++ tail) (left_in new ++ tail) all (lines source.lines.text) common source.lines source.segments.items source.date_ranges here
    (subst (λ ls. Reached base front.progress front.number ls (lines source.lines.text)) same there) was refl agree.stop agree.here agree.there agree.heading agree.some agree.fewer
    (ap (λ ls. ls ++ tail) cut ∙ append_assoc (lines common) (left_in new) tail) is number

-- if nothing changed, nothing has to be shown
pub stayed : (front old new : Reading) (source : LastPlaylist) → new ≡ old → TakesOver front source old new
stayed front old new source is = grind arith

-- what stands at these places was taken over
pub taken_over : (old front new : Progress) (source : LastPlaylist) (places : Places) → new ≡ gone_after old front source → places.start ≡ length old.segments → places.end ≡ length new.segments
    → places.from ≡ length front.segments → places.till ≡ source.lines.segments → StandInBoth source.segments.items new.segments places
taken_over old front new source places is start end from till = grind (arith, length-append, take_all, drop_front)

-- nothing was taken over
pub none_taken : (old new : List Segment) (places : Places) → places ≡ record { start = 0; end = 0; from = 0; till = 0 } → StandInBoth old new places
none_taken old new places none = grind arith

pub plain_after : (front left later : List (List ℕ)) → left ≡ front ++ later → list_all is_free left ≡ true → list_all is_free later ≡ true
plain_after front left later is h = dropped front later (ap (list_all is_free) (sym is) ∙ h)
  where
    dropped : (front later : List (List ℕ)) → list_all is_free (front ++ later) ≡ true → list_all is_free later ≡ true
    dropped [] later h = h
    dropped (line ∷ front) later h = let a = and_parts _ _ h in dropped front later a.1

pub plain_front : (left front later : List (List ℕ)) → left ≡ front ++ later → list_all is_free left ≡ true → list_all is_free front ≡ true
plain_front left front later is h = kept front later (ap (list_all is_free) (sym is) ∙ h)
  where
    both : {a b : Bool} → a ≡ true → b ≡ true → (a && b) ≡ true
    both e f = grind (arith, e, f)

    kept : (front later : List (List ℕ)) → list_all is_free (front ++ later) ≡ true → list_all is_free front ≡ true
    kept [] later h = refl
    kept (line ∷ front) later h = let a = and_parts _ _ h in both a.0 (kept front later a.1)

pub few_reached : {base : Parts} {p : Progress} {n : ℕ} {left all : List (List ℕ)} → Reached base p n left all → length all < 9223372036854775808 → n + length left < 18446744073709551616
few_reached r h = omega (arith, r.count, r.within, h)

pub if_ok : {A E : Type 0} (r : Result A E) (P Q : A → Type 0) → ((x : A) → P x → Q x) → IfOk r P → IfOk r Q
if_ok (Ok x) P Q f h = f x h
if_ok (Err e) P Q f h = h

pub on_ok : {A E : Type 0} (r : Result A E) (P Q : Type 0) → (P → Q) → OnOk r P → OnOk r Q
on_ok (Ok x) P Q f h = f h
on_ok (Err e) P Q f h = h

-- ---- what is read first stands before what is read then

record Follows (before all : List Said) : Type 0 where
  segments : List Segment
  date_ranges : List DateRange
  segments_are : segments_of all ≡ segments_of before ++ segments
  date_ranges_are : date_ranges_of all ≡ date_ranges_of before ++ date_ranges

one_more : (said : Said) (before all : List Said) → Follows (said ∷ before) all → Follows before all
one_more said before all f = grind (arith, append_assoc)

line_follows : (n : ℕ) (o : Outcome Said) (f : Said → Result (List Said) Fault) (before all : List Said) → ((said : Said) → f said ≡ Ok all → Follows (said ∷ before) all)
    → at_line n o f ≡ Ok all → Follows before all
line_follows n (Ok said) f before all k h = one_more said before all (k said h)
line_follows n (Err e) f before all k h = absurd (cc h)

follows : (read : List Said → List ℕ → Outcome Said) (before : List Said) (left : List (List ℕ)) (all : List Said) → said_from read before left ≡ Ok all → Follows before all
follows read before [] all h = record {
  segments = [];
  date_ranges = [];
  segments_are = ap segments_of (sym (ok_is h)) ∙ sym (append-nil (segments_of before));
  date_ranges_are = ap date_ranges_of (sym (ok_is h)) ∙ sym (append-nil (date_ranges_of before));
}
follows read before (line ∷ later) all h =
    line_follows (length before + 1) (read before line) (λ said. said_from read (said ∷ before) later) before all (λ said e. follows read (said ∷ before) later all e) h

-- what is read so far stands first in the playlist that comes of it
pub grown : {base : Parts} {p q : Progress} {n m : ℕ} {left all : List (List ℕ)} (playlist : Playlist) → Reached base p n left all → (r : Reached base q m [] all) → playlist ≡ playlist_of r.before → Grown p playlist
grown {base = base} playlist here end is =
    let f = follows (said_by limited base) here.before _ end.before (here.rest ∙ sym end.rest) in record {
      segments = f.segments;
      date_ranges = f.date_ranges;
      segments_are = ap (λ (x : Playlist). x.segments) is ∙ f.segments_are ∙ ap (λ xs. xs ++ f.segments) (sym (ap (λ (x : Progress). x.segments) here.progress_is));
      date_ranges_are = ap (λ (x : Playlist). x.date_ranges) is ∙ f.date_ranges_are ∙ ap (λ xs. xs ++ f.date_ranges) (sym (ap (λ (x : Progress). x.date_ranges) here.progress_is));
    }

-- what is read further on begins with the segments that were read so far
pub further : {base : Parts} {p q : Progress} {n m : ℕ} {left all : List (List ℕ)} → Reached base p n left all → Reached base q m [] all → (more : List Segment) × (q.segments ≡ p.segments ++ more)
further {base = base} here end =
    let f = follows (said_by limited base) here.before _ end.before (here.rest ∙ sym end.rest) in
    (f.segments, ap (λ (x : Progress). x.segments) end.progress_is ∙ f.segments_are ∙ ap (λ xs. xs ++ f.segments) (sym (ap (λ (x : Progress). x.segments) here.progress_is)))

-- what was taken over of some segments is taken over of these and more
pub taken_on : {old xs : List Segment} {places : Places} (ys more : List Segment) → ys ≡ xs ++ more → StandInBoth old xs places → StandInBoth old ys places
taken_on {xs = xs} {places = places} ys more is a = grind (arith, length-append, take-append-le)

front_is : {A : Type 0} (all front more : List A) (n : ℕ) → all ≡ front ++ more → n ≡ length front → front ≡ take n all
front_is all front more n is count = grind (arith, take-append_seam)

-- what is kept of the lines that were read so far
kept : {base : Parts} {p : Progress} {number : ℕ} (text : List ℕ) (source : KeptLines) (playlist : Playlist) → Reached base p number [] (lines text)
    → length (lines text) < 9223372036854775808 → AreLinesOf text p number source → Grown p playlist → LinesWereRead base source playlist.segments playlist.date_ranges
kept {p = p} text source playlist r few is g = grind (arith, heading_says, front_is)

pub kept_source : {base : Parts} {p : Progress} {number : ℕ} (text : List ℕ) (source : Option KeptLines) (playlist : Playlist) → Reached base p number [] (lines text)
    → length (lines text) < 9223372036854775808 → MatchOption source (Unit {0}) (λ s. AreLinesOf text p number s) → Grown p playlist → AreKeptLines base playlist source
kept_source text None playlist r few is g = tt
kept_source text (Some source) playlist r few is g = kept text source playlist r few is g
