use Rattle.std.proofs.Common.{rules, ◌≡◌, ◌<◌, ◌++◌, [], List, ℕ, ap, length, subst, sym, ◌∙◌, arith, length-append}
use Rattle.std.specs.Str.Lines.{lines}
use Rattle.std.specs.Prelude.{Result, Ok, Err}
use Rattle.std.proofs.lemmas.List.{append-nil}
use Rattle.std.proofs.lemmas.Grind.{common_steps}
use Rattle.url.specs.Parts.{Parts}
use Rattle.playlist_model.specs.Reading.{Fault}
use Rattle.playlist_parse.specs.Inner.Reached.{Reached, IsToBeTold, left_in}
use Rattle.playlist_parse.specs.declared.reading.Reading.{Reading}
use Rattle.playlist_kept.specs.declared.read_playlist.Read.{Read}
use Rattle.playlist_kept.specs.Kept.{kept_segments}
use Rattle.playlist_parse.proofs.Light.{none_read, told_at, told_after}
use Rattle.playlist_parse.proofs.Reached.{begun_at, none_more, unread}
use Rattle.playlist_parse.proofs.GoingTo.{few_reached, plain_front, plain_after, kept_source, taken_on}
use Rattle.playlist_parse.proofs.reader.read_lines_after_header.Goals as goal

same_fault : {a e : Fault} → (let answer : Result Read Fault = Err a in answer) ≡ Err e → a ≡ e
same_fault h = cc

-- a front has no more lines than the whole
fewer : (front tail body : List (List ℕ)) → body ≡ front ++ tail → length body < 9223372036854775808
    → length front < 9223372036854775808
fewer front tail body cut few = omega (arith, ap length cut, length-append front tail)

-- before the front's first line
module _ (base : Parts) (old : Reading) (front tail body : List (List ℕ)) (left : left_in old ≡ front)
    (cut : body ≡ front ++ tail) (first : old.number ≡ 2) where
  whole : left_in old ++ tail ≡ body
  whole = ap (λ ls. ls ++ tail) left ∙ sym cut

  at_first : ((all : List (List ℕ)) → Reached base old.progress 2 all all)
      → Reached base old.progress old.number (left_in old ++ tail) body
  at_first begun =
      subst (λ ls. Reached base old.progress old.number (left_in old ++ tail) ls) whole (begun_at base old tail first begun)

  told_first : ((all : List (List ℕ)) → IsToBeTold base old.progress 2 all all)
      → IsToBeTold base old.progress old.number (left_in old ++ tail) body
  told_first light = told_at base old tail body whole first light

pub date_ranges_known_of_source-known-requires : goal.date_ranges_known_of_source-known-requires
date_ranges_known_of_source-known-requires c = c.requires.kept

pub new-requires-text-text : goal.new-requires-text-text
new-requires-text-text c = search rules

pub source_lines_of_reading-requires-text-text : goal.source_lines_of_reading-requires-text-text
source_lines_of_reading-requires-text-text c = search rules

pub read_tail_lines-requires-text-tail : goal.read_tail_lines-requires-text-tail
read_tail_lines-requires-text-tail c = search rules

pub read_front_lines-requires : goal.read_front_lines-requires
read_front_lines-requires c =
    record {
      few = grind (arith, common_steps, fewer);
      plain = grind (arith, common_steps, plain_front);
      begun = λ all. grind arith;
      kept = c.requires.kept;
    }

pub returns-in-Err : goal.returns-in-Err
returns-in-Err c =
    let body = lines c.args.body.now in
    let cut = c.cut_after_segment_lines-cut in
    let tail = lines cut.result.tail.now in
    let old = c.reading_of_lines-reading in
    let left : left_in old.result ≡ lines cut.result.front.now = cc (old.ensures.lines, c.new.ensures.texts) in
    record {
      answer = c.in-Err.ensures.reached tail body (at_first _ _ _ _ _ left cut.ensures old.ensures.number old.ensures.begun);
      light = λ front later e is light said.
          let told = told_first _ _ _ _ body left cut.ensures old.ensures.number old.ensures.light front later e is light said in
          ap Err (c.in-Err.ensures.light tail e told);
      lines = tt;
      taken = tt;
      front = tt;
    }

pub source_lines_of_reading-requires : goal.source_lines_of_reading-requires
source_lines_of_reading-requires c = tt

pub returns-in-Err-source_lines_of_reading : goal.returns-in-Err-source_lines_of_reading
returns-in-Err-source_lines_of_reading c =
    let body = lines c.args.body.now in
    let cut = c.cut_after_segment_lines-cut in
    let tail = lines cut.result.tail.now in
    let old = c.reading_of_lines-reading in
    let left : left_in old.result ≡ lines cut.result.front.now = cc (old.ensures.lines, c.new.ensures.texts) in
    record {
      answer = unread c.fault_at_line.result _ c.fault_at_line.ensures;
      light = λ front later e is light said.
          let told = told_first _ _ _ _ body left cut.ensures old.ensures.number old.ensures.light front later e is light said in
          let left_told = told_after tail _ c.in-Ok.ensures.none_left (c.in-Ok.ensures.light tail e told) in
          absurd (cc (c.in-Err-source_lines_of_reading.ensures.none (none_read left_told)));
      lines = tt;
      taken = tt;
      front = tt;
    }

pub read_tail_lines-requires : goal.read_tail_lines-requires
read_tail_lines-requires c =
    let body = lines c.args.body.now in
    let cut = c.cut_after_segment_lines-cut in
    let tail = lines cut.result.tail.now in
    let old = c.reading_of_lines-reading in
    let left : left_in old.result ≡ lines cut.result.front.now = cc (old.ensures.lines, c.new.ensures.texts) in
    let first = at_first _ _ _ _ body left cut.ensures old.ensures.number old.ensures.begun in
    record {
      few = few_reached (none_more _ tail body c.in-Ok.ensures.none_left (c.in-Ok.ensures.reached tail body first)) c.requires.few;
      plain = grind (arith, common_steps, plain_after);
    }

pub read_with_places-requires : goal.read_with_places-requires
read_with_places-requires c = c.in-Ok-read_tail_lines.ensures.front

pub returns-in-Ok-read_with_places : goal.returns-in-Ok-read_with_places
returns-in-Ok-read_with_places c =
    let base = c.args.base.now in
    let body = lines c.args.body.now in
    let cut = c.cut_after_segment_lines-cut in
    let front = lines cut.result.front.now in
    let tail = lines cut.result.tail.now in
    let old = c.reading_of_lines-reading in
    let read = c.in-Ok in
    let left : left_in old.result ≡ front = cc (old.ensures.lines, c.new.ensures.texts) in
    let first = at_first base old.result front tail body left cut.ensures old.ensures.number old.ensures.begun in
    let here = none_more c.read_front_lines.new.reading tail body read.ensures.none_left (read.ensures.reached tail body first) in
    let grown = c.in-Ok-read_tail_lines.ensures.grown base body here in
    record {
      answer = c.in-Ok-read_tail_lines.ensures.answer base body here ∙ ap Ok (sym c.in-Ok-read_with_places.ensures.playlist);
      light = λ start later e is light said.
          let told = told_first _ _ _ _ body left cut.ensures old.ensures.number old.ensures.light start later e is light said in
          let left_told = told_after tail _ read.ensures.none_left (read.ensures.light tail e told) in
          absurd (cc (c.in-Ok-read_tail_lines.ensures.light base e left_told));
      lines =
          let alone = at_first base old.result front [] front left (sym (append-nil front)) old.ensures.number old.ensures.begun in
          let end = none_more c.read_front_lines.new.reading [] front read.ensures.none_left (read.ensures.reached [] front alone) in
          let few = fewer front tail body cut.ensures c.requires.few in
          let kept = kept_source cut.result.front.now c.in-Ok-source_lines_of_reading.lines _ end few c.in-Ok-source_lines_of_reading.ensures.lines grown in
          grind (arith, common_steps);
      taken =
          c.in-Ok-read_with_places.ensures.taken (kept_segments c.args.source.now)
          (taken_on _ grown.segments grown.segments_are read.ensures.taken);
      front = c.in-Ok-read_with_places.ensures.front;
    }

pub returns-in-Err-read_with_places : goal.returns-in-Err-read_with_places
returns-in-Err-read_with_places c =
    let body = lines c.args.body.now in
    let cut = c.cut_after_segment_lines-cut in
    let tail = lines cut.result.tail.now in
    let old = c.reading_of_lines-reading in
    let left : left_in old.result ≡ lines cut.result.front.now = cc (old.ensures.lines, c.new.ensures.texts) in
    record {
      answer = unread c.fault_at_line-in-Err-read_with_places.result _ c.fault_at_line-in-Err-read_with_places.ensures;
      light = λ front later e is light said.
          let told = told_first _ _ _ _ body left cut.ensures old.ensures.number old.ensures.light front later e is light said in
          let left_told = told_after tail _ c.in-Ok.ensures.none_left (c.in-Ok.ensures.light tail e told) in
          absurd (cc (c.in-Ok-read_tail_lines.ensures.light c.args.base.now e left_told));
      lines = tt;
      taken = tt;
      front = tt;
    }

pub returns-in-Err-read_tail_lines : goal.returns-in-Err-read_tail_lines
returns-in-Err-read_tail_lines c =
    let base = c.args.base.now in
    let body = lines c.args.body.now in
    let cut = c.cut_after_segment_lines-cut in
    let tail = lines cut.result.tail.now in
    let old = c.reading_of_lines-reading in
    let left : left_in old.result ≡ lines cut.result.front.now = cc (old.ensures.lines, c.new.ensures.texts) in
    let first = at_first _ _ _ _ body left cut.ensures old.ensures.number old.ensures.begun in
    record {
      answer =
          c.in-Err-read_tail_lines.ensures.answer base body
          (none_more _ tail body c.in-Ok.ensures.none_left (c.in-Ok.ensures.reached tail body first));
      light = λ front later e is light said.
          let told = told_first _ _ _ _ body left cut.ensures old.ensures.number old.ensures.light front later e is light said in
          let left_told = told_after tail _ c.in-Ok.ensures.none_left (c.in-Ok.ensures.light tail e told) in
          ap Err (same_fault (c.in-Err-read_tail_lines.ensures.light base e left_told));
      lines = tt;
      taken = tt;
      front = tt;
    }
