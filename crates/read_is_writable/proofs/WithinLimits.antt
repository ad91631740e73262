-- A text is read with limits exactly if it is read without and keeps them.
use Rattle.std.proofs.Common.{◌≡◌, ℕ, ◌+◌, ◌≤◌, Bool, true, false, not, cond, List, [], ◌∷◌, length, refl, ap, sym, ◌∙◌, subst, arith}
use Rattle.std.specs.Prelude.{Result, Ok, Err, Some, codes, bytes_eq, ◌↔◌}
use Rattle.std.specs.List.{list_all}
use Rattle.std.specs.Result.{result_unwrap_or}
use Rattle.std.specs.Str.{is_utf8}
use Rattle.std.specs.Str.Lines.{lines}
use Rattle.std.proofs.lemmas.Bool.{and_from, and_parts, le-ltb, ltb-false}
use Rattle.std.proofs.lemmas.Slice.Eq.{bytes_eq-Decides}
use Rattle.url.specs.Parts.{Parts}
use Rattle.playlist_model.specs.declared.Playlist.{Playlist}
use Rattle.playlist_model.specs.Said.{Said, nothing, over}
use Rattle.playlist_model.specs.LookBack.{count, is_media}
use Rattle.playlist_model.specs.Reading.{said_by, said_from, at_line, and_whole, of_lines, reading, Denotes, unlimited, limited, Fault}
use Rattle.read_is_writable.specs.Limits.{line_keeps, said_by_lines, formats_keep, KeepsLimits}
use Rattle.read_is_writable.proofs.Lines.{line_was}
use Rattle.read_is_writable.proofs.LineLimits.{few_formats, line_forward, line_back}

-- ---- all lines

last_few : (said : List Said) → formats_keep said ≡ true → few_formats said ≡ true
last_few [] h = refl
last_few (x ∷ before) h = (and_parts (few_formats (x ∷ before)) (formats_keep before) h).0

-- what all lines say with limits: they say it without them too, and keep them
record AllKeep (base : Parts) (before : List Said) (later : List (List ℕ)) (said : List Said) : Type 0 where
  whole : said_from (said_by unlimited base) before later ≡ Ok said
  few : list_all line_keeps later ≡ true
  formats : formats_keep said ≡ true
  segments : count is_media said ≤ 10000

all_forward : (base : Parts) (before : List Said) (later : List (List ℕ)) (said : List Said)
    → formats_keep before ≡ true → count is_media before ≤ 10000 → said_from (said_by limited base) before later ≡ Ok said → AllKeep base before later said
all_forward base before [] said f s h =
    let e : before ≡ said = cc in record { whole = h; few = refl; formats = ap formats_keep (sym e) ∙ f; segments = subst (λ (xs : List Said). count is_media xs ≤ 10000) e s }
all_forward base before (line ∷ later) said f s h =
    let w = line_was (length before + 1) (said_by limited base before line) (λ x. said_from (said_by limited base) (x ∷ before) later) said h in
    let k = line_forward base before line w.0 w.1 in
    let r = all_forward base (w.0 ∷ before) later said (and_from _ _ (k.formats (last_few before f)) f) (k.segments s) w.2 in record {
      whole = ap (λ o. at_line (length before + 1) o (λ x. said_from (said_by unlimited base) (x ∷ before) later)) k.whole ∙ r.whole;
      few = and_from _ _ k.few r.few;
      formats = r.formats;
      segments = r.segments;
    }

formats_earlier : (base : Parts) (before : List Said) (later : List (List ℕ)) (said : List Said) → said_from (said_by unlimited base) before later ≡ Ok said → formats_keep said ≡ true → formats_keep before ≡ true
formats_earlier base before [] said h f = let e : before ≡ said = cc in ap formats_keep e ∙ f
formats_earlier base before (line ∷ later) said h f =
    let w = line_was (length before + 1) (said_by unlimited base before line) (λ x. said_from (said_by unlimited base) (x ∷ before) later) said h in
    (and_parts (few_formats (w.0 ∷ before)) (formats_keep before) (formats_earlier base (w.0 ∷ before) later said w.2 f)).1

one_more : (b : Bool) (n most : ℕ) → cond b (n + 1) n ≤ most → n ≤ most
one_more true n most h = omega (arith, h)
one_more false n most h = h

segments_earlier : (base : Parts) (before : List Said) (later : List (List ℕ)) (said : List Said) → said_from (said_by unlimited base) before later ≡ Ok said → count is_media said ≤ 10000 → count is_media before ≤ 10000
segments_earlier base before [] said h s = let e : said ≡ before = cc in subst (λ (xs : List Said). count is_media xs ≤ 10000) e s
segments_earlier base before (line ∷ later) said h s =
    let w = line_was (length before + 1) (said_by unlimited base before line) (λ x. said_from (said_by unlimited base) (x ∷ before) later) said h in
    one_more (is_media w.0) (count is_media before) 10000 (segments_earlier base (w.0 ∷ before) later said w.2 s)

all_back : (base : Parts) (before : List Said) (later : List (List ℕ)) (said : List Said)
    → list_all line_keeps later ≡ true → formats_keep said ≡ true → count is_media said ≤ 10000 → said_from (said_by unlimited base) before later ≡ Ok said → said_from (said_by limited base) before later ≡ Ok said
all_back base before [] said l f s h = h
all_back base before (line ∷ later) said l f s h =
    let w = line_was (length before + 1) (said_by unlimited base before line) (λ x. said_from (said_by unlimited base) (x ∷ before) later) said h in
    let a = and_parts (line_keeps line) (list_all line_keeps later) l in
    let formats = last_few (w.0 ∷ before) (formats_earlier base (w.0 ∷ before) later said w.2 f) in
    let segments = segments_earlier base (w.0 ∷ before) later said w.2 s in
    ap (λ o. at_line (length before + 1) o (λ x. said_from (said_by limited base) (x ∷ before) later)) (line_back base before line w.0 a.0 formats segments w.1)
    ∙ all_back base (w.0 ∷ before) later said a.1 f s w.2

-- ---- the lines of a text

record LinesKeep (base : Parts) (texts : List (List ℕ)) : Type 0 where
  attributes : list_all line_keeps texts ≡ true
  formats : formats_keep (said_by_lines base texts) ≡ true
  segments : count is_media (said_by_lines base texts) ≤ 10000

headed : {A E : Type 0} (b : Bool) (e : E) (o : Result A E) (x : A) → cond b o (Err e) ≡ Ok x → (b ≡ true) × (o ≡ Ok x)
headed true e o x h = (refl, h)
headed false e o x h = cc

with_head : {A E : Type 0} (b : Bool) (e : E) (o : Result A E) (x : A) → b ≡ true → o ≡ Ok x → cond b o (Err e) ≡ Ok x
with_head true e o x g h = h
with_head false e o x g h = cc

and_was : (o : Result (List Said) Fault) (p : Playlist) → and_whole o ≡ Ok p → (said : List Said) × (o ≡ Ok said)
and_was (Ok said) p h = (said, refl)
and_was (Err e) p h = cc

header_keeps : (first : List ℕ) → bytes_eq first (codes "#EXTM3U") ≡ true → line_keeps first ≡ true
header_keeps first h = ap line_keeps ((bytes_eq-Decides first (codes "#EXTM3U")).0 h)

lines_forward : (base : Parts) (texts : List (List ℕ)) (p : Playlist) → of_lines limited base texts ≡ Ok p → (of_lines unlimited base texts ≡ Ok p) × LinesKeep base texts
lines_forward base [] p h = cc
lines_forward base (first ∷ later) p h =
    let g = headed (bytes_eq first (codes "#EXTM3U")) _ (and_whole (said_from (said_by limited base) (nothing ∷ []) later)) p h in
    let w = and_was (said_from (said_by limited base) (nothing ∷ []) later) p g.1 in
    let k = all_forward base (nothing ∷ []) later w.0 refl (omega arith) w.1 in
    let said : said_by_lines base (first ∷ later) ≡ w.0 = ap (λ o. result_unwrap_or o []) k.whole in (
      with_head (bytes_eq first (codes "#EXTM3U")) _ _ p g.0 (ap and_whole (k.whole ∙ sym w.1) ∙ g.1),
      record {
        attributes = and_from _ _ (header_keeps first g.0) k.few;
        formats = ap formats_keep said ∙ k.formats;
        segments = subst (λ (xs : List Said). count is_media xs ≤ 10000) (sym said) k.segments;
      },
    )

lines_back : (base : Parts) (texts : List (List ℕ)) (p : Playlist) → of_lines unlimited base texts ≡ Ok p → LinesKeep base texts → of_lines limited base texts ≡ Ok p
lines_back base texts p h k = grind (arith, headed, and_was, and_parts, all_back, with_head)

-- ---- the whole text

text_was : {E : Type 0} (utf8 : Bool) (e : E) (o : Result Playlist E) (p : Playlist) → cond (not utf8) (Err e) o ≡ Ok p → (utf8 ≡ true) × (o ≡ Ok p)
text_was true e o p h = (refl, h)
text_was false e o p h = cc

text_from : {E : Type 0} (utf8 : Bool) (e : E) (o : Result Playlist E) (p : Playlist) → utf8 ≡ true → o ≡ Ok p → cond (not utf8) (Err e) o ≡ Ok p
text_from true e o p g h = h
text_from false e o p g h = cc

short_was : {E : Type 0} (long : Bool) (e : E) (o : Result Playlist E) (p : Playlist) → cond long (Err e) o ≡ Ok p → (long ≡ false) × (o ≡ Ok p)
short_was true e o p h = cc
short_was false e o p h = (refl, h)

short_from : {E : Type 0} (long : Bool) (e : E) (o : Result Playlist E) (p : Playlist) → long ≡ false → o ≡ Ok p → cond long (Err e) o ≡ Ok p
short_from true e o p g h = cc
short_from false e o p g h = h

forward : (base : Parts) (bytes : List ℕ) (p : Playlist) → reading limited base bytes ≡ Ok p → Denotes base bytes p × KeepsLimits base bytes
forward base bytes p h =
    let t = text_was (is_utf8 bytes) _ _ p h in
    let s = short_was (over (Some 4194304) (length bytes)) _ (of_lines limited base (lines bytes)) p t.1 in
    let l = lines_forward base (lines bytes) p s.1 in (
      text_from (is_utf8 bytes) _ (of_lines unlimited base (lines bytes)) p t.0 l.0,
      record {
        bytes = ltb-false 4194304 (length bytes) s.0;
        attributes = l.1.attributes;
        formats = l.1.formats;
        segments = l.1.segments;
      },
    )

back : (base : Parts) (bytes : List ℕ) (p : Playlist) → Denotes base bytes p × KeepsLimits base bytes → reading limited base bytes ≡ Ok p
back base bytes p (h, k) =
    let t = text_was (is_utf8 bytes) _ (of_lines unlimited base (lines bytes)) p h in
    text_from (is_utf8 bytes) _ _ p t.0
    (short_from (over (Some 4194304) (length bytes)) _ (of_lines limited base (lines bytes)) p (le-ltb _ _ k.bytes)
    (lines_back base (lines bytes) p t.1 (record { attributes = k.attributes; formats = k.formats; segments = k.segments })))

pub within_limits : (base : Parts) (bytes : List ℕ) (p : Playlist) → (reading limited base bytes ≡ Ok p) ↔ (Denotes base bytes p × KeepsLimits base bytes)
within_limits base bytes p = (forward base bytes p, back base bytes p)
