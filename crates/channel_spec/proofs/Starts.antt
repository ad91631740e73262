-- A window starts at the item of its first shown segment, or within the pod of the run right before that.
use Rattle.std.proofs.Common.{◌≡◌, ℕ, ◌+◌, ◌-◌, ◌<◌, ◌≤◌, Bool, true, false, cond, List, [], ◌∷◌, ◌++◌, take, min, length, reverse, refl, ap, sym, ◌∙◌, subst, append_assoc, length-append, arith}
use Rattle.std.proofs.lemmas.Bool.{le-leb, lt-ltb, eqb-true}
use Rattle.std.proofs.lemmas.List.{reverse-append, take-append-drop, length-take}
use Rattle.std.proofs.Math.Decide.{dec_lt}
use Rattle.std.specs.Prelude.{Option, Some, None, option_map, is_none, nat_lt, ◌==◌, drop}
use Rattle.std.specs.List.{AllByRecursion}
use Rattle.playlist_model.specs.declared.Playlist.{Playlist}
use Rattle.channel_spec.specs.declared.fault.RefreshFault.{RefreshFault}
use Rattle.pod_store.specs.Marks.{Mark, Marked, newest_mark, continues}
use Rattle.stitcher.specs.Stitched.{Piece, pod_pieces, run_pieces, stitched, newest_place, up_to}
use Rattle.break_finder.specs.Known.{Accepted}
use Rattle.channel_spec.specs.Marking.{Moment, history_after}
use Rattle.channel_spec.specs.Successor.{first_number, end_number, has_init_sections}
use Rattle.channel_spec.specs.Live.{Event, decided, refreshed, succession_fault, last_playlist, moment}
use Rattle.channel_spec.specs.LiveLaws.{Linked}
use Rattle.channel_spec.specs.Sound.{IsSoundPlaylist, IsSoundEvent}
use Rattle.stitcher.specs.Paced.{first_of_run, run_length, older, due_with, due_stitched, PodRest, rest_pieces}
use Rattle.channel_spec.specs.Live.{Told, item_place, gone_before, rest_over, start_after, after_refresh, refusal, happens, told}
use Rattle.channel_spec.proofs.Growth.{history_grows}
use Rattle.channel_spec.proofs.Windows.{length-reverse}
use Rattle.channel_spec.proofs.Runs.{newest_item, place_is}
use Rattle.channel_spec.proofs.Risen.{FallFrom, past}
use Rattle.channel_spec.proofs.Fills.{IsAlike}
use Rattle.channel_spec.proofs.Places.{fall_length, up_to_some, Begins, stays, next, begins}
use Rattle.channel_spec.proofs.Passed.{Passed, passed}
use Rattle.channel_spec.proofs.LiveState.{Standing, new_standing}
use Rattle.channel_spec.proofs.EachWindow.{all_after}
use Rattle.channel_spec.proofs.KeptSteps.{cut}
use Rattle.channel_spec.proofs.ShownAlone.{rest_of, run_fill}
use Rattle.channel_spec.proofs.EachWindow.{inside_due, within_due, WindowOf, Holds, holds, plain_standing, first_none}

-- ---- the segments that are gone

gone_below : (n end : ℕ) (gone : List Marked) → FallFrom end gone → end ≤ n → gone_before n gone ≡ gone
gone_below n end [] f h = refl
gone_below n end (g ∷ gone) f h = grind arith

-- the history from a segment on, and the one before it, by its number
pub gone_bottom : (end : ℕ) (newer : List Marked) (s : Marked) (gone : List Marked) → FallFrom end (newer ++ (s ∷ gone)) → gone_before s.segment.media_sequence (newer ++ (s ∷ gone)) ≡ gone
gone_bottom end [] s gone f = grind (arith, le-leb, gone_below)
gone_bottom end (x ∷ newer) s gone f = grind (arith, le-leb, fall_length, gone_bottom x.segment.media_sequence newer s gone f.1)

not_less : (n : ℕ) → nat_lt n n ≡ false
not_less n = grind arith

pub up_bottom : (end : ℕ) (newer : List Marked) (s : Marked) (gone : List Marked) → FallFrom end (newer ++ (s ∷ gone)) → up_to s.segment.media_sequence (newer ++ (s ∷ gone)) ≡ s ∷ gone
up_bottom end [] s gone f = grind (arith, not_less)
up_bottom end (x ∷ newer) s gone f = grind (arith, lt-ltb, fall_length, up_bottom x.segment.media_sequence newer s gone f.1)

-- what stands before the item of a segment
pub place_rest : (s : Marked) (gone : List Marked) → newest_place (s ∷ gone) ≡ length (stitched (rest_of s gone))
unfolding rest_of
place_rest s gone = grind (arith, place_is)

-- ---- where a window starts

pub data StartAt (first : ℕ) (history : List Marked) (start : ℕ) : Type 0 where
  at_item : start ≡ item_place first history → StartAt first history start
  in_rest : (f : Mark) → newest_mark (gone_before first history) ≡ Some f → newest_place (gone_before first history) ≤ start → start < item_place first history
      → item_place first history ≡ length (stitched (gone_before first history)) → StartAt first history start

move : (first : ℕ) (old new : List Marked) (start : ℕ) → item_place first new ≡ item_place first old → gone_before first new ≡ gone_before first old → StartAt first old start → StartAt first new start
move first old new start p g (at_item e) = at_item (e ∙ sym p)
move first old new start p g (in_rest f a b c d) =
    in_rest f (ap newest_mark g ∙ a) (subst (λ x. newest_place x ≤ start) (sym g) b) (subst (λ x. start < x) (sym p) c) (p ∙ d ∙ sym (ap (λ x. length (stitched x)) g))

fall_tail : (end : ℕ) (later : List Marked) (x : Marked) (history : List Marked) → FallFrom end (later ++ (x ∷ history)) → FallFrom x.segment.media_sequence history
fall_tail end [] x history f = f.1
fall_tail end (y ∷ later) x history f = fall_tail y.segment.media_sequence later x history f.1

due_unmarked : (whole : Bool) (n : ℕ) (x : Marked) (before : List Marked) → x.mark ≡ None → due_with whole n (x ∷ before) ≡ stitched (x ∷ before)
due_unmarked whole n x before e = grind arith

rest_begins : (m ended : Bool) (k end : ℕ) (newest : Marked) (before more : List Marked) → AllByRecursion (IsAlike m) (more ++ (newest ∷ before)) → FallFrom end (more ++ (newest ∷ before))
    → 0 < length (up_to k (more ++ (newest ∷ before))) → Begins k more newest before → length (due_stitched ended (newest ∷ before)) < item_place k (more ++ (newest ∷ before))
    → StartAt k (more ++ (newest ∷ before)) (length (due_stitched ended (newest ∷ before)))
rest_begins m ended k end newest before more a f some (stays p) h =
    let history = newest ∷ before in
    let i = within_due m ended k history (all_after (IsAlike m) more history a) (omega (arith, some, ap length p)) in
    absurd (omega (arith, h, i, ap newest_place p))
rest_begins m ended k end newest before more a f some (next x later p q r) h =
    let history = newest ∷ before in
    let list : more ++ history ≡ later ++ (x ∷ history) = ap (λ xs. xs ++ history) p ∙ append_assoc later (x ∷ []) history in
    let falls = subst (λ l. FallFrom end l) list f in
    let number : x.segment.media_sequence ≡ k = sym (fall_tail end later x history falls).0 ∙ sym q in
    let gone : gone_before k (more ++ history) ≡ history = ap (gone_before k) list ∙ subst (λ n. gone_before n (later ++ (x ∷ history)) ≡ history) number (gone_bottom end later x history falls) in
    let place : item_place k (more ++ history) ≡ newest_place (x ∷ history) = ap newest_place r in
    let inside = inside_due m ended [] history (all_after (IsAlike m) more history a) (omega arith) in
    step (continues x history) newest.mark refl refl gone place inside h
  where
    step : (b : Bool) (o : Option Mark) → continues x (newest ∷ before) ≡ b → newest.mark ≡ o → gone_before k (more ++ (newest ∷ before)) ≡ newest ∷ before
        → item_place k (more ++ (newest ∷ before)) ≡ newest_place (x ∷ newest ∷ before) → newest_place (newest ∷ before) < length (due_stitched ended (newest ∷ before))
        → length (due_stitched ended (newest ∷ before)) < item_place k (more ++ (newest ∷ before)) → StartAt k (more ++ (newest ∷ before)) (length (due_stitched ended (newest ∷ before)))
    step true o e u gone place inside h =
        let z : newest_place (x ∷ newest ∷ before) ≡ newest_place (newest ∷ before) = ap (λ b. cond b (newest_place (newest ∷ before)) (length (stitched (newest ∷ before)))) e in
        absurd (omega (arith, h, inside, z, place))
    step false None e u gone place inside h =
        let z : newest_place (x ∷ newest ∷ before) ≡ length (stitched (newest ∷ before)) = ap (λ b. cond b (newest_place (newest ∷ before)) (length (stitched (newest ∷ before)))) e in
        absurd (omega (arith, h, z, place, ap length (due_unmarked ended (run_length (newest ∷ before)) newest before u)))
    step false (Some f) e u gone place inside h =
        let z : newest_place (x ∷ newest ∷ before) ≡ length (stitched (newest ∷ before)) = ap (λ b. cond b (newest_place (newest ∷ before)) (length (stitched (newest ∷ before)))) e in
        in_rest f (ap newest_mark gone ∙ u) (subst (λ l. newest_place l ≤ length (due_stitched ended (newest ∷ before))) (sym gone) (omega (arith, inside))) h
        (place ∙ z ∙ sym (ap (λ l. length (stitched l)) gone))

-- ---- after a refresh

-- what stands at the first shown segment of a history doesn't change as it goes on
pub record Same (n : ℕ) (history new : List Marked) : Type 0 where
  pub up : up_to n new ≡ up_to n history
  pub gone : gone_before n new ≡ gone_before n history

pub same_there : (n end later : ℕ) (history more : List Marked) → FallFrom end history → FallFrom later (more ++ history) → n < end → end ≤ n + length history → Same n history (more ++ history)
same_there n end later history more f g h k =
    let c = cut n end history f h k in
    let whole = c.newer ++ (c.s ∷ c.gone) in
    let list : more ++ history ≡ (more ++ c.newer) ++ (c.s ∷ c.gone) = ap (λ l. more ++ l) c.is ∙ sym (append_assoc more c.newer (c.s ∷ c.gone)) in
    let f1 = subst (λ l. FallFrom end l) c.is f in
    let f2 = subst (λ l. FallFrom later l) list g in
    record {
      up = ap (up_to n) list ∙ (ap (λ x. up_to x ((more ++ c.newer) ++ (c.s ∷ c.gone))) (sym c.media_sequence) ∙ (up_bottom later (more ++ c.newer) c.s c.gone f2
          ∙ (sym (up_bottom end c.newer c.s c.gone f1) ∙ (ap (λ x. up_to x whole) c.media_sequence ∙ sym (ap (up_to n) c.is)))));
      gone = ap (gone_before n) list ∙ (ap (λ x. gone_before x ((more ++ c.newer) ++ (c.s ∷ c.gone))) (sym c.media_sequence) ∙ (gone_bottom later (more ++ c.newer) c.s c.gone f2
          ∙ (sym (gone_bottom end c.newer c.s c.gone f1) ∙ (ap (λ x. gone_before x whole) c.media_sequence ∙ sym (ap (gone_before n) c.is)))));
    }

same_first : (n end later : ℕ) (history more : List Marked) → FallFrom end history → FallFrom later (more ++ history) → n < end → end ≤ n + length history → (start : ℕ) → StartAt n history start → StartAt n (more ++ history) start
same_first n end later history more f g h k start s =
    let c = same_there n end later history more f g h k in
    move n history (more ++ history) start (ap newest_place c.up) c.gone s

starts : (m : Moment) (last playlist : Playlist) (history : List Marked) (start : ℕ) → Standing last history → StartAt (first_number last.segments) history start → Passed last playlist → Standing playlist (history_after m history playlist)
    → StartAt (first_number playlist.segments) (history_after m history playlist) (start_after (Some last) start history playlist (history_after m history playlist))
starts m last playlist [] start s at p t = absurd (omega (arith, s.some))
starts m last playlist (newest ∷ before) start s at p t =
    let history = newest ∷ before in
    let n = first_number last.segments in
    let k = first_number playlist.segments in
    let g = history_grows m history (past newest.segment.media_sequence playlist.segments) in
    let b = has_init_sections last.segments in
    let end : newest.segment.media_sequence + 1 ≡ end_number last.segments = s.falls.0 in
    let whole : AllByRecursion (IsAlike b) (g.0 ++ history) = subst (λ h. AllByRecursion (IsAlike b) h) g.1 (subst (λ x. AllByRecursion (IsAlike x) (history_after m history playlist)) p.with_init_sections t.alike) in
    let falls : FallFrom (end_number playlist.segments) (g.0 ++ history) = subst (λ h. FallFrom (end_number playlist.segments) h) g.1 t.falls in
    let some = up_to_some k (end_number playlist.segments) (g.0 ++ history) falls (omega (arith, t.read.some)) (omega (arith, t.long, ap length g.1)) in
    let same = same_first n (end_number last.segments) (end_number playlist.segments) history g.0 s.falls falls (omega (arith, s.read.some)) (omega (arith, s.long)) start at in
    let rest = rest_begins b last.end_list k (end_number playlist.segments) newest before g.0 whole falls some (begins k (end_number playlist.segments) g.0 newest before falls (omega (arith, end, p.no_gap))) in
    subst (λ h. StartAt k h (start_after (Some last) start history playlist h)) (sym g.1) (choose k n (g.0 ++ history) start (length (due_stitched last.end_list history)) same rest (k == n) refl)
  where
    other : (k : ℕ) (new : List Marked) (most : ℕ) → (most < item_place k new → StartAt k new most) → Dec (most < item_place k new) → StartAt k new (min (item_place k new) most)
    other k new most rest (yes h) = let e : most ≡ min (item_place k new) most = omega (arith, h) in subst (λ x. StartAt k new x) e (rest h)
    other k new most rest (no h) = at_item (omega (arith, h))

    choose : (k n : ℕ) (new : List Marked) (start most : ℕ) → StartAt n new start → (most < item_place k new → StartAt k new most) → (b : Bool) → (k == n) ≡ b → StartAt k new (cond b start (min (item_place k new) most))
    choose k n new start most same rest true e = subst (λ x. StartAt x new start) (sym (eqb-true k n e)) same
    choose k n new start most same rest false e = other k new most rest (dec_lt most (item_place k new))

-- ---- after all events

unfoldable pub StartOf : List Accepted → List Marked → ℕ → Type 0
StartOf [] history start = Unit {0}
StartOf (a ∷ earlier) history start = StartAt (first_number a.playlist.segments) history start

new_start : (m : Moment) (accepted : List Accepted) (history : List Marked) (start : ℕ) (playlist : Playlist) → WindowOf accepted history start → StartOf accepted history start
    → succession_fault (last_playlist accepted) playlist ≡ None → Standing playlist (history_after m history playlist)
    → StartAt (first_number playlist.segments) (history_after m history playlist) (start_after (last_playlist accepted) start history playlist (history_after m history playlist))
unfolding WindowOf StartOf
new_start m [] history start playlist h s f t = at_item refl
new_start m (a ∷ earlier) history start playlist h s f t = starts m a.playlist playlist history start h.standing s (passed a.playlist playlist f) t

pub refresh_starts : (tolerance : ℕ) (p : Told) (playlist : Playlist) → Holds p → StartOf p.accepted p.history p.start → IsSoundPlaylist playlist → (o : Option RefreshFault) → refusal tolerance p playlist ≡ o
    → (q : Told) → cond (is_none o) (after_refresh tolerance p playlist) p ≡ q → StartOf q.accepted q.history q.start
unfolding StartOf
refresh_starts tolerance p playlist h s r None e q same =
    let f = first_none (succession_fault (last_playlist p.accepted) playlist) _ e in
    let m = moment tolerance p playlist in
    let t = new_standing m p.accepted p.history playlist (plain_standing p.accepted p.history p.start h.standing) r refl h.store f in
    subst (λ (x : Told). StartOf x.accepted x.history x.start) same (new_start m p.accepted p.history p.start playlist h.standing s f t)
refresh_starts tolerance p playlist h s r (Some x) e q same = subst (λ (x : Told). StartOf x.accepted x.history x.start) same s

event_starts : (tolerance : ℕ) (p : Told) (event : Event) → Holds p → StartOf p.accepted p.history p.start → IsSoundEvent event
    → StartOf (happens tolerance p event).accepted (happens tolerance p event).history (happens tolerance p event).start
event_starts tolerance p (decided ds) h s g = s
event_starts tolerance p (refreshed playlist) h s g = grind (arith, refresh_starts)

pub all_start : (tolerance : ℕ) (events : List Event) → AllByRecursion IsSoundEvent events → StartOf (told tolerance events).accepted (told tolerance events).history (told tolerance events).start
unfolding StartOf
all_start tolerance [] g = tt
all_start tolerance (event ∷ before) g = event_starts tolerance (told tolerance before) event (holds tolerance before g.1) (all_start tolerance before g.1) g.0

-- ---- the rest, and what stands below the window

abbrev pub rest_found : ℕ → ℕ → List Marked → Option PodRest
rest_found base start gone = option_map (λ (mark : Mark). record { mark = mark; place = start - (newest_place gone + base) }) (newest_mark gone)

abbrev pub rest_with : ℕ → ℕ → ℕ → List Marked → Option PodRest
rest_with base start place gone = cond (nat_lt start (place + base)) (rest_found base start gone) None

pub rest_is : (end start : ℕ) (newer : List Marked) (s : Marked) (gone : List Marked) → FallFrom end (newer ++ (s ∷ gone))
    → rest_over 0 start s.segment.media_sequence (newer ++ (s ∷ gone)) ≡ rest_with 0 start (length (stitched (rest_of s gone))) gone
rest_is end start newer s gone f = grind (arith, up_bottom, place_rest, rest_of, gone_bottom)

pub record Below (s : Marked) (gone : List Marked) (start : ℕ) (rest : Option PodRest) : Type 0 where
  pub below : List Piece
  pub is : stitched (rest_of s gone) ≡ rest_pieces rest ++ below
  pub size : length below ≡ start

pub none_before : (start place : ℕ) (gone : List Marked) → start ≡ place → rest_with 0 start place gone ≡ None
none_before start place gone e = grind arith

cut_pod : (s r : Marked) (before : List Marked) (start : ℕ) (f : Mark) → Linked (r ∷ before) → r.mark ≡ Some f → newest_place (r ∷ before) ≤ start
    → (b : Bool) → start < length (stitched (cond b (older (r ∷ before)) (r ∷ before))) → length (stitched (cond b (older (r ∷ before)) (r ∷ before))) ≡ length (stitched (r ∷ before))
    → (n : ℕ) → n ≡ start - newest_place (r ∷ before) → (below : List Piece) × ((stitched (cond b (older (r ∷ before)) (r ∷ before)) ≡ reverse (drop n (pod_pieces f)) ++ below) × (length below ≡ start))
cut_pod s r before start f l e h true i j n k = absurd (omega (arith, h, i, place_is (r ∷ before)))
cut_pod s r before start f l e h false i j n k =
    let pod = pod_pieces f in
    let old = stitched (older (r ∷ before)) in
    let fr = first_of_run r before in
    let whole : stitched (r ∷ before) ≡ reverse pod ++ old = newest_item r before ∙ ap (λ o. run_pieces fr o ++ old) (run_fill r before l ∙ e) in
    let split : reverse pod ≡ reverse (drop n pod) ++ reverse (take n pod) = ap reverse (sym (take-append-drop n pod)) ∙ reverse-append (take n pod) (drop n pod) in
    let all = ap length whole ∙ length-append (reverse pod) old in (
      reverse (take n pod) ++ old,
      (
        whole ∙ ap (λ xs. xs ++ old) split ∙ append_assoc (reverse (drop n pod)) (reverse (take n pod)) old,
        omega (arith, length-append (reverse (take n pod)) old, length-reverse (take n pod), length-take n pod, all, length-reverse pod, place_is (r ∷ before), h, i, k),
      ),
    )

found_there : (start : ℕ) (gone : List Marked) (f : Mark) → newest_mark gone ≡ Some f → rest_found 0 start gone ≡ Some (record { mark = f; place = start - (newest_place gone + 0) })
found_there start gone f e = grind arith

is_before : (start place : ℕ) (gone : List Marked) (f : Mark) → start < place → newest_mark gone ≡ Some f
    → rest_with 0 start place gone ≡ Some (record { mark = f; place = start - (newest_place gone + 0) })
is_before start place gone f h e = grind arith

below_part : (s : Marked) (gone : List Marked) (start : ℕ) (f : Mark) → Linked gone → newest_mark gone ≡ Some f → newest_place gone ≤ start → start < length (stitched (rest_of s gone))
    → length (stitched (rest_of s gone)) ≡ length (stitched gone) → Below s gone start (rest_with 0 start (length (stitched (rest_of s gone))) gone)
unfolding rest_of
below_part s [] start f l e h i j = absurd (cc)
below_part s (r ∷ before) start f l e h i j =
    let k = cut_pod s r before start f l e h (continues s (r ∷ before)) i j (start - (newest_place (r ∷ before) + 0)) (omega arith) in
    let rest = is_before start (length (stitched (rest_of s (r ∷ before)))) (r ∷ before) f i e in
    subst (λ (o : Option PodRest). Below s (r ∷ before) start o) (sym rest) (record { below = k.0; is = k.1.0; size = k.1.1 })

pub below_start : (end start : ℕ) (newer : List Marked) (s : Marked) (gone : List Marked) → FallFrom end (newer ++ (s ∷ gone)) → Linked gone
    → StartAt s.segment.media_sequence (newer ++ (s ∷ gone)) start → Below s gone start (rest_with 0 start (length (stitched (rest_of s gone))) gone)
below_start end start newer s gone f l h = grind (arith, rest_of, up_bottom, place_rest, none_before, gone_bottom, below_part)
