-- Who stands in line comes nearer with each turn of its channel, and the other channels have at most one turn more.
use Rattle.std.proofs.Common.{◌≡◌, ◌≢◌, ℕ, suc, ◌+◌, ◌*◌, ◌<◌, ◌≤◌, ◌==◌, ◌||◌, not, Bool, true, false, cond, List, [], ◌∷◌, ◌++◌, filter, length, refl, sym, ap, subst, ◌∙◌, rules, arith}
use Rattle.std.specs.Prelude.{Option, Some, None, find, if◌then◌else◌}
use Rattle.http_edge.specs.Waiting.{no_channel}
use Rattle.connections.specs.declared.line.Standing.{Standing}
use Rattle.connections.specs.Lines.{LineState, turn_count, new_line, is_at, is_of, is_other, is_in_line, stands, next_in, next, had_turn, LineEvent, joins, leaves, calls, after, after_call, line_after, is_at_if_any, is_of_if_any, concerns, StandsFor, Waits, ahead, is_turn_of, turns_had, TurnsAreShared, calls_in, CallEach, events_in, RoundsAreFew}
use Rattle.connections.proofs.TurnOrder.{occurs, is_before, once_below, there_below, as_many_below, occurs_after_turn, as_many_after_turn, same_order, after_turn}

abbrev one_if : Bool → ℕ
one_if b = if b then 1 else 0

-- ---- those that stand in line

-- one joins
behind_all : (place channel : ℕ) (s k : Standing) (line : List Standing) → find (is_at place) line ≡ Some s
    → (find (is_at place) (line ++ k ∷ []) ≡ Some s) × (ahead channel place (line ++ k ∷ []) ≡ ahead channel place line)
behind_all place channel s k [] there = absurd (search rules)
behind_all place channel s k (one ∷ behind) there = grind (arith, behind_all place channel s k behind)

-- one goes
without : (place channel k : ℕ) (s : Standing) (line : List Standing) → (k == place) ≡ false → find (is_at place) line ≡ Some s
    → (find (is_at place) (filter (is_other k) line) ≡ Some s) × (ahead channel place (filter (is_other k) line) ≤ ahead channel place line)
without place channel k s [] other there = absurd (search rules)
without place channel k s (one ∷ behind) other there = grind (arith, without place channel k s behind other)

-- the first of the same channel goes
one_nearer : (place channel : ℕ) (first s : Standing) (line : List Standing) → find (is_of channel) line ≡ Some first → find (is_at place) line ≡ Some s → s.channel ≡ channel
    → is_at place first ≡ false → ahead channel place (filter (is_other first.place) line) + 1 ≤ ahead channel place line
one_nearer place channel first s [] found there on other = absurd (search rules)
one_nearer place channel first s (one ∷ behind) found there on other = grind (arith, one_nearer place channel first s behind, without place channel first.place s behind)

-- ---- whose turn it is

found_is : (channel : ℕ) (s : Standing) (line : List Standing) → find (is_of channel) line ≡ Some s → (s.channel == channel) ≡ true
found_is channel s [] found = absurd (search rules)
found_is channel s (one ∷ behind) found = grind (arith, found_is channel s behind)

abbrev First : ℕ → List Standing → Type 0
First channel line = (first : Standing) × (find (is_of channel) line ≡ Some first)

some_by : (b : Bool) (place channel : ℕ) (s one : Standing) (behind : List Standing) → is_of channel one ≡ b → find (is_at place) (one ∷ behind) ≡ Some s → s.channel ≡ channel
    → (find (is_at place) behind ≡ Some s → First channel behind) → First channel (one ∷ behind)
some_by true place channel s one behind is there on later = (one, grind arith)
some_by false place channel s one behind is there on later = let it = later (grind arith) in (it.0, grind arith)

-- for its channel somebody stands
some_stands : (place channel : ℕ) (s : Standing) (line : List Standing) → find (is_at place) line ≡ Some s → s.channel ≡ channel → First channel line
some_stands place channel s [] there on = absurd (search rules)
some_stands place channel s (one ∷ behind) there on =
    some_by (is_of channel one) place channel s one behind refl there on (λ later. some_stands place channel s behind later on)

-- whose turn it is stands first for its channel, which has its turn
abbrev IsNext : List Standing → Standing → List ℕ → Type 0
IsNext standing one turns = (1 ≤ occurs one.channel turns) × (find (is_of one.channel) standing ≡ Some one)

next_by : (o : Option Standing) (standing : List Standing) (one : Standing) (channel : ℕ) (later : List ℕ) → find (is_of channel) standing ≡ o → next_in standing (channel ∷ later) ≡ Some one
    → (next_in standing later ≡ Some one → IsNext standing one later) → IsNext standing one (channel ∷ later)
next_by None standing one channel later none e more = let it = more (grind arith) in (grind arith, it.1)
next_by (Some s) standing one channel later found e more = grind (arith, found_is channel s standing found)

is_next : (standing : List Standing) (one : Standing) (turns : List ℕ) → next_in standing turns ≡ Some one → IsNext standing one turns
is_next standing one [] e = absurd (search rules)
is_next standing one (channel ∷ later) e = next_by (find (is_of channel) standing) standing one channel later refl e (is_next standing one later)

-- a channel for which somebody stands isn't before it
not_before_by : (o : Option Standing) (standing : List Standing) (one : Standing) (k channel : ℕ) (later : List ℕ) (first : Standing) → find (is_of k) standing ≡ o → find (is_of channel) standing ≡ Some first
    → next_in standing (k ∷ later) ≡ Some one → (one.channel == channel) ≡ false → (next_in standing later ≡ Some one → is_before channel one.channel later ≡ false)
    → is_before channel one.channel (k ∷ later) ≡ false
not_before_by None standing one k channel later first none stands e other more = let it = more (grind arith) in grind arith
not_before_by (Some s) standing one k channel later first found stands e other more = grind (arith, found_is k s standing found)

not_before : (standing : List Standing) (one : Standing) (turns : List ℕ) (channel : ℕ) (first : Standing) → find (is_of channel) standing ≡ Some first → next_in standing turns ≡ Some one
    → (one.channel == channel) ≡ false → is_before channel one.channel turns ≡ false
not_before standing one [] channel first stands e other = refl
not_before standing one (k ∷ later) channel first stands e other =
    not_before_by (find (is_of k) standing) standing one k channel later first refl stands e other (λ more. not_before standing one later channel first stands more other)

-- it is somebody's turn
abbrev Somebody : List Standing → List ℕ → Type 0
Somebody standing turns = (one : Standing) × (next_in standing turns ≡ Some one)

somebody_by : (o : Option Standing) (standing : List Standing) (k channel : ℕ) (later : List ℕ) (first : Standing) → find (is_of k) standing ≡ o → find (is_of channel) standing ≡ Some first
    → 1 ≤ occurs channel (k ∷ later) → (1 ≤ occurs channel later → Somebody standing later) → Somebody standing (k ∷ later)
somebody_by (Some s) standing k channel later first found stands some more = (s, grind arith)
somebody_by None standing k channel later first none stands some more = let it = more (grind arith) in (it.0, grind arith)

somebody : (standing : List Standing) (channel : ℕ) (first : Standing) (turns : List ℕ) → find (is_of channel) standing ≡ Some first → 1 ≤ occurs channel turns → Somebody standing turns
somebody standing channel first [] stands some = absurd (omega arith)
somebody standing channel first (k ∷ later) stands some =
    somebody_by (find (is_of k) standing) standing k channel later first refl stands some (somebody standing channel first later stands)

-- ---- the channels that have their turn stay

turns_of_join : (b : Bool) (line : LineState) (more : List Standing) → (cond b line (record line { standing = more })).turns ≡ line.turns
turns_of_join true line more = refl
turns_of_join false line more = refl

occurs_after_call : (channel : ℕ) (o : Option Standing) (line : LineState) → occurs channel (after_call o line).turns ≡ occurs channel line.turns
occurs_after_call channel None line = refl
occurs_after_call channel (Some one) line = occurs_after_turn channel one.channel line.turns

occurs_later : (channel : ℕ) (line : LineState) (events : List LineEvent) → occurs channel (line_after line events).turns ≡ occurs channel line.turns
occurs_later channel line [] = refl
occurs_later channel line (joins k other ∷ before) =
    let now : LineState = line_after line before in
    ap (occurs channel) (turns_of_join (is_in_line k now.standing) now (now.standing ++ stands k other ∷ [])) ∙ occurs_later channel line before
occurs_later channel line (leaves k ∷ before) = occurs_later channel line before
occurs_later channel line (calls ∷ before) =
    let now : LineState = line_after line before in
    occurs_after_call channel (next now) now ∙ occurs_later channel line before

length_after_call : (o : Option Standing) (line : LineState) → length (after_call o line).turns ≡ length line.turns
length_after_call None line = refl
length_after_call (Some one) line = as_many_after_turn one.channel line.turns

length_later : (line : LineState) (events : List LineEvent) → length (line_after line events).turns ≡ length line.turns
length_later line [] = refl
length_later line (joins k other ∷ before) =
    let now : LineState = line_after line before in
    ap length (turns_of_join (is_in_line k now.standing) now (now.standing ++ stands k other ∷ [])) ∙ length_later line before
length_later line (leaves k ∷ before) = length_later line before
length_later line (calls ∷ before) =
    let now : LineState = line_after line before in
    length_after_call (next now) now ∙ length_later line before

one_turn_more : (b : Bool) (n : ℕ) → (if b then n + 1 else n) ≡ one_if b + n
one_turn_more true n = omega arith
one_turn_more false n = omega arith

-- ---- one request that waits

module _ (place channel : ℕ) where
  abbrev waiting : Standing
  waiting = record { place = place; channel = channel }

  -- it stands there, with so many before it at most
  pub record Nearer (old new : LineState) (turns : ℕ) : Type 0 where
    pub there : StandsFor place channel new
    pub few : turns + ahead channel place new.standing ≤ ahead channel place old.standing

  join_one : (b : Bool) (k : Standing) (line : LineState) → StandsFor place channel line
      → Nearer line (cond b line (record line { standing = line.standing ++ k ∷ [] })) 0
  join_one true k line there = record { there = there; few = omega arith }
  join_one false k line there =
      let it = behind_all place channel waiting k line.standing there in
      record { there = it.0; few = omega (arith, it.1) }

  leave_one : (k : ℕ) (line : LineState) → (k == place) ≡ false → StandsFor place channel line → Nearer line (record line { standing = filter (is_other k) line.standing }) 0
  leave_one k line other there =
      let it = without place channel k waiting line.standing other there in
      record { there = it.0; few = omega (arith, it.1) }

  call_own : (b : Bool) (one : Standing) (line : LineState) → is_of channel one ≡ b → find (is_of one.channel) line.standing ≡ Some one → is_at place one ≡ false → StandsFor place channel line
      → Nearer line (after_call (Some one) line) (one_if b)
  call_own true one line own found other there =
      let it = without place channel one.place waiting line.standing (grind arith) there in
      record { there = it.0; few = grind (arith, one_nearer place channel one waiting line.standing) }
  call_own false one line own found other there =
      let it = without place channel one.place waiting line.standing (grind arith) there in
      record { there = it.0; few = omega (arith, it.1) }

  call_one : (o : Option Standing) (line : LineState) → next line ≡ o → is_at_if_any place o ≡ false → StandsFor place channel line
      → Nearer line (after_call o line) (one_if (is_of_if_any channel o))
  call_one None line e other there = record { there = there; few = omega arith }
  call_one (Some one) line e other there = call_own (is_of channel one) one line refl (is_next line.standing one line.turns e).1 other there

  happens : (e : LineEvent) (line : LineState) → concerns place e line ≡ false → StandsFor place channel line → Nearer line (after e line) (one_if (is_turn_of channel e line))
  happens (joins k other) line c there = join_one (is_in_line k line.standing) (stands k other) line there
  happens (leaves k) line c there = leave_one k line c there
  happens calls line c there = call_one (next line) line refl c there

  pub nearer : (line : LineState) (events : List LineEvent) → StandsFor place channel line → Waits place line events → Nearer line (line_after line events) (turns_had channel line events)
  nearer line [] there waits = record { there = there; few = omega arith }
  nearer line (e ∷ before) there waits =
      let now : LineState = line_after line before in
      let so_far = nearer line before there waits.0 in
      let more = happens e now waits.1 so_far.there in
      record {
        there = more.there;
        few = omega (arith, so_far.few, more.few, one_turn_more (is_turn_of channel e now) (turns_had channel line before));
      }

-- ---- another channel

module _ (place channel other : ℕ) (apart : (other == channel) ≡ false) where
  -- one event more: as many turns of the other channel as of its own, and one more only if its own comes first then
  abbrev StaysShared : LineState → LineState → Bool → Bool → Type 0
  StaysShared old new own others = one_if others + one_if (is_before channel other old.turns) ≤ one_if own + one_if (is_before channel other new.turns)

  at_most_one : (b : Bool) → one_if b ≤ 1
  at_most_one true = omega arith
  at_most_one false = omega arith

  call_shared : (o n : Bool) (one : Standing) (line : LineState) → is_of channel one ≡ o → is_of other one ≡ n → next line ≡ Some one → StandsFor place channel line → occurs other line.turns ≤ 1 → 1 ≤ occurs channel line.turns
      → StaysShared line (after_call (Some one) line) o n
  call_shared true true one line own others e there once some = absurd (grind arith)
  call_shared true false one line own others e there once some = let it = at_most_one (is_before channel other line.turns) in omega (arith, it)
  call_shared false true one line own others e there once some =
      let first = some_stands place channel (record { place = place; channel = channel }) line.standing there refl in
      let last : is_before channel one.channel line.turns ≡ false = not_before line.standing one line.turns channel first.0 first.1 e own in
      let same : one.channel ≡ other = grind arith in
      let was : is_before channel other line.turns ≡ false = subst (λ k. is_before channel k line.turns ≡ false) same last in
      let there_is : 1 ≤ occurs other line.turns = subst (λ k. 1 ≤ occurs k line.turns) same (is_next line.standing one line.turns e).0 in
      let is : is_before channel other (had_turn one.channel line.turns) ≡ true = subst (λ k. is_before channel other (had_turn k line.turns) ≡ true) (sym same) (after_turn channel other line.turns apart once there_is some) in
      let zero_was = ap one_if was in
      let one_is = ap one_if is in
      omega (arith, zero_was, one_is)
  call_shared false false one line own others e there once some =
      let it = ap one_if (same_order channel other one.channel line.turns own others) in omega (arith, it)

  call_any : (o : Option Standing) (line : LineState) → next line ≡ o → StandsFor place channel line → occurs other line.turns ≤ 1 → 1 ≤ occurs channel line.turns
      → StaysShared line (after_call o line) (is_of_if_any channel o) (is_of_if_any other o)
  call_any None line e there once some = omega arith
  call_any (Some one) line e there once some = call_shared (is_of channel one) (is_of other one) one line refl refl e there once some

  shared_step : (e : LineEvent) (line : LineState) → StandsFor place channel line → occurs other line.turns ≤ 1 → 1 ≤ occurs channel line.turns
      → StaysShared line (after e line) (is_turn_of channel e line) (is_turn_of other e line)
  shared_step (joins k on) line there once some =
      let same = ap (λ turns. one_if (is_before channel other turns)) (turns_of_join (is_in_line k line.standing) line (line.standing ++ stands k on ∷ [])) in omega (arith, same)
  shared_step (leaves k) line there once some = omega arith
  shared_step calls line there once some = call_any (next line) line refl there once some

  pub shared : (line : LineState) (events : List LineEvent) → StandsFor place channel line → Waits place line events → occurs other line.turns ≤ 1 → 1 ≤ occurs channel line.turns
      → turns_had other line events ≤ turns_had channel line events + one_if (is_before channel other (line_after line events).turns)
  shared line [] there waits once some = omega arith
  shared line (e ∷ before) there waits once some =
      let now : LineState = line_after line before in
      let so_far = shared line before there waits.0 once some in
      let stands_now = (nearer place channel line before there waits.0).there in
      let once_now : occurs other now.turns ≤ 1 = subst (λ n. n ≤ 1) (sym (occurs_later other line before)) once in
      let some_now : 1 ≤ occurs channel now.turns = subst (λ n. 1 ≤ n) (sym (occurs_later channel line before)) some in
      let step = shared_step e now stands_now once_now some_now in
      omega (arith, so_far, step, one_turn_more (is_turn_of channel e now) (turns_had channel line before), one_turn_more (is_turn_of other e now) (turns_had other line before))

-- ---- the laws

-- from a new line on, each channel has one turn
once : (channel : ℕ) (before : List LineEvent) → occurs channel (line_after new_line before).turns ≤ 1
once channel before = subst (λ n. n ≤ 1) (sym (occurs_later channel new_line before)) (once_below channel turn_count)

there_is_one : (channel : ℕ) (before : List LineEvent) → channel ≤ no_channel → 1 ≤ occurs channel (line_after new_line before).turns
there_is_one channel before small = subst (λ n. 1 ≤ n) (sym (occurs_later channel new_line before)) (there_below channel turn_count (omega arith))

not_same : (a b : ℕ) → a ≢ b → (a == b) ≡ false
not_same a b ne = grind arith

at_most : (a b c : ℕ) (t : Bool) → a ≤ b + one_if t → b ≤ c → a ≤ c + 1
at_most a b c true h k = omega arith
at_most a b c false h k = omega arith

own_turns : (place channel : ℕ) (line : LineState) (events : List LineEvent) → StandsFor place channel line → Waits place line events → turns_had channel line events ≤ ahead channel place line.standing
own_turns place channel line events there waits = omega (arith, (nearer place channel line events there waits).few)

other_turns : (place channel other : ℕ) (before later : List LineEvent) → channel ≤ no_channel → StandsFor place channel (line_after new_line before) → Waits place (line_after new_line before) later → other ≢ channel
    → turns_had other (line_after new_line before) later ≤ ahead channel place (line_after new_line before).standing + 1
other_turns place channel other before later small there waits ne =
    let line : LineState = line_after new_line before in
    at_most _ _ _ (is_before channel other (line_after line later).turns)
    (shared place channel other (not_same other channel ne) line later there waits (once other before) (there_is_one channel before small))
    (own_turns place channel line later there waits)

pub turns_are_shared : TurnsAreShared
turns_are_shared place channel before later small there waits =
    (own_turns place channel (line_after new_line before) later there waits, λ other ne. other_turns place channel other before later small there waits ne)

-- ---- rounds

-- the turns of some channels together
abbrev turns_of : List ℕ → LineState → List LineEvent → ℕ
turns_of [] line events = 0
turns_of (channel ∷ more) line events = turns_had channel line events + turns_of more line events

-- of a list of channels in which its own is, each has so many at most, and its own one fewer
few_by : (b : Bool) (t o rest n a : ℕ) (own : Bool) → t ≤ a + one_if (not b) → rest + one_if own ≤ n * (a + 1) → (t + rest) + one_if (b || own) ≤ suc n * (a + 1)
few_by true t o rest n a true h k = omega (arith, h, k)
few_by true t o rest n a false h k = omega (arith, h, k)
few_by false t o rest n a true h k = omega (arith, h, k)
few_by false t o rest n a false h k = omega (arith, h, k)

abbrev among : ℕ → List ℕ → Bool
among channel [] = false
among channel (one ∷ later) = one == channel || among channel later

is_among : (channel : ℕ) (channels : List ℕ) → 1 ≤ occurs channel channels → among channel channels ≡ true
is_among channel [] some = absurd (omega arith)
is_among channel (one ∷ later) some = grind (arith, is_among channel later)

turns_by : (b : Bool) (place channel one : ℕ) (before later : List LineEvent) → (one == channel) ≡ b → channel ≤ no_channel → StandsFor place channel (line_after new_line before) → Waits place (line_after new_line before) later
    → turns_had one (line_after new_line before) later ≤ ahead channel place (line_after new_line before).standing + one_if (not b)
turns_by true place channel one before later is small there waits =
    let same : one ≡ channel = grind arith in
    let few = own_turns place channel (line_after new_line before) later there waits in
    subst (λ k. turns_had k (line_after new_line before) later ≤ ahead channel place (line_after new_line before).standing + 0) (sym same) (omega (arith, few))
turns_by false place channel one before later is small there waits = other_turns place channel one before later small there waits (λ e. absurd (grind arith))

few_turns : (place channel : ℕ) (before later : List LineEvent) (channels : List ℕ) → channel ≤ no_channel → StandsFor place channel (line_after new_line before) → Waits place (line_after new_line before) later
    → turns_of channels (line_after new_line before) later + one_if (among channel channels) ≤ length channels * (ahead channel place (line_after new_line before).standing + 1)
few_turns place channel before later [] small there waits = omega arith
few_turns place channel before later (one ∷ more) small there waits =
    few_by (one == channel) _ 0 _ _ _ (among channel more) (turns_by (one == channel) place channel one before later refl small there waits) (few_turns place channel before later more small there waits)

-- a turn more is had by none or by one
never_fewer : (channel : ℕ) (line : LineState) (e : LineEvent) (before : List LineEvent) → turns_had channel line before ≤ turns_had channel line (e ∷ before)
never_fewer channel line e before = omega (arith, one_turn_more (is_turn_of channel e (line_after line before)) (turns_had channel line before))

none_fewer : (channels : List ℕ) (line : LineState) (e : LineEvent) (before : List LineEvent) → turns_of channels line before ≤ turns_of channels line (e ∷ before)
none_fewer [] line e before = omega arith
none_fewer (channel ∷ more) line e before = omega (arith, never_fewer channel line e before, none_fewer more line e before)

turn_of_one : (b : Bool) (one : Standing) (channel : ℕ) (line : LineState) (before : List LineEvent) (n m : ℕ) → (one.channel == channel) ≡ b → next (line_after line before) ≡ Some one
    → n + one_if (not b) ≤ m → (turns_had channel line before + n) + 1 ≤ turns_had channel line (calls ∷ before) + m
turn_of_one true one channel line before n m is e h = grind arith
turn_of_one false one channel line before n m is e h = grind arith

rest_of_them : (b : Bool) (one channel n m : ℕ) (more : List ℕ) → (one == channel) ≡ b → 1 ≤ occurs one (channel ∷ more) → (1 ≤ occurs one more → n + 1 ≤ m) → n ≤ m → n + one_if (not b) ≤ m
rest_of_them true one channel n m more is some later h = omega (arith, h)
rest_of_them false one channel n m more is some later h = omega (arith, later (grind arith))

-- each call is a turn of one of them
one_of_them : (one : Standing) (channels : List ℕ) (line : LineState) (before : List LineEvent) → next (line_after line before) ≡ Some one → 1 ≤ occurs one.channel channels
    → turns_of channels line before + 1 ≤ turns_of channels line (calls ∷ before)
one_of_them one [] line before e some = absurd (omega arith)
one_of_them one (channel ∷ more) line before e some =
    turn_of_one (one.channel == channel) one channel line before (turns_of more line before) (turns_of more line (calls ∷ before)) refl e
    (rest_of_them (one.channel == channel) one.channel channel _ _ more refl some (one_of_them one more line before e) (none_fewer more line calls before))

all_calls : (place channel : ℕ) (line : LineState) (events : List LineEvent) → StandsFor place channel line → Waits place line events → 1 ≤ occurs channel line.turns
    → calls_in events ≤ turns_of line.turns line events
all_calls place channel line [] there waits some = omega arith
all_calls place channel line (joins k on ∷ before) there waits some =
    omega (arith, all_calls place channel line before there waits.0 some, none_fewer line.turns line (joins k on) before)
all_calls place channel line (leaves k ∷ before) there waits some =
    omega (arith, all_calls place channel line before there waits.0 some, none_fewer line.turns line (leaves k) before)
all_calls place channel line (calls ∷ before) there waits some =
    let now : LineState = line_after line before in
    let stands_now = (nearer place channel line before there waits.0).there in
    let first = some_stands place channel (record { place = place; channel = channel }) now.standing stands_now refl in
    let one = somebody now.standing channel first.0 now.turns first.1 (subst (λ n. 1 ≤ n) (sym (occurs_later channel line before)) some) in
    let had : 1 ≤ occurs one.0.channel line.turns = subst (λ n. 1 ≤ n) (occurs_later one.0.channel line before) (is_next now.standing one.0 now.turns one.1).0 in
    omega (arith, all_calls place channel line before there waits.0 some, one_of_them one.0 line.turns line before one.1 had)

calls_of_both : (round before : List LineEvent) → calls_in (round ++ before) ≡ calls_in round + calls_in before
calls_of_both [] before = grind arith
calls_of_both (joins k channel ∷ round) before = calls_of_both round before
calls_of_both (leaves k ∷ round) before = calls_of_both round before
calls_of_both (calls ∷ round) before = grind (arith, calls_of_both round before)

one_each : (rounds : List (List LineEvent)) → CallEach rounds → length rounds ≤ calls_in (events_in rounds)
one_each [] each = omega arith
one_each (round ∷ before) each = let rest = one_each before each.1 in let all = calls_of_both round (events_in before) in omega (arith, rest, all, each.0)

few_rounds : (n m had most before : ℕ) (b : Bool) → n ≤ m → m ≤ had → had + one_if b ≤ most * (before + 1) → b ≡ true → n < most * (before + 1)
few_rounds n m had most before true h k l e = omega (arith, h, k, l)
few_rounds n m had most before false h k l e = absurd (grind arith)

pub rounds_are_few : RoundsAreFew
rounds_are_few place channel before rounds small there each waits =
    let line : LineState = line_after new_line before in
    let some = there_is_one channel before small in
    let many : length line.turns ≡ turn_count = length_later new_line before ∙ as_many_below turn_count in
    subst (λ n. length rounds < n * (ahead channel place line.standing + 1)) many (few_rounds _ _ _ (length line.turns) _ (among channel line.turns) (one_each rounds each)
    (all_calls place channel line (events_in rounds) there waits some) (few_turns place channel before (events_in rounds) line.turns small there waits)
    (is_among channel line.turns some))
