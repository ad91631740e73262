-- What the requests on other channels leave of a channel.
use Rattle.std.proofs.Common.{◌≡◌, ℕ, Bool, true, false, cond, List, [], ◌∷◌, ◌++◌, length, refl, sym, ap, subst, ◌∙◌, true≢false, arith}
use Rattle.std.specs.Prelude.{Option, Some, None, Result, Ok, Err, bytes_eq, is_some, filter, nat_le, ◌&&◌}
use Rattle.std.specs.List.{list_all}
use Rattle.std.proofs.lemmas.Slice.Eq.{bytes_eq-Decides}
use Rattle.url.specs.Parts.{Parts}
use Rattle.playlist_model.specs.Uri.{base_of}
use Rattle.live_channel.specs.Channel as channel
use Rattle.http_messages.specs.declared.message.Request.{Request}
use Rattle.http_messages.specs.declared.message.Reply.{Reply}
use Rattle.http_messages.specs.Replies.{bare}
use Rattle.channel_api.specs.declared.channel_body.BodyFault.{BodyFault}
use Rattle.channel_api.specs.declared.routes.Resource.{Resource}
use Rattle.http_edge.specs.Channels.{GivenChannel, with_event}
use Rattle.channel_api.specs.Replies.{exists}
use Rattle.channel_api.specs.Routes.{route_path_of, route_of}
use Rattle.http_edge.specs.Table.{Table, TableEntry, Turn, unmoved, event_turn, given_at, put_given, without_channel, removed, read_turn, made, tried, added, fresh, turn_at, routed, turn, table_of, reply_to}
use Rattle.http_edge.specs.Isolation.{is_route_of, is_on, replies_on, was_served, IsIsolated}

-- ---- the entries of a name

is_named : List ℕ → TableEntry → Bool
is_named x entry = bytes_eq x entry.name

abbrev pub picked : List ℕ → Table → Table
picked x table = filter (λ (entry : TableEntry). bytes_eq x entry.name) table

given_step : (b : Bool) (x : List ℕ) (e : TableEntry) (p : Table) (q : Option GivenChannel) → bytes_eq x e.name ≡ b → given_at x p ≡ q
    → given_at x (cond b (e ∷ p) p) ≡ cond b (Some e.given) q
given_step true x e p q is h = ap (λ c. cond c (Some e.given) (given_at x p)) is
given_step false x e p q is h = h

given_picked : (x : List ℕ) (table : Table) → given_at x (picked x table) ≡ given_at x table
given_picked x [] = refl
given_picked x (e ∷ later) = given_step (bytes_eq x e.name) x e (picked x later) (given_at x later) refl (given_picked x later)

put_step : (b : Bool) (x : List ℕ) (g : GivenChannel) (e : TableEntry) (later put p : Table) → bytes_eq x e.name ≡ b → picked x later ≡ p → picked x put ≡ put_given x g p
    → picked x (cond b (record e { given = g } ∷ later) (e ∷ put)) ≡ put_given x g (cond b (e ∷ p) p)
put_step b x g e later put p is same h = grind arith

put_picked : (x : List ℕ) (g : GivenChannel) (table : Table) → picked x (put_given x g table) ≡ put_given x g (picked x table)
put_picked x g [] = refl
put_picked x g (e ∷ later) = put_step (bytes_eq x e.name) x g e later (put_given x g later) (picked x later) refl refl (put_picked x g later)

without_step : (b : Bool) (x : List ℕ) (e : TableEntry) (later out p : Table) → bytes_eq x e.name ≡ b → picked x later ≡ p → picked x out ≡ without_channel x p
    → picked x (cond b later (e ∷ out)) ≡ without_channel x (cond b (e ∷ p) p)
without_step true x e later out p is same h = same ∙ sym (ap (λ c. cond c p (e ∷ without_channel x p)) is)
without_step false x e later out p is same h = ap (λ c. cond c (e ∷ picked x out) (picked x out)) is ∙ h

without_picked : (x : List ℕ) (table : Table) → picked x (without_channel x table) ≡ without_channel x (picked x table)
without_picked x [] = refl
without_picked x (e ∷ later) = without_step (bytes_eq x e.name) x e later (without_channel x later) (picked x later) refl refl (without_picked x later)

none_step : (b : Bool) (e : TableEntry) (p : Table) (q : Option GivenChannel) → is_some (cond b (Some e.given) q) ≡ false → (is_some q ≡ false → p ≡ []) → cond b (e ∷ p) p ≡ []
none_step true e p q n h = absurd (true≢false n)
none_step false e p q n h = h n

none_picked : (x : List ℕ) (table : Table) → is_some (given_at x table) ≡ false → picked x table ≡ []
none_picked x [] n = refl
none_picked x (e ∷ later) n = none_step (bytes_eq x e.name) e (picked x later) (given_at x later) n (none_picked x later)

append_step : (b : Bool) (e : TableEntry) (p q r : Table) → r ≡ p ++ q → cond b (e ∷ r) r ≡ cond b (e ∷ p) p ++ q
append_step true e p q r h = ap (λ l. e ∷ l) h
append_step false e p q r h = h

append_picked : (x : List ℕ) (table more : Table) → picked x (table ++ more) ≡ picked x table ++ picked x more
append_picked x [] more = refl
append_picked x (e ∷ later) more = append_step (bytes_eq x e.name) e (picked x later) (picked x more) (picked x (later ++ more)) (append_picked x later more)

append_nothing : (table : Table) → table ++ [] ≡ table
append_nothing [] = refl
append_nothing (e ∷ later) = ap (λ l. e ∷ l) (append_nothing later)

-- ---- another name

-- an entry of the other name is none of this one
not_this : (x n : List ℕ) (e : TableEntry) → bytes_eq x n ≡ false → bytes_eq n e.name ≡ true → bytes_eq x e.name ≡ false
not_this x n e other is = subst (λ m. bytes_eq x m ≡ false) ((bytes_eq-Decides n e.name).0 is) other

put_other_step : (b : Bool) (x n : List ℕ) (g : GivenChannel) (e : TableEntry) (later put : Table) → bytes_eq x n ≡ false → bytes_eq n e.name ≡ b → picked x put ≡ picked x later
    → picked x (cond b (record e { given = g } ∷ later) (e ∷ put)) ≡ picked x (e ∷ later)
put_other_step b x n g e later put other is h = grind (arith, not_this)

put_other : (x n : List ℕ) (g : GivenChannel) (table : Table) → bytes_eq x n ≡ false → picked x (put_given n g table) ≡ picked x table
put_other x n g [] other = refl
put_other x n g (e ∷ later) other = put_other_step (bytes_eq n e.name) x n g e later (put_given n g later) other refl (put_other x n g later other)

without_other_step : (b : Bool) (x n : List ℕ) (e : TableEntry) (later out : Table) → bytes_eq x n ≡ false → bytes_eq n e.name ≡ b → picked x out ≡ picked x later
    → picked x (cond b later (e ∷ out)) ≡ picked x (e ∷ later)
without_other_step true x n e later out other is h = sym (ap (λ c. cond c (e ∷ picked x later) (picked x later)) (not_this x n e other is))
without_other_step false x n e later out other is h = ap (λ l. cond (bytes_eq x e.name) (e ∷ l) l) h

without_other : (x n : List ℕ) (table : Table) → bytes_eq x n ≡ false → picked x (without_channel n table) ≡ picked x table
without_other x n [] other = refl
without_other x n (e ∷ later) other = without_other_step (bytes_eq n e.name) x n e later (without_channel n later) other refl (without_other x n later other)

event_other : (x n : List ℕ) (event : channel.Given) (owed : GivenChannel → Reply) (table : Table) (o : Option GivenChannel) → bytes_eq x n ≡ false
    → picked x (event_turn table n event owed o).table ≡ picked x table
event_other x n event owed table None other = refl
event_other x n event owed table (Some g) other = put_other x n (with_event event g) table other

read_other : (x : List ℕ) (reply : GivenChannel → Reply) (table : Table) (o : Option GivenChannel) → picked x (read_turn table reply o).table ≡ picked x table
read_other x reply table None = refl
read_other x reply table (Some g) = refl

removed_other : (x n : List ℕ) (table : Table) (o : Option GivenChannel) → bytes_eq x n ≡ false → picked x (removed table n o).table ≡ picked x table
removed_other x n table None other = refl
removed_other x n table (Some g) other = without_other x n table other

added_other_step : (b c : Bool) (x n : List ℕ) (e : TableEntry) (table : Table) (one two : Reply) → bytes_eq x e.name ≡ false
    → picked x (cond b (unmoved table one) (cond c (unmoved table two) (record { reply = bare 201; table = table ++ e ∷ [] }))).table ≡ picked x table
added_other_step b c x n e table one two other = grind (arith, append_nothing, append_picked)

tried_other : (x n : List ℕ) (tolerance : ℕ) (table : Table) (o : Option Parts) → bytes_eq x n ≡ false → picked x (tried table n tolerance o).table ≡ picked x table
tried_other x n tolerance table o other = grind (arith, added_other_step)

made_other : (x n : List ℕ) (table : Table) (said : Result (List ℕ × ℕ) BodyFault) → bytes_eq x n ≡ false → picked x (made table n said).table ≡ picked x table
made_other x n table (Err fault) other = refl
made_other x n table (Ok said) other = tried_other x n said.1 table (base_of said.0) other

at_other : (x n : List ℕ) (r : Request) (resource : Resource) (table : Table) → bytes_eq x n ≡ false → picked x (turn_at table r n resource).table ≡ picked x table
at_other x n r resource table other = grind (arith, event_other, made_other, read_other, removed_other)

pub turn_other : (x : List ℕ) (r : Request) (o : Option (List ℕ × Resource)) (table : Table) → is_route_of x o ≡ false → picked x (routed table r o).table ≡ picked x table
turn_other x r None table other = refl
turn_other x r (Some route) table other = at_other x route.0 r route.1 table other

-- ---- this name

-- what of a turn is seen from a name
abbrev shown : List ℕ → Turn → Turn
shown x t = record { reply = t.reply; table = picked x t.table }

event_shown : (x : List ℕ) (event : channel.Given) (owed : GivenChannel → Reply) (table : Table) (o : Option GivenChannel)
    → shown x (event_turn table x event owed o) ≡ event_turn (picked x table) x event owed o
event_shown x event owed table None = refl
event_shown x event owed table (Some g) = ap (λ (l : Table). record { reply = owed g; table = l }) (put_picked x (with_event event g) table)

event_this : (x : List ℕ) (event : channel.Given) (owed : GivenChannel → Reply) (table : Table)
    → shown x (event_turn table x event owed (given_at x table)) ≡ event_turn (picked x table) x event owed (given_at x (picked x table))
event_this x event owed table = event_shown x event owed table (given_at x table) ∙ ap (event_turn (picked x table) x event owed) (sym (given_picked x table))

read_shown : (x : List ℕ) (reply : GivenChannel → Reply) (table : Table) (o : Option GivenChannel) → shown x (read_turn table reply o) ≡ read_turn (picked x table) reply o
read_shown x reply table None = refl
read_shown x reply table (Some g) = refl

read_this : (x : List ℕ) (reply : GivenChannel → Reply) (table : Table)
    → shown x (read_turn table reply (given_at x table)) ≡ read_turn (picked x table) reply (given_at x (picked x table))
read_this x reply table = read_shown x reply table (given_at x table) ∙ ap (read_turn (picked x table) reply) (sym (given_picked x table))

removed_shown : (x : List ℕ) (table : Table) (o : Option GivenChannel) → shown x (removed table x o) ≡ removed (picked x table) x o
removed_shown x table None = refl
removed_shown x table (Some g) = ap (λ (l : Table). record { reply = bare 204; table = l }) (without_picked x table)

removed_this : (x : List ℕ) (table : Table) → shown x (removed table x (given_at x table)) ≡ removed (picked x table) x (given_at x (picked x table))
removed_this x table = removed_shown x table (given_at x table) ∙ ap (removed (picked x table) x) (sym (given_picked x table))

-- if there is none of this name there is room
abbrev room : Bool → Table → TableEntry → Turn
room c table e = cond c (unmoved table (bare 503)) (record { reply = bare 201; table = table ++ e ∷ [] })

abbrev taken : Table → Turn
taken table = unmoved table exists

grown : (x : List ℕ) (base : Parts) (tolerance : ℕ) (table p : Table) → p ≡ [] → picked x table ≡ p
    → shown x (room false table (fresh x base tolerance)) ≡ room (nat_le 64 (length p)) p (fresh x base tolerance)
grown x base tolerance table p none is = grind (arith, append_picked, bytes_eq-Decides)

room_step : (c : Bool) (x : List ℕ) (base : Parts) (tolerance : ℕ) (table : Table) → picked x table ≡ [] → was_served (room c table (fresh x base tolerance)).reply ≡ true
    → shown x (room c table (fresh x base tolerance)) ≡ room (nat_le 64 (length (picked x table))) (picked x table) (fresh x base tolerance)
room_step true x base tolerance table none served = absurd (true≢false (sym served))
room_step false x base tolerance table none served = grown x base tolerance table (picked x table) none refl

added_step : (b c : Bool) (x : List ℕ) (base : Parts) (tolerance : ℕ) (table : Table) → is_some (given_at x table) ≡ b
    → was_served (cond b (taken table) (room c table (fresh x base tolerance))).reply ≡ true
    → shown x (cond b (taken table) (room c table (fresh x base tolerance)))
    ≡ cond b (taken (picked x table)) (room (nat_le 64 (length (picked x table))) (picked x table) (fresh x base tolerance))
added_step true c x base tolerance table is served = refl
added_step false c x base tolerance table is served = room_step c x base tolerance table (none_picked x table is) served

added_this : (x : List ℕ) (base : Parts) (tolerance : ℕ) (table : Table) → was_served (added table x base tolerance).reply ≡ true
    → shown x (added table x base tolerance) ≡ added (picked x table) x base tolerance
added_this x base tolerance table served = grind (arith, added_step, given_picked)

tried_this : (x : List ℕ) (tolerance : ℕ) (table : Table) (o : Option Parts) → was_served (tried table x tolerance o).reply ≡ true
    → shown x (tried table x tolerance o) ≡ tried (picked x table) x tolerance o
tried_this x tolerance table o served = grind (arith, added_this)

made_this : (x : List ℕ) (table : Table) (said : Result (List ℕ × ℕ) BodyFault) → was_served (made table x said).reply ≡ true
    → shown x (made table x said) ≡ made (picked x table) x said
made_this x table (Err fault) served = refl
made_this x table (Ok said) served = tried_this x said.1 table (base_of said.0) served

at_this : (x : List ℕ) (r : Request) (resource : Resource) (table : Table) → was_served (turn_at table r x resource).reply ≡ true
    → shown x (turn_at table r x resource) ≡ turn_at (picked x table) r x resource
at_this x r resource table served = grind (arith, event_this, made_this, read_this, removed_this)

named_this : (x n : List ℕ) (r : Request) (resource : Resource) (table : Table) → n ≡ x → was_served (turn_at table r n resource).reply ≡ true
    → shown x (turn_at table r n resource) ≡ turn_at (picked x table) r n resource
named_this x n r resource table is served = grind (arith, at_this)

turn_this : (x : List ℕ) (r : Request) (o : Option (List ℕ × Resource)) (table : Table) → is_route_of x o ≡ true → was_served (routed table r o).reply ≡ true
    → shown x (routed table r o) ≡ routed (picked x table) r o
turn_this x r None table on served = absurd (true≢false (sym on))
turn_this x r (Some route) table on served = named_this x route.0 r route.1 table (sym ((bytes_eq-Decides x route.0).0 on)) served

-- ---- all requests

abbrev alone : List ℕ → List Request → List Request
alone x requests = filter (λ r. is_on x r) requests

-- the channel's entries are those of its requests alone, and so are the replies
abbrev pub Alike : List ℕ → List Request → Table → List Reply → List Request → Type 0
Alike x requests table replies left = (picked x table ≡ table_of left) × (replies ≡ replies_on x left)

pub and_parts : (a b : Bool) → (a && b) ≡ true → (a ≡ true) × (b ≡ true)
and_parts true b h = (refl, h)
and_parts false b h = absurd (true≢false (sym h))

pub served_step : (x : List ℕ) (r : Request) (before left : List Request) (replies : List Reply) → is_on x r ≡ true → was_served (reply_to before r) ≡ true
    → Alike x before (table_of before) replies left
    → Alike x (r ∷ before) (turn (table_of before) r).table (reply_to before r ∷ replies) (r ∷ left)
served_step x r before left replies on served h =
    let same = turn_this x r (route_of (route_path_of r.target)) (table_of before) on served ∙ ap (λ t. turn t r) h.0 in (
      ap (λ (t : Turn). t.table) same,
      ap (λ (t : Turn). t.reply ∷ replies) same ∙ ap (λ l. reply_to left r ∷ l) h.1
          ∙ sym (ap (λ c. cond c (reply_to left r ∷ replies_on x left) (replies_on x left)) on),
    )

step : (b : Bool) (x : List ℕ) (r : Request) (before left : List Request) (replies : List Reply) → is_on x r ≡ b
    → list_all was_served (cond b (reply_to before r ∷ replies) replies) ≡ true
    → (list_all was_served replies ≡ true → Alike x before (table_of before) replies left)
    → Alike x (r ∷ before) (turn (table_of before) r).table (cond b (reply_to before r ∷ replies) replies) (cond b (r ∷ left) left)
step true x r before left replies is served h =
    let parts = and_parts (was_served (reply_to before r)) (list_all was_served replies) served in
    served_step x r before left replies is parts.0 (h parts.1)
step false x r before left replies is served h = grind (arith, turn_other)

alike : (x : List ℕ) (requests : List Request) → list_all was_served (replies_on x requests) ≡ true
    → Alike x requests (table_of requests) (replies_on x requests) (alone x requests)
alike x [] served = (refl, refl)
alike x (r ∷ before) served = step (is_on x r) x r before (alone x before) (replies_on x before) refl served (alike x before)

pub isolated : (x : List ℕ) (requests : List Request) → IsIsolated x requests
isolated x requests served = (alike x requests served).1
