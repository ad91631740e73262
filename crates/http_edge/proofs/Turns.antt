-- What the edge's calls do, as turns.
use Rattle.std.proofs.Common.{◌≡◌, ℕ, ◌<◌, ◌≤◌, Bool, true, false, List, [], ◌∷◌, ◌++◌, length, map, refl, sym, ap, subst, cond, ◌∙◌, arith, true≢false}
use Rattle.std.specs.Prelude.{Option, Some, None, Result, Ok, Err, IfOk, IsSome, unwrap_or, bytes_eq, is_some, nat_lt, nat_le}
use Rattle.std.specs.declared.alloc.AllocError.{AllocError}
use Rattle.std.specs.Map.{lookup, set_value, remove_entry}
use Rattle.std.proofs.lemmas.Bool.Decides.{nat_tests}
use Rattle.url.specs.Parts.{Parts}
use Rattle.playlist_model.specs.Uri.{base_of}
use Rattle.live_channel.specs.declared.channel.ChannelFault.TheVariants as fault
use Rattle.live_channel.specs.Channel.{explained}
use Rattle.live_channel.specs.Channel as channel
use Rattle.http_messages.specs.declared.message.Request.{Request}
use Rattle.http_messages.specs.declared.message.Reply.{Reply}
use Rattle.http_messages.specs.Replies.{bare}
use Rattle.channel_api.specs.declared.channel_body.BodyFault.{BodyFault}
use Rattle.channel_api.specs.declared.named.Naming.TheVariants as naming
use Rattle.channel_api.specs.Named.{has_this_key, PutsNamed}
use Rattle.channel_api.proofs.Names.{none_is}
use Rattle.http_edge.specs.Channels.{GivenChannel, IsGiven, with_event}
use Rattle.channel_api.specs.Replies.{not_found, bad_tolerance, exists, live_reply, why_text, reply_of_text}
use Rattle.http_edge.specs.Replies.{live_owed, why_owed}
use Rattle.channel_spec.specs.Limits.{max_tolerance}
use Rattle.http_edge.specs.Table.{Table, TableEntry, Turn, turn, table_of, unmoved, event_turn, given_at, put_given, without_channel, removed, read_turn, made, added, fresh}
use Rattle.http_edge.specs.Inner.Events.{TakesOne, TakesEvent}
use Rattle.http_edge.specs.Edges.{NamedChannel, named_channel, AreGiven, RepresentsSome, TakenTurn}
use Rattle.http_edge.proofs.Given.{why_is}
use Rattle.http_edge.proofs.Tables.{Entries, Agree, none_agrees, some_agrees, found, put, taken_out, added_after, as_many}

-- nothing moved
pub unmoved_turn : {E : Type 0} (table : Table) (x : Reply) (t : Turn) (r : Result Reply E) (kept : List NamedChannel) → t ≡ unmoved table x
    → IfOk r (λ y. y ≡ x) → AreGiven kept table → TakenTurn t table r kept
unmoved_turn table x t (Ok y) kept e h s = (h ∙ ap (λ (u : Turn). u.reply) (sym e), subst (AreGiven kept) (ap (λ (u : Turn). u.table) (sym e)) s)
unmoved_turn table x t (Err f) kept e h s = s

some_same : (a b : GivenChannel) → Some a ≡ Some b → a ≡ b
some_same a b e = ap (λ o. unwrap_or o a) e

same_first : (b : Bool) (t : TableEntry) (ts us : Table) (g : GivenChannel) (q : Option GivenChannel) → cond b (Some t.given) q ≡ Some g → (q ≡ Some g → us ≡ ts)
    → cond b (record t { given = g } ∷ ts) (t ∷ us) ≡ t ∷ ts
same_first true t ts us g q e rest = let k = some_same t.given g e in ap (λ (x : GivenChannel). record t { given = x } ∷ ts) (sym k)
same_first false t ts us g q e rest = ap (λ l. t ∷ l) (rest e)

-- what is there already
put_same : (name : List ℕ) (table : Table) (g : GivenChannel) → given_at name table ≡ Some g → put_given name g table ≡ table
put_same name [] g e = refl
put_same name (t ∷ ts) g e = same_first (bytes_eq name t.name) t ts (put_given name g ts) g (given_at name ts) e (put_same name ts g)

-- an event that was taken, or that left what the channel stood for
module _ {A : Type 0} (es : Entries A) (table : Table) (name : List ℕ) (event : channel.Given) (owed : GivenChannel → Reply) (g : GivenChannel) (new : channel.Channel)
    (s : AreGiven (map named_channel es) table) (same : given_at name table ≡ Some g) where
  abbrev After : List NamedChannel
  After = map named_channel (set_value (has_this_key name) es new)

  taken : {E : Type 0} (r : Result Reply E) → TakesOne event owed g r new → TakenTurn (event_turn table name event owed (Some g)) table r After
  taken (Ok reply) k = (k.0, put name es table new (with_event event g) s k.1)
  taken (Err x) k = subst (AreGiven After) (put_same name table g same) (put name es table new g s k)

-- the same, of whatever it was given
pub event_done : {A E : Type 0} (es fs : Entries A) (table : Table) (name : List ℕ) (event : channel.Given) (owed : GivenChannel → Reply) (old new : channel.Channel)
    (r : Result Reply E) → AreGiven (map named_channel es) table → Some old ≡ lookup (has_this_key name) es → fs ≡ set_value (has_this_key name) es new → TakesEvent old event owed r new
    → TakenTurn (event_turn table name event owed (given_at name table)) table r (map named_channel fs)
event_done es fs table name event owed old new r s there after takes =
    let f = some_agrees old (given_at name table) (subst (λ o. Agree o (given_at name table)) (sym there) (found name es table s)) in
    let done = taken es table name event owed f.0 new s f.1 r (takes f.0 f.2) in
    subst (λ o. TakenTurn (event_turn table name event owed o) table r (map named_channel fs)) (sym f.1)
    (subst (λ l. TakenTurn (event_turn table name event owed (Some f.0)) table r (map named_channel l)) (sym after) done)

-- no such channel
pub none_at : {A : Type 0} (es : Entries A) (table : Table) (name : List ℕ) → AreGiven (map named_channel es) table → None ≡ lookup (has_this_key name) es → given_at name table ≡ None
none_at es table name s there = none_agrees (given_at name table) (subst (λ o. Agree o (given_at name table)) (sym there) (found name es table s))

-- a channel that is there
pub some_at : {A : Type 0} (es : Entries A) (table : Table) (name : List ℕ) (k : channel.Channel) → AreGiven (map named_channel es) table → Some k ≡ lookup (has_this_key name) es
    → (g : GivenChannel) × (given_at name table ≡ Some g) × IsGiven k g
some_at es table name k s there = some_agrees k (given_at name table) (subst (λ o. Agree o (given_at name table)) (sym there) (found name es table s))

-- what is read of a channel
pub live_turn : {A E : Type 0} (es : Entries A) (table : Table) (name : List ℕ) (k : channel.Channel) (r : Result Reply E) (kept : List NamedChannel)
    → AreGiven (map named_channel es) table → Some k ≡ lookup (has_this_key name) es → IfOk r (λ y. y ≡ live_reply k.text) → AreGiven kept table
    → TakenTurn (read_turn table live_owed (given_at name table)) table r kept
live_turn es table name k r kept s there q now = grind (arith, some_at)

pub why_turn : {A E : Type 0} (es : Entries A) (table : Table) (name : List ℕ) (k : channel.Channel) (r : Result Reply E) (kept : List NamedChannel)
    → AreGiven (map named_channel es) table → Some k ≡ lookup (has_this_key name) es → IfOk r (λ y. y ≡ reply_of_text (why_text (explained k.kept) k.kept.breaks)) → AreGiven kept table
    → TakenTurn (read_turn table why_owed (given_at name table)) table r kept
why_turn es table name k r kept s there q now = grind (arith, some_at, why_is)

first_kept : (b : Bool) (t : TableEntry) (ts us : Table) (q : Option GivenChannel) → cond b (Some t.given) q ≡ None → (q ≡ None → us ≡ ts) → cond b ts (t ∷ us) ≡ t ∷ ts
first_kept true t ts us q e rest = absurd (true≢false (ap is_some e))
first_kept false t ts us q e rest = ap (λ l. t ∷ l) (rest e)

without_none : (name : List ℕ) (table : Table) → given_at name table ≡ None → without_channel name table ≡ table
without_none name [] e = refl
without_none name (t ∷ ts) e = first_kept (bytes_eq name t.name) t ts (without_channel name ts) (given_at name ts) e (without_none name ts)

pub removed_none : {A E : Type 0} (es fs : Entries A) (table : Table) (name : List ℕ) (r : Result Reply E) → AreGiven (map named_channel es) table
    → is_some (lookup (has_this_key name) es) ≡ false → fs ≡ remove_entry (has_this_key name) es → IfOk r (λ y. y ≡ not_found)
    → TakenTurn (removed table name (given_at name table)) table r (map named_channel fs)
removed_none es fs table name r s there after q =
    let none = none_at es table name s (sym (none_is _ there)) in
    let out = subst (AreGiven (map named_channel (remove_entry (has_this_key name) es))) (without_none name table none) (taken_out name es table s) in
    unmoved_turn table not_found _ r _ (ap (removed table name) none) q (subst (λ l. AreGiven (map named_channel l) table) (sym after) out)

some_is : {X : Type 0} (o : Option X) → IsSome o → (x : X) × (o ≡ Some x)
some_is None h = absurd (true≢false (sym h))
some_is (Some x) h = (x, refl)

pub removed_some : {A : Type 0} (E : Type 0) (es fs : Entries A) (table : Table) (name : List ℕ) (y : Reply) → AreGiven (map named_channel es) table
    → IsSome (lookup (has_this_key name) es) → fs ≡ remove_entry (has_this_key name) es → y ≡ bare 204
    → TakenTurn {E = E} (removed table name (given_at name table)) table (Ok y) (map named_channel fs)
removed_some E es fs table name y s there after q = grind (arith, some_at, taken_out)

-- ---- making a channel

is_over : (tolerance : ℕ) → 10000000000 < tolerance → nat_lt max_tolerance tolerance ≡ true
is_over tolerance h = grind (arith, nat_tests)

is_within : (tolerance : ℕ) → tolerance ≤ 10000000000 → nat_lt max_tolerance tolerance ≡ false
is_within tolerance h = grind (arith, nat_tests)

module _ (table : Table) (name base : List ℕ) (tolerance : ℕ) (said : Result (List ℕ × ℕ) BodyFault) (e : said ≡ Ok (base, tolerance)) where
  over : (p : Parts) → base_of base ≡ Some p → 10000000000 < tolerance → made table name said ≡ unmoved table bad_tolerance
  over p b h = grind arith

same_some : (o : Option channel.Channel) (q : Option GivenChannel) → Agree o q → is_some o ≡ is_some q
same_some o q h = grind arith

there_as : {A : Type 0} (es : Entries A) (table : Table) (name : List ℕ) (b : Bool) → AreGiven (map named_channel es) table → is_some (lookup (has_this_key name) es) ≡ b
    → is_some (given_at name table) ≡ b
there_as es table name b s e = sym (same_some (lookup (has_this_key name) es) (given_at name table) (found name es table s)) ∙ e

-- a channel that is taken in, or not
module _ (table : Table) (name : List ℕ) (parts : Parts) (tolerance : ℕ) where
  abbrev there : Turn
  there = unmoved table exists

  abbrev grown : Turn
  grown = record { reply = bare 201; table = table ++ fresh name parts tolerance ∷ [] }

  abbrev room : Turn
  room = cond (nat_le 64 (length table)) (unmoved table (bare 503)) grown

  module _ {A : Type 0} (es fs : Entries A) (k : channel.Channel) (s : AreGiven (map named_channel es) table) where
    left : fs ≡ es → AreGiven (map named_channel fs) table
    left e = subst (λ l. AreGiven (map named_channel l) table) (sym e) s

    is_free : lookup (has_this_key name) es ≡ None → added table name parts tolerance ≡ room
    is_free h = ap (λ c. cond c there room) (there_as es table name false s (ap is_some h))

    pub is_taken : {E : Type 0} (r : Result Reply E) → PutsNamed {E = AllocError} 64 name k es (Ok naming.Taken) fs → IfOk r (λ y. y ≡ exists)
        → TakenTurn (added table name parts tolerance) table r (map named_channel fs)
    is_taken r p q = unmoved_turn table exists _ r _ (ap (λ c. cond c there room) (there_as es table name true s p.0)) q (left p.1)

    pub is_full : {E : Type 0} (r : Result Reply E) → PutsNamed {E = AllocError} 64 name k es (Ok naming.Full) fs → IfOk r (λ y. y ≡ bare 503)
        → TakenTurn (added table name parts tolerance) table r (map named_channel fs)
    is_full r p q = grind (arith, as_many, is_free, left, unmoved_turn)

    pub is_added : (E : Type 0) (y : Reply) → PutsNamed {E = AllocError} 64 name k es (Ok naming.Done) fs
        → IsGiven k (record { base = parts; tolerance = tolerance; events = [] }) → y ≡ bare 201 → TakenTurn {E = E} (added table name parts tolerance) table (Ok y) (map named_channel fs)
    is_added E y p h q = grind (arith, added_after, as_many, is_free)

-- ---- what an edge stands for

-- after this turn it stands for this request too, or for what it did
pub stands_for_some : {E : Type 0} (result : Result Reply E) (request : Request) (old new : List NamedChannel) → RepresentsSome old → ((table : Table) → AreGiven old table → TakenTurn (turn table request) table result new) → RepresentsSome new
stands_for_some (Ok reply) request old new some turned = (request ∷ some.0, (turned (table_of some.0) some.1).1)
stands_for_some (Err e) request old new some turned = (some.0, turned (table_of some.0) some.1)
