-- splice_insert: what is read lies there, and what lies there is read.
use Rattle.std.proofs.Common.{◌≡◌, ℕ, ◌/◌, ◌%◌, ◌^◌, ◌<◌, ◌≤◌, Bool, true, false, List, [], ◌∷◌, ◌++◌, length, Option, Some, None, Ok, refl, subst, append_assoc, arith}
use Rattle.std.specs.Prelude.{is_some, is_none}
use Rattle.std.specs.List.{flat_map}
use Rattle.scte35_codec.specs.declared.info.SpliceTime.{SpliceTime}
use Rattle.scte35_codec.specs.declared.info.BreakDuration.{BreakDuration}
use Rattle.scte35_codec.specs.Layout.{BitField, Is, Reserved, Splits, IsRead}
use Rattle.scte35_codec.specs.Section.{Target, Program, Components, Body, SpliceEvent, splice_flag, optional_fields, component, break_duration, target_fields, is_program_splice, target_is_timed, body_flags, body_ids, body_fields, splice_insert, BodyIsTimed}
use Rattle.std.specs.List.{list_all}
use Rattle.std.proofs.Common.{leb}
use Rattle.std.proofs.lemmas.Bool.{and_from, le-leb}
use Rattle.scte35_codec.specs.Writing.{splice_time_fits, splice_target_fits, break_duration_fits, insert_body_fits}
use Rattle.spec_words.specs.Outcomes.{◌>>=◌}
use Rattle.scte35_codec.specs.Reading.{number_at, splice_bit, optional_time_at, components_at, target_at, optional_duration_at, body_at, optional_body_at, insert_at}
use Rattle.scte35_codec.specs.Layout.{IsBytes}
use Rattle.scte35_codec.proofs.Takes.{bind_ok, ok_is, flag-test, test-flag, Takes, Takes-then, number_takes, group_takes, Lies, Again, group_again}
use Rattle.scte35_codec.proofs.Times.{optional_time_takes, optional_time_again, components_takes, components_again, optional_duration_takes, optional_duration_again}

-- ---- The target

abbrev Component : Type 0
Component = ℕ × Option SpliceTime

record TakesTarget (program immediate : Bool) (t : Target) (bytes rest : List ℕ) : Type 0 where
  pub takes : Takes (target_fields t) bytes rest
  pub kind : is_program_splice t ≡ program
  pub small : splice_target_fits immediate t ≡ true

target_takes : (program immediate : Bool) (bytes : List ℕ) (t : Target) (rest : List ℕ) → IsBytes bytes → target_at program immediate bytes ≡ Ok (t, rest) → TakesTarget program immediate t bytes rest
unfolding target_at
target_takes true immediate bytes t rest fits e =
    let b = bind_ok (optional_time_at immediate bytes) (λ time. Ok (Program time.0, time.1)) (t, rest) e in
    let time = optional_time_takes immediate bytes b.0.0 b.0.1 fits b.1 in
    subst (λ (x : Target × List ℕ). TakesTarget true immediate x.0 bytes x.1) {x = (Program b.0.0, b.0.1)} (ok_is (Program b.0.0, b.0.1) (t, rest) b.2) (record { takes = time.0; kind = refl; small = time.1 })
target_takes false immediate bytes t rest fits e =
    let a = bind_ok (number_at 1 bytes) (λ count. components_at immediate count.0 count.1 >>= λ components. Ok (Components components.0, components.1)) (t, rest) e in
    let b = bind_ok (components_at immediate a.0.0 a.0.1) (λ components. Ok (Components components.0, components.1)) (t, rest) a.2 in
    let read = number_takes 1 bytes a.0.0 a.0.1 fits a.1 in
    let cs : List Component = b.0.0 in
    let components = components_takes immediate a.0.0 a.0.1 cs b.0.1 read.rest_fits b.1 in
    let below : a.0.0 < 2 ^ 8 = read.below in
    let few : length cs ≤ 255 = omega (arith, components.2) in
    let count_fields : List BitField = (8, Is (length cs)) ∷ [] in
    let count : Takes count_fields bytes a.0.1 = group_takes 1 count_fields bytes a.0.0 a.0.1 read refl (omega (arith, components.2), omega arith) in
    subst (λ (x : Target × List ℕ). TakesTarget false immediate x.0 bytes x.1) {x = (Components cs, b.0.1)} (ok_is (Components cs, b.0.1) (t, rest) b.2)
    (record { takes = Takes-then count_fields (flat_map component cs) bytes a.0.1 b.0.1 count components.0; kind = refl; small = and_from (leb (length cs) 255) (list_all (λ c. splice_time_fits immediate c.1) cs) (le-leb (length cs) 255 few) components.1 })

target_again : (immediate : Bool) (t : Target) (after : List BitField) (bytes : List ℕ) → target_is_timed immediate t ≡ true → Lies (target_fields t ++ after) bytes → Again (target_at (is_program_splice t) immediate bytes) t after
unfolding target_at
target_again immediate (Program time) after bytes timed lies =
    let a = optional_time_again immediate time after bytes timed lies in
    record { rest = a.rest; is = rw a.is refl; lies = a.lies }
target_again immediate (Components cs) after bytes timed lies =
    let count_fields : List BitField = (8, Is (length cs)) ∷ [] in
    let g = group_again 1 count_fields (flat_map component cs ++ after) bytes refl lies in
    let count : g.value ≡ length cs = omega (arith, g.split.0) in
    let a = components_again immediate cs after g.again.rest timed g.again.lies in
    record { rest = a.rest; is = rw (g.again.is, count, a.is) refl; lies = a.lies }

-- ---- The body

record TakesBody (b : Body) (bytes rest : List ℕ) : Type 0 where
  pub takes : Takes (body_fields b) bytes rest
  pub small : insert_body_fits (Some b) ≡ true

abbrev made_of : ℕ → Target → Option BreakDuration → ℕ → Body
made_of flags target duration ids = record {
  out_of_network = splice_bit 7 flags;
  immediate = splice_bit 4 flags;
  target = target;
  duration = duration;
  unique_program_id = ids / 2 ^ 16;
  avail_num = ids / 2 ^ 8 % 2 ^ 8;
  avails_expected = ids % 2 ^ 8;
}

body_takes : (bytes : List ℕ) (b : Body) (rest : List ℕ) → IsBytes bytes → body_at bytes ≡ Ok (b, rest) → TakesBody b bytes rest
unfolding body_at body_fields
body_takes bytes b rest fits e =
    let f = bind_ok (number_at 1 bytes) (λ flags. target_at (splice_bit 6 flags.0) (splice_bit 4 flags.0) flags.1 >>= λ target. optional_duration_at (splice_bit 5 flags.0) target.1 >>= λ duration. number_at 4 duration.1 >>= λ ids. Ok (made_of flags.0 target.0 duration.0 ids.0, ids.1)) (b, rest) e in
    let flags = f.0.0 in
    let t = bind_ok (target_at (splice_bit 6 flags) (splice_bit 4 flags) f.0.1) (λ target. optional_duration_at (splice_bit 5 flags) target.1 >>= λ duration. number_at 4 duration.1 >>= λ ids. Ok (made_of flags target.0 duration.0 ids.0, ids.1)) (b, rest) f.2 in
    let d = bind_ok (optional_duration_at (splice_bit 5 flags) t.0.1) (λ duration. number_at 4 duration.1 >>= λ ids. Ok (made_of flags t.0.0 duration.0 ids.0, ids.1)) (b, rest) t.2 in
    let i = bind_ok (number_at 4 d.0.1) (λ ids. Ok (made_of flags t.0.0 d.0.0 ids.0, ids.1)) (b, rest) d.2 in
    let made = made_of flags t.0.0 d.0.0 i.0.0 in
    let read = number_takes 1 bytes flags f.0.1 fits f.1 in
    let below : flags < 2 ^ 8 = read.below in
    let target = target_takes (splice_bit 6 flags) (splice_bit 4 flags) f.0.1 t.0.0 t.0.1 read.rest_fits t.1 in
    let duration = optional_duration_takes (splice_bit 5 flags) t.0.1 d.0.0 d.0.1 target.takes.rest_fits d.1 in
    let last = number_takes 4 d.0.1 i.0.0 i.0.1 duration.0.rest_fits i.1 in
    let below4 : i.0.0 < 2 ^ 32 = last.below in
    let program : flags % 2 ^ 7 / 2 ^ 6 ≡ splice_flag (is_program_splice t.0.0) = rw target.kind (flag-test (flags % 2 ^ 7 / 2 ^ 6) (flags / 2 ^ 6) (omega arith) (omega arith)) in
    let lasting : flags % 2 ^ 7 % 2 ^ 6 / 2 ^ 5 ≡ splice_flag (is_some d.0.0) = rw duration.1 (flag-test (flags % 2 ^ 7 % 2 ^ 6 / 2 ^ 5) (flags / 2 ^ 5) (omega arith) (omega arith)) in
    let split : Splits IsRead (body_flags made) flags = (flag-test (flags / 2 ^ 7) (flags / 2 ^ 7) (omega arith) (omega arith), (program, (lasting, (flag-test (flags % 2 ^ 7 % 2 ^ 6 % 2 ^ 5 / 2 ^ 4) (flags / 2 ^ 4) (omega arith) (omega arith), (tt, omega arith))))) in
    let one = group_takes 1 (body_flags made) bytes flags f.0.1 read refl split in
    let ids_split : Splits IsRead (body_ids made) i.0.0 = (omega arith, (omega arith, (omega arith, omega arith))) in
    let four = group_takes 4 (body_ids made) d.0.1 i.0.0 i.0.1 last refl ids_split in
    let two = Takes-then (body_flags made) (target_fields t.0.0) bytes f.0.1 t.0.1 one target.takes in
    let three = Takes-then (body_flags made ++ target_fields t.0.0) (optional_fields break_duration d.0.0) bytes t.0.1 d.0.1 two duration.0 in
    let all = Takes-then (body_flags made ++ target_fields t.0.0 ++ optional_fields break_duration d.0.0) (body_ids made) bytes d.0.1 i.0.1 three four in
    subst (λ (x : Body × List ℕ). TakesBody x.0 bytes x.1) {x = (made, i.0.1)} (ok_is (made, i.0.1) (b, rest) i.2) (record { takes = all; small = and_from (splice_target_fits made.immediate made.target) (break_duration_fits made.duration) target.small duration.2 })

body_again : (b : Body) (after : List BitField) (bytes : List ℕ) → target_is_timed b.immediate b.target ≡ true → Lies (body_fields b ++ after) bytes → Again (body_at bytes) b after
unfolding body_at body_fields
body_again b after bytes timed lies =
    let flags_fields = body_flags b in
    let t = target_fields b.target in
    let d = optional_fields break_duration b.duration in
    let ids_fields = body_ids b in
    let regrouped : flags_fields ++ t ++ d ++ ids_fields ++ after ≡ flags_fields ++ (t ++ (d ++ (ids_fields ++ after))) = simp append_assoc in
    let f = group_again 1 flags_fields (t ++ (d ++ (ids_fields ++ after))) bytes refl (subst (λ (fs : List BitField). Lies fs bytes) regrouped lies) in
    let n = f.value in
    let below : n < 2 ^ 8 = f.below in
    let out : splice_bit 7 n ≡ b.out_of_network = test-flag (n / 2 ^ 7) b.out_of_network (omega (arith, f.split.0)) in
    let program : splice_bit 6 n ≡ is_program_splice b.target = test-flag (n / 2 ^ 6) (is_program_splice b.target) (omega (arith, f.split.1.0)) in
    let lasting : splice_bit 5 n ≡ is_some b.duration = test-flag (n / 2 ^ 5) (is_some b.duration) (omega (arith, f.split.1.1.0)) in
    let immediate : splice_bit 4 n ≡ b.immediate = test-flag (n / 2 ^ 4) b.immediate (omega (arith, f.split.1.1.1.0)) in
    let target = target_again b.immediate b.target (d ++ (ids_fields ++ after)) f.again.rest timed f.again.lies in
    let duration = optional_duration_again b.duration (ids_fields ++ after) target.rest target.lies in
    let i = group_again 4 ids_fields after duration.rest refl duration.lies in
    let m = i.value in
    let below4 : m < 2 ^ 32 = i.below in
    let program_id : m / 2 ^ 16 ≡ b.unique_program_id = omega (arith, i.split.0) in
    let avail : m / 2 ^ 8 % 2 ^ 8 ≡ b.avail_num = omega (arith, i.split.1.0) in
    let avails : m % 2 ^ 8 ≡ b.avails_expected = omega (arith, i.split.1.1.0) in
    record { rest = i.again.rest; is = rw (f.again.is, out, program, lasting, immediate, target.is, duration.is, i.again.is, program_id, avail, avails) refl; lies = i.again.lies }

-- ---- The event

pub record TakesEvent (i : SpliceEvent) (bytes rest : List ℕ) : Type 0 where
  pub takes : Takes (splice_insert i) bytes rest
  pub small : insert_body_fits i.body ≡ true

record TakesBodies (cancelled : Bool) (b : Option Body) (bytes rest : List ℕ) : Type 0 where
  pub takes : Takes (optional_fields body_fields b) bytes rest
  pub kind : is_none b ≡ cancelled
  pub small : insert_body_fits b ≡ true

optional_body_takes : (cancelled : Bool) (bytes : List ℕ) (b : Option Body) (rest : List ℕ) → IsBytes bytes → optional_body_at cancelled bytes ≡ Ok (b, rest) → TakesBodies cancelled b bytes rest
unfolding optional_body_at
optional_body_takes true bytes b rest fits e = grind arith
optional_body_takes false bytes b rest fits e =
    let a = bind_ok (body_at bytes) (λ body. Ok (Some body.0, body.1)) (b, rest) e in
    let body = body_takes bytes a.0.0 a.0.1 fits a.1 in
    subst (λ (x : Option Body × List ℕ). TakesBodies false x.0 bytes x.1) {x = (Some a.0.0, a.0.1)} (ok_is (Some a.0.0, a.0.1) (b, rest) a.2) (record { takes = body.takes; kind = refl; small = body.small })

optional_body_again : (b : Option Body) (after : List BitField) (bytes : List ℕ) → BodyIsTimed b → Lies (optional_fields body_fields b ++ after) bytes → Again (optional_body_at (is_none b) bytes) b after
unfolding optional_body_at
optional_body_again None after bytes timed lies = record { rest = bytes; is = refl; lies = lies }
optional_body_again (Some b) after bytes timed lies =
    let a = body_again b after bytes timed lies in
    record { rest = a.rest; is = rw a.is refl; lies = a.lies }

pub insert_takes : (bytes : List ℕ) (i : SpliceEvent) (rest : List ℕ) → IsBytes bytes → insert_at bytes ≡ Ok (i, rest) → TakesEvent i bytes rest
unfolding insert_at splice_insert
insert_takes bytes i rest fits e =
    let v = bind_ok (number_at 4 bytes) (λ event. number_at 1 event.1 >>= λ flags. optional_body_at (splice_bit 7 flags.0) flags.1 >>= λ body. Ok (record { event_id = event.0; body = body.0 }, body.1)) (i, rest) e in
    let f = bind_ok (number_at 1 v.0.1) (λ flags. optional_body_at (splice_bit 7 flags.0) flags.1 >>= λ body. Ok (record { event_id = v.0.0; body = body.0 }, body.1)) (i, rest) v.2 in
    let o = bind_ok (optional_body_at (splice_bit 7 f.0.0) f.0.1) (λ body. Ok (record { event_id = v.0.0; body = body.0 }, body.1)) (i, rest) f.2 in
    let flags = f.0.0 in
    let event = number_takes 4 bytes v.0.0 v.0.1 fits v.1 in
    let read = number_takes 1 v.0.1 flags f.0.1 event.rest_fits f.1 in
    let below : flags < 2 ^ 8 = read.below in
    let below4 : v.0.0 < 2 ^ 32 = event.below in
    let body = optional_body_takes (splice_bit 7 flags) f.0.1 o.0.0 o.0.1 read.rest_fits o.1 in
    let made : SpliceEvent = record { event_id = v.0.0; body = o.0.0 } in
    let id_fields : List BitField = (32, Is v.0.0) ∷ [] in
    let flag_fields : List BitField = (1, Is (splice_flag (is_none o.0.0))) ∷ (7, Reserved 127) ∷ [] in
    let one = group_takes 4 id_fields bytes v.0.0 v.0.1 event refl (omega arith, omega arith) in
    let cancel : flags / 2 ^ 7 ≡ splice_flag (is_none o.0.0) = rw body.kind (flag-test (flags / 2 ^ 7) (flags / 2 ^ 7) (omega arith) (omega arith)) in
    let two = group_takes 1 flag_fields v.0.1 flags f.0.1 read refl (cancel, (tt, omega arith)) in
    let both = Takes-then id_fields flag_fields bytes v.0.1 f.0.1 one two in
    let all = Takes-then (id_fields ++ flag_fields) (optional_fields body_fields o.0.0) bytes f.0.1 o.0.1 both body.takes in
    subst (λ (x : SpliceEvent × List ℕ). TakesEvent x.0 bytes x.1) {x = (made, o.0.1)} (ok_is (made, o.0.1) (i, rest) o.2) (record { takes = all; small = body.small })

pub insert_again : (i : SpliceEvent) (after : List BitField) (bytes : List ℕ) → BodyIsTimed i.body → Lies (splice_insert i ++ after) bytes → Again (insert_at bytes) i after
unfolding insert_at splice_insert
insert_again i after bytes timed lies =
    let id_fields : List BitField = (32, Is i.event_id) ∷ [] in
    let flag_fields : List BitField = (1, Is (splice_flag (is_none i.body))) ∷ (7, Reserved 127) ∷ [] in
    let o = optional_fields body_fields i.body in
    let v = group_again 4 id_fields (flag_fields ++ (o ++ after)) bytes refl lies in
    let f = group_again 1 flag_fields (o ++ after) v.again.rest refl v.again.lies in
    let n = f.value in
    let below : n < 2 ^ 8 = f.below in
    let id : v.value ≡ i.event_id = omega (arith, v.split.0) in
    let cancel : splice_bit 7 n ≡ is_none i.body = test-flag (n / 2 ^ 7) (is_none i.body) (omega (arith, f.split.0)) in
    let body = optional_body_again i.body after f.again.rest timed f.again.lies in
    record { rest = body.rest; is = rw (v.again.is, f.again.is, cancel, body.is, id) refl; lies = body.lies }
