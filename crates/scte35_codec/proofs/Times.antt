-- The times and durations of a splice_insert: what is read lies there, and what lies there is read.
use Rattle.std.proofs.Common.{◌≡◌, ℕ, zero, suc, ◌/◌, ◌%◌, ◌^◌, ◌<◌, Bool, true, false, cond, List, [], ◌∷◌, ◌++◌, length, Option, Some, None, Ok, refl, sym, ap, subst, ◌∙◌, append_assoc, arith}
use Rattle.std.specs.Prelude.{is_some}
use Rattle.std.specs.List.{flat_map, list_all}
use Rattle.std.proofs.lemmas.Bool.{and_parts, and_from}
use Rattle.scte35_codec.specs.declared.info.SpliceTime.{SpliceTime}
use Rattle.scte35_codec.specs.declared.info.BreakDuration.{BreakDuration}
use Rattle.scte35_codec.specs.Layout.{BitField, Is, Splits, IsRead}
use Rattle.scte35_codec.specs.Section.{optional_fields, time_fields, splice_time, component, break_duration, is_timed}
use Rattle.scte35_codec.specs.Writing.{pts_fits, splice_time_fits, break_duration_fits}
use Rattle.spec_words.specs.Outcomes.{◌>>=◌}
use Rattle.scte35_codec.specs.Reading.{number_at, splice_bit, time_at, specified_time_at, optional_time_at, component_at, components_at, optional_duration_at}
use Rattle.scte35_codec.specs.Layout.{IsBytes}
use Rattle.scte35_codec.proofs.Takes.{bind_ok, ok_is, flag-test, test-flag, Takes, Takes-then, number_takes, group_takes, Lies, Again, group_again, first_of_five}
use Rattle.std.proofs.lemmas.Bool.{eqb-true, eqb-false, cases_lt, lt-ltb}
use Rattle.std.proofs.lemmas.Nat.{mod_below, pow_pos}
use Rattle.std.proofs.Common.{inl, inr}

-- ---- splice_time

record TakesTime (t : SpliceTime) (bytes rest : List ℕ) : Type 0 where
  pub takes : Takes (splice_time t) bytes rest
  pub small : pts_fits t.pts ≡ true

-- the highest bit of five bytes is that of their first
high_bit : (bytes : List ℕ) (n m : ℕ) (rest after : List ℕ) → IsBytes bytes → number_at 5 bytes ≡ Ok (n, rest) → number_at 1 bytes ≡ Ok (m, after) → n / 2 ^ 32 ≡ m
high_bit bytes n m rest after fits e f =
    let one = first_of_five bytes n rest fits e in
    ap (λ (p : ℕ × List ℕ). p.0) (ok_is (n / 2 ^ 32, one.0) (m, after) (sym one.1 ∙ f))

specified_takes : (bytes : List ℕ) (m : ℕ) (after : List ℕ) (t : SpliceTime) (rest : List ℕ) → IsBytes bytes → number_at 1 bytes ≡ Ok (m, after) → splice_bit 7 m ≡ true → specified_time_at bytes ≡ Ok (t, rest) → TakesTime t bytes rest
unfolding specified_time_at
specified_takes bytes m after t rest fits one set e =
    let b = bind_ok (number_at 5 bytes) (λ time. Ok (record { pts = Some (time.0 % 2 ^ 33) }, time.1)) (t, rest) e in
    let n = b.0.0 in
    let read = number_takes 5 bytes n b.0.1 fits b.1 in
    let top = high_bit bytes n m b.0.1 after fits b.1 one in
    let high : m / 2 ^ 7 % 2 ≡ 1 = eqb-true (m / 2 ^ 7 % 2) 1 set in
    let below : n < 2 ^ 40 = read.below in
    let split : Splits IsRead (time_fields (Some (n % 2 ^ 33))) n = (omega arith, (tt, (omega arith, omega arith))) in
    subst (λ (x : SpliceTime × List ℕ). TakesTime x.0 bytes x.1) {x = (record { pts = Some (n % 2 ^ 33) }, b.0.1)} (ok_is (record { pts = Some (n % 2 ^ 33) }, b.0.1) (t, rest) b.2)
    (record { takes = group_takes 5 (time_fields (Some (n % 2 ^ 33))) bytes n b.0.1 read refl split; small = lt-ltb (n % 2 ^ 33) (2 ^ 33) (mod_below n (2 ^ 33) (pow_pos 33)) })

unspecified_takes : (bytes : List ℕ) (m : ℕ) (after : List ℕ) → IsBytes bytes → number_at 1 bytes ≡ Ok (m, after) → splice_bit 7 m ≡ false → Takes (time_fields None) bytes after
unspecified_takes bytes m after fits one clear =
    let read = number_takes 1 bytes m after fits one in
    let not_one = eqb-false (m / 2 ^ 7 % 2) 1 clear in
    let below : m < 2 ^ 8 = read.below in
    let high : m / 2 ^ 7 ≡ 0 = elim (cases_lt (m / 2 ^ 7) 1) [ inl lt ↦ omega arith | inr ge ↦ absurd (not_one (omega arith)) ] in
    let split : Splits IsRead (time_fields None) m = (high, (tt, omega arith)) in
    group_takes 1 (time_fields None) bytes m after read refl split

chosen : {A : Type 0} (b : Bool) (x y z : A) → cond b x y ≡ z → (b ≡ true → x ≡ z) × (b ≡ false → y ≡ z)
chosen true x y z e = (λ _. e, λ f. absurd cc)
chosen false x y z e = (λ f. absurd cc, λ _. e)

time_takes_by : (b : Bool) (bytes : List ℕ) (m : ℕ) (after : List ℕ) (t : SpliceTime) (rest : List ℕ) → IsBytes bytes → number_at 1 bytes ≡ Ok (m, after) → splice_bit 7 m ≡ b → cond b (specified_time_at bytes) (Ok (record { pts = None }, after)) ≡ Ok (t, rest) → TakesTime t bytes rest
time_takes_by true bytes m after t rest fits one is e = specified_takes bytes m after t rest fits one is e
time_takes_by false bytes m after t rest fits one is e = grind (arith, unspecified_takes)

time_takes : (bytes : List ℕ) (t : SpliceTime) (rest : List ℕ) → IsBytes bytes → time_at bytes ≡ Ok (t, rest) → TakesTime t bytes rest
unfolding time_at
time_takes bytes t rest fits e =
    let b = bind_ok (number_at 1 bytes) (λ flags. cond (splice_bit 7 flags.0) (specified_time_at bytes) (Ok (record { pts = None }, flags.1))) (t, rest) e in
    time_takes_by (splice_bit 7 b.0.0) bytes b.0.0 b.0.1 t rest fits b.1 refl b.2

time_again_by : (pts : Option ℕ) (after : List BitField) (bytes : List ℕ) → Lies (time_fields pts ++ after) bytes → Again (time_at bytes) (record { pts = pts }) after
unfolding time_at specified_time_at
time_again_by None after bytes lies =
    let g = group_again 1 (time_fields None) after bytes refl lies in
    let clear : splice_bit 7 g.value ≡ false = test-flag (g.value / 2 ^ 7) false (omega (arith, g.split.0)) in
    record { rest = g.again.rest; is = rw (g.again.is, clear) refl; lies = g.again.lies }
time_again_by (Some pts) after bytes lies =
    let g = group_again 5 (time_fields (Some pts)) after bytes refl lies in
    let n = g.value in
    let first = first_of_five bytes n g.again.rest lies.fits g.again.is in
    let top : n / 2 ^ 39 ≡ 1 = g.split.0 in
    let set : splice_bit 7 (n / 2 ^ 32) ≡ true = test-flag (n / 2 ^ 32 / 2 ^ 7) true (omega arith) in
    let low : n % 2 ^ 33 ≡ pts = omega (arith, g.split.1.1.0) in
    record { rest = g.again.rest; is = rw (first.1, set, g.again.is, low) refl; lies = g.again.lies }

pub time_again : (t : SpliceTime) (after : List BitField) (bytes : List ℕ) → Lies (splice_time t ++ after) bytes → Again (time_at bytes) t after
time_again t after bytes lies = time_again_by t.pts after bytes lies

pub optional_time_takes : (immediate : Bool) (bytes : List ℕ) (t : Option SpliceTime) (rest : List ℕ) → IsBytes bytes → optional_time_at immediate bytes ≡ Ok (t, rest) → Takes (optional_fields splice_time t) bytes rest × (splice_time_fits immediate t ≡ true)
unfolding optional_time_at
optional_time_takes true bytes t rest fits e = grind arith
optional_time_takes false bytes t rest fits e =
    let b = bind_ok (time_at bytes) (λ time. Ok (Some time.0, time.1)) (t, rest) e in
    let time = time_takes bytes b.0.0 b.0.1 fits b.1 in
    subst (λ (x : Option SpliceTime × List ℕ). Takes (optional_fields splice_time x.0) bytes x.1 × (splice_time_fits false x.0 ≡ true)) {x = (Some b.0.0, b.0.1)} (ok_is (Some b.0.0, b.0.1) (t, rest) b.2) (time.takes, time.small)

pub optional_time_again : (immediate : Bool) (t : Option SpliceTime) (after : List BitField) (bytes : List ℕ) → is_timed immediate t ≡ true → Lies (optional_fields splice_time t ++ after) bytes → Again (optional_time_at immediate bytes) t after
unfolding optional_time_at
optional_time_again true None after bytes timed lies = record { rest = bytes; is = refl; lies = lies }
optional_time_again true (Some t) after bytes timed lies = absurd cc
optional_time_again false None after bytes timed lies = absurd cc
optional_time_again false (Some t) after bytes timed lies =
    let a = time_again t after bytes lies in
    record { rest = a.rest; is = rw a.is refl; lies = a.lies }

-- ---- Components

abbrev Component : Type 0
Component = ℕ × Option SpliceTime

component_takes : (immediate : Bool) (bytes : List ℕ) (c : Component) (rest : List ℕ) → IsBytes bytes → component_at immediate bytes ≡ Ok (c, rest) → Takes (component c) bytes rest × (splice_time_fits immediate c.1 ≡ true)
unfolding component_at
component_takes immediate bytes c rest fits e =
    let a = bind_ok (number_at 1 bytes) (λ tag. optional_time_at immediate tag.1 >>= λ time. Ok ((tag.0, time.0), time.1)) (c, rest) e in
    let b = bind_ok (optional_time_at immediate a.0.1) (λ time. Ok ((a.0.0, time.0), time.1)) (c, rest) a.2 in
    let read = number_takes 1 bytes a.0.0 a.0.1 fits a.1 in
    let tag_fields : List BitField = (8, Is a.0.0) ∷ [] in
    let tag : Takes tag_fields bytes a.0.1 = group_takes 1 tag_fields bytes a.0.0 a.0.1 read refl (omega arith, omega arith) in
    let time = optional_time_takes immediate a.0.1 b.0.0 b.0.1 read.rest_fits b.1 in
    let made : Component × List ℕ = ((a.0.0, b.0.0), b.0.1) in
    subst (λ (x : Component × List ℕ). Takes (component x.0) bytes x.1 × (splice_time_fits immediate x.0.1 ≡ true)) {x = made} (ok_is made (c, rest) b.2)
    (Takes-then tag_fields (optional_fields splice_time b.0.0) bytes a.0.1 b.0.1 tag time.0, time.1)

component_again : (immediate : Bool) (c : Component) (after : List BitField) (bytes : List ℕ) → is_timed immediate c.1 ≡ true → Lies (component c ++ after) bytes → Again (component_at immediate bytes) c after
unfolding component_at
component_again immediate c after bytes timed lies =
    let tag_fields : List BitField = (8, Is c.0) ∷ [] in
    let g = group_again 1 tag_fields (optional_fields splice_time c.1 ++ after) bytes refl lies in
    let t = optional_time_again immediate c.1 after g.again.rest timed g.again.lies in
    let tag : g.value ≡ c.0 = omega (arith, g.split.0) in
    record { rest = t.rest; is = rw (g.again.is, t.is, tag) refl; lies = t.lies }

pub components_takes : (immediate : Bool) (count : ℕ) (bytes : List ℕ) (cs : List Component) (rest : List ℕ) → IsBytes bytes → components_at immediate count bytes ≡ Ok (cs, rest)
    → Takes (flat_map component cs) bytes rest × (list_all (λ c. splice_time_fits immediate c.1) cs ≡ true) × (length cs ≡ count)
unfolding components_at
components_takes immediate zero bytes cs rest fits e = grind arith
components_takes immediate (suc n) bytes cs rest fits e =
    let a = bind_ok (component_at immediate bytes) (λ first. components_at immediate n first.1 >>= λ others. Ok (first.0 ∷ others.0, others.1)) (cs, rest) e in
    let b = bind_ok (components_at immediate n a.0.1) (λ others. Ok (a.0.0 ∷ others.0, others.1)) (cs, rest) a.2 in
    let first = component_takes immediate bytes a.0.0 a.0.1 fits a.1 in
    let others = components_takes immediate n a.0.1 b.0.0 b.0.1 first.0.rest_fits b.1 in
    let made : List Component × List ℕ = (a.0.0 ∷ b.0.0, b.0.1) in
    subst (λ (x : List Component × List ℕ). Takes (flat_map component x.0) bytes x.1 × (list_all (λ c. splice_time_fits immediate c.1) x.0 ≡ true) × (length x.0 ≡ suc n)) {x = made} (ok_is made (cs, rest) b.2)
    (Takes-then (component a.0.0) (flat_map component b.0.0) bytes a.0.1 b.0.1 first.0 others.0, and_from (splice_time_fits immediate a.0.0.1) (list_all (λ c. splice_time_fits immediate c.1) b.0.0) first.1 others.1, ap suc others.2)

pub components_again : (immediate : Bool) (cs : List Component) (after : List BitField) (bytes : List ℕ) → list_all (λ c. is_timed immediate c.1) cs ≡ true → Lies (flat_map component cs ++ after) bytes → Again (components_at immediate (length cs) bytes) cs after
unfolding components_at
components_again immediate [] after bytes timed lies = record { rest = bytes; is = refl; lies = lies }
components_again immediate (c ∷ cs) after bytes timed lies =
    let both = and_parts (is_timed immediate c.1) (list_all (λ d. is_timed immediate d.1) cs) timed in
    let regrouped : Lies (component c ++ (flat_map component cs ++ after)) bytes = rw append_assoc at lies in
    let first = component_again immediate c (flat_map component cs ++ after) bytes both.0 regrouped in
    let others = components_again immediate cs after first.rest both.1 first.lies in
    record { rest = others.rest; is = rw (first.is, others.is) refl; lies = others.lies }

-- ---- break_duration

pub optional_duration_takes : (stated : Bool) (bytes : List ℕ) (d : Option BreakDuration) (rest : List ℕ) → IsBytes bytes → optional_duration_at stated bytes ≡ Ok (d, rest) → Takes (optional_fields break_duration d) bytes rest × (is_some d ≡ stated) × (break_duration_fits d ≡ true)
unfolding optional_duration_at
optional_duration_takes false bytes d rest fits e = grind arith
optional_duration_takes true bytes d rest fits e =
    let b = bind_ok (number_at 5 bytes) (λ duration. Ok (Some (record { auto_return = splice_bit 39 duration.0; ticks = duration.0 % 2 ^ 33 }), duration.1)) (d, rest) e in
    let n = b.0.0 in
    let read = number_takes 5 bytes n b.0.1 fits b.1 in
    let below : n < 2 ^ 40 = read.below in
    let made : BreakDuration = record { auto_return = splice_bit 39 n; ticks = n % 2 ^ 33 } in
    let split : Splits IsRead (break_duration made) n = (flag-test (n / 2 ^ 39) (n / 2 ^ 39) (omega arith) (omega arith), (tt, (omega arith, omega arith))) in
    subst (λ (x : Option BreakDuration × List ℕ). Takes (optional_fields break_duration x.0) bytes x.1 × (is_some x.0 ≡ true) × (break_duration_fits x.0 ≡ true)) {x = (Some made, b.0.1)} (ok_is (Some made, b.0.1) (d, rest) b.2)
    (group_takes 5 (break_duration made) bytes n b.0.1 read refl split, refl, lt-ltb (n % 2 ^ 33) (2 ^ 33) (mod_below n (2 ^ 33) (pow_pos 33)))

pub optional_duration_again : (d : Option BreakDuration) (after : List BitField) (bytes : List ℕ) → Lies (optional_fields break_duration d ++ after) bytes → Again (optional_duration_at (is_some d) bytes) d after
unfolding optional_duration_at
optional_duration_again None after bytes lies = record { rest = bytes; is = refl; lies = lies }
optional_duration_again (Some d) after bytes lies =
    let g = group_again 5 (break_duration d) after bytes refl lies in
    let n = g.value in
    let below : n < 2 ^ 40 = g.below in
    let returns : splice_bit 39 n ≡ d.auto_return = test-flag (n / 2 ^ 39) d.auto_return (omega (arith, g.split.0)) in
    let ticks : n % 2 ^ 33 ≡ d.ticks = omega (arith, g.split.1.1.0) in
    record { rest = g.again.rest; is = rw (g.again.is, returns, ticks) refl; lies = g.again.lies }
