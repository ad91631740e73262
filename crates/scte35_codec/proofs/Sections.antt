-- The section: what is read lies there, and what lies there is read.
use Rattle.std.proofs.Common.{◌≡◌, ℕ, ◌*◌, ◌<◌, ◌≤◌, Bool, true, false, not, cond, eqb, ltb, List, [], ◌∷◌, ◌++◌, length, take, drop, Result, Ok, Err, refl, sym, ap, subst, ◌∙◌, inl, inr, arith}
use Rattle.std.proofs.lemmas.Bool.{ltb-false, le-ltb, eqb-true, eq-eqb, ne_eqb, not-false}
use Rattle.std.proofs.lemmas.List.{length-append, length-take, take-append-drop, append-nil, nil_from_length}
use Rattle.scte35_codec.specs.declared.fault.SpliceFault.{SpliceFault}
use Rattle.scte35_codec.specs.declared.fault.SpliceFault.TheVariants.{CommandLength}
use Rattle.scte35_codec.specs.Layout.{Content, BitField, Is, width, bytes_of, HoldsFields, IsRead}
use Rattle.scte35_codec.specs.Section.{SpliceEvent, Command, Insert, Other, splice_insert, command_fields, type_of_splice_command, IsProper, StatesLength}
use Rattle.scte35_codec.specs.Writing.{splice_command_fits}
use Rattle.spec_words.specs.Outcomes.{◌>>=◌}
use Rattle.scte35_codec.specs.Reading.{bytes_at, insert_at, whole_insert_at, unmeasured_at, measured_of, command_at}
use Rattle.scte35_codec.specs.Layout.{IsBytes}
use Rattle.scte35_codec.proofs.Numbers.{IsBytes-drop, IsBytes-take, IsBytes-rest}
use Rattle.scte35_codec.proofs.Fields.{Holds-join, Holds-parts}
use Rattle.scte35_codec.proofs.Takes.{bind_ok, guard_ok, ok_is, Takes, Lies, Again, parts}
use Rattle.scte35_codec.proofs.Inserts.{TakesEvent, insert_takes, insert_again}

-- ---- Bytes as fields

pub width_of_bytes : (xs : List ℕ) → width (bytes_of xs) ≡ 8 * length xs
width_of_bytes [] = refl
width_of_bytes (x ∷ xs) = omega (arith, width_of_bytes xs)

pub bytes_hold : (Has : Content → ℕ → Type 0) (is : (v n : ℕ) → n ≡ v → Has (Is v) n) (xs : List ℕ) → IsBytes xs → HoldsFields Has (bytes_of xs) xs
bytes_hold Has is [] fits = record { count = refl; split = refl }
bytes_hold Has is (x ∷ xs) fits =
    let first : HoldsFields Has ((8, Is x) ∷ []) (x ∷ []) = record { count = refl; split = (is x _ (omega arith), omega arith) } in
    Holds-join Has ((8, Is x) ∷ []) (bytes_of xs) (x ∷ []) xs (IsBytes-take 1 (x ∷ xs) fits) (IsBytes-rest x xs fits) first (bytes_hold Has is xs (IsBytes-rest x xs fits))

pub bytes_are : (ds xs : List ℕ) → Lies (bytes_of ds) xs → xs ≡ ds
bytes_are [] xs lies = nil_from_length xs (omega (arith, lies.holds.count))
bytes_are (d ∷ ds) [] lies = absurd (omega (arith, lies.holds.count))
bytes_are (d ∷ ds) (x ∷ xs) lies =
    let rest_fits = IsBytes-rest x xs lies.fits in
    let both = Holds-parts IsRead ((8, Is d) ∷ []) (bytes_of ds) (x ∷ []) xs (IsBytes-take 1 (x ∷ xs) lies.fits) rest_fits refl lies.holds in
    let first : x ≡ d = omega (arith, both.0.split.0) in
    let others = bytes_are ds xs (record { fits = rest_fits; holds = both.1 }) in
    rw (first, others) refl

pub bytes_taken : (count : ℕ) (bytes : List ℕ) → IsBytes bytes → Takes (bytes_of (take count bytes)) bytes (drop count bytes)
bytes_taken count bytes fits = record {
  front = take count bytes;
  whole = sym (take-append-drop count bytes);
  front_fits = IsBytes-take count bytes fits;
  rest_fits = IsBytes-drop count bytes fits;
  holds = bytes_hold IsRead (λ v n e. e) (take count bytes) (IsBytes-take count bytes fits);
}

-- ---- The command

pub record TakesCommand (command_length kind : ℕ) (c : Command) (bytes rest : List ℕ) : Type 0 where
  pub takes : Takes (command_fields c) bytes rest
  pub type_is : type_of_splice_command c ≡ kind
  pub stated : StatesLength c command_length
  pub small : splice_command_fits c ≡ true

pub passed : {A : Type 0} (b : Bool) (d : SpliceFault) (r : Result A SpliceFault) (y : A) → cond b (Err d) r ≡ Ok y → (b ≡ false) × (r ≡ Ok y)
passed true d r y e = absurd cc
passed false d r y e = (refl, e)

guard_ended : {A : Type 0} (b : Bool) (d : SpliceFault) (x y : A) → cond b (Ok x) (Err d) ≡ Ok y → (b ≡ true) × (x ≡ y)
guard_ended true d x y e = (refl, cc)
guard_ended false d x y e = absurd cc

unmeasured_takes : (command_length kind : ℕ) (bytes : List ℕ) (c : Command) (rest : List ℕ) → command_length ≡ 0xFFF → IsBytes bytes → unmeasured_at kind bytes ≡ Ok (c, rest) → TakesCommand command_length kind c bytes rest
unfolding unmeasured_at
unmeasured_takes command_length kind bytes c rest said fits e =
    let p = passed (not (eqb kind 5)) CommandLength (insert_at bytes >>= λ insert. Ok (Insert insert.0, insert.1)) (c, rest) e in
    let five : kind ≡ 5 = eqb-true kind 5 (not-false (eqb kind 5) p.0) in
    let b = bind_ok (insert_at bytes) (λ insert. Ok (Insert insert.0, insert.1)) (c, rest) p.1 in
    let i = insert_takes bytes b.0.0 b.0.1 fits b.1 in
    subst (λ (x : Command × List ℕ). TakesCommand command_length kind x.0 bytes x.1) {x = (Insert b.0.0, b.0.1)} (ok_is (Insert b.0.0, b.0.1) (c, rest) b.2)
    (record { takes = i.takes; type_is = sym five; stated = inr said; small = i.small })

-- the splice_insert of all of these bytes
whole_takes : (bytes : List ℕ) (i : SpliceEvent) → IsBytes bytes → whole_insert_at bytes ≡ Ok i → Takes (splice_insert i) bytes [] × TakesEvent i bytes []
unfolding whole_insert_at
whole_takes bytes i fits e =
    let b = bind_ok (insert_at bytes) (λ insert. cond (eqb (length insert.1) 0) (Ok insert.0) (Err CommandLength)) i e in
    let g = guard_ended (eqb (length b.0.1) 0) CommandLength b.0.0 i b.2 in
    let none : b.0.1 ≡ [] = nil_from_length b.0.1 (eqb-true (length b.0.1) 0 g.0) in
    let taken = insert_takes bytes b.0.0 b.0.1 fits b.1 in
    let here : TakesEvent i bytes [] = subst (λ (x : SpliceEvent). TakesEvent x bytes []) g.1 (subst (λ (r : List ℕ). TakesEvent b.0.0 bytes r) none taken) in
    (here.takes, here)

pub whole_width : (fields : List BitField) (bytes : List ℕ) → Takes fields bytes [] → 8 * length bytes ≡ width fields
whole_width fields bytes t = grind (arith, length-append)

-- what takes a front of some bytes whole
front_takes : (fields : List BitField) (count : ℕ) (bytes : List ℕ) → IsBytes bytes → Takes fields (take count bytes) [] → Takes fields bytes (drop count bytes)
front_takes fields count bytes fits t = grind (arith, IsBytes-drop, append-nil, take-append-drop)

measured_by : (is_insert : Bool) (command_length kind : ℕ) (bytes : List ℕ) (c : Command) → eqb kind 5 ≡ is_insert → command_length ≤ length bytes → IsBytes bytes
    → cond is_insert (whole_insert_at (take command_length bytes) >>= λ insert. Ok (Insert insert)) (Ok (Other kind (take command_length bytes))) ≡ Ok c → TakesCommand command_length kind c bytes (drop command_length bytes)
measured_by true command_length kind bytes c is long fits e =
    let front_fits = IsBytes-take command_length bytes fits in
    let len : length (take command_length bytes) ≡ command_length = omega (arith, length-take command_length bytes) in
    let b = bind_ok (whole_insert_at (take command_length bytes)) (λ insert. Ok (Insert insert)) c e in
    let t = whole_takes (take command_length bytes) b.0 front_fits b.1 in
    let size : 8 * command_length ≡ width (splice_insert b.0) = ap (λ (k : ℕ). 8 * k) (sym len) ∙ whole_width (splice_insert b.0) (take command_length bytes) t.0 in
    subst (λ (x : Command). TakesCommand command_length kind x bytes (drop command_length bytes)) {x = (Insert b.0)} (ok_is (Insert b.0) c b.2)
    (record { takes = front_takes (splice_insert b.0) command_length bytes fits t.0; type_is = sym (eqb-true kind 5 is); stated = inl size; small = t.1.small })
measured_by false command_length kind bytes c is long fits e = grind (arith, bytes_taken, length-take)

command_by : (unsaid : Bool) (command_length kind : ℕ) (bytes : List ℕ) (c : Command) (rest : List ℕ) → eqb command_length 0xFFF ≡ unsaid → IsBytes bytes
    → cond unsaid (unmeasured_at kind bytes) (bytes_at command_length bytes >>= λ front. measured_of kind front.0 >>= λ command. Ok (command, front.1)) ≡ Ok (c, rest) → TakesCommand command_length kind c bytes rest
unfolding measured_of
command_by true command_length kind bytes c rest is fits e = unmeasured_takes command_length kind bytes c rest (eqb-true command_length 0xFFF is) fits e
command_by false command_length kind bytes c rest is fits e =
    let a = bind_ok (bytes_at command_length bytes) (λ front. measured_of kind front.0 >>= λ command. Ok (command, front.1)) (c, rest) e in
    let b = bind_ok (measured_of kind a.0.0) (λ command. Ok (command, a.0.1)) (c, rest) a.2 in
    let g = guard_ok (ltb (length bytes) command_length) CommandLength (take command_length bytes, drop command_length bytes) a.0 a.1 in
    let long : command_length ≤ length bytes = ltb-false _ _ g.0 in
    let front : a.0.0 ≡ take command_length bytes = ap (λ (p : List ℕ × List ℕ). p.0) (sym g.1) in
    let what_follows : drop command_length bytes ≡ a.0.1 = ap (λ (p : List ℕ × List ℕ). p.1) g.1 in
    let m : measured_of kind (take command_length bytes) ≡ Ok b.0 = ap (measured_of kind) (sym front) ∙ b.1 in
    let t = measured_by (eqb kind 5) command_length kind bytes b.0 refl long fits m in
    subst (λ (x : Command × List ℕ). TakesCommand command_length kind x.0 bytes x.1) {x = (b.0, a.0.1)} (ok_is (b.0, a.0.1) (c, rest) b.2)
    (subst (λ (r : List ℕ). TakesCommand command_length kind b.0 bytes r) what_follows t)

pub command_takes : (command_length kind : ℕ) (bytes : List ℕ) (c : Command) (rest : List ℕ) → IsBytes bytes → command_at command_length kind bytes ≡ Ok (c, rest) → TakesCommand command_length kind c bytes rest
unfolding command_at
command_takes command_length kind bytes c rest fits e = command_by (eqb command_length 0xFFF) command_length kind bytes c rest refl fits e

unmeasured_again : (i : SpliceEvent) (after : List BitField) (bytes : List ℕ) → IsProper (Insert i) → Lies (splice_insert i ++ after) bytes → Again (unmeasured_at 5 bytes) (Insert i) after
unfolding unmeasured_at
unmeasured_again i after bytes proper lies =
    let a = insert_again i after bytes proper lies in
    record { rest = a.rest; is = rw a.is refl; lies = a.lies }

whole_again : (i : SpliceEvent) (bytes : List ℕ) → IsProper (Insert i) → Lies (splice_insert i) bytes → whole_insert_at bytes ≡ Ok i
unfolding whole_insert_at
whole_again i bytes proper lies =
    let a = insert_again i [] bytes proper (subst (λ (fs : List BitField). Lies fs bytes) (sym (append-nil (splice_insert i))) lies) in
    let none : eqb (length a.rest) 0 ≡ true = eq-eqb _ _ (omega (arith, a.lies.holds.count)) in
    rw (a.is, none) refl

measured_insert_again : (unsaid : Bool) (i : SpliceEvent) (command_length : ℕ) (after : List BitField) (bytes : List ℕ) → eqb command_length 0xFFF ≡ unsaid → IsProper (Insert i) → 8 * command_length ≡ width (splice_insert i) → Lies (splice_insert i ++ after) bytes
    → Again (command_at command_length 5 bytes) (Insert i) after
unfolding command_at measured_of
measured_insert_again true i command_length after bytes is proper size lies = grind (arith, unmeasured_again)
measured_insert_again false i command_length after bytes is proper size lies =
    let p = parts command_length (splice_insert i) after bytes size lies in
    let short : ltb (length bytes) command_length ≡ false = le-ltb _ _ p.0 in
    let w = whole_again i (take command_length bytes) proper p.1.0 in
    record { rest = drop command_length bytes; is = rw (is, short, w) refl; lies = p.1.1 }

pub command_again : (c : Command) (command_length : ℕ) (after : List BitField) (bytes : List ℕ) → StatesLength c command_length → IsProper c → width (command_fields c) < 32760 → Lies (command_fields c ++ after) bytes
    → Again (command_at command_length (type_of_splice_command c) bytes) c after
unfolding command_at measured_of
command_again (Insert i) command_length after bytes (inl size) proper small lies = measured_insert_again (eqb command_length 0xFFF) i command_length after bytes refl proper size lies
command_again (Insert i) command_length after bytes (inr said) proper small lies = grind (arith, unmeasured_again)
command_again (Other kind bs) command_length after bytes stated proper small lies =
    let size : 8 * command_length ≡ width (bytes_of bs) = omega (arith, width_of_bytes bs) in
    let p = parts command_length (bytes_of bs) after bytes size lies in
    let is : eqb command_length 0xFFF ≡ false = ne_eqb _ _ (λ e. omega arith) in
    let short : ltb (length bytes) command_length ≡ false = le-ltb _ _ p.0 in
    let other : eqb kind 5 ≡ false = ne_eqb kind 5 proper in
    let front : take command_length bytes ≡ bs = bytes_are bs (take command_length bytes) p.1.0 in
    record { rest = drop command_length bytes; is = rw (is, short, other, front) refl; lies = p.1.1 }
