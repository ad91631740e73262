-- The only key in force, and the front of its line.
use Rattle.std.proofs.Common.{◌≡◌, ℕ, Bool, true, cond, List, [], ◌∷◌, ◌++◌, refl, ap, sym, subst, ◌∙◌, replicate, append_assoc}
use Rattle.std.specs.Prelude.{Option, None, Some, IfSome, codes, option_map}
use Rattle.date_times.specs.Digits.{fixed_digits}
use Rattle.playlist_model.specs.declared.Key.{Key}
use Rattle.playlist_model.specs.declared.InitSection.{InitSection}
use Rattle.playlist_model.specs.declared.in_common.InCommon.{InCommon}
use Rattle.playlist_model.specs.InCommon.{is_place_of, key_at, without_iv}
use Rattle.playlist_model.specs.LookBack.{or_earlier}
use Rattle.playlist_model.specs.Said.{discontinuity}
use Rattle.stitcher.specs.declared.OutSegment.{OutSegment}
use Rattle.playlist_write.specs.Owed.{Current, after_segment, changed_written_init_section, init_section_owed, keys_owed, said_text, written_keys_then}
use Rattle.playlist_write.specs.Inner.Changes.{HasInCommon, changes_owed, written_segment_changes_nothing}
use Rattle.playlist_write.specs.Inner.KeyParts.{HasKeyFront, IsOnlyKey, LeadsOn, with_iv}
use Rattle.playlist_write.specs.Inner.Owed.{key_line}
use Rattle.playlist_write.proofs.Changes.{nothing_after}
use Rattle.playlist_write.proofs.CommonKeys.{current_is_same}

-- ---- a segment that changes its key at the most

none_changed : (current now : Option InitSection) → ((i : InitSection) → now ≡ Some i → current ≡ Some i) → changed_written_init_section current now ≡ None
none_changed current None h = refl
none_changed current (Some i) h = ap {A = Bool} (λ b. cond b None (Some i)) (sym (current_is_same i current (h i refl)))

owed_alone : (keys new : List Key) (steps : ℕ) (changed : Option InitSection) → steps ≡ 0 → changed ≡ None
    → replicate steps discontinuity ++ (init_section_owed keys changed ++ keys_owed (written_keys_then keys changed) new) ≡ keys_owed keys new
owed_alone keys new steps changed s c = rw (s, c) refl

earlier_stays : (own earlier : Option InitSection) → ((i : InitSection) → own ≡ Some i → earlier ≡ Some i) → or_earlier own earlier ≡ earlier
earlier_stays None earlier h = refl
earlier_stays (Some i) earlier h = sym (h i refl)

-- the tags before a segment that changes its key at the most are those of that key
changes_key_alone : (common : InCommon) (current : Current) (next : OutSegment) → HasInCommon common current next → next.discontinuities ≡ 0 → common.init_section ≡ true
    → changes_owed current next ≡ keys_owed current.keys next.segment.keys
changes_key_alone common current next h steps same =
    owed_alone current.keys next.segment.keys next.discontinuities _ steps (none_changed current.init_section next.segment.init_section (λ i is. h.init_section_is i same is))

-- and the initialisation section stays in force
pub section_stays : (common : InCommon) (current : Current) (next : OutSegment) → HasInCommon common current next → common.init_section ≡ true
    → record current { keys = next.segment.keys } ≡ after_segment current next
section_stays common current next h same =
    ap {A = Option InitSection} (λ section. record { keys = next.segment.keys; init_section = section }) (sym (earlier_stays next.segment.init_section current.init_section (λ i is. h.init_section_is i same is)))

only_is : (known : Option Key) (key : Key) (keys : List Key) → known ≡ Some key → IsOnlyKey known keys → keys ≡ key ∷ []
only_is known key keys e h = subst (λ k. IsOnlyKey k keys) e h

pub key_alone_leads_on : (common : InCommon) (current : Current) (next : OutSegment) (old new : Option Key) (keys : List Key) (before text : List ℕ)
    → HasInCommon common current next → next.discontinuities ≡ 0 → common.init_section ≡ true → IsOnlyKey old current.keys → keys ≡ next.segment.keys → LeadsOn old new keys before text
    → text ≡ before ++ said_text (changes_owed current next)
key_alone_leads_on common current next old new keys before text h steps same only k l =
    let was = only_is old l.last current.keys l.last_is only in
    let now : next.segment.keys ≡ l.next ∷ [] = sym k ∙ l.keys_are in
    l.grown ∙ ap (λ says. before ++ said_text says) (sym (changes_key_alone common current next h steps same ∙ (ap (λ keys. keys_owed keys next.segment.keys) was ∙ ap (keys_owed (l.last ∷ [])) now)))

pub next_is_only : (old new : Option Key) (keys own : List Key) (before text : List ℕ) → keys ≡ own → LeadsOn old new keys before text → IsOnlyKey new own
next_is_only old new keys own before text k l = subst (λ known. IsOnlyKey known own) (sym l.next_is) (sym k ∙ l.keys_are)

-- what is known of the keys before such a segment
pub only_key_comes_first : (common : InCommon) (current : Current) (next : OutSegment) (known : Option Key) (keys : List Key) → HasInCommon common current next → is_place_of common.keys 0 ≡ true → IsOnlyKey known current.keys → keys ≡ next.segment.keys
    → (key : Key) → known ≡ Some key → key_at 0 keys ≡ Some (without_iv key)
only_key_comes_first common current next known keys h first only k = λ key e. ap (key_at 0) k ∙ (sym (h.keys_are 0 first) ∙ ap (key_at 0) (only_is known key current.keys e only))

-- a segment that changes nothing has the keys of before
pub only_key_stays : (known : Option Key) (current : Current) (next : OutSegment) → written_segment_changes_nothing current.keys next ≡ true → IsOnlyKey known current.keys → IsOnlyKey known next.segment.keys
only_key_stays known current next h only = subst (IsOnlyKey known) (ap (λ c. c.keys) (nothing_after current next h)) only

pub none_is_only : (known : Option Key) (keys : List Key) → known ≡ None → IsOnlyKey known keys
none_is_only known keys e = subst (λ k. IsOnlyKey k keys) (sym e) tt

pub only_key_after : (known : Option Key) (current after : Current) (next : OutSegment) → after ≡ after_segment current next → IsOnlyKey known next.segment.keys → IsOnlyKey known after.keys
only_key_after known current after next e h = subst (λ c. IsOnlyKey known c.keys) (sym e) h

-- ---- the front of its line

some_is : {A : Type 0} (one other : A) → ◌≡◌ {A = Option A} (Some one) (Some other) → one ≡ other
some_is one other h = cc

front_of_same : (last key : Key) (front : List ℕ) → without_iv last ≡ without_iv key → HasKeyFront key front → HasKeyFront last front
front_of_same last key front h f = record { line = λ iv. ap {A = Key} (λ k. key_line (with_iv (Some iv) k)) h ∙ f.line iv }

-- the key that is kept, but for its initialisation vector
kept_is : (k key : Key) (vector : Option ℕ) → ◌≡◌ {A = Option Key} (Some (with_iv vector k)) (Some key) → without_iv k ≡ without_iv key
kept_is k key vector h = ap {A = Key} without_iv (some_is {A = Key} (with_iv vector k) key h)

pub front_known : {A : Type 0} (bytes : A → List ℕ) (k : Option Key) (vector : Option ℕ) (front : Option A) (f : A) (key : Key) (known : Option Key) → option_map (with_iv vector) k ≡ known → known ≡ Some key → front ≡ Some f
    → IfSome k (λ k. IfSome front (λ f. HasKeyFront k (bytes f))) → HasKeyFront key (bytes f)
front_known bytes None vector front f key known v e g h = absurd (cc)
front_known bytes (Some k) vector None f key known v e g h = absurd (cc)
front_known {A} bytes (Some k) vector (Some own) f key known v e g h =
    subst (λ x. HasKeyFront key (bytes x)) (some_is {A = A} own f g) (front_of_same key k (bytes own) (sym (kept_is k key vector (v ∙ e))) h)

pub line_with_front : (key : Key) (front before middle text : List ℕ) (vector : Option ℕ) (iv : ℕ) → vector ≡ key.iv → vector ≡ Some iv → HasKeyFront key front
    → middle ≡ before ++ front → text ≡ middle ++ (codes "\",IV=0x" ++ (fixed_digits 16 32 iv ++ 10 ∷ [])) → text ≡ before ++ key_line key
line_with_front key front before middle text vector iv e some f m t =
    t ∙ ap (λ x. x ++ (codes "\",IV=0x" ++ (fixed_digits 16 32 iv ++ 10 ∷ []))) m ∙ append_assoc before front (codes "\",IV=0x" ++ (fixed_digits 16 32 iv ++ 10 ∷ []))
    ∙ ap (λ x. before ++ x) (sym (f.line iv) ∙ ap {A = Option ℕ} (λ v. key_line (with_iv v key)) (sym some ∙ e))
