-- A segment that changes nothing has no tag before its time.
use Rattle.std.proofs.Common.{◌≡◌, ℕ, true, List, [], ◌∷◌, ◌++◌, length, replicate, refl, ap, sym, ◌∙◌, Some, None, arith}
use Rattle.std.specs.Prelude.{Option, is_none, ◌==◌}
use Rattle.std.proofs.lemmas.Bool.{and_parts}
use Rattle.std.proofs.lemmas.Bool.Decides.{nat_tests}
use Rattle.playlist_model.specs.declared.Key.{Key}
use Rattle.playlist_model.specs.declared.InitSection.{InitSection}
use Rattle.playlist_model.specs.LookBack.{or_earlier}
use Rattle.playlist_model.specs.Said.{discontinuity}
use Rattle.stitcher.specs.declared.OutSegment.{OutSegment}
use Rattle.playlist_write.specs.Owed.{Current, after_segment, changed_written_init_section, init_section_owed, written_keys_then, keys_owed, said_text}
use Rattle.playlist_write.specs.Inner.Changes.{written_segment_changes_nothing, changes_owed}

no_step : (steps : ℕ) → (steps == 0) ≡ true → steps ≡ 0
no_step steps h = grind (arith, nat_tests)

no_key : (keys : List Key) → (length keys == 0) ≡ true → keys ≡ []
no_key [] h = refl
no_key (key ∷ later) h = absurd (grind (arith, nat_tests))

no_section : (section : Option InitSection) → is_none section ≡ true → section ≡ None
no_section None h = refl
no_section (Some section) h = absurd (cc)

none_owed : (current : Option InitSection) (keys new : List Key) (steps : ℕ) (section : Option InitSection) → keys ≡ [] → new ≡ [] → steps ≡ 0 → section ≡ None
    → replicate steps discontinuity ++ (init_section_owed keys (changed_written_init_section current section) ++ keys_owed (written_keys_then keys (changed_written_init_section current section)) new) ≡ []
none_owed current keys new steps section k n s i = rw (k, n, s, i) refl

pub nothing_owed : (current : Current) (next : OutSegment) → written_segment_changes_nothing current.keys next ≡ true → [] ≡ said_text (changes_owed current next)
nothing_owed current next h = grind (arith, and_parts, none_owed, no_key, no_step, no_section)

-- what is in force stays after a segment that changes nothing
pub nothing_after : (current : Current) (next : OutSegment) → written_segment_changes_nothing current.keys next ≡ true → current ≡ after_segment current next
nothing_after current next h =
    let a = and_parts _ _ (and_parts _ _ h).1 in
    let k = and_parts _ _ a.1 in
    let old = no_key current.keys k.0 in
    let new = no_key next.segment.keys k.1 in
    let section = no_section next.segment.init_section a.0 in
    both (old ∙ sym new) (sym (ap (λ own. or_earlier own current.init_section) section))
  where
    both : {j k : List Key} {s t : Option InitSection} → j ≡ k → s ≡ t → ◌≡◌ {A = Current} (record { keys = j; init_section = s }) (record { keys = k; init_section = t })
    both e f = cc
