-- What it takes to be accepted.
use Rattle.std.proofs.Common.{◌≡◌, ℕ, ◌+◌, ◌≤◌, Bool, true, false, ◌&&◌, ◌||◌, not, refl, arith}
use Rattle.std.proofs.lemmas.Bool.{ltb-false, eqb-true, eqb-false}
use Rattle.std.specs.Prelude.{Option, Some, None, ◌==◌}
use Rattle.playlist_model.specs.declared.Playlist.{Playlist}
use Rattle.playlist_model.specs.declared.PlaylistKind.{PlaylistKind}
use Rattle.playlist_model.specs.declared.PlaylistKind.TheVariants.{Event, Vod}
use Rattle.playlist_model.specs.LookBack.{or_earlier}
use Rattle.channel_spec.specs.declared.fault.RefreshFault.{RefreshFault}
use Rattle.channel_spec.specs.Successor.{fault_if, first_number, end_number, first_discontinuity, last_discontinuity, has_init_sections, are_different, first_changed, successor_fault}
use Rattle.playlist_model.specs.Same.{kind_eq}

-- what a playlist that may follow another keeps
pub record Passed (old new : Playlist) : Type 0 where
  pub version : new.version ≡ old.version
  pub target_duration : new.target_duration ≡ old.target_duration
  pub playlist_type : new.playlist_type ≡ old.playlist_type
  pub with_init_sections : has_init_sections new.segments ≡ has_init_sections old.segments
  pub not_back : first_number old.segments ≤ first_number new.segments
  pub no_gap : first_number new.segments ≤ end_number old.segments
  pub not_shrunk : end_number old.segments ≤ end_number new.segments
  pub same : first_changed old.segments new.segments ≡ None
  pub not_less : first_number new.segments ≡ end_number old.segments → last_discontinuity old.segments ≤ first_discontinuity new.segments
  pub near : first_number new.segments ≡ end_number old.segments → first_discontinuity new.segments ≤ last_discontinuity old.segments + 1000
  pub end_list : old.end_list ≡ true → (new.end_list ≡ true) × (first_number new.segments ≡ first_number old.segments) × (end_number new.segments ≡ end_number old.segments)

or_none : {A : Type 0} (a b : Option A) → or_earlier a b ≡ None → (a ≡ None) × (b ≡ None)
or_none None b e = (refl, e)
or_none (Some x) b e = absurd (cc)

unless : (b : Bool) (f : RefreshFault) → fault_if b f ≡ None → b ≡ false
unless true f e = absurd (cc)
unless false f e = refl

negated : (b : Bool) → not b ≡ false → b ≡ true
negated true e = refl
negated false e = absurd (cc)

same_kind : (a b : Option PlaylistKind) → kind_eq a b ≡ true → a ≡ b
same_kind None None e = refl
same_kind (Some Event) (Some Event) e = refl
same_kind (Some Vod) (Some Vod) e = refl
same_kind (Some Event) (Some Vod) e = absurd (cc)
same_kind (Some Vod) (Some Event) e = absurd (cc)
same_kind None (Some Event) e = absurd (cc)
same_kind None (Some Vod) e = absurd (cc)
same_kind (Some Event) None e = absurd (cc)
same_kind (Some Vod) None e = absurd (cc)

same_bool : (a b : Bool) → are_different a b ≡ false → a ≡ b
same_bool true true e = refl
same_bool true false e = absurd (cc)
same_bool false true e = absurd (cc)
same_bool false false e = refl

near_step : (a b c : Bool) → (a && (b || c)) ≡ false → a ≡ true → c ≡ false
near_step true true c e h = absurd (cc)
near_step true false c e h = e
near_step false b c e h = absurd (cc)

lower_step : (a b c : Bool) → (a && (b || c)) ≡ false → a ≡ true → b ≡ false
lower_step true true c e h = absurd (cc)
lower_step true false c e h = refl
lower_step false b c e h = absurd (cc)

eq_true : (a b : ℕ) → a ≡ b → (t : Bool) → (a == b) ≡ t → t ≡ true
eq_true a b e true k = refl
eq_true a b e false k = absurd (eqb-false a b k e)

ended_step : (old new a b : Bool) → (old && not (new && (a && b))) ≡ false → old ≡ true → (new ≡ true) × (a ≡ true) × (b ≡ true)
ended_step true true true true e h = (refl, refl, refl)
ended_step true true true false e h = absurd (cc)
ended_step true true false b e h = absurd (cc)
ended_step true false a b e h = absurd (cc)
ended_step false new a b e h = absurd (cc)

pub passed : (old new : Playlist) → successor_fault old new ≡ None → Passed old new
passed old new e = grind (arith, or_none, eqb-true, negated, unless, same_kind, same_bool, ltb-false, lower_step, eq_true, near_step, ended_step)
