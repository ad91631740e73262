-- After any events the text of what is owed denotes it.
use Rattle.std.proofs.Common.{◌≡◌, ℕ, cond, List, [], ◌∷◌, refl, ap, subst}
use Rattle.std.specs.Prelude.{Option, Some, None, is_none}
use Rattle.std.specs.List.{AllByRecursion}
use Rattle.url.specs.Parts.{Parts}
use Rattle.playlist_model.specs.declared.Playlist.{Playlist}
use Rattle.playlist_model.specs.Reading.{Denotes}
use Rattle.channel_spec.specs.declared.fault.RefreshFault.{RefreshFault}
use Rattle.channel_spec.specs.Live.{Event, decided, refreshed, Told, told, refusal, last_playlist, after_refresh, owed_for}
use Rattle.owed_is_denoted.specs.Owed.{owed_text}
use Rattle.owed_is_denoted.specs.Laws.{CanBeGiven, AlwaysDenotes}
use Rattle.owed_is_denoted.proofs.Whole.{text_denotes_owed}

abbrev DenotesIn : Parts → Told → Type 0
DenotesIn base t = (p : Playlist) → last_playlist t.accepted ≡ Some p → Denotes base (owed_text t p) (owed_for t p)

refreshed_step : (tolerance : ℕ) (before : List Event) (q : Playlist) (base : Parts) → AllByRecursion CanBeGiven (refreshed q ∷ before) → DenotesIn base (told tolerance before)
    → (o : Option RefreshFault) → refusal tolerance (told tolerance before) q ≡ o → DenotesIn base (cond (is_none o) (after_refresh tolerance (told tolerance before) q) (told tolerance before))
refreshed_step tolerance before q base g rec (Some fault) e = rec
refreshed_step tolerance before q base g rec None e = λ p same.
    let is : q ≡ p = cc in
    let t = told tolerance before in
    let now : told tolerance (refreshed q ∷ before) ≡ after_refresh tolerance t q = ap (λ o. cond (is_none o) (after_refresh tolerance t q) t) e in
    subst (λ x. Denotes base (owed_text (after_refresh tolerance t q) x) (owed_for (after_refresh tolerance t q) x)) is
    (subst (λ u. Denotes base (owed_text u q) (owed_for u q)) now (text_denotes_owed tolerance q before base g e))

always : (tolerance : ℕ) (events : List Event) (base : Parts) → AllByRecursion CanBeGiven events → DenotesIn base (told tolerance events)
always tolerance [] base g = λ p e. absurd (cc)
always tolerance (decided ds ∷ before) base g = always tolerance before base g.1
always tolerance (refreshed q ∷ before) base g =
    refreshed_step tolerance before q base g (always tolerance before base g.1) (refusal tolerance (told tolerance before) q) refl

pub always_denotes : AlwaysDenotes
always_denotes tolerance events p base g e = always tolerance events base g p e
