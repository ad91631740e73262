-- What a refresh comes to follows from what is kept.
use Rattle.std.proofs.Common.{◌≡◌, ℕ, cond, List, ◌∷◌, refl, ap, sym, ◌∙◌, subst, arith}
use Rattle.std.specs.Prelude.{Option, Some, None, is_none}
use Rattle.playlist_model.specs.declared.Playlist.{Playlist}
use Rattle.channel_spec.specs.declared.fault.RefreshFault.{RefreshFault}
use Rattle.channel_spec.specs.Live.{Event, refreshed, Told, told, refusal, after_refresh, window_after}
use Rattle.channel_spec.specs.Kept.{kept_of, kept_refusal, kept_after, kept_window}
use Rattle.channel_spec.specs.KeptLaws.{FollowsFromKept}
use Rattle.channel_spec.specs.BreakLaws.{HaveLedToTheSame, GoesAlike, WindowsFollow}
use Rattle.channel_spec.proofs.KeptWhole.{kept_follows}

same_kept : (a b : Told) → HaveLedToTheSame a b → kept_of a ≡ kept_of b
same_kept a b h = cc

-- two that lead to the same, once a refresh is accepted
agree_after : (tolerance : ℕ) (playlist : Playlist) (a b : Told) → kept_of (after_refresh tolerance a playlist) ≡ kept_of (after_refresh tolerance b playlist)
    → window_after (after_refresh tolerance a playlist) playlist ≡ window_after (after_refresh tolerance b playlist) playlist → HaveLedToTheSame (after_refresh tolerance a playlist) (after_refresh tolerance b playlist)
agree_after tolerance playlist a b k w = grind arith

module _ (tolerance : ℕ) (playlist : Playlist) (one other : List Event) (f : FollowsFromKept tolerance playlist one) (g : FollowsFromKept tolerance playlist other) (h : HaveLedToTheSame (told tolerance one) (told tolerance other)) where
  abbrev a : Told
  a = told tolerance one

  abbrev b : Told
  b = told tolerance other

  abbrev then : Told → Option RefreshFault → Told
  then t o = cond (is_none o) (after_refresh tolerance t playlist) t

  kept_same : kept_of a ≡ kept_of b
  kept_same = same_kept a b h

  refused_same : refusal tolerance a playlist ≡ refusal tolerance b playlist
  refused_same = sym f.refused ∙ (ap (λ k. kept_refusal tolerance k playlist) kept_same ∙ g.refused)

  window_same : refusal tolerance a playlist ≡ None → window_after (told tolerance (refreshed playlist ∷ one)) playlist ≡ window_after (told tolerance (refreshed playlist ∷ other)) playlist
  window_same e = sym (f.window e) ∙ (ap (λ k. kept_window tolerance k playlist) kept_same ∙ g.window (sym refused_same ∙ e))

  after_same : refusal tolerance a playlist ≡ None → kept_of (told tolerance (refreshed playlist ∷ one)) ≡ kept_of (told tolerance (refreshed playlist ∷ other))
  after_same e = sym (f.kept e) ∙ (ap (λ k. kept_after tolerance k playlist) kept_same ∙ g.kept (sym refused_same ∙ e))

  agree : (o : Option RefreshFault) → refusal tolerance a playlist ≡ o → HaveLedToTheSame (then a (refusal tolerance a playlist)) (then b (refusal tolerance b playlist))
  agree None e =
      let first : then a (refusal tolerance a playlist) ≡ after_refresh tolerance a playlist = ap (then a) e in
      let second : then b (refusal tolerance b playlist) ≡ after_refresh tolerance b playlist = ap (then b) (sym refused_same ∙ e) in
      subst (λ t. HaveLedToTheSame t (then b (refusal tolerance b playlist))) (sym first) (subst (λ t. HaveLedToTheSame (after_refresh tolerance a playlist) t) (sym second)
      (agree_after tolerance playlist a b (sym (ap kept_of first) ∙ (after_same e ∙ ap kept_of second)) (sym (ap (λ t. window_after t playlist) first) ∙ (window_same e ∙ ap (λ t. window_after t playlist) second))))
  agree (Some fault) e =
      subst (λ t. HaveLedToTheSame t (then b (refusal tolerance b playlist))) (sym (ap (then a) e)) (subst (λ t. HaveLedToTheSame a t) (sym (ap (then b) (sym refused_same ∙ e))) h)

  goes_alike : GoesAlike tolerance playlist one other
  goes_alike = record { refused = refused_same; window = window_same; agree = agree (refusal tolerance a playlist) refl }

pub windows_follow : WindowsFollow
windows_follow tolerance playlist one other s t h = goes_alike tolerance playlist one other (kept_follows tolerance playlist one s) (kept_follows tolerance playlist other t) h
