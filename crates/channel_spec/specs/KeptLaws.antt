-- What is kept follows the whole history.
use Rattle.std.specs.Prelude.{◌≡◌, ℕ, List, ◌∷◌, filter, None}
use Rattle.std.specs.List.{AllByRecursion}
use Rattle.playlist_model.specs.declared.Playlist.{Playlist}
use Rattle.pod_store.specs.Marks.{Marked}
use Rattle.channel_spec.specs.LiveLaws.{HasPod, rest_mark}
use Rattle.channel_spec.specs.Sound.{IsSoundEvent}
use Rattle.channel_spec.specs.Live.{Event, refreshed, told, last_playlist, succession_fault, refusal, window_after, written_date_ranges, owed_for}
use Rattle.channel_spec.specs.Marking.{is_new}
use Rattle.channel_spec.specs.Kept.{kept_of, kept_succession, kept_refusal, kept_after, kept_window, date_ranges_after, kept_owed}

-- whether the playlist may follow the last one, whether the refresh is refused, what is kept after it, the window and the date
-- ranges that are written, and so what is owed, follow from what is kept
pub record FollowsFromKept (tolerance : ℕ) (playlist : Playlist) (before : List Event) : Type 0 where
  pub succeeds : kept_succession (kept_of (told tolerance before)) playlist ≡ succession_fault (last_playlist (told tolerance before).accepted) playlist
  pub refused : kept_refusal tolerance (kept_of (told tolerance before)) playlist ≡ refusal tolerance (told tolerance before) playlist
  pub fresh : filter (is_new (kept_of (told tolerance before)).shown) playlist.segments ≡ filter (is_new (told tolerance before).history) playlist.segments
  pub kept : refusal tolerance (told tolerance before) playlist ≡ None →
      kept_after tolerance (kept_of (told tolerance before)) playlist ≡ kept_of (told tolerance (refreshed playlist ∷ before))
  pub window : refusal tolerance (told tolerance before) playlist ≡ None →
      kept_window tolerance (kept_of (told tolerance before)) playlist ≡ window_after (told tolerance (refreshed playlist ∷ before)) playlist
  pub date_ranges : refusal tolerance (told tolerance before) playlist ≡ None →
      date_ranges_after tolerance (kept_of (told tolerance before)) playlist ≡ written_date_ranges (told tolerance (refreshed playlist ∷ before)) playlist
  pub owed : refusal tolerance (told tolerance before) playlist ≡ None →
      kept_owed tolerance (kept_of (told tolerance before)) playlist ≡ owed_for (told tolerance (refreshed playlist ∷ before)) playlist

abbrev pub KeptFollows : Type 0
KeptFollows = (tolerance : ℕ) (playlist : Playlist) (before : List Event) → AllByRecursion IsSoundEvent (refreshed playlist ∷ before) → FollowsFromKept tolerance playlist before

-- the store that is kept has the pod of each mark that is kept, and of the rest, used
abbrev pub KeptHavePods : Type 0
KeptHavePods = (tolerance : ℕ) (events : List Event) → AllByRecursion IsSoundEvent events →
    AllByRecursion (λ (s : Marked). HasPod (kept_of (told tolerance events)).store s.mark) (kept_of (told tolerance events)).shown
    × HasPod (kept_of (told tolerance events)).store (rest_mark (kept_of (told tolerance events)).rest)
