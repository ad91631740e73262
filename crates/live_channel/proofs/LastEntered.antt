-- The newest marked segment that is shown has the break that was entered last.
use Rattle.std.proofs.Common.{◌≡◌, ℕ, List, [], ◌∷◌, refl, arith}
use Rattle.std.specs.Prelude.{Option, Some, None}
use Rattle.playlist_model.specs.declared.Playlist.{Playlist}
use Rattle.playlist_model.specs.LookBack.{or_earlier}
use Rattle.pod_store.specs.Marks.{Marked}
use Rattle.channel_spec.specs.Live.{Told, last_playlist}
use Rattle.channel_spec.specs.Marking.{last_entered}
use Rattle.channel_spec.specs.Kept.{kept_of, shown_from, shown_by}
use Rattle.channel_window.specs.Showing.{IsLastEntered}

shown_last : (first : ℕ) (history : List Marked) → or_earlier (last_entered (shown_from first history)) (last_entered history) ≡ last_entered history
shown_last first [] = refl
shown_last first (s ∷ before) = grind (arith, shown_last first before)

shown_by_last : (last : Option Playlist) (history : List Marked) → or_earlier (last_entered (shown_by last history)) (last_entered history) ≡ last_entered history
shown_by_last None history = refl
shown_by_last (Some p) history = shown_last _ history

-- so it is of all that is kept
pub is_last_entered : (t : Told) → IsLastEntered (kept_of t)
is_last_entered t = shown_by_last (last_playlist t.accepted) t.history
