-- What holds of what is written for a live playlist, or for one that stands alone.
use Rattle.std.specs.Prelude.{◌≡◌, ℕ, true, List, [], ◌∷◌, Some, None}
use Rattle.std.specs.List.{AllByRecursion}
use Rattle.url.specs.Parts.{Parts}
use Rattle.playlist_model.specs.declared.Playlist.{Playlist}
use Rattle.pod_store.specs.Pods.{Pod}
use Rattle.playlist_model.specs.Reading.{limited, unlimited, Denotes}
use Rattle.playlist_write.specs.WellFormed.{well_formed}
use Rattle.playlist_write.specs.Denoted.{denoted}
use Rattle.read_is_writable.specs.Read.{AreRead}
use Rattle.channel_spec.specs.Sound.{AllPods}
use Rattle.channel_spec.specs.Live.{Event, decided, refreshed, told, last_playlist, refusal, owed_for}
use Rattle.pod_store.specs.Rules.{ads_keep}
use Rattle.owed_is_denoted.specs.Owed.{owed_playlist, owed_text}

-- a playlist as it is read by the reader with limits, which is what its bytes denote
pub record CanBeRead (p : Playlist) : Type 0 where
  pub limits : AreRead limited p
  pub denotes : AreRead unlimited p

-- a pod as decision files say them
abbrev pub KeepsRules : Pod → Type 0
KeepsRules pod = ads_keep pod.ads ≡ true

abbrev pub CanBeGiven : Event → Type 0
CanBeGiven (decided decisions) = AllPods KeepsRules decisions
CanBeGiven (refreshed playlist) = CanBeRead playlist

-- what is owed after an accepted refresh is well formed
abbrev pub OwedIsWellFormed : Type 0
OwedIsWellFormed = (tolerance : ℕ) (playlist : Playlist) (before : List Event) →
    AllByRecursion CanBeGiven (refreshed playlist ∷ before) → refusal tolerance (told tolerance before) playlist ≡ None →
    well_formed (owed_playlist (told tolerance (refreshed playlist ∷ before)) playlist) ≡ true

-- what is written is what is owed
abbrev pub OwedIsDenoted : Type 0
OwedIsDenoted = (tolerance : ℕ) (playlist : Playlist) (before : List Event) → CanBeRead playlist →
    denoted (owed_playlist (told tolerance before) playlist) ≡ owed_for (told tolerance before) playlist

-- so the text denotes what is owed, under every base
abbrev pub TextDenotesOwed : Type 0
TextDenotesOwed = (tolerance : ℕ) (playlist : Playlist) (before : List Event) (base : Parts) →
    AllByRecursion CanBeGiven (refreshed playlist ∷ before) → refusal tolerance (told tolerance before) playlist ≡ None →
    Denotes base (owed_text (told tolerance (refreshed playlist ∷ before)) playlist) (owed_for (told tolerance (refreshed playlist ∷ before)) playlist)

-- after any events, the text of what is owed denotes it, under every base
abbrev pub AlwaysDenotes : Type 0
AlwaysDenotes = (tolerance : ℕ) (events : List Event) (playlist : Playlist) (base : Parts) → AllByRecursion CanBeGiven events →
    last_playlist (told tolerance events).accepted ≡ Some playlist →
    Denotes base (owed_text (told tolerance events) playlist) (owed_for (told tolerance events) playlist)
