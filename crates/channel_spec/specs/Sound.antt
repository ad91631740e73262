-- Events that make sense: playlists as they are read, pods as decision files say them.
use Rattle.std.specs.Prelude.{◌≡◌, ◌<◌, ℕ, ◌+◌, List, [], ◌∷◌, length, is_some}
use Rattle.std.specs.List.{AllByRecursion}
use Rattle.playlist_model.specs.Segments.{Segment}
use Rattle.playlist_model.specs.declared.Playlist.{Playlist}
use Rattle.pod_store.specs.Pods.{Pod, Ad}
use Rattle.pod_store.specs.declared.Decisions.{Decisions}
use Rattle.pod_store.specs.declared.Decisions.TheVariants.{Breaks, Withdraw, Fallback, NoFallback}
use Rattle.channel_spec.specs.Live.{Event, decided, refreshed}
use Rattle.channel_spec.specs.Successor.{first_number, has_init_sections}

-- the media numbers rise by one, from this number on (RFC 8216, 4.3.3.2)
abbrev pub RiseFrom : ℕ → List Segment → Type 0
RiseFrom number [] = Unit {0}
RiseFrom number (s ∷ later) = (s.media_sequence ≡ number) × RiseFrom (number + 1) later

-- what every playlist that is read keeps: a segment or more, with rising numbers, and all of them have an
-- initialisation section or none has
pub record IsSoundPlaylist (playlist : Playlist) : Type 0 where
  pub some : 0 < length playlist.segments
  pub numbers : RiseFrom (first_number playlist.segments) playlist.segments
  pub with_init_sections : AllByRecursion (λ (s : Segment). is_some s.init_section ≡ has_init_sections playlist.segments) playlist.segments

-- what every pod that is decided keeps: an ad or more, with a segment or more each
pub record IsSoundPod (pod : Pod) : Type 0 where
  pub some : 0 < length pod.ads
  pub filled : AllByRecursion (λ (ad : Ad). 0 < length ad.segments) pod.ads

abbrev pub AllPods : (Pod → Type 0) → Decisions → Type 0
AllPods P (Breaks decisions) = AllByRecursion (λ (d : List ℕ × Pod). P d.1) decisions
AllPods P (Withdraw id) = Unit {0}
AllPods P (Fallback pod) = P pod
AllPods P NoFallback = Unit {0}

abbrev pub IsSoundEvent : Event → Type 0
IsSoundEvent (decided decisions) = AllPods IsSoundPod decisions
IsSoundEvent (refreshed playlist) = IsSoundPlaylist playlist
