-- A channel that keeps no history follows all that it was given, and what holds of it then.
use Rattle.std.specs.Prelude.{◌≡◌, ◌↔◌, ◌⊎◌, ℕ, true, List, ◌∷◌, ◌++◌, Option, Some, None, Result, Ok, Err, IsOk}
use Rattle.std.specs.List.{list_all}
use Rattle.url.specs.Parts.{Parts}
use Rattle.playlist_model.specs.declared.Playlist.{Playlist}
use Rattle.playlist_model.specs.Reading.{reading, limited}
use Rattle.stitcher.specs.Stitched.{can_be_numbered}
use Rattle.channel_spec.specs.declared.fault.RefreshFault.{RefreshFault}
use Rattle.channel_spec.specs.Live as live
use Rattle.channel_spec.specs.Live.{last_playlist, whole_stitched_list, after_refresh, owed}
use Rattle.channel_spec.specs.LiveLaws.{GoesOn}
use Rattle.channel_spec.specs.Successor.{MayFollow}
use Rattle.decision_files.specs.Decided.{decisions_of}
use Rattle.pod_store.specs.declared.Decisions.{Decisions}
use Rattle.pod_store.specs.declared.Decisions.TheVariants.{Withdraw}
use Rattle.pod_store.specs.declared.fault.DecisionFault.{DecisionFault}
use Rattle.live_channel.specs.declared.channel.Refreshed.{Refreshed}
use Rattle.live_channel.specs.Channel.{Given, decided, withdrawn, Channel, told_by, Represents, owed_answer, AnswersAs, with_store, step, says, Steps, Refreshes, WritesWhatIsOwed}

-- a refresh from what is kept answers what is owed, and the channel then stands for it too
abbrev pub StepFollows : Type 0
StepFollows = (c : Channel) (bytes : List ℕ) (given : List Given) → Represents c given → AnswersAs c bytes given (says c bytes) (step c bytes)

-- so a call that does that, or answers a failed allocation, is a refresh whatever the channel stood for
abbrev pub StepsRefresh : Type 0
StepsRefresh = (old : Channel) (bytes : List ℕ) (result : Result Refreshed RefreshFault) (new : Channel) → Steps old bytes result new → Refreshes old bytes result new

-- decisions change the store alone
abbrev pub DecideFollows : Type 0
DecideFollows = (c : Channel) (decisions : Decisions) (bytes : List ℕ) (given : List Given) → decisions_of bytes ≡ Ok decisions → Represents c given →
    Represents (with_store c (live.decide decisions c.kept.store)) (decided bytes ∷ given)

abbrev pub UndecidedFollows : Type 0
UndecidedFollows = (c : Channel) (fault : DecisionFault) (bytes : List ℕ) (given : List Given) → decisions_of bytes ≡ Err fault → Represents c given →
    Represents c (decided bytes ∷ given)

abbrev pub WithdrawFollows : Type 0
WithdrawFollows = (c : Channel) (id : List ℕ) (given : List Given) → Represents c given →
    Represents (with_store c (live.decide (Withdraw id) c.kept.store)) (withdrawn id ∷ given)

-- what a channel writes denotes what is owed
abbrev pub ChannelWrites : Type 0
ChannelWrites = (c : Channel) → WritesWhatIsOwed c

-- ---- acceptance

-- the playlist may follow the last one, if there is one (RFC 8216, 6.2.1 and 6.2.2)
abbrev pub MayFollowLast : Option Playlist → Playlist → Type 0
MayFollowLast None p = Unit {0}
MayFollowLast (Some last) p = MayFollow p last

-- the bytes are read as a playlist which may follow the last one, and every number of the stitched list then fits 64 bits
pub record IsAcceptable (c : Channel) (given : List Given) (bytes : List ℕ) : Type 0 where
  pub playlist : Playlist
  pub read : reading limited c.base bytes ≡ Ok playlist
  pub succeeds : MayFollowLast (last_playlist (told_by c.base c.tolerance given).accepted) playlist
  pub fits : list_all can_be_numbered (whole_stitched_list (after_refresh c.tolerance (told_by c.base c.tolerance given) playlist)) ≡ true

-- a refresh is accepted exactly then
abbrev pub AcceptanceIsExact : Type 0
AcceptanceIsExact = (c : Channel) (given : List Given) (bytes : List ℕ) → Represents c given → IsOk (owed_answer c given bytes) ↔ IsAcceptable c given bytes

-- ---- what was written stays

-- the stitched list, numbers included, only grows, whatever is given
abbrev pub StitchedListGrows : Type 0
StitchedListGrows = (base : Parts) (tolerance : ℕ) (later before : List Given) →
    GoesOn (whole_stitched_list (told_by base tolerance before)) (whole_stitched_list (told_by base tolerance (later ++ before)))

-- each owed playlist is the one before it, or may follow it
abbrev pub OwedPlaylistsSucceed : Type 0
OwedPlaylistsSucceed = (base : Parts) (tolerance : ℕ) (event : Given) (before : List Given) (old new : Playlist) →
    owed (told_by base tolerance before) ≡ Some old → owed (told_by base tolerance (event ∷ before)) ≡ Some new → (new ≡ old) ⊎ MayFollow new old
