-- What is kept in a channel's state, and what it shows with a playlist.
use Rattle.std.specs.Prelude.{◌≡◌, ℕ, List, filter, length}
use Rattle.playlist_model.specs.declared.Playlist.{Playlist}
use Rattle.playlist_model.specs.LookBack.{or_earlier}
use Rattle.pod_store.specs.Store.{Store}
use Rattle.stitcher.specs.StitchedSegments.{AreDecided, KnowPrevious, rest_in}
use Rattle.stitcher.specs.declared.marked.MarkedSegment.{MarkedSegment as Held}
use Rattle.break_finder.specs.Known.{carry}
use Rattle.channel_spec.specs.Marking.{is_new, last_entered}
use Rattle.channel_spec.specs.Kept.{Kept, kept_acceptance, kept_list, kept_length}
use Rattle.channel_window.specs.declared.state.Before.{Before}
use Rattle.channel_window.specs.declared.state.ChannelState.{ChannelState}
use Rattle.channel_window.specs.declared.showing.Showing.{Showing}
use Rattle.channel_window.specs.Marking.{history_in}
use Rattle.channel_window.specs.Listed.{AreRising, IsRestDecided}

-- what is kept in a channel's state, whose shown segments stand with the oldest first
abbrev pub kept_in : ChannelState → Kept
kept_in state = record {
  store = state.store;
  breaks = state.shown.knowledge;
  last = state.last;
  shown = history_in state.store state.list;
  entered = state.shown.entered;
  numbers = state.shown.numbers;
  so_far = state.shown.so_far;
  rest = rest_in state.store state.shown.rest;
}

-- what was kept before the last of these segments came
abbrev pub kept_before : Before → ChannelState
kept_before before = record before.state.now { list = before.list.now }

-- this store has the pod of each mark of a shown segment, and of the rest; and the segments know of those before them
pub record AreKept (store : Store) (state : ChannelState) : Type 0 where
  pub decided : AreDecided store state.list
  pub rest : IsRestDecided store state.shown.rest
  pub previous : KnowPrevious state.list

-- the break that the newest marked segment is marked with is the last one entered
abbrev pub IsLastEntered : Kept → Type 0
IsLastEntered kept = or_earlier (last_entered kept.shown) kept.entered ≡ kept.entered

-- the breaks that are known after the refresh, how many segments are shown for the first time, the last break entered, and how
-- long the newest run has lasted, if these segments are shown then; their numbers rise by one
pub record IsShown (tolerance : ℕ) (state : ChannelState) (p : Playlist) (held : List Held) (a : Showing) : Type 0 where
  pub breaks : a.knowledge ≡ carry (kept_acceptance (kept_in state) p) state.shown.knowledge
  pub list : history_in state.store held ≡ kept_list tolerance (kept_in state) p
  pub fresh : a.fresh ≡ length (filter (is_new (kept_in state).shown) p.segments)
  pub entered : a.entered ≡ or_earlier (last_entered (history_in state.store held)) state.shown.entered
  pub length : a.so_far ≡ kept_length tolerance (kept_in state) p
  pub decided : AreDecided state.store held
  pub previous : KnowPrevious held
  pub rising : AreRising held
