-- What an accepted refresh comes to, as a channel holds it.
use Rattle.std.specs.Prelude.{◌≡◌, ◌≢◌, ◌≤◌, ◌++◌, ℕ, List, true, drop, take, length, map, Option, Some, None, Ok, Err}
use Rattle.std.specs.List.{list_all, list_any}
use Rattle.playlist_model.specs.declared.Playlist.{Playlist}
use Rattle.channel_spec.specs.declared.heading.Heading.{Heading}
use Rattle.playlist_model.specs.LookBack.{or_earlier}
use Rattle.pod_store.specs.Marks.{Marked}
use Rattle.stitcher.specs.Stitched.{Item, can_be_numbered}
use Rattle.pod_store.specs.Store.{kept_in_use}
use Rattle.pod_store.specs.Inner.Store.{NameTheSame}
use Rattle.stitcher.specs.StitchedSegments.{AreDecided, KnowPrevious, rest_in}
use Rattle.stitcher.specs.Written.{written_item}
use Rattle.stitcher.specs.declared.marked.MarkedSegment.{MarkedSegment as Held}
use Rattle.playlist_write.specs.declared.resumed.WrittenText.{WrittenText}
use Rattle.live_channel.specs.declared.channel.Refreshed.{Refreshed}
use Rattle.break_finder.specs.Breaks.{Break}
use Rattle.break_finder.specs.Known.{carry}
use Rattle.playlist_write.specs.Owed.{playlist_text}
use Rattle.playlist_write.specs.Laid.{IsLaid}
use Rattle.owed_is_denoted.specs.Owed.{out_playlist}
use Rattle.channel_spec.specs.declared.fault.RefreshFault.{RefreshFault}
use Rattle.channel_spec.specs.declared.fault.RefreshFault.TheVariants.{OutOfMemory}
use Rattle.playlist_model.specs.Reading.{reading, limited}
use Rattle.url.specs.Parts.{Parts}
use Rattle.channel_spec.specs.Live.{date_range_text}
use Rattle.channel_spec.specs.Live.{states_instant, in_use_with, date_ranges_left}
use Rattle.channel_spec.specs.Successor.{owed_heading_of, first_number}
use Rattle.channel_spec.specs.Marking.{last_entered}
use Rattle.channel_spec.specs.Kept.{Kept, kept_succession, shown_from, head_numbers, items_on, window_on, rest_after, kept_acceptance, kept_list, kept_length}
use Rattle.live_channel.specs.declared.next.NextState.{NextState}
use Rattle.live_channel.specs.declared.next.NextWindow.{NextWindow}
use Rattle.live_channel.specs.declared.next.ShownRefresh.{ShownRefresh}
use Rattle.channel_window.specs.Marking.{history_in}
use Rattle.channel_window.specs.Showing.{AreKept, IsLastEntered, kept_before, kept_in}
use Rattle.channel_window.specs.Listed.{AreRising, IsRestDecided, RisesOn, window_segments_in}
use Rattle.channel_window.specs.Checked.{AreContiguous, AreTaken}
use Rattle.playlist_kept.specs.Kept.{playlist_in}
use Rattle.playlist_kept.specs.declared.read_playlist.Read.{Read}
use Rattle.live_channel.specs.Inner.LastText.{StoodBefore, StoodIn}
use Rattle.live_channel.specs.Channel.{refreshed_with, fresh_after, channel_with, Steps}
use Rattle.channel_window.specs.declared.state.ChannelState.{ChannelState}

-- the breaks in use after these segments
abbrev pub breaks_after : Kept → Playlist → List Marked → List (List ℕ)
breaks_after kept p list = in_use_with (first_number p.segments) list (or_earlier (last_entered list) kept.entered) (rest_after kept p list)

-- the playlist's text with this window in place of its segments, without the date ranges of these breaks
abbrev pub text_with_window : Playlist → List (List ℕ) → List Item → List ℕ
text_with_window p breaks window = playlist_text (out_playlist p (map date_range_text (date_ranges_left (list_any states_instant window) breaks p.date_ranges)) (map written_item window))

-- what a channel comes to if these breaks are known, and these segments are shown, which mean this list, the newest run of which
-- has lasted so long, and so many of which weren't shown before: each number of the stitched list fits
pub record IsNext (kept : Kept) (p : Playlist) (known : List Break) (held : List Held) (list : List Marked) (so_long fresh : ℕ) (next : NextState) : Type 0 where
  pub fit : list_all can_be_numbered (items_on kept p list so_long) ≡ true
  pub within : next.gone ≤ length held
  pub breaks : next.shown.knowledge ≡ known
  pub shown : history_in kept.store (drop next.gone held) ≡ shown_from (first_number p.segments) list
  pub decided : AreDecided kept.store (drop next.gone held)
  pub previous : KnowPrevious (drop next.gone held)
  pub entered : next.shown.entered ≡ or_earlier (last_entered list) kept.entered
  pub in_use : NameTheSame next.in_use.items (breaks_after kept p list)
  pub numbers : next.shown.numbers ≡ head_numbers (window_on kept p list so_long)
  pub lasted : next.shown.so_far ≡ so_long
  pub rest : rest_in kept.store next.shown.rest ≡ rest_after kept p list
  pub rest_decided : IsRestDecided kept.store next.shown.rest
  pub refreshed : next.refreshed ≡ refreshed_with (window_on kept p list so_long) fresh
  pub text : next.written.text ≡ text_with_window p (breaks_after kept p list) (window_on kept p list so_long)
  pub laid : IsLaid (map written_item (window_on kept p list so_long)) next.written

-- the window of the stitched list of these segments, the newest run of which has lasted so long: its text is written, and each number
-- of the list fits
pub record IsWindow (kept : Kept) (p : Playlist) (list : List Marked) (so_long : ℕ) (w : NextWindow) : Type 0 where
  pub fit : list_all can_be_numbered (items_on kept p list so_long) ≡ true
  pub in_use : NameTheSame w.in_use.items (breaks_after kept p list)
  pub numbers : w.numbers ≡ head_numbers (window_on kept p list so_long)
  pub count : w.count ≡ length (window_on kept p list so_long)
  pub rest : rest_in kept.store w.rest ≡ rest_after kept p list
  pub rest_decided : IsRestDecided kept.store w.rest
  pub text : w.written.text ≡ text_with_window p (breaks_after kept p list) (window_on kept p list so_long)
  pub laid : IsLaid (map written_item (window_on kept p list so_long)) w.written

-- what holds when the window of these segments is to be written: some of them stood in the last text, this break was entered last, and the
-- newest run has lasted so long
pub record IsReady (state : ChannelState) (written : Option WrittenText) (p : Playlist) (held : List Held) (entered : Option (List ℕ)) (lasted : ℕ) : Type 0 where
  pub stood : StoodIn (kept_in state) (items_on (kept_in state) p (history_in state.store held) lasted) written
  pub stands : take (length state.list) held ≡ state.list
  pub decided : AreDecided state.store held
  pub previous : KnowPrevious held
  pub rising : AreRising held
  pub entered_is : entered ≡ or_earlier (last_entered (history_in state.store held)) state.shown.entered
  pub rest : IsRestDecided state.store state.shown.rest

-- the same of a refresh whose segments are shown
abbrev pub refresh_shown : ShownRefresh → List Marked
refresh_shown r = history_in (kept_before r.before.now).store r.list.now

abbrev pub refresh_items : ShownRefresh → List Item
refresh_items r = items_on (kept_in (kept_before r.before.now)) (playlist_in r.read.now) (refresh_shown r) r.lasted

abbrev pub IsRefreshReady : ShownRefresh → Type 0
IsRefreshReady r = IsReady (kept_before r.before.now) r.written.now (playlist_in r.read.now) r.list.now r.entered.now r.lasted

abbrev pub IsRefreshWindow : ShownRefresh → NextWindow → Type 0
IsRefreshWindow r w = IsWindow (kept_in (kept_before r.before.now)) (playlist_in r.read.now) (refresh_shown r) r.lasted w

-- what it comes to by an accepted refresh, after which these segments are shown
abbrev pub IsAccepted : ℕ → Kept → Playlist → List Held → NextState → Type 0
IsAccepted tolerance kept p held next =
    IsNext kept p (carry (kept_acceptance kept p) kept.breaks) held (kept_list tolerance kept p) (kept_length tolerance kept p) (fresh_after kept.shown p) next

-- ---- a refresh, from its bytes on

-- the playlist may follow the last one, and no number passes its range
pub record FollowsLastPlaylist (tolerance : ℕ) (kept : Kept) (p : Playlist) (held : List Held) (next : NextState) : Type 0 where
  pub succeeds : kept_succession kept p ≡ None
  pub accepted : IsAccepted tolerance kept p held next

-- its numbers go on those that are shown, if it may follow
abbrev pub RisesNext : ChannelState → Playlist → Type 0
RisesNext state p = kept_succession (kept_in state) p ≡ None → RisesOn state.list p.segments

-- the bytes are read as this playlist
pub record BytesAreReadAs (base : Parts) (bytes : List ℕ) (p : Playlist) : Type 0 where
  pub read : reading limited base bytes ≡ Ok p
  pub numbers : AreContiguous p.segments

-- the fault is the one that is owed, a failed allocation apart
abbrev pub RefusesNext : RefreshFault → Option RefreshFault → Type 0
RefusesNext fault outcome = fault ≢ OutOfMemory → outcome ≡ Some fault

-- the answer is the one that is owed, and nothing changes, whatever was written
abbrev pub Refused : Parts → ℕ → ChannelState → List ℕ → RefreshFault → Type 0
Refused base tolerance state bytes fault =
    (text : Option (List ℕ)) → Steps (channel_with base tolerance state text) bytes (Err fault) (channel_with base tolerance state text)

-- what is kept then: a break that is in use keeps its pod, or a copy of the fallback
abbrev pub state_with : ChannelState → Heading → NextState → ChannelState
state_with state last next = record { store = kept_in_use next.in_use.items state.store; last = Some last; list = drop next.gone state.list; shown = next.shown }

abbrev pub accepted_state : ChannelState → Playlist → NextState → ChannelState
accepted_state state p next = state_with state (owed_heading_of p) next

-- ---- what holds when a playlist comes that was read

-- the last text has the lines of the last window; the playlist's numbers rise by one, and go on those that are shown if it may
-- follow; what was taken over from the last one is shown; and what is kept is sound
pub record IsJudged (tolerance : ℕ) (state : ChannelState) (written : Option WrittenText) (read : Read) : Type 0 where
  pub stood : StoodBefore tolerance (kept_in state) (playlist_in read) written
  pub contiguous : AreContiguous (playlist_in read).segments
  pub decided : AreKept state.store state
  pub entered : IsLastEntered (kept_in state)
  pub rising : RisesNext state (playlist_in read)
  pub last : AreContiguous (window_segments_in state.list)
  pub taken : AreTaken (window_segments_in state.list) read.taken.now
  pub front : read.front ≤ length read.playlist.segments

-- ---- the segments that are shown, before a refresh is accepted

-- other segments stand behind those that were shown, and all else is as it was
abbrev pub HasGrown : ChannelState → ChannelState → Type 0
HasGrown old new = (come : List Held) × (new ≡ record old { list = old.list ++ come })

-- the channel has come to what it comes to by this playlist, and answers so
pub record Accepts (tolerance : ℕ) (old : ChannelState) (p : Playlist) (new : ChannelState) (written : Option WrittenText) (done : Refreshed) : Type 0 where
  pub held : List Held
  pub next : NextState
  pub follows : FollowsLastPlaylist tolerance (kept_in old) p held next
  pub state_is : new ≡ accepted_state (record old { list = held }) p next
  pub written_is : written ≡ Some next.written
  pub done_is : done ≡ next.refreshed
