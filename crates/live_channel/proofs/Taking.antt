-- A channel that takes a playlist that was read.
use Rattle.std.proofs.Common.{◌≡◌, ◌≤◌, ℕ, List, map, length, Ok, ap, sym, ◌∙◌, subst, arith}
use Rattle.std.specs.Prelude.{Option, None, Some, MatchOption}
use Rattle.url.specs.Parts.{Parts}
use Rattle.playlist_model.specs.Segments.{Segment}
use Rattle.playlist_model.specs.declared.DateRange.{DateRange}
use Rattle.playlist_model.specs.declared.Playlist.{Playlist}
use Rattle.playlist_model.specs.Same.{kept_parts}
use Rattle.playlist_model.specs.Reading.{reading, limited}
use Rattle.channel_spec.specs.Kept.{kept_refusal}
use Rattle.channel_window.specs.Showing.{AreKept, IsLastEntered, kept_in}
use Rattle.channel_window.specs.declared.state.ChannelState.{ChannelState}
use Rattle.channel_window.specs.Checked.{AreContiguous, AreTaken}
use Rattle.channel_window.specs.Listed.{window_segments_in}
use Rattle.playlist_kept.specs.KeptLines.{LinesWereRead}
use Rattle.playlist_kept.specs.declared.source.KeptLines.{KeptLines}
use Rattle.playlist_kept.specs.Kept.{AreKeptLines, IsAfter, IsKeptUnderBase, IsTakenFrom, kept_segments, playlist_in, with_taken}
use Rattle.playlist_kept.specs.declared.read_playlist.Read.{Read}
use Rattle.playlist_kept.specs.declared.source.LastPlaylist.{LastPlaylist}
use Rattle.playlist_kept.specs.declared.step.Step.{Step}
use Rattle.playlist_write.specs.declared.resumed.WrittenText.{WrittenText}
use Rattle.live_channel.specs.declared.channel.Refreshed.{Refreshed}
use Rattle.live_channel.specs.Channel.{WasGivenSomething, IsListed, channel_with, told_by, text_in, Refreshes}
use Rattle.live_channel.specs.Inner.Accepting.{Accepts, IsJudged, BytesAreReadAs}
use Rattle.live_channel.specs.LastText.{IsLaidOut}
use Rattle.live_channel.proofs.Listing.{listed_next, contiguous_too}
use Rattle.live_channel.proofs.LastEntered.{is_last_entered}
use Rattle.live_channel.proofs.Rises.{rises_next}
use Rattle.live_channel.proofs.Refreshing.{goes, read_rises, unrefused}
use Rattle.live_channel.proofs.LastText.{laid_next, stood_before}

-- what holds of a channel, but for what it keeps of the text that was read
pub record IsSound (base : Parts) (tolerance : ℕ) (state : ChannelState) (written : Option WrittenText) : Type 0 where
  pub stands : WasGivenSomething (channel_with base tolerance state (text_in written))
  pub kept : AreKept state.store state
  pub contiguous : AreContiguous (window_segments_in state.list)
  pub laid : IsLaidOut (kept_in state) written

module _ (base : Parts) (tolerance : ℕ) (state : ChannelState) (written : Option WrittenText) (bytes : List ℕ) (read : Read) (sound : IsSound base tolerance state written)
    (here : BytesAreReadAs base bytes (playlist_in read)) where
  pub judged : AreTaken (window_segments_in state.list) read.taken.now → read.front ≤ length read.playlist.segments → IsJudged tolerance state written read
  judged taken front =
      let s = sound.stands in
      let p = playlist_in read in
      record {
        stood = stood_before base tolerance s.0 bytes p (kept_in state) written s.1.kept here.read sound.laid;
        contiguous = here.numbers;
        decided = sound.kept;
        entered = subst IsLastEntered (sym s.1.kept) (is_last_entered (told_by base tolerance s.0));
        rising = rises_next base tolerance s.0 bytes state p here.read s.1.kept;
        last = sound.contiguous;
        taken = taken;
        front = front;
      }

  module _ (new : ChannelState) (text : Option WrittenText) (done : Refreshed) (taken : Accepts tolerance state (playlist_in read) new text done) where
    pub is_listed : map kept_parts (window_segments_in new.list) ≡ map kept_parts (playlist_in read).segments
    is_listed =
        let s = sound.stands in
        let p = playlist_in read in
        let g = goes base tolerance state (text_in written) bytes p taken.held taken.next here taken.follows new done taken.state_is taken.done_is s in
        let r = (g.refreshes s.0 s.1).stands in
        let refused = unrefused base tolerance state (text_in written) bytes p taken.held taken.next here taken.follows in
        listed_next base tolerance s.0 bytes p new here.read (ap (λ k. kept_refusal tolerance k p) (sym s.1.kept) ∙ refused) r.kept

    pub is_sound : IsSound base tolerance new text
    is_sound =
        let s = sound.stands in
        let p = playlist_in read in
        let f = taken.follows in
        let g = goes base tolerance state (text_in written) bytes p taken.held taken.next here f new done taken.state_is taken.done_is s in
        let r = (g.refreshes s.0 s.1).stands in
        let laid = laid_next base tolerance s.0 bytes p (kept_in state) (kept_in new) taken.next.written s.1.kept r.kept here.read f.succeeds f.accepted.fit f.accepted.laid in
        subst (IsSound base tolerance new) (sym taken.written_is)
        (record { stands = g.stands; kept = g.decided; contiguous = contiguous_too (window_segments_in new.list) p.segments is_listed here.numbers; laid = laid })

    pub refreshes : Refreshes (channel_with base tolerance state (text_in written)) bytes (Ok done) (channel_with base tolerance new (text_in text))
    refreshes =
        let g = goes base tolerance state (text_in written) bytes (playlist_in read) taken.held taken.next here taken.follows new done taken.state_is taken.done_is sound.stands in
        subst (λ w. Refreshes (channel_with base tolerance state (text_in written)) bytes (Ok done) (channel_with base tolerance new (text_in w))) (sym taken.written_is) g.refreshes

-- ---- what was read

pub read_as : (base : Parts) (bytes : List ℕ) (p : Playlist) → reading limited base bytes ≡ Ok p → BytesAreReadAs base bytes p
read_as base bytes p is = record { read = is; numbers = read_rises base bytes p is }

-- ---- what is kept of the text

-- the step of a playlist that was read
abbrev pub step_of : Read → Step
step_of read = record { playlist = read.playlist; front = read.front; from = read.from; till = read.till; lines = read.lines }

lines_kept : (base : Parts) (segments : List Segment) (ranges : List DateRange) (lines : Option KeptLines) (kept : KeptLines) → lines ≡ Some kept
    → MatchOption lines (Unit {0}) (λ k. LinesWereRead base k segments ranges) → LinesWereRead base kept segments ranges
lines_kept base segments ranges lines kept is h = grind arith

as_match : (base : Parts) (read : Read) (lines : Option KeptLines) → AreKeptLines base (playlist_in read) lines → MatchOption lines (Unit {0}) (λ k. LinesWereRead base k (playlist_in read).segments (playlist_in read).date_ranges)
as_match base read None h = h
as_match base read (Some kept) h = h

module _ (base : Parts) (read : Read) (last : Option LastPlaylist) (taken : IsTakenFrom (kept_segments last) read) (lines : AreKeptLines base (playlist_in read) read.lines) where
  segments_are : (source : LastPlaylist) → IsAfter (step_of read) last source → source.segments.items ≡ (playlist_in read).segments
  segments_are source a = a.segments ∙ ap (with_taken read.front read.playlist.segments) (sym taken)

  pub kept_after : (next : Option LastPlaylist) → MatchOption next (Unit {0}) (IsAfter (step_of read) last) → IsKeptUnderBase base next
  kept_after None a = tt
  kept_after (Some source) a =
      let was = lines_kept base (playlist_in read).segments (playlist_in read).date_ranges read.lines source.lines a.lines (as_match base read read.lines lines) in
      subst (λ xs. LinesWereRead base source.lines xs source.date_ranges) (sym (segments_are source a))
      (subst (LinesWereRead base source.lines (playlist_in read).segments) (sym a.date_ranges) was)

  pub listed_after : (next : Option LastPlaylist) (new : ChannelState) → MatchOption next (Unit {0}) (IsAfter (step_of read) last) → map kept_parts (window_segments_in new.list) ≡ map kept_parts (playlist_in read).segments
      → IsListed next new.list
  listed_after None new a h = tt
  listed_after (Some source) new a h = h ∙ ap (map kept_parts) (sym (segments_are source a))
