-- The window that was written last, from what is kept.
use Rattle.std.specs.Prelude.{◌≡◌, ℕ, List, [], ◌∷◌, reverse, Option, Some, None}
use Rattle.std.specs.List.{AllByRecursion}
use Rattle.playlist_model.specs.declared.Playlist.{Playlist}
use Rattle.channel_spec.specs.declared.heading.Heading.{Heading}
use Rattle.stitcher.specs.Stitched.{Piece, Item, numbered}
use Rattle.channel_spec.specs.LiveLaws.{GoesOn}
use Rattle.channel_spec.specs.Sound.{IsSoundEvent}
use Rattle.channel_spec.specs.Live.{Event, refreshed, told, last_playlist, succession_fault}
use Rattle.channel_spec.specs.Kept.{Kept, kept_of, kept_items, stitched_on, window_by}

-- its pieces and its items, the newest first
abbrev pub last_pieces : Option Heading → Kept → List Piece
last_pieces None kept = []
last_pieces (Some last) kept = stitched_on last.end_list kept.so_far kept.shown kept.rest

abbrev pub last_items : Kept → List Item
last_items kept = numbered kept.numbers (last_pieces kept.last kept)

-- the items of the next window go on those of the last one, whatever happened before
pub record ItemsGoOnFrom (tolerance : ℕ) (playlist : Playlist) (before : List Event) : Type 0 where
  pub last : reverse (last_items (kept_of (told tolerance before))) ≡ window_by (last_playlist (told tolerance before).accepted) (told tolerance before).start (told tolerance before).history
  pub on : succession_fault (last_playlist (told tolerance before).accepted) playlist ≡ None →
      GoesOn (last_items (kept_of (told tolerance before))) (kept_items tolerance (kept_of (told tolerance before)) playlist)

abbrev pub ItemsGoOn : Type 0
ItemsGoOn = (tolerance : ℕ) (playlist : Playlist) (before : List Event) → AllByRecursion IsSoundEvent (refreshed playlist ∷ before) → ItemsGoOnFrom tolerance playlist before
