-- The playlist that is written, and its text.
use Rattle.std.specs.Prelude.{ℕ, List, map, max}
use Rattle.playlist_model.specs.declared.Playlist.{Playlist}
use Rattle.stitcher.specs.declared.OutSegment.{OutSegment}
use Rattle.stitcher.specs.Written.{written_item}
use Rattle.playlist_write.specs.declared.OutPlaylist.{OutPlaylist}
use Rattle.playlist_write.specs.Owed.{playlist_text}
use Rattle.channel_spec.specs.Live.{Told, window_after, written_date_ranges, date_range_text}

-- what is written of a playlist with the texts of these date ranges, and these segments, in place of its own
abbrev pub out_playlist : Playlist → List (List ℕ) → List OutSegment → OutPlaylist
out_playlist playlist date_ranges segments = record {
  version = max playlist.version 6;
  target_duration = playlist.target_duration;
  playlist_type = playlist.playlist_type;
  independent_segments = playlist.independent_segments;
  end_list = playlist.end_list;
  date_ranges = date_ranges;
  segments = segments;
}

-- the playlist that is written after this refresh was accepted
abbrev pub owed_playlist : Told → Playlist → OutPlaylist
owed_playlist told playlist =
    out_playlist playlist (map date_range_text (written_date_ranges told playlist)) (map written_item (window_after told playlist))

abbrev pub owed_text : Told → Playlist → List ℕ
owed_text told playlist = playlist_text (owed_playlist told playlist)
