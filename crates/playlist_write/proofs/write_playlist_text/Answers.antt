use Rattle.std.proofs.Common.{◌≡◌, ◌++◌, List, ℕ, ap, refl, string_bytes}
use Rattle.std.specs.Prelude.{codes}
use Rattle.stitcher.specs.declared.OutSegment.{OutSegment}
use Rattle.playlist_write.specs.declared.OutPlaylist.{OutPlaylist}
use Rattle.playlist_write.specs.Owed.{playlist_text, said_text, with_feed, header_owed, date_ranges_text, segments_owed, none_yet, ended_owed}
use Rattle.playlist_write.proofs.Taken.{front_in_date_ranges, front_in_segments, front_in_last, whole_text, as_parts, on_err, ok_with, err_with}
use Rattle.playlist_write.proofs.write_playlist_text.Goals as goal

-- the text, from its front and from what it has after that
text_from : (p : OutPlaylist) (front : List ℕ) (date_ranges : List (List ℕ)) (segments : List OutSegment) → front ≡ with_feed (codes "#EXTM3U") ++ said_text (header_owed p)
    → date_ranges ≡ p.date_ranges → segments ≡ p.segments
    → front ++ (date_ranges_text date_ranges ++ (said_text (segments_owed none_yet segments) ++ said_text (ended_owed p.end_list))) ≡ playlist_text p
text_from p front date_ranges segments h e f =
    as_parts front (with_feed (codes "#EXTM3U")) (said_text (header_owed p)) (date_ranges_text date_ranges) (date_ranges_text p.date_ranges)
    (said_text (segments_owed none_yet segments)) (said_text (segments_owed none_yet p.segments)) (said_text (ended_owed p.end_list))
    h (ap date_ranges_text e) (ap (λ s. said_text (segments_owed none_yet s)) f)

pub returns-in_err-write_pieces_of_date_ranges-clause-err : goal.returns-in_err-write_pieces_of_date_ranges-clause-err
returns-in_err-write_pieces_of_date_ranges-clause-err g c =
    let p = c.args.playlist.now in
    let front = string_bytes c.in_ok-held.held in
    let later = said_text (segments_owed none_yet p.segments) ++ said_text (ended_owed p.end_list) in
    let e = text_from p front c.as_slice.result.now p.segments c.in_ok-held.ensures c.as_slice.ensures refl in
    on_err c.from_residual-in_err-write_pieces_of_date_ranges.result _
    (front_in_date_ranges _ _ front (date_ranges_text c.as_slice.result.now) later (playlist_text p) e c.in_err-write_pieces_of_date_ranges.ensures.err)

pub returns-in_err-write_pieces_of_segments-clause-err : goal.returns-in_err-write_pieces_of_segments-clause-err
returns-in_err-write_pieces_of_segments-clause-err g c =
    let p = c.args.playlist.now in
    let front = string_bytes c.in_ok-held.held in
    let date_ranges = date_ranges_text c.as_slice.result.now in
    let segments = said_text (segments_owed none_yet c.items.result) in
    let end = said_text (ended_owed p.end_list) in
    let held = string_bytes c.write_pieces_of_date_ranges.new.held in
    let e = text_from p front c.as_slice.result.now c.items.result c.in_ok-held.ensures c.as_slice.ensures c.items.ensures in
    on_err c.from_residual-in_err-write_pieces_of_segments.result _
    (front_in_segments _ _ _ front date_ranges held segments end (playlist_text p) e c.in_ok-write_pieces_of_date_ranges.ensures.ok (rw (c.new-nothing.ensures, c.none-no_keys.ensures) at c.in_err-write_pieces_of_segments.ensures.err))

pub returns-clause-err : goal.returns-clause-err
returns-clause-err g c =
    let p = c.args.playlist.now in
    let front = string_bytes c.in_ok-held.held in
    let date_ranges = date_ranges_text c.as_slice.result.now in
    let segments = said_text (segments_owed none_yet c.items.result) in
    let end = said_text (ended_owed p.end_list) in
    let held = string_bytes c.write_pieces_of_date_ranges.new.held in
    let last = string_bytes c.write_pieces_of_segments.new.held in
    let e = text_from p front c.as_slice.result.now c.items.result c.in_ok-held.ensures c.as_slice.ensures c.items.ensures in
    err_with c.write_playlist_end.result _ _
    (front_in_last _ _ _ _ front date_ranges held segments last end (playlist_text p) e c.in_ok-write_pieces_of_date_ranges.ensures.ok (rw (c.new-nothing.ensures, c.none-no_keys.ensures) at c.in_ok-write_pieces_of_segments.ensures.ok))
    c.write_playlist_end.ensures.err

pub returns-clause-ok : goal.returns-clause-ok
returns-clause-ok g c =
    let p = c.args.playlist.now in
    let front = string_bytes c.in_ok-held.held in
    let date_ranges = date_ranges_text c.as_slice.result.now in
    let segments = said_text (segments_owed none_yet c.items.result) in
    let end = said_text (ended_owed p.end_list) in
    let held = string_bytes c.write_pieces_of_date_ranges.new.held in
    let last = string_bytes c.write_pieces_of_segments.new.held in
    let e = text_from p front c.as_slice.result.now c.items.result c.in_ok-held.ensures c.as_slice.ensures c.items.ensures in
    ok_with c.write_playlist_end.result _ _
    (whole_text _ _ _ _ front date_ranges held segments last end (playlist_text p) e c.in_ok-write_pieces_of_date_ranges.ensures.ok (rw (c.new-nothing.ensures, c.none-no_keys.ensures) at c.in_ok-write_pieces_of_segments.ensures.ok))
    c.write_playlist_end.ensures.ok
