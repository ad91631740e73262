use Rattle.std.proofs.Common.{rules, ◌≡◌, ◌∙◌, List, ◌++◌, ap, sym}
use Rattle.std.specs.Option.{option_copied}
use Rattle.break_finder.specs.Known.{carry}
use Rattle.channel_spec.specs.Marking.{Moment}
use Rattle.channel_spec.specs.Successor.{has_init_sections}
use Rattle.playlist_kept.specs.Kept.{playlist_in}
use Rattle.channel_window.specs.declared.showing.Showing.{Showing}
use Rattle.channel_window.specs.Marking.{Hint, mark_on, length_after}
use Rattle.channel_window.proofs.ShownWith.{newest_entered, shown_is}
use Rattle.channel_window.proofs.showing.shown_with.Goals as goal

pub mark-requires : goal.mark-requires
mark-requires c =
    let s = c.args.state.now in
    newest_entered s c.as_slice-shown.result.now c.in_ok-newest.newest c.as_slice-shown.ensures c.requires.decided c.requires.entered (c.in_ok-newest.ensures.mark s.store) (c.in_ok-newest.ensures.decided s.store)

pub returns : goal.returns
returns c =
    let s = c.args.state.now in
    let p = (playlist_in c.args.read.now) in
    let newest = c.in_ok-newest.newest in
    let marks = c.in_ok-marks.marks in
    let marked = marks.list.items in
    let fresh = c.fresh_window_segments_of-fresh.result in
    let moment : Moment = record { tolerance = c.args.tolerance; target_duration = p.target_duration; with_init_sections = has_init_sections p.segments; breaks = c.in_ok-knowledge.knowledge; store = s.store } in
    let marked_are : (hints : List Hint) × (marked ≡ mark_on moment newest s.shown.entered hints fresh c.new-2.result) = (c.in_ok-marks.ensures.list.0, search (rules, c.in_ok-marks.ensures.list.1)) in
    let a : Showing = record { knowledge = c.in_ok-knowledge.knowledge; come = marks.list; fresh = c.len-count.result; entered = marks.entered; so_far = marks.so_far } in
    let long : marks.so_far ≡ length_after s.store newest s.shown.so_far marked = search rules in
    let named : option_copied c.mark_text_in_window.result ≡ newest = search rules in
    let carried : c.in_ok-knowledge.knowledge ≡ carry (record { playlist = p; carried = newest }) s.shown.knowledge =
    c.in_ok-knowledge.ensures.carried ∙ ap (λ o. carry (record { playlist = p; carried = o }) s.shown.knowledge) named in
    shown_is c.args.tolerance s p c.as_slice-shown.result.now newest c.fresh_window_segments_of-fresh.result c.newest_shown_end.result c.new-2.result marked_are.0 marked a c.requires.decided c.requires.entered c.as_slice-shown.ensures
    (c.in_ok-newest.ensures.mark s.store) (c.in_ok-newest.ensures.decided s.store) carried (c.fresh_window_segments_of-fresh.ensures.value s.store) (c.newest_shown_end.ensures s.store) c.new-2.ensures marked_are.1 (s.list ++ marked) (ap (λ xs. xs ++ marked) (sym c.as_slice-shown.ensures))
    c.requires.contiguous c.requires.rising c.in_ok-marks.ensures.entered c.requires.previous c.in_ok-marks.ensures.common c.in_ok-marks.ensures.again c.in_ok-newest.ensures.last c.len-count.ensures long
