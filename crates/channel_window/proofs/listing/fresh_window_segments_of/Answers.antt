use Rattle.std.proofs.Common.{◌≡◌, sym, ap, ◌∙◌, arith}
use Rattle.std.specs.Prelude.{filter}
use Rattle.std.proofs.lemmas.Grind.{common_steps}
use Rattle.playlist_model.specs.Segments.{Segment}
use Rattle.channel_window.specs.Inner.Listed.{is_after}
use Rattle.channel_window.proofs.Listed.{all_new, same_new}
use Rattle.channel_window.proofs.Since.{are_contiguous, are_after, are_all}
use Rattle.channel_window.proofs.listing.fresh_window_segments_of.Goals as goal

pub window_segments_after-requires : goal.window_segments_after-requires
window_segments_after-requires c = grind (arith, common_steps, are_contiguous)

pub returns-in-Some-clause-value : goal.returns-in-Some-clause-value
returns-in-Some-clause-value c = λ store.
    let m = c.in-Some.newest.now in
    let number : c.media_sequence.result ≡ m.segment.media_sequence = c.media_sequence.ensures ∙ ap
    (λ (s : Segment). s.media_sequence) c.get.ensures in
    c.window_segments_after.ensures.value ∙ (ap (λ n. filter (is_after n) c.window_segments_since_taken-segments.result) number
    ∙ (ap (filter (is_after m.segment.media_sequence)) c.window_segments_since_taken-segments.ensures
    ∙ (are_after _ _ _ _ _ _ c.requires.contiguous c.requires.taken c.requires.rising c.in-Some.ensures.cases.0
    ∙ sym (same_new store _ _ _ _ c.in-Some.ensures.cases.0))))

pub returns-in-None-clause-value : goal.returns-in-None-clause-value
returns-in-None-clause-value c = λ store.
    c.window_segments_since_taken-segments.ensures ∙ (are_all _ _ _ _ c.requires.taken c.in-None.ensures.cases
    ∙ sym (all_new store _ _ c.in-None.ensures.cases))
