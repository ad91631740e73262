use Rattle.std.proofs.Common.{rules, ◌≡◌, true, ap, sym, ◌∙◌}
use Rattle.playlist_model.specs.Inner.Heading.{Heading}
use Rattle.segment_state.specs.Continued.{IsStop}
use Rattle.playlist_parse.specs.Inner.HeadingView.{heading_view}
use Rattle.playlist_parse.proofs.source.reading_progress_agrees.Goals as goal

pub returns-then-not-has_no_more_than : goal.returns-then-not-has_no_more_than
returns-then-not-has_no_more_than c = λ no. absurd (cc no)

pub returns-then-not-heading : goal.returns-then-not-heading
returns-then-not-heading c = λ no. absurd (cc no)

pub returns-then-not-is : goal.returns-then-not-is
returns-then-not-is c = λ no. absurd (cc no)

pub returns-in_err-stop : goal.returns-in_err-stop
returns-in_err-stop c = search rules

pub returns-in-Some : goal.returns-in-Some
returns-in-Some c = λ stands.
    let media : c.heading-heading.result.has_media ≡ true = search rules in
    let is_same : c.is.result ≡ true = search rules in
    let same : c.heading.result ≡ c.heading-heading.result = c.is.ensures is_same in
    let there : IsStop c.args.there.now.standing c.in-Some.stop = search rules in record {
      stop = c.in-Some.stop;
      here = c.stands_at.ensures stands;
      there = there;
      heading = sym c.heading.ensures ∙ ap heading_view same ∙ c.heading-heading.ensures;
      some = ap (λ (h : Heading). h.has_media) (sym c.heading-heading.ensures) ∙ media;
      fewer = let counted : c.has_no_more_than.result ≡ true = search rules in c.has_no_more_than.ensures counted;
    }

pub returns-in-None : goal.returns-in-None
returns-in-None c = λ no. absurd (cc no)
