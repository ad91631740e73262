use Rattle.std.proofs.lemmas.List.Elements.{All-same}
use Rattle.channel_window.specs.Inner.Terms.{HasStood}
use Rattle.channel_window.proofs.KnownBreaks.{nothing_stood, stood_at_place}
use Rattle.channel_window.proofs.marking.Marker.known_break.Goals as goal

pub returns-in-Some-clause-stood : goal.returns-in-Some-clause-stood
returns-in-Some-clause-stood c = λ done long all.
    let stood = c.in-Some.ensures.stood c.args.self.now done (All-same (HasStood c.args.self.now done) _ _ c.as_slice.ensures.value all) in
    stood_at_place c.args.self.now done c.in-Some.known c.args.place c.args.mark.now stood c.in-Some.ensures.place c.requires.place

pub returns-clause-stood : goal.returns-clause-stood
returns-clause-stood c = λ done long all. nothing_stood done _ _ long
