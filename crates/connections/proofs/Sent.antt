-- A reply grows shorter, and what was read of a request longer, with each turn that goes on.
use Rattle.std.proofs.Common.{◌≡◌, ℕ, zero, suc, List, [], ◌∷◌, ap, arith}
use Rattle.connections.specs.Clients.{AreElsewhere, RepliesAreSent, RequestsAreHeard, WentOn}
use Rattle.connections.specs.Runs.{EventsLeadTo}
use Rattle.connections.specs.Table.{State, ClientEvent, arrival, request_bytes, reply_bytes, departure, at}

-- what happens elsewhere leaves a client as it is
stays_elsewhere : (place : ℕ) (first last : State) (events : List ClientEvent) → EventsLeadTo first events last → AreElsewhere place events → at last place ≡ at first place
stays_elsewhere place first last [] run others = ap (λ s. at s place) run
stays_elsewhere place first last (arrival k ∷ before) (middle, run, h) others = grind (arith, stays_elsewhere place first middle before run others.1)
stays_elsewhere place first last (request_bytes k piece ∷ before) (middle, run, h) others = grind (arith, stays_elsewhere place first middle before run others.1)
stays_elsewhere place first last (reply_bytes k piece ∷ before) (middle, run, h) others = grind (arith, stays_elsewhere place first middle before run others.1)
stays_elsewhere place first last (departure k ∷ before) (middle, run, h) others = grind (arith, stays_elsewhere place first middle before run others.1)

pub requests_are_heard : RequestsAreHeard
unfolding WentOn
requests_are_heard zero place old new same = grind arith
requests_are_heard (suc n) place old new (before, middle, events, went, run, others, read) = grind (arith, stays_elsewhere, requests_are_heard n place old before went)

pub replies_are_sent : RepliesAreSent
unfolding WentOn
replies_are_sent zero place old new same = grind arith
replies_are_sent (suc n) place old new (before, middle, events, went, run, others, sent) = grind (arith, stays_elsewhere, replies_are_sent n place old before went)
