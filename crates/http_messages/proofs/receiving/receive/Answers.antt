use Rattle.std.proofs.Common.{◌++◌, [], append-nil, take, subst, refl, arith}
use Rattle.std.specs.Io.KnownBytes.{Consumes}
use Rattle.std.proofs.KnownBytes.{Consumes-trans}
use Rattle.std.proofs.lemmas.Grind.{common_steps}
use Rattle.http_messages.specs.Arriving.{IsArrived}
use Rattle.http_messages.proofs.Whole.{has_asked, held_is_asked}
use Rattle.http_messages.proofs.receiving.receive.Goals as goal

pub returns-in-Whole-clause-asked : goal.returns-in-Whole-clause-asked
returns-in-Whole-clause-asked g c =
    let block = take c.in-Ok.count c.read.new.buf in
    has_asked _ (g.S.Source.stand c.loop.source) _ c.loop.arriving block _ _ _ c.loop.invariant.given c.in-Ok.ensures.bytes.0 refl refl
    (subst (IsArrived (c.loop.arriving ++ block)) c.in-Whole.is c.in_ok-asked.ensures)

pub returns-in-Whole-clause-whole : goal.returns-in-Whole-clause-whole
returns-in-Whole-clause-whole g c it h = held_is_asked _ _ _ it (returns-in-Whole-clause-asked g c) h

pub loop-preserved : goal.loop-preserved
loop-preserved g c = grind (arith, common_steps)

pub returns-then-count-eq0-clause-to_end : goal.returns-then-count-eq0-clause-to_end
returns-then-count-eq0-clause-to_end g c is =
    let read = rw c.if-count-eq0.true at c.in-Ok.ensures.bytes in
    record {
      count = c.loop.counter;
      reads = λ h. omega (arith, c.in-Ok.ensures.calls, c.loop.invariant.called);
      bytes = record { input = c.loop.arriving; given = subst (Consumes _ _) (append-nil _) (Consumes-trans _ _ _ _ [] c.loop.invariant.given read.0); many = c.loop.invariant.many };
    }
