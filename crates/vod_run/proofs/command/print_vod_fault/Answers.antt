use Rattle.std.proofs.Common.{List, ℕ, inl, inr, arith}
use Rattle.std.specs.Prelude.{Result, Ok, Err, OnOk, OnErr}
use Rattle.std.proofs.lemmas.Grind.{common_steps}
use Rattle.byte_streams.specs.Stands.{SinkStand, TookAll, FailedAfterFront, WasHanded}
use Rattle.vod_run.proofs.command.print_vod_fault.Goals as goal

-- as `hand_out` answers
handed : {A E : Type 0} (r : Result A E) (old new : SinkStand) (bytes : List ℕ) → OnOk r (TookAll old new bytes) → OnErr r (FailedAfterFront old new bytes) → WasHanded old new bytes
handed (Ok x) old new bytes whole front = inl whole
handed (Err e) old new bytes whole front = inr front

pub returns : goal.returns
returns g c = grind (arith, common_steps, handed)
