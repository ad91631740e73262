use Rattle.std.proofs.Common.{ap}
use Rattle.vod_run.proofs.WholeRun.{is_one, still_fair, still_fair_sink}
use Rattle.vod_run.proofs.command.command_vod.Goals as goal

pub returns-in-Err-clause-fault : goal.returns-in-Err-clause-fault
returns-in-Err-clause-fault g c one =
    let said = c.in-Err.ensures in
    record {
      fault = c.in-Err.fault;
      failed = record {
        kind = said.kind;
        write = λ is. said.write (is_one _ _ is);
        nothing = λ other. ap g.K.Sink.stand (said.nothing other);
        order = said.order;
        playlist = said.playlist;
        number_range = λ is. said.number_range (is_one _ _ is);
        source = still_fair _ _ _ said.source;
        to_end = said.to_end;
        sink = still_fair_sink _ _ _ said.sink;
      };
      printed = c.print_vod_fault.ensures;
    }
