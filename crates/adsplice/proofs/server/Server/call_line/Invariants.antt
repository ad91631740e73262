use Rattle.std.proofs.Common.{length}
use Rattle.byte_streams.specs.contracts.calls.AnyReads.TheImpl.{ghosts as reads}
use Rattle.byte_streams.specs.contracts.calls.AnyWrites.TheImpl.{ghosts as writes}
use Rattle.mio.specs.contracts.net.stream.TcpStream.{the_row}
use Rattle.mio.specs.contracts.net.stream.TcpStreamRead.TheImpl.{ghosts as read, dict as read_dict}
use Rattle.mio.specs.contracts.net.stream.TcpStreamWrite.TheImpl.{ghosts as write, dict as write_dict}
use Rattle.mio.specs.declared.net.stream.TcpStream.{TcpStream}
use Rattle.connections.specs.Devices.{Calls, DeviceStand}
use Rattle.connections.specs.Lines.{LineIsCalled}
use Rattle.connections.specs.Runs.{HasRun}
use Rattle.adsplice.specs.Inner.Serving.{AllAskStill}
use Rattle.adsplice.proofs.server.Server.call_line.Given as goal

abbrev pub incoming : TcpStream × Calls → DeviceStand
incoming d = record { bytes = (reads the_row read read_dict).remaining d.0; calls = d.1 }

abbrev pub outgoing : TcpStream × Calls → DeviceStand
outgoing d = record { bytes = (writes the_row write write_dict).contents d.0; calls = d.1 }

abbrev pub invariant-loop : goal.invariant-loop
invariant-loop l = record {
  run : HasRun l.fn.connections l.connections;
  called : LineIsCalled l.fn.self.line l.self.line;
  asked : AllAskStill incoming outgoing (length l.fn.block) l.fn.self l.self l.fn.connections l.connections;
}
