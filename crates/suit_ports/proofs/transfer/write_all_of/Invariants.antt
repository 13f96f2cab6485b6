-- The front that was sent was appended, and no put has taken nothing so far.
use Rattle.std.proofs.Common.{◌≡◌, ◌≤◌, length, take, ◌-◌}
use Rattle.std.specs.Io.KnownBytes.{Appends}
use Rattle.suit_ports.specs.Room.{KeepsRoom}
use Rattle.suit_ports.proofs.transfer.write_all_of.Given as goal

abbrev pub invariant-loop-sent : goal.invariant-loop-sent
invariant-loop-sent g l = record {
  within : l.sent ≤ length l.bytes;
  so_far : Appends (g.K.Sink.written l.fn.sink) (g.K.Sink.written l.sink) (take l.sent l.bytes);
  room_kept : KeepsRoom (g.K.Sink.room l.fn.sink) (g.K.Sink.room l.sink);
  faults_never_fall : g.K.Sink.faults l.fn.sink ≤ g.K.Sink.faults l.sink;
  no_empties : g.K.Sink.empties l.sink ≡ g.K.Sink.empties l.fn.sink;
}

abbrev pub decreases-loop-sent : goal.decreases-loop-sent
decreases-loop-sent g l = length l.bytes - l.sent
