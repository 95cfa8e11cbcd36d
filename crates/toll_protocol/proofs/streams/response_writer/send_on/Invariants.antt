-- This was written after the first bytes, and no write failed.
use Rattle.std.proofs.Common.{◌-◌, ◌≤◌, false, length}
use Rattle.toll_protocol.proofs.Common.{Appends, NoneBlocked, RecordsFailure, bytes_between}
use Rattle.toll_protocol.proofs.streams.response_writer.send_on.Given as goal

abbrev pub invariant-loop-written : goal.invariant-loop-written
invariant-loop-written g l = record {
  within : l.written ≤ length l.bytes;
  begun : l.begun ≤ l.written;
  out : Appends (g.W.Sink.held l.initial.writer) (g.W.Sink.held l.writer) (bytes_between l.begun l.written l.bytes);
  sound : RecordsFailure (g.W.Sink.has_failed l.initial.writer) (g.W.Sink.has_failed l.writer) false;
  unblocked : NoneBlocked (g.W.Sink.blocked l.initial.writer) (g.W.Sink.blocked l.writer);
}

abbrev pub decreases-loop-written : goal.decreases-loop-written
decreases-loop-written g l = length l.bytes - l.written
