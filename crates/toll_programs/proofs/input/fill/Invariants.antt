-- The buffer was filled with what the reader gave, and no read failed.
use Rattle.std.proofs.Common.{◌≤◌, ◌-◌, false, length, take}
use Rattle.std.specs.Io.KnownBytes.{Consumes}
use Rattle.toll_protocol.specs.Streams.{RecordsFailure}
use Rattle.toll_programs.proofs.input.fill.Given as goal

abbrev pub invariant-loop-filled : goal.invariant-loop-filled
invariant-loop-filled g l = record {
  within : l.filled ≤ length l.buffer;
  given : Consumes (g.R.Source.unread l.initial.reader) (g.R.Source.unread l.reader) (take l.filled l.buffer);
  sound : RecordsFailure (g.R.Source.has_failed l.initial.reader) (g.R.Source.has_failed l.reader) false;
}

abbrev pub decreases-loop-filled : goal.decreases-loop-filled
decreases-loop-filled g l = length l.buffer - l.filled
