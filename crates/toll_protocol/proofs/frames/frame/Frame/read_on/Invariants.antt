-- The bytes after those from before are what the reader gave, and no read failed.
use Rattle.std.proofs.Common.{◌≡◌, ◌+◌, ◌-◌, false, length}
use Rattle.toll_protocol.proofs.Common.{AppendsRead, NoneBlocked, RecordsFailure}
use Rattle.toll_protocol.specs.declared.frames.encoding.TheConstants.{LENGTH_BYTES}
use Rattle.toll_protocol.proofs.frames.frame.Frame.read_on.Given as goal

abbrev pub invariant-loop-piece : goal.invariant-loop-piece
invariant-loop-piece g l = record {
  given : AppendsRead (g.R.Source.unread l.initial.reader) (g.R.Source.unread l.reader) l.initial.self.bytes.items l.self.bytes.items;
  sound : RecordsFailure (g.R.Source.has_failed l.initial.reader) (g.R.Source.has_failed l.reader) false;
  unblocked : NoneBlocked (g.R.Source.blocked l.initial.reader) (g.R.Source.blocked l.reader);
  write_side : g.R.Source.write_side l.reader ≡ g.R.Source.write_side l.initial.reader;
}

abbrev pub decreases-loop-piece : goal.decreases-loop-piece
decreases-loop-piece g l = l.most + LENGTH_BYTES - length l.self.bytes.items
