-- The buffer was filled after the first bytes with what the reader gave, each time before it was settled. No read failed.
use Rattle.std.proofs.Common.{◌≡◌, ◌≤◌, ◌-◌, ◌++◌, false, length, take, drop}
use Rattle.toll_protocol.proofs.Common.{Consumes, IsSettled, NoneBlocked, RecordsFailure}
use Rattle.toll_protocol.specs.Filled.{IsFilled}
use Rattle.toll_protocol.proofs.ReadLemmas.{GaveWhile}
use Rattle.toll_protocol.proofs.http_messages.request_reader.fill_on.Given as goal

abbrev pub invariant-loop-reader : goal.invariant-loop-reader
invariant-loop-reader g l = record {
  filled : IsFilled l.text l.filled l.search;
  begun : l.begun ≤ l.filled;
  front : take l.begun l.text ≡ take l.begun l.initial.text;
  given : Consumes (g.R.Source.unread l.initial.reader) (g.R.Source.unread l.reader) (drop l.begun (take l.filled l.text));
  only : GaveWhile (λ given. ¬ (IsSettled (take l.begun l.initial.text ++ given))) (g.R.Source.reads l.initial.reader) (g.R.Source.reads l.reader) (drop l.begun (take l.filled l.text));
  sound : RecordsFailure (g.R.Source.has_failed l.initial.reader) (g.R.Source.has_failed l.reader) false;
  unblocked : NoneBlocked (g.R.Source.blocked l.initial.reader) (g.R.Source.blocked l.reader);
  write_side : g.R.Source.write_side l.reader ≡ g.R.Source.write_side l.initial.reader;
}

abbrev pub decreases-loop-reader : goal.decreases-loop-reader
decreases-loop-reader g l = length l.text - l.filled
