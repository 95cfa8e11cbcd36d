use Rattle.std.proofs.Common.{◌≡◌, [], length, take}
use Rattle.toll_trace.proofs.Common.{AreEntered, is_marked}
use Rattle.toll_trace.proofs.Walks.{entries_of}
use Rattle.toll_trace.proofs.search.led_on.Given as goal

abbrev pub invariant-loop-number : goal.invariant-loop-number
invariant-loop-number l = record {
  sized : length l.lows ≡ length l.fn.lows;
  entered : AreEntered l.joints.targets.items (is_marked l.marks) (entries_of l.joints.sources (take l.number-index l.front)) l.lows [] l.numbers.items;
}
