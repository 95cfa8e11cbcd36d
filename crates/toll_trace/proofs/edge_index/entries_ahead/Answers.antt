use Rattle.std.proofs.Common.{take}
use Rattle.toll_trace.proofs.Walks.{with_item}
use Rattle.toll_trace.proofs.Ahead.{ahead_more}
use Rattle.toll_trace.proofs.edge_index.entries_ahead.Goals as goal

pub loop-place-preserved : goal.loop-place-preserved
loop-place-preserved c =
    rw (with_item c.args.entering.now c.loop-place.place-index c.loop-place-item.result c.loop-place-test.true c.loop-place-item.is, c.in_ok-push.ensures.items)
    (ahead_more c.args.way (take c.loop-place.place-index c.args.entering.now) c.args.leaving.now c.loop-place-item.result c.ahead_of.result c.loop-place.sources.items c.loop-place.invariant c.ahead_of.ensures)
