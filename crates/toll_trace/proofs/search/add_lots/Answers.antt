use Rattle.std.proofs.Common.{get_or, take, sym, rules}
use Rattle.toll_trace.proofs.Common.{take_more, Contains-get_or}
use Rattle.toll_trace.proofs.Marks.{added_more}
use Rattle.toll_trace.proofs.search.add_lots.Goals as goal

pub bounds-all-number : goal.bounds-all-number
bounds-all-number c = c.requires (get_or c.args.numbers.now c.loop-number.number-index 0) (Contains-get_or c.args.numbers.now c.loop-number.number-index 0 c.loop-number-test.true)

pub offset_bounds-all-number : goal.offset_bounds-all-number
offset_bounds-all-number c = let below = c.requires (get_or c.args.numbers.now c.loop-number.number-index 0) (Contains-get_or c.args.numbers.now c.loop-number.number-index 0 c.loop-number-test.true) in search rules

pub loop-number-preserved : goal.loop-number-preserved
loop-number-preserved c =
    let n = get_or c.args.numbers.now c.loop-number.number-index 0 in
    let below = c.requires n (Contains-get_or c.args.numbers.now c.loop-number.number-index 0 c.loop-number-test.true) in
    rw (take_more c.args.numbers.now c.loop-number.number-index 0 c.loop-number-test.true, c.in_ok-push.ensures.items)
    (added_more c.args.all.now c.args.lots.now.items c.loop-number.lots.items (take c.loop-number.number-index c.args.numbers.now) n c.index-all-number.result (below, sym c.index-all-number.is) c.loop-number.invariant)
