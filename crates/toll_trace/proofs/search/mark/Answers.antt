use Rattle.std.proofs.Common.{get_or, take, arith}
use Rattle.toll_trace.proofs.Common.{take_more, Contains-get_or}
use Rattle.toll_trace.proofs.Marks.{marked_more}
use Rattle.toll_trace.proofs.search.mark.Goals as goal

pub bounds-marks-number : goal.bounds-marks-number
bounds-marks-number c = let below = c.requires (get_or c.args.numbers.now c.loop-number.number-index 0) (Contains-get_or c.args.numbers.now c.loop-number.number-index 0 c.loop-number-test.true) in let sized = c.loop-number.invariant.sized in omega arith

pub loop-number-preserved : goal.loop-number-preserved
loop-number-preserved c =
    let n = get_or c.args.numbers.now c.loop-number.number-index 0 in
    let below = c.requires n (Contains-get_or c.args.numbers.now c.loop-number.number-index 0 c.loop-number-test.true) in
    let sized = c.loop-number.invariant.sized in
    rw (take_more c.args.numbers.now c.loop-number.number-index 0 c.loop-number-test.true)
    (marked_more c.args.marks.now c.loop-number.marks (take c.loop-number.number-index c.args.numbers.now) n (omega arith) c.loop-number.invariant)
