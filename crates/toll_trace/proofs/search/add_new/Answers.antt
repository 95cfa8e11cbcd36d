use Rattle.std.proofs.Common.{get_or}
use Rattle.toll_trace.proofs.Common.{Contains-get_or}
use Rattle.toll_trace.proofs.search.add_new.Goals as goal

pub bounds-marks-number : goal.bounds-marks-number
bounds-marks-number c = c.requires (get_or c.args.leaving.now c.loop-number.number-index 0) (Contains-get_or c.args.leaving.now c.loop-number.number-index 0 c.loop-number-test.true)
