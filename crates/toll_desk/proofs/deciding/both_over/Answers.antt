use Rattle.toll_desk.proofs.OccupiedLemmas.{through_fault}
use Rattle.toll_desk.proofs.deciding.both_over.Goals as goal

pub returns-in-Err-clause-reading : goal.returns-in-Err-clause-reading
returns-in-Err-clause-reading g c = through_fault g.K.Keep.meaning c.args.keep.now c.slice.new.keep c.args.pending.now c.in-Err.fault c.in-Err.ensures.reading
