use Rattle.toll_keep.proofs.InMemory.{memory_makes, memory_stays}
use Rattle.toll_keep.proofs.mem_keep.MemKeepKeep.apply.Goals as goal

pub returns-clause-alone : goal.returns-clause-alone
returns-clause-alone c = λ os.
    let made = c.change.ensures in
    memory_makes os c.args.self.now c.change.new.self c.args.changes.now c.change.result made.fault made.all made.none

pub returns-clause-others : goal.returns-clause-others
returns-clause-others c = λ os outside.
    let made = c.change.ensures in
    memory_stays os c.args.self.now c.change.new.self c.args.changes.now c.change.result made.fault made.all made.none outside
