use Rattle.toll_keep.proofs.InMemory.{named_slice}
use Rattle.toll_keep.proofs.mem_keep.MemKeepKeep.slice.Goals as goal

pub returns-clause-named : goal.returns-clause-named
returns-clause-named c = named_slice c.args.self.now c.args.owner.now c.in_ok-shared_slice.field-0 c.in_ok-shared_slice.ensures.reads
