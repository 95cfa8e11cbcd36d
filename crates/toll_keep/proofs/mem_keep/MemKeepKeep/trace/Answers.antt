use Rattle.std.proofs.Common.{Ok, refl}
use Rattle.toll_keep.proofs.Common.{KeepFault, content_of}
use Rattle.toll_keep.proofs.InMemory.{agree_trace, memory_reads}
use Rattle.toll_keep.proofs.mem_keep.MemKeepKeep.trace.Goals as goal

pub returns-clause-alone : goal.returns-clause-alone
returns-clause-alone c = λ os among. record {
  reading = memory_reads os c.args.self.now c.args.self.now _ tt refl;
  reads = λ now content held. agree_trace {E = KeepFault} os (content_of c.args.self.now) content c.args.owners.now c.args.from.now c.args.way (Ok c.in_ok-owners_trace.field-0) held among c.in_ok-owners_trace.ensures;
}
