use Rattle.std.proofs.Common.{arith}
use Rattle.toll_files.proofs.LogLemmas.{part_ahead}
use Rattle.toll_files.proofs.log_end.ReadAhead.part.Goals as goal

pub returns-clause-read : goal.returns-clause-read
returns-clause-read g c = part_ahead _ c.args.self.now.bytes.now c.args.self.now.at c.args.at _ _ c.get.result c.args.self.now.read (omega arith) c.get.ensures.lookup
