use Rattle.toll_files.proofs.LogLemmas.{none_ahead}
use Rattle.toll_files.proofs.log_end.ReadAhead.at.Goals as goal

pub invariant_of-result-else-branch : goal.invariant_of-result-else-branch
invariant_of-result-else-branch g c = record { read = none_ahead _ }
