use Rattle.toll_history.proofs.LimitsKept.{limits_kept, owners_kept, units_kept}
use Rattle.toll_history.proofs.laws.counts_are_limited.Goals as goal

pub returns-clause-owned : goal.returns-clause-owned
returns-clause-owned c = limits_kept

pub returns-clause-owners : goal.returns-clause-owners
returns-clause-owners c = owners_kept

pub returns-clause-units : goal.returns-clause-units
returns-clause-units c = units_kept
