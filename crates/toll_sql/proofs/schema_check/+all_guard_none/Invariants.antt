use Rattle.std.proofs.Common.{length}
use Rattle.toll_sql.proofs.schema_check.+all_guard_none.Given as goal

abbrev pub decreases-all_guard_none : goal.decreases-all_guard_none
decreases-all_guard_none l = length l.indexes.now
