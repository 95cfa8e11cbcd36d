use Rattle.std.proofs.Common.{length}
use Rattle.toll_sql.proofs.schema_check.+guards_none.Given as goal

abbrev pub decreases-guards_none : goal.decreases-guards_none
decreases-guards_none l = length l.tables.now
