use Rattle.std.proofs.Common.{length}
use Rattle.toll_sql.proofs.schema_check.+refer_to_none.Given as goal

abbrev pub decreases-refer_to_none : goal.decreases-refer_to_none
decreases-refer_to_none l = length l.tables.now
