use Rattle.std.proofs.Common.{length}
use Rattle.toll_sql.proofs.version.+version_in.Given as goal

abbrev pub decreases-version_in : goal.decreases-version_in
decreases-version_in l = length l.rows.now
