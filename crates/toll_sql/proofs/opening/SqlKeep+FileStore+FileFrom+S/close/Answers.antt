use Rattle.std.proofs.Common.{OnOk, IfErr, subst}
use Rattle.toll_sql.proofs.Common.{IsLeftIn, IsUnclosed}
use Rattle.toll_sql.proofs.opening.SqlKeep+FileStore+FileFrom+S.close.Goals as goal

pub returns-clause-copied : goal.returns-clause-copied
returns-clause-copied g c = subst (λ conn. OnOk c.close_connection.result (IsLeftIn conn)) c.into_connection.ensures c.close_connection.ensures.copied

pub returns-clause-unclosed : goal.returns-clause-unclosed
returns-clause-unclosed g c = subst (λ conn. IfErr c.close_connection.result (λ fault. (last : _) × IsUnclosed conn last fault)) c.into_connection.ensures c.close_connection.ensures.unclosed
