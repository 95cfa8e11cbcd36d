use Rattle.toll_sql.proofs.CloseLemmas.{unclosed}
use Rattle.toll_sql.proofs.opening.close_connection.Goals as goal

pub returns-in-Ok-clause-copied : goal.returns-in-Ok-clause-copied
returns-in-Ok-clause-copied g c = (c.in-Ok.field-0, c.in-Ok.ensures.copied)

pub returns-clause-unclosed : goal.returns-clause-unclosed
returns-clause-unclosed g c =
    let e = c.in-Err.ensures.err in
    (c.in-Err.store, unclosed c.args.conn c.in-Err.store c.in-Err.error c.fault_of.result c.fault_of.ensures e.0 e.1)
