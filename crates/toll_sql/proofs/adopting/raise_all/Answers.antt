use Rattle.toll_sql.proofs.Common.{state, IsShapedAs, IsFirst, Raised, first_ours}
use Rattle.toll_sql.proofs.RaiseLemmas.{all_brought, none_brought, start_first}
use Rattle.toll_sql.proofs.adopting.raise_all.Goals as goal

pub returns-in-Ok : goal.returns-in-Ok
returns-in-Ok g c =
    let old = state g.S.Store c.args.conn.now in
    record { brings = all_brought IsFirst Raised (IsShapedAs first_ours) old (state g.S.Store c.raise_or_none.new.conn) (start_first old) c.in-Ok.ensures.whole }

pub returns-in-Err : goal.returns-in-Err
returns-in-Err g c =
    let old = state g.S.Store c.args.conn.now in
    record { brings = none_brought IsFirst Raised (IsShapedAs first_ours) old (state g.S.Store c.raise_or_none.new.conn) (start_first old) c.in-Err.error c.open_fault_of.result c.open_fault_of.ensures c.in-Err.ensures.whole }
