use Rattle.std.proofs.Common.{subst}
use Rattle.toll_sql.proofs.Common.{state, IsVersionIn}
use Rattle.toll_sql.proofs.MetaLemmas.{read_alone, read_told}
use Rattle.toll_sql.proofs.version.read_first_version.Goals as goal

pub returns-clause-version : goal.returns-clause-version
returns-clause-version g c clean = read_alone (state g.S.Store c.args.conn.now).now.trees c.in_ok-rows.rows.items _ c.as_slice.ensures.value _ c.version_in.ensures (c.in_ok-rows.ensures.rows clean)

pub returns-clause-reported : goal.returns-clause-reported
returns-clause-reported g c clean = read_told (state g.S.Store c.args.conn.now).now.trees c.in_ok-rows.rows.items _ c.as_slice.ensures.value _ c.version_in.ensures (c.in_ok-rows.ensures.rows clean)

pub returns-clause-found : goal.returns-clause-found
returns-clause-found g c clean = (c.in_ok-rows.rows.items, c.in_ok-rows.ensures.read clean, subst (λ xs. IsVersionIn xs c.version_in.result) c.as_slice.ensures.value c.version_in.ensures)
