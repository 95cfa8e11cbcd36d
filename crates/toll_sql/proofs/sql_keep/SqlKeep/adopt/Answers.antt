use Rattle.std.proofs.Common.{sym, subst}
use Rattle.toll_sql.proofs.Common.{state, Adopts, Database, HoldsFor, IsOurs}
use Rattle.toll_sql.specs.Opening.{succeeds}
use Rattle.toll_sql.proofs.sql_keep.SqlKeep.adopt.Goals as goal

pub returns-in-Ok-clause-found : goal.returns-in-Ok-clause-found
returns-in-Ok-clause-found g c = (subst (λ conn. Adopts (state g.S.Store c.args.conn) (state g.S.Store conn) succeeds) (sym c.over.ensures.0) c.in-Ok.ensures.adopts, c.over.ensures.1)

pub returns-in-Ok-clause-held : goal.returns-in-Ok-clause-held
returns-in-Ok-clause-held g c = λ clean os content held.
    let adopts = subst (λ conn. Adopts (state g.S.Store c.args.conn) (state g.S.Store conn) succeeds) (sym c.over.ensures.0) c.in-Ok.ensures.adopts in
    let same = adopts.stays clean held.ours.schema in
    record { ours = subst IsOurs (sym same) held.ours; idle = (adopts.over.shown clean).1; rows = subst (λ (db : Database). HoldsFor os db.trees content) (sym same) held.rows }
