use Rattle.std.proofs.Common.{IfOk, rules}
use Rattle.toll_sql.proofs.Common.{Holds, HoldsFor, owner_kind, AreReported}
use Rattle.toll_sql.proofs.KeepLemmas.{asked, counted, reads_asked, unbegun}
use Rattle.toll_sql.proofs.sql_keep.SqlKeepKeep.owners.Goals as goal

pub returns-in_err-begin-clause-reading : goal.returns-in_err-begin-clause-reading
returns-in_err-begin-clause-reading g c = unbegun g.S.Store Holds c.in_err-begin.ensures.reading (search rules)

pub returns-in_err-begin-clause-alone : goal.returns-in_err-begin-clause-alone
returns-in_err-begin-clause-alone g c = λ os. record { reading = unbegun g.S.Store (HoldsFor os) (c.in_err-begin.ensures.apart os) (search rules); reads = λ clean content held. search rules }

pub returns : goal.returns
returns g c =
    let read = c.read_owners-read.ensures in
    let it = asked g.S.Store Holds (λ k live db may. g.met.S.Store.settled k.conn.store db live.is_open may) c.pass_on.new.self c.in_ok-begin.ensures.reading c.pass_on.ensures.same c.pass_on.ensures.requested c.pass_on.ensures.closed read.looks c.in_ok-begin.ensures.stays
    (λ clean content held keeps. read.whole clean held.ours.schema content.owners held.rows.owners) _ (λ clean content held. read.reads clean held.ours.schema content.owners held.rows.owners)
    (λ db r. IfOk r (λ rows. AreReported owner_kind db rows.items)) (λ _ _ _. tt) (λ clean has idle. read.shown clean) in
    record { reading = it.reading; reads = it.reads; shown = it.shown; alone = λ os. reads_asked g.S.Store (HoldsFor os) (λ k live db may. g.met.S.Store.settled k.conn.store db live.is_open may) c.pass_on.new.self (c.in_ok-begin.ensures.apart os) c.pass_on.ensures.same c.pass_on.ensures.requested c.pass_on.ensures.closed read.looks (λ clean content held keeps. read.whole clean held.ours.schema content.owners held.rows.owners) _ (λ clean content held. read.reads clean held.ours.schema content.owners held.rows.owners); lack = λ is. counted (c.pass_on.ensures.lack read.lack is) c.in_ok-begin.ensures.same }
