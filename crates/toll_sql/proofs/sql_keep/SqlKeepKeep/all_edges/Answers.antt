use Rattle.std.proofs.Common.{[], IfOk, rules}
use Rattle.toll_sql.proofs.Common.{Holds, HoldsFor, state, all_text, AreEdgesOf}
use Rattle.toll_sql.proofs.EdgesShown.{moves_of_all}
use Rattle.toll_sql.proofs.KeepLemmas.{asked, counted, keeps_asked, unbegun}
use Rattle.toll_sql.proofs.sql_keep.SqlKeepKeep.all_edges.Goals as goal

pub returns-in_err-begin-clause-reading : goal.returns-in_err-begin-clause-reading
returns-in_err-begin-clause-reading g c = unbegun g.S.Store Holds c.in_err-begin.ensures.reading (search rules)

pub returns-in_err-begin-clause-others : goal.returns-in_err-begin-clause-others
returns-in_err-begin-clause-others g c = λ os. let it = unbegun g.S.Store (HoldsFor os) {r = c.from_residual.result} (c.in_err-begin.ensures.apart os) (search rules) in record { goes = it.goes; keeps = it.keeps }

pub returns : goal.returns
returns g c =
    let read = c.read_all_edges-read.ensures in
    let it = asked g.S.Store Holds (λ k live db may. g.met.S.Store.settled k.conn.store db live.is_open may) c.pass_on.new.self c.in_ok-begin.ensures.reading c.pass_on.ensures.same c.pass_on.ensures.requested c.pass_on.ensures.closed read.looks c.in_ok-begin.ensures.stays
    (λ clean content held keeps. read.whole clean held.ours.schema content (moves_of_all (state g.S.Store c.begin.new.self.conn).now.trees content.rows held.rows.each)) _ (λ clean content held. read.reads clean held.ours.schema content (moves_of_all (state g.S.Store c.begin.new.self.conn).now.trees content.rows held.rows.each))
    (λ db r. IfOk r (λ edges. AreEdgesOf db all_text [] edges.items)) (λ _ _ _. tt) (λ clean has idle. read.shown clean) in
    record { reading = it.reading; reads = it.reads; shown = it.shown; others = λ os. keeps_asked g.S.Store (HoldsFor os) (λ k live db may. g.met.S.Store.settled k.conn.store db live.is_open may) c.pass_on.new.self (c.in_ok-begin.ensures.apart os) c.pass_on.ensures.same c.pass_on.ensures.requested c.pass_on.ensures.closed read.looks; lack = λ is. counted (c.pass_on.ensures.lack read.lack is) c.in_ok-begin.ensures.same }
