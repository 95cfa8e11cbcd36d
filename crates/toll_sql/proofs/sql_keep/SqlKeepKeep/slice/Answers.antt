use Rattle.std.proofs.Common.{◌≡◌, None, IfOk, IfSome, rules}
use Rattle.toll_sql.proofs.Common.{Holds, HoldsFor, state, AllByRecursion, AreRowsIn, IsReportedUnknown, tables_of_owners}
use Rattle.toll_sql.proofs.Alone.{told_reads_for, told_whole_for}
use Rattle.toll_sql.proofs.KeepLemmas.{asked, counted, keeps_asked, ok_asked, reads_asked, unbegun}
use Rattle.toll_sql.proofs.sql_keep.SqlKeepKeep.slice.Goals as goal

pub returns-in_err-begin-clause-reading : goal.returns-in_err-begin-clause-reading
returns-in_err-begin-clause-reading g c = unbegun g.S.Store Holds c.in_err-begin.ensures.reading (search rules)

pub returns-in_err-begin-clause-others : goal.returns-in_err-begin-clause-others
returns-in_err-begin-clause-others g c = λ os. let it = unbegun g.S.Store (HoldsFor os) {r = c.from_residual.result} (c.in_err-begin.ensures.apart os) (search rules) in record { goes = it.goes; keeps = it.keeps }

pub returns-in_err-begin-clause-alone : goal.returns-in_err-begin-clause-alone
returns-in_err-begin-clause-alone g c = λ os own. record { reading = unbegun g.S.Store (HoldsFor os) (c.in_err-begin.ensures.apart os) (search rules); reads = λ clean content held. search rules }

pub returns : goal.returns
returns g c =
    let read = c.read_slice-read.ensures in
    let o = c.args.owner.now in
    let mid = state g.S.Store c.begin.new.self.conn in
    let read_at = state g.S.Store c.read_slice-read.new.conn in
    let it = asked g.S.Store Holds (λ k live db may. g.met.S.Store.settled k.conn.store db live.is_open may) c.pass_on.new.self c.in_ok-begin.ensures.reading c.pass_on.ensures.same c.pass_on.ensures.requested c.pass_on.ensures.closed read.looks c.in_ok-begin.ensures.stays
    read.whole _ read.reads
    (λ db r. IfOk r (λ slice. IfSome slice (λ _. AllByRecursion (AreRowsIn c.args.owner.now db.trees) tables_of_owners)) × IfOk r (λ slice. slice ≡ None → IsReportedUnknown db c.args.owner.now)) (λ _ _ _. (tt, tt)) (λ clean has idle. (read.shown clean has idle, read.known clean)) in
    record { reading = it.reading; reads = it.reads; shown = λ clean has idle. (it.shown clean has idle).0; known = λ clean has idle. (it.shown clean has idle).1; others = λ os. keeps_asked g.S.Store (HoldsFor os) (λ k live db may. g.met.S.Store.settled k.conn.store db live.is_open may) c.pass_on.new.self (c.in_ok-begin.ensures.apart os) c.pass_on.ensures.same c.pass_on.ensures.requested c.pass_on.ensures.closed read.looks; alone = λ os own. reads_asked g.S.Store (HoldsFor os) (λ k live db may. g.met.S.Store.settled k.conn.store db live.is_open may) c.pass_on.new.self (c.in_ok-begin.ensures.apart os) c.pass_on.ensures.same c.pass_on.ensures.requested c.pass_on.ensures.closed read.looks (told_whole_for o mid read_at c.read_slice-read.result read.alone os own) _ (told_reads_for o mid read_at c.read_slice-read.result read.alone os own); named = ok_asked g.S.Store Holds (λ k live db may. g.met.S.Store.settled k.conn.store db live.is_open may) c.pass_on.new.self c.in_ok-begin.ensures.reading c.pass_on.ensures.same c.pass_on.ensures.requested c.pass_on.ensures.closed read.looks _ read.named; lack = λ is. counted (c.pass_on.ensures.lack read.lack is) c.in_ok-begin.ensures.same }
