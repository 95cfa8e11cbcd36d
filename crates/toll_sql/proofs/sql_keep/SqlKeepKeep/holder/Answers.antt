use Rattle.std.proofs.Common.{◌≡◌, Err, rules, sym, ap, subst}
use Rattle.toll_sql.proofs.Common.{Holds, HoldsFor, state, ReportsHolder}
use Rattle.toll_sql.proofs.HolderShown.{no_holder}
use Rattle.toll_sql.proofs.KeepLemmas.{asked, counted, keeps_asked, unbegun}
use Rattle.toll_sql.proofs.sql_keep.SqlKeepKeep.holder.Goals as goal

pub returns-in_err-begin-clause-reading : goal.returns-in_err-begin-clause-reading
returns-in_err-begin-clause-reading g c = unbegun g.S.Store Holds c.in_err-begin.ensures.reading (search rules)

pub returns-in_err-begin-clause-shown : goal.returns-in_err-begin-clause-shown
returns-in_err-begin-clause-shown g c clean has idle =
    let fault = c.in_err-begin.field-0.0 in
    let is : c.from_residual.result ≡ Err fault = search rules in
    subst (λ r. ReportsHolder c.args.unit.now (state g.S.Store c.args.self.now.conn).now.trees r) (sym is) (no_holder c.args.unit.now _ fault (λ is. c.in_err-begin.ensures.undamaged (ap Err is)))

pub returns-in_err-begin-clause-others : goal.returns-in_err-begin-clause-others
returns-in_err-begin-clause-others g c = λ os. let it = unbegun g.S.Store (HoldsFor os) {r = c.from_residual.result} (c.in_err-begin.ensures.apart os) (search rules) in record { goes = it.goes; keeps = it.keeps }

pub returns : goal.returns
returns g c =
    let read = c.read_holder-read.ensures in
    let it = asked g.S.Store Holds (λ k live db may. g.met.S.Store.settled k.conn.store db live.is_open may) c.pass_on.new.self c.in_ok-begin.ensures.reading c.pass_on.ensures.same c.pass_on.ensures.requested c.pass_on.ensures.closed read.looks c.in_ok-begin.ensures.stays
    (λ clean content held keeps. read.whole clean content held) _ read.reads
    (λ db r. ReportsHolder c.args.unit.now db.trees r) (λ db fault other. no_holder c.args.unit.now db.trees fault other) (λ clean has idle. read.alone clean has) in
    record { reading = it.reading; reads = it.reads; shown = it.shown; others = λ os. keeps_asked g.S.Store (HoldsFor os) (λ k live db may. g.met.S.Store.settled k.conn.store db live.is_open may) c.pass_on.new.self (c.in_ok-begin.ensures.apart os) c.pass_on.ensures.same c.pass_on.ensures.requested c.pass_on.ensures.closed read.looks; lack = λ is. counted (c.pass_on.ensures.lack read.lack is) c.in_ok-begin.ensures.same }
