use Rattle.std.proofs.Common.{OnOk, rules}
use Rattle.toll_sql.proofs.Common.{Holds, HoldsFor, AllByRecursion, state, AreRowsIn, tables_of_owners}
use Rattle.toll_sql.proofs.LookLemmas.{part_for, slice_part}
use Rattle.toll_sql.proofs.KeepLemmas.{asked, counted, keeps_asked, reads_asked, unbegun}
use Rattle.toll_sql.proofs.sql_keep.SqlKeep.rows_of.Goals as goal

pub returns-in_err-begin-clause-reading : goal.returns-in_err-begin-clause-reading
returns-in_err-begin-clause-reading g c = unbegun g.S.Store Holds c.in_err-begin.ensures.reading (search rules)

pub returns-in_err-begin-clause-others : goal.returns-in_err-begin-clause-others
returns-in_err-begin-clause-others g c = λ os. let it = unbegun g.S.Store (HoldsFor os) {r = c.from_residual.result} (c.in_err-begin.ensures.apart os) (search rules) in record { goes = it.goes; keeps = it.keeps }

pub returns-in_err-begin-clause-alone : goal.returns-in_err-begin-clause-alone
returns-in_err-begin-clause-alone g c = λ os own. record { reading = unbegun g.S.Store (HoldsFor os) (c.in_err-begin.ensures.apart os) (search rules); reads = λ clean content held. search rules }

pub returns : goal.returns
returns g c =
    let read = c.read_rows_of-read.ensures in
    let o = c.args.owner.now in
    let mid = state g.S.Store c.begin.new.self.conn in
    let it = asked g.S.Store Holds (λ k live db may. g.met.S.Store.settled k.conn.store db live.is_open may) c.pass_on.new.self c.in_ok-begin.ensures.reading c.pass_on.ensures.same c.pass_on.ensures.requested c.pass_on.ensures.closed read.looks c.in_ok-begin.ensures.stays
    (λ clean content held keeps. read.whole clean (content.rows c.args.owner.now) (slice_part (state g.S.Store c.begin.new.self.conn) content held c.args.owner.now) (keeps c.args.owner.now)) _ (λ clean content held. read.reads clean (content.rows c.args.owner.now) (slice_part (state g.S.Store c.begin.new.self.conn) content held c.args.owner.now))
    (λ db r. OnOk r (AllByRecursion (AreRowsIn c.args.owner.now db.trees) tables_of_owners)) (λ _ _ _. tt) read.shown in
    record { reading = it.reading; reads = it.reads; shown = it.shown; alone = λ os own. reads_asked g.S.Store (HoldsFor os) (λ k live db may. g.met.S.Store.settled k.conn.store db live.is_open may) c.pass_on.new.self (c.in_ok-begin.ensures.apart os) c.pass_on.ensures.same c.pass_on.ensures.requested c.pass_on.ensures.closed read.looks (λ clean content held keeps. read.whole clean (content.rows o) (part_for os mid content held o own) (keeps o)) _ (λ clean content held. read.reads clean (content.rows o) (part_for os mid content held o own)); others = λ os. keeps_asked g.S.Store (HoldsFor os) (λ k live db may. g.met.S.Store.settled k.conn.store db live.is_open may) c.pass_on.new.self (c.in_ok-begin.ensures.apart os) c.pass_on.ensures.same c.pass_on.ensures.requested c.pass_on.ensures.closed read.looks; lack = λ is. counted (c.pass_on.ensures.lack read.lack is) c.in_ok-begin.ensures.same }
