use Rattle.std.proofs.Common.{◌≡◌, rules, Err, sym, subst}
use Rattle.toll_sql.proofs.Common.{Holds, HoldsFor, sql_meaning, sql_part, IsReading, read_ok, read_fault, read_memory, Memory}
use Rattle.toll_keep.specs.HeldFor.{KeepsHeld}
use Rattle.toll_sql.proofs.Keeping.{kept_as, kept_fault, kept_memory, kept_of}
use Rattle.toll_sql.proofs.KeepLemmas.{unbegun}
use Rattle.toll_sql.proofs.sql_keep.SqlKeepKeep.trace.Goals as goal

pub returns-in_err-begin-clause-reading : goal.returns-in_err-begin-clause-reading
returns-in_err-begin-clause-reading g c = unbegun g.S.Store Holds c.in_err-begin.ensures.reading (search rules)

pub returns-in_err-recorded-clause-reading : goal.returns-in_err-recorded-clause-reading
returns-in_err-recorded-clause-reading g c =
    let m = sql_meaning g.S.Store in
    let e = c.in_err-recorded.field-0.0 in
    let r = c.in_err-recorded.ensures.reads c.args.self.now c.in_ok-begin.ensures.reading in
    let is : c.from_residual-in_err-recorded.result ≡ Err e = search rules in
    subst (λ reported. IsReading m c.args.self.now c.recorded.new.self reported) (sym is) (read_fault m c.args.self.now c.recorded.new.self e r.goes r.keeps r.whole)

pub returns-in_err-trace_recorded-clause-reading : goal.returns-in_err-trace_recorded-clause-reading
returns-in_err-trace_recorded-clause-reading g c =
    let m = sql_meaning g.S.Store in
    let r = c.in_ok-recorded.ensures.reads c.args.self.now c.in_ok-begin.ensures.reading in
    let is : c.from_residual-in_err-trace_recorded.result ≡ Err Memory = search rules in
    subst (λ reported. IsReading m c.args.self.now c.recorded.new.self reported) (sym is) (read_memory m c.args.self.now c.recorded.new.self c.in_ok-recorded.recorded r.goes r.keeps)

pub returns-clause-reading : goal.returns-clause-reading
returns-clause-reading g c =
    let m = sql_meaning g.S.Store in
    let r = c.in_ok-recorded.ensures.reads c.args.self.now c.in_ok-begin.ensures.reading in
    read_ok m c.args.self.now c.recorded.new.self c.in_ok-recorded.recorded _ r.goes r.keeps

pub returns-clause-reads : goal.returns-clause-reads
returns-clause-reads g c = λ honest content held.
    let before = c.recorded.ensures.kept honest in
    let began = c.in_ok-begin.ensures.reading in
    c.in_ok-trace_recorded.ensures content c.args.owners.now (c.in_ok-recorded.ensures.reported honest content ((began.keeps before.0).content content held))

pub returns-in_err-begin-clause-others : goal.returns-in_err-begin-clause-others
returns-in_err-begin-clause-others g c = λ os. kept_of (sql_part g.S.Store os) (unbegun g.S.Store (HoldsFor os) {r = c.from_residual.result} (c.in_err-begin.ensures.apart os) (search rules))

pub returns-in_err-begin-clause-alone : goal.returns-in_err-begin-clause-alone
returns-in_err-begin-clause-alone g c = λ os among. record { reading = unbegun g.S.Store (HoldsFor os) (c.in_err-begin.ensures.apart os) (search rules); reads = λ honest content held. search rules }

pub returns-in_err-recorded-clause-others : goal.returns-in_err-recorded-clause-others
returns-in_err-recorded-clause-others g c = λ os.
    let m = sql_part g.S.Store os in
    let e = c.in_err-recorded.field-0.0 in
    let is : c.from_residual-in_err-recorded.result ≡ Err e = search rules in
    subst (λ reported. KeepsHeld m c.args.self.now c.recorded.new.self reported) (sym is) (kept_fault m c.args.self.now c.recorded.new.self e (c.in_err-recorded.ensures.others os c.args.self.now (kept_of m (c.in_ok-begin.ensures.apart os))))

pub returns-in_err-recorded-clause-alone : goal.returns-in_err-recorded-clause-alone
returns-in_err-recorded-clause-alone g c = λ os among.
    let m = sql_part g.S.Store os in
    let e = c.in_err-recorded.field-0.0 in
    let r = (c.in_err-recorded.ensures.alone os among).reads c.args.self.now (c.in_ok-begin.ensures.apart os) in
    let is : c.from_residual-in_err-recorded.result ≡ Err e = search rules in
    record {
      reading = subst (λ reported. IsReading m c.args.self.now c.recorded.new.self reported) (sym is) (read_fault m c.args.self.now c.recorded.new.self e r.goes r.keeps r.whole);
      reads = λ honest content held. search rules;
    }

pub returns-in_err-trace_recorded-clause-others : goal.returns-in_err-trace_recorded-clause-others
returns-in_err-trace_recorded-clause-others g c = λ os.
    let m = sql_part g.S.Store os in
    let is : c.from_residual-in_err-trace_recorded.result ≡ Err Memory = search rules in
    subst (λ reported. KeepsHeld m c.args.self.now c.recorded.new.self reported) (sym is) (kept_memory m c.args.self.now c.recorded.new.self c.in_ok-recorded.recorded (c.in_ok-recorded.ensures.others os c.args.self.now (kept_of m (c.in_ok-begin.ensures.apart os))))

pub returns-in_err-trace_recorded-clause-alone : goal.returns-in_err-trace_recorded-clause-alone
returns-in_err-trace_recorded-clause-alone g c = λ os among.
    let m = sql_part g.S.Store os in
    let r = (c.in_ok-recorded.ensures.alone os among).reads c.args.self.now (c.in_ok-begin.ensures.apart os) in
    let is : c.from_residual-in_err-trace_recorded.result ≡ Err Memory = search rules in
    record {
      reading = subst (λ reported. IsReading m c.args.self.now c.recorded.new.self reported) (sym is) (read_memory m c.args.self.now c.recorded.new.self c.in_ok-recorded.recorded r.goes r.keeps);
      reads = λ honest content held. search rules;
    }

pub returns-clause-others : goal.returns-clause-others
returns-clause-others g c = λ os.
    let m = sql_part g.S.Store os in
    kept_as m c.args.self.now c.recorded.new.self c.in_ok-recorded.recorded _ (c.in_ok-recorded.ensures.others os c.args.self.now (kept_of m (c.in_ok-begin.ensures.apart os)))

pub returns-clause-alone : goal.returns-clause-alone
returns-clause-alone g c = λ os among.
    let m = sql_part g.S.Store os in
    let began = c.in_ok-begin.ensures.apart os in
    let learns = c.in_ok-recorded.ensures.alone os among in
    let r = learns.reads c.args.self.now began in
    record {
      reading = read_ok m c.args.self.now c.recorded.new.self c.in_ok-recorded.recorded _ r.goes r.keeps;
      reads = λ honest content held. c.in_ok-trace_recorded.ensures content c.args.owners.now (learns.reported honest content ((began.keeps (learns.kept honest).0).content content held));
    }
