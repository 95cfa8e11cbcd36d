use Rattle.std.proofs.Common.{◌≡◌, Err, rules, sym, subst}
use Rattle.toll_keep.proofs.Common.{IsReading, meaning_for}
use Rattle.toll_keep.proofs.cached_reading.read_rows.Goals as goal

pub returns-in_err-rows-clause-alone : goal.returns-in_err-rows-clause-alone
returns-in_err-rows-clause-alone g c = λ os rested.
    let is : c.from_residual-in_err-rows.result ≡ Err c.in_err-rows.field-0.0 = search rules in
    subst (λ reported. IsReading (meaning_for g.K.Keep.meaning g.K.Keep.part os) c.args.keep.now c.read.new.keep reported) (sym is) (c.in_err-rows.ensures.alone os)

pub returns-in_err-rows-clause-stays : goal.returns-in_err-rows-clause-stays
returns-in_err-rows-clause-stays g c = λ os honest. let r = c.read.ensures.alone os in (r.goes.honest honest, λ content held. (r.keeps honest).content content held)

pub returns-clause-stays : goal.returns-clause-stays
returns-clause-stays g c = λ os honest. let r = c.read.ensures.alone os in (r.goes.honest honest, λ content held. (r.keeps honest).content content held)
