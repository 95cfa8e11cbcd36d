use Rattle.std.proofs.Common.{subst, sym}
use Rattle.toll_keep.specs.CallEffects.{IsReading}
use Rattle.toll_desk.proofs.RecallLines.{passed_on}
use Rattle.toll_service.proofs.reading_ahead.read_owner.Goals as goal

pub returns-in_err-read_rows : goal.returns-in_err-read_rows
returns-in_err-read_rows g c first have =
    subst (λ r. IsReading g.K.Keep.meaning first c.read_rows.new.keep r) (sym (passed_on c.from_residual.result c.in_err-read_rows.field-0.0 c.from_residual.ensures.1))
    (c.in_err-read_rows.ensures first have)

pub returns : goal.returns
returns g c first have = c.trace_once.ensures first (c.in_ok-read_rows.ensures first have)
