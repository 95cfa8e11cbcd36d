use Rattle.std.proofs.Common.{subst, sym}
use Rattle.toll_keep.specs.CallEffects.{IsReading}
use Rattle.toll_desk.proofs.RecallLines.{passed_on}
use Rattle.toll_service.proofs.reading_ahead.read_each.Goals as goal

pub loop-row-init : goal.loop-row-init
loop-row-init g c first have = have

pub loop-row-preserved : goal.loop-row-preserved
loop-row-preserved g c first have = c.in_ok-read_owner.ensures first (c.loop-row.invariant first have)

pub returns-in_err-read_owner : goal.returns-in_err-read_owner
returns-in_err-read_owner g c first have =
    subst (λ r. IsReading g.K.Keep.meaning first c.read_owner.new.keep r) (sym (passed_on c.from_residual.result c.in_err-read_owner.field-0.0 c.from_residual.ensures.1))
    (c.in_err-read_owner.ensures first (c.loop-row.invariant first have))

pub returns : goal.returns
returns g c first have = c.read_owner-2.ensures first (c.loop-row.invariant first have)
