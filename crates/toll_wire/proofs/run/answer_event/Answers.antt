use Rattle.std.proofs.Common.{sym, subst}
use Rattle.toll_wire.proofs.Common.{IsEventServed, Plant}
use Rattle.toll_wire.specs.OfficeRuns.{IsAnsweredFor, IsRequestAnswered}
use Rattle.toll_wire.specs.declared.event.Answer.TheVariants.{Bytes as Reply}
use Rattle.toll_wire.proofs.run.answer_event.Goals as goal

pub returns-in-Plant-clause-served : goal.returns-in-Plant-clause-served
returns-in-Plant-clause-served g c =
    subst (λ event. IsEventServed g.K.Keep.meaning c.args.keep.now event (Plant c.plant_do.result) c.plant_do.new.keep) (sym c.in-Plant.is) (c.plant_do.ensures.step, c.plant_do.ensures.valid)

pub returns-in-Owner-clause-alone : goal.returns-in-Owner-clause-alone
returns-in-Owner-clause-alone g c = λ os is.
    let replied = c.reply_by_router in
    subst (λ event. IsRequestAnswered os g.K.Keep.meaning g.K.Keep.part c.args.keep.now event (Reply replied.result) replied.new.keep) (sym c.in-Owner.is)
    (subst (λ came. IsAnsweredFor os g.K.Keep.meaning g.K.Keep.part c.args.keep.now replied.new.keep came replied.result) c.deref.ensures.value
    (record { answered = replied.ensures.answered; alone = replied.ensures.alone os; others = replied.ensures.others os }))
