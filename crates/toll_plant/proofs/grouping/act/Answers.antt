use Rattle.std.proofs.Common.{Ok, Err, refl, sym, subst}
use Rattle.toll_plant.specs.StagedRecords.{IsRecordStaged}
use Rattle.toll_plant.specs.declared.outcome.Outcome.TheVariants.{BadRecord}
use Rattle.toll_plant.proofs.grouping.act.Goals as goal

pub returns-in-None : goal.returns-in-None
returns-in-None g c =
    subst (λ command. IsRecordStaged g.K.Keep.meaning (c.args.keep.now, c.args.pending.now) command (Ok BadRecord) (c.args.keep.now, c.args.pending.now))
    (sym c.in-None.is) (refl, refl)

pub returns-in-Ok : goal.returns-in-Ok
returns-in-Ok g c =
    subst (λ command. IsRecordStaged g.K.Keep.meaning (c.args.keep.now, c.args.pending.now) command (Ok c.of.result)
    (c.plant_stage.new.keep, c.plant_stage.new.pending)) (sym c.in-Some.is)
    (c.in-Ok.reply, c.in-Ok.ensures.held, c.of.ensures)

pub returns-in-Err : goal.returns-in-Err
returns-in-Err g c =
    subst (λ command. IsRecordStaged g.K.Keep.meaning (c.args.keep.now, c.args.pending.now) command (Err c.in-Err.fault)
    (c.plant_stage.new.keep, c.plant_stage.new.pending)) (sym c.in-Some.is)
    c.in-Err.ensures.held
