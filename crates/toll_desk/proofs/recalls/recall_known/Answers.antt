use Rattle.std.proofs.Common.{inl, sym, subst}
use Rattle.toll_desk.proofs.Common.{IsTrace, Forward, IsPlantJoined}
use Rattle.toll_desk.proofs.KeptRules.{represented_keeps_rules}
use Rattle.toll_desk.proofs.Going.{reads_as, fault_as}
use Rattle.toll_desk.proofs.recalls.recall_known.Goals as goal

pub returns-in-Ok-clause-going : goal.returns-in-Ok-clause-going
returns-in-Ok-clause-going g c =
    c.recall_steps.ensures.going c.args.keep.now (reads_as g.K.Keep.meaning c.args.keep.now c.trace_plant.new.keep _ _ c.in-Ok.ensures.reading)

pub returns-in-Ok-clause-over : goal.returns-in-Ok-clause-over
returns-in-Ok-clause-over g c honest content H held stands lawful rows =
    let lot = c.args.lot.now in
    let have = reads_as g.K.Keep.meaning c.args.keep.now c.trace_plant.new.keep _ _ c.in-Ok.ensures.reading in
    let traced = c.in-Ok.ensures.over (c.recall_steps.ensures.kept honest).0 content H held stands lawful in
    c.recall_steps.ensures.over c.args.keep.now have honest content H held stands lawful lot rows (subst (IsTrace (IsPlantJoined H Forward) lot) (sym c.deref.ensures.value) traced)

pub returns-in-Ok-clause-whole : goal.returns-in-Ok-clause-whole
returns-in-Ok-clause-whole g c honest content H held stands lawful rows known =
    let lot = c.args.lot.now in
    let have = reads_as g.K.Keep.meaning c.args.keep.now c.trace_plant.new.keep _ _ c.in-Ok.ensures.reading in
    let traced = c.in-Ok.ensures.over (c.recall_steps.ensures.kept honest).0 content H held stands lawful in
    c.recall_steps.ensures.whole c.args.keep.now have honest content H held stands lawful lot rows known (subst (IsTrace (IsPlantJoined H Forward) lot) (sym c.deref.ensures.value) traced)

pub returns-in-Err-clause-going : goal.returns-in-Err-clause-going
returns-in-Err-clause-going g c = inl (fault_as g.K.Keep.meaning c.args.keep.now c.trace_plant.new.keep _ c.in-Err.ensures.reading)

pub returns-in-Err-clause-whole : goal.returns-in-Err-clause-whole
returns-in-Err-clause-whole g c honest content H held stands lawful rows known is =
    c.in-Err.ensures.reading.whole honest content held (represented_keeps_rules H content lawful stands) (cc)
