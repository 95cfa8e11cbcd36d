use Rattle.std.proofs.Common.{[], ◌∷◌, subst, ◌∙◌}
use Rattle.toll_desk.proofs.Common.{IsDecided, Unit, UnitRow}
use Rattle.toll_desk.specs.Admission.{unit_row_checks}
use Rattle.toll_desk.proofs.CommandPlans.{decided_unit}
use Rattle.toll_desk.proofs.units.decide_unit.Goals as goal

pub returns-in-Ok-judge_unit-clause-over : goal.returns-in-Ok-judge_unit-clause-over
returns-in-Ok-judge_unit-clause-over g c honest content H held stands lawful =
    let row : UnitRow = record { unit = c.args.unit } in
    let d = c.in-Ok-judge_unit.decision in
    decided_unit content H stands lawful row d
    (subst (λ rows. IsDecided (unit_row_checks rows row) (Unit row ∷ []) d) (c.deref.ensures.value ∙ c.in-Ok.ensures.reads honest content held) c.in-Ok-judge_unit.ensures)
