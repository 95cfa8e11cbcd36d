use Rattle.std.proofs.Common.{[], ◌∷◌, subst, ◌∙◌}
use Rattle.toll_desk.proofs.Common.{IsDecided, Owner, OwnerRow}
use Rattle.toll_desk.specs.Admission.{owner_row_checks}
use Rattle.toll_desk.proofs.CommandPlans.{decided_owner}
use Rattle.toll_desk.proofs.units.decide_owner.Goals as goal

pub returns-in-Ok-judge_owner-clause-over : goal.returns-in-Ok-judge_owner-clause-over
returns-in-Ok-judge_owner-clause-over g c honest content H held stands lawful =
    let row : OwnerRow = record { owner = c.args.owner; key = c.args.key } in
    let d = c.in-Ok-judge_owner.decision in
    decided_owner content H stands lawful row d
    (subst (λ rows. IsDecided (owner_row_checks rows row) (Owner row ∷ []) d) (c.deref.ensures.value ∙ c.in-Ok.ensures.reads honest content held) c.in-Ok-judge_owner.ensures)
