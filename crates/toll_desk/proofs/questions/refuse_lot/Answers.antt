use Rattle.std.proofs.Common.{sym, ◌∙◌}
use Rattle.toll_desk.proofs.OwnerPlans.{some_read, unread_is_unknown}
use Rattle.toll_desk.proofs.PlantShown.{owner_unknown, lot_refused}
use Rattle.toll_desk.proofs.questions.refuse_lot.Goals as goal

pub returns-in-Ok-Some-clause-over : goal.returns-in-Ok-Some-clause-over
returns-in-Ok-Some-clause-over g c honest content H held stands lawful unknown =
    lot_refused H c.args.lot.now _ (some_read content H c.args.lot.now.owner c.in-Ok-Some.field-0-0 stands (sym c.in-Ok-Some.field-0-is ∙ c.in-Ok-Some.ensures.reads honest content held)) unknown

pub returns-in-Ok-None-clause-over : goal.returns-in-Ok-None-clause-over
returns-in-Ok-None-clause-over g c honest content H held stands lawful unknown =
    owner_unknown H c.args.lot.now _ (unread_is_unknown content H c.args.lot.now.owner stands (sym c.in-Ok-None.field-0-is ∙ c.in-Ok-None.ensures.reads honest content held))
