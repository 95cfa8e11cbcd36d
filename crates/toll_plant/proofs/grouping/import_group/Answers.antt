use Rattle.std.proofs.Common.{arith, sym, subst}
use Rattle.toll_desk.specs.Steps.{IsKeepStep}
use Rattle.toll_plant.specs.Imports.{EndWith, group_steps, refused_at}
use Rattle.toll_plant.proofs.GroupMade.{group_quiet, step_by, unread_step}
use Rattle.toll_plant.proofs.GroupRuns.{short_before}
use Rattle.toll_plant.proofs.grouping.import_group.Goals as goal

pub refuse-requires : goal.refuse-requires
refuse-requires g c =
    let reported = c.stage_all.new.outcomes in
    omega (arith, short_before reported.items, reported.ok, c.in-Err.ensures.short, c.requires.room, c.clear.ensures.capacity, c.stage_all.ensures.capacity)

-- ---- the changes were made, or not

pub make-requires : goal.make-requires
make-requires g c =
    let middle = c.stage_all.new.keep in
    group_quiet g.K.Keep.meaning g.met.K.Keep.settled c.args.keep.now middle middle c.args.commands.now c.stage_all.new.outcomes.items c.in-Ok.held
    c.in-Ok.ensures.held

pub returns-in-Ok-clause-step : goal.returns-in-Ok-clause-step
returns-in-Ok-clause-step g c =
    (step_by g.K.Keep.meaning g.met.K.Keep.settled c.args.keep.now c.stage_all.new.keep c.make.new.keep c.args.commands.now c.stage_all.new.outcomes.items
    c.in-Ok.held c.in-Ok.ensures.held c.make.new.outcomes.items c.make.result c.make.ensures.made).0

pub returns-in-Ok-clause-ends : goal.returns-in-Ok-clause-ends
returns-in-Ok-clause-ends g c =
    (step_by g.K.Keep.meaning g.met.K.Keep.settled c.args.keep.now c.stage_all.new.keep c.make.new.keep c.args.commands.now c.stage_all.new.outcomes.items
    c.in-Ok.held c.in-Ok.ensures.held c.make.new.outcomes.items c.make.result c.make.ensures.made).1

-- ---- rows couldn't be read

pub returns-in-Err-clause-step : goal.returns-in-Err-clause-step
returns-in-Err-clause-step g c =
    let K = g.K.Keep in
    subst (λ outcomes. IsKeepStep K.meaning group_steps c.args.keep.now c.args.commands.now outcomes c.stage_all.new.keep) (sym c.refuse.ensures.reported)
    (unread_step K.meaning g.met.K.Keep.settled c.args.keep.now c.stage_all.new.keep c.args.commands.now c.stage_all.new.outcomes.items c.in-Err.fault
    c.in-Err.ensures.held).0

pub returns-in-Err-clause-ends : goal.returns-in-Err-clause-ends
returns-in-Err-clause-ends g c =
    let K = g.K.Keep in
    subst (λ outcomes. EndWith c.refuse.result outcomes) (sym c.refuse.ensures.reported)
    (subst (λ end. EndWith end (refused_at c.in-Err.fault c.stage_all.new.outcomes.items)) (sym c.refuse.ensures.fault)
    (unread_step K.meaning g.met.K.Keep.settled c.args.keep.now c.stage_all.new.keep c.args.commands.now c.stage_all.new.outcomes.items c.in-Err.fault
    c.in-Err.ensures.held).1)

pub returns-in-Err-clause-within : goal.returns-in-Err-clause-within
returns-in-Err-clause-within g c =
    let reported = c.stage_all.new.outcomes in
    omega (arith, short_before reported.items, reported.ok, c.in-Err.ensures.short, c.refuse.ensures.len)
