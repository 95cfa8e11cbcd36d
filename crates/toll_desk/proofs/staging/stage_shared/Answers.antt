use Rattle.std.proofs.Common.{refl, subst}
use Rattle.toll_desk.specs.Reads.{AreBoth}
use Rattle.toll_keep.specs.Content.{content_after}
use Rattle.toll_desk.proofs.OccupiedLemmas.{held_now, unheld}
use Rattle.toll_desk.proofs.staging.stage_shared.Goals as goal

pub returns-in-Ok : goal.returns-in-Ok
returns-in-Ok g c =
    let pending = c.args.pending.now in
    let read = c.in-Ok.ensures in
    let planned = c.plan_on-planned in
    let held = c.stage_changes.ensures in
    held_now g.K.Keep.meaning c.args.keep.now c.both_over.new.keep pending c.both_over.new.pending c.stage_changes.new.pending c.args.command.now c.requires.valid
    read.over read.changes held.over c.in-Ok.both planned.result c.stage_changes.result read.reading
    (λ honest d there was. subst (λ o. AreBoth (content_after pending.changes.items d) o c.in-Ok.both) c.owner.ensures (read.both honest d there was))
    planned.ensures.plan planned.ensures.quiet planned.ensures.judged held.held

pub returns-in-Err : goal.returns-in-Err
returns-in-Err g c =
    let read = c.in-Err.ensures in
    let pending = c.both_over.new.pending in
    unheld g.K.Keep.meaning c.args.keep.now c.both_over.new.keep c.args.pending.now pending pending c.args.command.now c.requires.valid
    read.over read.changes (λ d laid. laid) c.in-Err.fault read.reading refl
