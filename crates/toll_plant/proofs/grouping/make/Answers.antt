use Rattle.std.proofs.Common.{arith, ◌∙◌}
use Rattle.toll_plant.proofs.GroupMade.{accepted_if_fault}
use Rattle.toll_plant.proofs.GroupRuns.{shorter_before}
use Rattle.toll_plant.proofs.grouping.make.Goals as goal

pub refuse-requires : goal.refuse-requires
refuse-requires g c =
    let reported = c.args.outcomes.now in
    let some = accepted_if_fault reported.items c.deref.result.now c.commit.result c.in-Err.fault (λ none. c.deref.ensures.value ∙ c.requires none)
    c.commit.ensures.made.idle c.in-Err.is in
    omega (arith, shorter_before reported.items some, reported.ok)

pub returns-clause-within : goal.returns-clause-within
returns-clause-within g c =
    let reported = c.args.outcomes.now in
    let some = accepted_if_fault reported.items c.deref.result.now c.commit.result c.in-Err.fault (λ none. c.deref.ensures.value ∙ c.requires none)
    c.commit.ensures.made.idle c.in-Err.is in
    omega (arith, shorter_before reported.items some, reported.ok, c.refuse.ensures.len)
