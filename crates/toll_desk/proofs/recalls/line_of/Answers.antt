use Rattle.toll_desk.proofs.RecallLines.{slice_at, slice_is_there, line_given}
use Rattle.toll_desk.proofs.recalls.line_of.Goals as goal

pub returns-in-Some : goal.returns-in-Some
returns-in-Some c H steps lawful are there =
    let found = slice_at c.args.slices.now c.args.step.now.lot.owner c.in-Some.at c.index-slices-at.result c.in-Some.ensures c.index-slices-at.is in
    line_given H c.args.step.now c.line_in.result (c.line_in.ensures H lawful (are.rows c.index-slices-at.result found.0) found.1)

pub returns-in-None : goal.returns-in-None
returns-in-None c H steps lawful are there known = absurd (slice_is_there c.args.slices.now c.args.step.now.lot.owner c.in-None.ensures (are.every c.args.step.now there known))
