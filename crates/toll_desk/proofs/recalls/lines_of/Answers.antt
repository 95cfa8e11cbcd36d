use Rattle.std.proofs.Common.{Some, map, ap, subst, sym, ◌∙◌}
use Rattle.toll_desk.proofs.Common.{Contains-get_or, recall_line_of, RecallLine}
use Rattle.std.specs.Prelude.{Contains}
use Rattle.toll_desk.proofs.RecallLines.{lines_more}
use Rattle.toll_desk.proofs.recalls.lines_of.Goals as goal

pub loop-step-preserved : goal.loop-step-preserved
loop-step-preserved c H lawful are =
    let steps = c.args.steps.now in
    let i = c.loop-step.step-index in
    let step = c.step-item.result in
    let there = subst (Contains steps) (sym c.step-item.is) (Contains-get_or steps i step c.loop-step-test.true) in
    ap (map (λ (line : RecallLine). Some line)) c.in_ok-push-in-Some.ensures.items
    ∙ lines_more (recall_line_of H) steps i step c.loop-step.lines.items c.in-Some.line c.loop-step-test.true c.step-item.is (c.loop-step.invariant H lawful are) (c.in-Some.ensures H steps lawful are there)
