use Rattle.std.proofs.Common.{◌∙◌, List, sym, subst, arith}
use Rattle.toll_plant.specs.Imports.{AreNumberedFrom}
use Rattle.toll_plant.specs.declared.report.ImportLine.{ImportLine}
use Rattle.toll_plant.proofs.LineLemmas.{numbered_more, outcomes_more}
use Rattle.toll_plant.proofs.import.push_lines.Goals as goal

pub loop-outcome-preserved : goal.loop-outcome-preserved
loop-outcome-preserved c =
    let so = c.loop-outcome.invariant in
    let before = c.loop-outcome.lines.items in
    record {
      len = omega (arith, so.len, c.push_reserved.ensures.len);
      capacity = c.push_reserved.ensures.capacity ∙ so.capacity;
      reported = outcomes_more c.args.lines.now.items before c.push_reserved.new.self.items c.args.outcomes.now c.loop-outcome.outcome-index _ _ c.loop-outcome-test.true c.push_reserved.ensures.items so.reported;
      numbered = λ numbered. subst (AreNumberedFrom 1) (sym {A = List ImportLine} c.push_reserved.ensures.items) (numbered_more 1 before _ (so.numbered numbered) (omega arith));
    }
