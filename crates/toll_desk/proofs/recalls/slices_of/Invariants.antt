use Rattle.std.proofs.Common.{take}
use Rattle.toll_history.specs.OwnerFacts.{IsRowsOf}
use Rattle.toll_keep.specs.Reads.{HaveRead, IsContentKept}
use Rattle.toll_desk.specs.Questions.{AreSlicesFor}
use Rattle.toll_desk.specs.Reads.{Over}
use Rattle.toll_desk.proofs.recalls.slices_of.Given as goal

-- the calls so far were answered, and the slices are for the steps so far
abbrev pub invariant-loop-step : goal.invariant-loop-step
invariant-loop-step g l =
    let k = g.K.Keep in
    ((first : g.row.K.Denot) → HaveRead k.meaning first l.initial.keep → HaveRead k.meaning first l.keep)
    × IsContentKept k.meaning l.initial.keep l.keep
    × Over k.meaning l.initial.keep l.keep (λ c H. IsRowsOf H l.fn.own → AreSlicesFor H (take l.step-index l.steps) l.slices.items)
