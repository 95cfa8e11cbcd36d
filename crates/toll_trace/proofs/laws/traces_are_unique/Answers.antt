use Rattle.toll_trace.specs.Chain.{IsJoined}
use Rattle.toll_trace.proofs.Unique.{trace_unique}
use Rattle.toll_trace.proofs.laws.traces_are_unique.Goals as goal

pub returns : goal.returns
returns c = λ edges way from x y. trace_unique (IsJoined edges way) from x y
