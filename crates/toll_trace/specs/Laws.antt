-- Laws of traces.
use Rattle.std.specs.Prelude.{◌≡◌, List}
use Rattle.toll_trace.specs.Common.{LotId, Edge}
use Rattle.toll_trace.specs.declared.step.Step.{Step}
use Rattle.toll_trace.specs.declared.way.Way.{Way}
use Rattle.toll_trace.specs.Chain.{IsJoined}
use Rattle.toll_trace.specs.Trace.{IsTrace}

-- Two lists that are both the trace from a lot are equal.
abbrev pub TracesAreUnique : Type 0
TracesAreUnique = (edges : List Edge) (way : Way) (from : LotId) (x y : List Step) → IsTrace (IsJoined edges way) from x → IsTrace (IsJoined edges way) from y → x ≡ y
