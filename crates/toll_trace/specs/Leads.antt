-- Steps between lots, by the lots' numbers in a list.
use Rattle.std.specs.Prelude.{ℕ, List}
use Rattle.toll_trace.specs.Common.{LotId}
use Rattle.toll_trace.specs.declared.edge_index.EdgeIndex.{EdgeIndex}
use Rattle.toll_trace.specs.EdgeIndex.{LeadsThrough}
use Rattle.toll_trace.specs.Numbers.{IsNumber}

-- A step through the joints leads from `a` to `b`: from the number of `a` among the lots to that of `b`.
abbrev pub IsIndexedStep : List LotId → EdgeIndex → LotId → LotId → Type 0
IsIndexedStep lots joints a b = (m : ℕ) × (n : ℕ) × IsNumber lots m a × IsNumber lots n b × LeadsThrough joints.sources joints.targets.items m n
