-- Traces.
use Rattle.std.specs.Prelude.{ℕ, ◌≤◌, List, map, Contains}
use Rattle.toll_trace.specs.Common.{IsStrictlySortedBy, LotId}
use Rattle.toll_trace.specs.declared.step.Step.{Step}
use Rattle.toll_trace.specs.Order.{step_cmp}
use Rattle.toll_trace.specs.Chain.{IsChain}

-- the lots of the steps, in their order
abbrev pub lots_of : List Step → List LotId
lots_of steps = map (λ s. s.lot) steps

-- The trace has the lots that end a chain from `a`, each with the fewest edges of such a chain, in order.
pub record IsTrace (E : LotId → LotId → Type 0) (a : LotId) (trace : List Step) : Type 0 where
  pub only : (s : Step) → Contains trace s → IsChain E a s.steps s.lot
  pub fewest : (s : Step) → Contains trace s → (n : ℕ) → IsChain E a n s.lot → s.steps ≤ n
  pub every : (b : LotId) (n : ℕ) → IsChain E a n b → Contains (lots_of trace) b
  pub ordered : IsStrictlySortedBy step_cmp trace
