-- The search for a trace, level by level. A level has the lots of one number of steps.
use Rattle.std.specs.Prelude.{◌⊎◌, ◌&&◌, ℕ, Bool, not, Option, Some, None, List, Contains, if◌then◌else◌}
use Rattle.toll_trace.specs.Common.{list_any, IsStrictlySortedBy, is_eq, LotId, Edge, lot_cmp}
use Rattle.toll_trace.specs.declared.step.Step.{Step}
use Rattle.toll_trace.specs.declared.way.Way.{Way}
use Rattle.toll_trace.specs.Chain.{step_ends}
use Rattle.toll_trace.specs.Trace.{lots_of}

-- the lot, after so many steps
abbrev pub step_at : ℕ → LotId → Step
step_at n lot = record { steps = n; lot = lot }

-- whether the lot is that of a step
abbrev pub is_found : List Step → LotId → Bool
is_found found lot = list_any (λ s. is_eq (lot_cmp lot s.lot)) found

-- the lot that the edge leads to from a lot that was found, if it wasn't found itself
abbrev pub next_lot : Way → List Step → Edge → Option LotId
next_lot way found e = if is_found found (step_ends way e).0 && not (is_found found (step_ends way e).1) then Some (step_ends way e).1 else None

-- These are the lots that one edge reaches from the lots that were found, without those lots, in order.
pub record IsLevel (E : LotId → LotId → Type 0) (found : List Step) (lots : List LotId) : Type 0 where
  pub led_to : (b : LotId) → Contains lots b → (a : LotId) × Contains (lots_of found) a × E a b
  pub not_found : (b : LotId) → Contains lots b → Contains (lots_of found) b → ⊥
  pub every : (a b : LotId) → Contains (lots_of found) a → E a b → Contains lots b ⊎ Contains (lots_of found) b
  pub ordered : IsStrictlySortedBy lot_cmp lots
