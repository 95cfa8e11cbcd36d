-- Which batch holds a unit.
use Rattle.std.specs.Prelude.{ℕ, ◌+◌, not, ◌&&◌, Option, List, [], ◌∷◌, ◌++◌, find}
use Rattle.toll_base.specs.Bytes.{Bytes, same_bytes}
use Rattle.toll_history.specs.Command.{Action, OpenBatch}
use Rattle.toll_history.specs.History.{History, acts}
use Rattle.toll_history.specs.Work.{count_opened, is_closed}

-- a batch that was opened, and its unit
pub record OpenedBatch : Type 0 where
  pub owner : Bytes
  pub order : Bytes
  pub number : ℕ
  pub unit : Bytes

-- the batch that an action opens, after a history
abbrev pub opened_by : History → Bytes → Action → List OpenedBatch
opened_by H o (OpenBatch order unit) = record { owner = o; order = order; number = count_opened (acts o H) order + 1; unit = unit } ∷ []
opened_by H o _ = []

-- the batches that were opened, the newest first
abbrev pub opened : History → List OpenedBatch
opened [] = []
opened (c ∷ H) = opened_by H c.owner c.action ++ opened H

-- the batch of any owner that was opened on the unit and isn't closed
unfoldable pub holder : History → Bytes → Option OpenedBatch
holder H unit = find (λ b. same_bytes b.unit unit && not (is_closed (acts b.owner H) b.order b.number)) (opened H)
