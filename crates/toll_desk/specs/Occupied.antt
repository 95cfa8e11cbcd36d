-- The batch that holds a unit, as a history has it.
use Rattle.std.specs.Prelude.{◌≡◌, false, Option, List, Contains}
use Rattle.std.specs.Option.{option_map}
use Rattle.toll_base.specs.Bytes.{Bytes}
use Rattle.toll_base.specs.declared.decision.Change.{Change}
use Rattle.toll_base.specs.declared.lot.Edge.{Edge}
use Rattle.toll_history.specs.Decision.{ChangesKeepRules}
use Rattle.toll_history.specs.History.{History, acts}
use Rattle.toll_history.specs.Holders.{OpenedBatch, holder, opened}
use Rattle.toll_history.specs.Work.{is_closed}
use Rattle.toll_trace.specs.Edges.{AreEdges, IsEdge}
use Rattle.toll_keep.specs.Content.{Content}
use Rattle.toll_keep.specs.declared.holder.Holder.{Holder}

-- in the history, the batch was opened on the unit and isn't closed
pub record HoldsUnit (H : History) (unit : Bytes) (b : OpenedBatch) : Type 0 where
  pub was_opened : Contains (opened H) b
  pub on : b.unit ≡ unit
  pub not_closed : is_closed (acts b.owner H) b.order b.number ≡ false

-- the holder of the unit, as a batch that was opened on it
abbrev pub on_unit : Bytes → Holder → OpenedBatch
on_unit unit h = record { owner = h.owner; order = h.order; number = h.number; unit = unit }

-- the answer names the batch that holds the unit in the history, or none where none does
abbrev pub IsOccupied : History → (unit : Bytes) → Option Holder → Type 0
IsOccupied H unit answer = holder H unit ≡ option_map (on_unit unit) answer

-- the rows that are held of an owner are that owner's
abbrev pub HasOwnersRows : Content → Type 0
HasOwnersRows c = (o : Bytes) → (c.rows o).owner ≡ o

-- the changes, in order, keep the rules of each owner's rows
abbrev pub EachKeepsRules : Content → List Change → Type 0
EachKeepsRules c changes = (o : Bytes) → ChangesKeepRules changes (c.rows o)

-- the edges of the rows that are held of the owner, in order, each once
abbrev pub AreContentEdges : Content → (o : Bytes) → List Edge → Type 0
AreContentEdges c o edges = AreEdges (IsEdge (c.rows o)) edges
