-- The view of a batch: its row, and each requirement of its order's recipe with what the batch did of it.
use Rattle.std.specs.Prelude.{◌≡◌, ℕ, not, ◌&&◌, if◌then◌else◌, Option, Some, None, is_some, List, map, filter}
use Rattle.toll_work.specs.Common.{option_and_then, Bytes, same_bytes, total, where_so, History, acts, IsRowsOf, IsLawful, Slice, order_at, batch_at, void_at, BatchRow, OrderRow, RequirementRow, MoveRow, RequirementKey, requirement_cmp, AreRowsGiven, is_actual_of}
use Rattle.toll_history.specs.Amounts.{meets_requirement, actual_amount}
use Rattle.toll_history.specs.Work.{requirement_of, order_of, batch_of}
use Rattle.toll_work.specs.declared.views.BatchView.{BatchView}
use Rattle.toll_work.specs.declared.views.RequirementLine.{RequirementLine}

-- the sum of the amounts of those of these movements that meet the requirement
abbrev pub amount_for : RequirementRow → List MoveRow → ℕ
amount_for row moves = total (λ move. if meets_requirement row move.what then move.amount else 0) moves

-- the actuals of the batch that no row voids
abbrev pub standing_in : Slice → (order : Bytes) → (number : ℕ) → List MoveRow
standing_in s order number = filter (λ move. is_actual_of order number move.what && not (is_some (void_at s move.key))) s.moves

abbrev pub line_for : RequirementRow → List MoveRow → RequirementLine
line_for row actuals = record { row = row; actual = amount_for row actuals }

-- the requirements of the recipe, in the order of their keys, each with what these actuals did of it
abbrev pub lines_in : Slice → (recipe : Bytes) → List MoveRow → List RequirementLine
lines_in s recipe actuals = map (λ row. line_for row actuals) (filter (λ row. same_bytes row.recipe recipe) s.requirements)

-- The view is that of the batch of an order, if both are known.
abbrev pub IsViewIn : Slice → (order : Bytes) → (number : ℕ) → Option OrderRow → Option BatchRow → Option BatchView → Type 0
IsViewIn s order number (Some known) (Some row) (Some view) = (view.row ≡ row) × (view.lines.items ≡ lines_in s known.recipe (standing_in s order number))
IsViewIn s order number (Some known) (Some row) None = ⊥
IsViewIn s order number _ _ None = Unit {0}
IsViewIn s order number _ _ (Some view) = ⊥

-- The view is the one that the slice gives.
abbrev pub IsViewOfSlice : Slice → (order : Bytes) → (number : ℕ) → Option BatchView → Type 0
IsViewOfSlice s order number view = IsViewIn s order number (order_at s order) (batch_at s (order, number)) view

-- ---- over a history

-- a requirement of this recipe
abbrev pub line_of : History → Bytes → (order : Bytes) → (number : ℕ) → (recipe : Bytes) → RequirementKey → Option RequirementLine
line_of H o order number recipe k =
    option_and_then (λ row. where_so (same_bytes row.recipe recipe) (record { row = row; actual = actual_amount H o order number row })) (requirement_of (acts o H) k)

abbrev pub line_key : RequirementLine → RequirementKey
line_key line = (line.row.recipe, line.row.segment, line.row.role, line.row.source, line.row.material)

-- The view is that of the batch of an order, if both are known.
abbrev pub IsViewOver : History → Bytes → (order : Bytes) → (number : ℕ) → Option OrderRow → Option BatchRow → Option BatchView → Type 0
IsViewOver H o order number (Some known) (Some row) (Some view) = (view.row ≡ row) × AreRowsGiven requirement_cmp line_key (line_of H o order number known.recipe) view.lines.items
IsViewOver H o order number (Some known) (Some row) None = ⊥
IsViewOver H o order number _ _ None = Unit {0}
IsViewOver H o order number _ _ (Some view) = ⊥

-- The view is that of every lawful history whose rows the slice has.
unfoldable pub IsViewOfHistories : Slice → (order : Bytes) → (number : ℕ) → Option BatchView → Type 0
IsViewOfHistories s order number view = (H : History) → IsLawful H → IsRowsOf H s → IsViewOver H s.owner order number (order_of (acts s.owner H) order) (batch_of (acts s.owner H) (order, number)) view
