-- How many actuals each batch has, kept beside the movements.
use Rattle.std.specs.Prelude.{◌≡◌, ℕ, ◌+◌, ◌≤◌, true, if◌then◌else◌, Option, Some, None, is_some, List}
use Rattle.std.specs.Option.{option_map_or}
use Rattle.toll_base.specs.Bytes.{Bytes}
use Rattle.toll_base.specs.Keys.{batch_cmp}
use Rattle.toll_base.specs.Table.{row_at}
use Rattle.toll_base.specs.Words.{is_some_where}
use Rattle.toll_base.specs.SliceRules.{count_actuals, is_actual_of}
use Rattle.toll_base.specs.declared.movement.MoveRow.{MoveRow}
use Rattle.toll_base.specs.declared.movement.Move.{Move as Moved}
use Rattle.toll_base.specs.declared.actual_count.ActualCount.{ActualCount}

-- the row that counts this batch's actuals
abbrev pub actual_count_at : List ActualCount → Bytes → ℕ → Option ActualCount
actual_count_at rows order number = row_at batch_cmp (λ row. (row.order, row.number)) rows (order, number)

-- the count of this batch, 0 where no row says one
abbrev pub count_of : List ActualCount → Bytes → ℕ → ℕ
count_of rows order number = option_map_or (λ row. row.count) (actual_count_at rows order number) 0

-- these rows count the actuals of each batch among the movements
abbrev pub AreCountsOf : List ActualCount → List MoveRow → Type 0
AreCountsOf rows moves = (order : Bytes) (number : ℕ) → count_of rows order number ≡ count_actuals order number moves

-- the batch that an actual is of has a row
abbrev pub HasRowFor : List ActualCount → Moved → Type 0
HasRowFor rows what = (order : Bytes) (number : ℕ) → is_actual_of order number what ≡ true → is_some (actual_count_at rows order number) ≡ true

-- the same batches have rows
abbrev pub HaveSameBatches : List ActualCount → List ActualCount → Type 0
HaveSameBatches old new = (order : Bytes) (number : ℕ) → is_some (actual_count_at new order number) ≡ is_some (actual_count_at old order number)

-- the batch that a known actual is of has a row, which counts it
abbrev pub HasKnown : List ActualCount → Option MoveRow → Type 0
HasKnown rows None = Unit {0}
HasKnown rows (Some known) = HasRowFor rows known.what × ((order : Bytes) (number : ℕ) → is_actual_of order number known.what ≡ true → 1 ≤ count_of rows order number)

-- how many actuals of the batch the movement is: one or none
abbrev pub counts_for : Bytes → ℕ → Moved → ℕ
counts_for order number what = if is_actual_of order number what then 1 else 0

-- what counted for the known movement counts for this one
abbrev pub AreRecounted : Option MoveRow → Moved → (old new : List ActualCount) → Type 0
AreRecounted known what old new =
    (order : Bytes) (number : ℕ) →
    (if is_some_where (λ row. is_actual_of order number row.what) known then 1 else 0) + count_of new order number ≡ counts_for order number what + count_of old order number
