-- The plant's texts.
use Rattle.std.specs.Prelude.{◌≡◌, Bool, true, false, Option, List, [], ◌∷◌, ◌++◌, codes, decimal, flat_map}
use Rattle.std.specs.List.{filter_map}
use Rattle.std.specs.Option.{option_map, option_and_then}
use Rattle.toll_base.specs.Bytes.{Bytes}
use Rattle.toll_base.specs.Keys.{pair_cmp}
use Rattle.toll_base.specs.Slice.{Slice, lot_at, material_at}
use Rattle.toll_base.specs.States.{word_of_state}
use Rattle.toll_base.specs.Table.{AreRowsGiven}
use Rattle.toll_base.specs.ValueWords.{disposition_word, order_status, use_word}
use Rattle.toll_history.specs.History.{History, acts}
use Rattle.toll_history.specs.OwnerFacts.{lot_row, sublot_row}
use Rattle.toll_history.specs.Work.{measure_of}
use Rattle.toll_base.specs.declared.rows.BatchRow.{BatchRow}
use Rattle.toll_base.specs.declared.rows.LotRow.{LotRow}
use Rattle.toll_base.specs.declared.rows.OrderRow.{OrderRow}
use Rattle.toll_base.specs.declared.rows.SublotRow.{SublotRow}
use Rattle.toll_answers.specs.declared.genealogy.recall.RecallLine.{RecallLine}
use Rattle.toll_answers.specs.Columns.{left_aligned, right_aligned, column_line}
use Rattle.toll_trace.specs.declared.step.Step.{Step}
use Rattle.toll_work.specs.declared.views.RequirementLine.{RequirementLine}

-- ---- orders

abbrev pub order_line : OrderRow → Bytes
order_line row = column_line (left_aligned 16 row.order ∷ left_aligned 16 row.recipe ∷ right_aligned 2 (decimal row.batches) ∷ order_status row.cancelled ∷ [])

-- a line for each order
abbrev pub orders_text : List OrderRow → Bytes
orders_text rows = flat_map order_line rows

-- ---- stock

-- a sublot, its lot, and the measure of the lot's material
pub record SublotShown : Type 0 where
  pub row : SublotRow
  pub lot : LotRow
  pub measure : Bytes

abbrev pub sublot_line : SublotShown → Bytes
sublot_line shown = column_line (left_aligned 16 shown.row.lot ∷ left_aligned 16 shown.row.sublot ∷ left_aligned 16 shown.lot.material ∷ left_aligned 11 (disposition_word shown.lot.disposition) ∷ right_aligned 14 (decimal shown.row.amount) ∷ shown.measure ∷ [])

-- a line for each sublot
abbrev pub stock_text : List SublotShown → Bytes
stock_text shown = flat_map sublot_line shown

-- a sublot of a slice, if its lot and the lot's material are there
abbrev pub shown_in : Slice → SublotRow → Option SublotShown
shown_in s row = option_and_then (λ lot. option_map (λ material. record { row = row; lot = lot; measure = material.measure }) (material_at s lot.material)) (lot_at s row.lot)

abbrev pub sublots_in : Slice → List SublotShown
sublots_in s = filter_map (shown_in s) s.sublots

-- a sublot of the owner over a history
abbrev pub shown_over : History → Bytes → Bytes × Bytes → Option SublotShown
shown_over H o k = option_and_then (λ row. option_map (λ lot. record { row = row; lot = lot; measure = measure_of (acts o H) lot.material }) (lot_row H o row.lot)) (sublot_row H o k)

-- the text of all sublots of the owner, by lot and sublot
pub record IsStockText (H : History) (o : Bytes) (text : Bytes) : Type 0 where
  pub shown : List SublotShown
  pub given : AreRowsGiven pair_cmp (λ shown. (shown.row.lot, shown.row.sublot)) (shown_over H o) shown
  pub is : text ≡ stock_text shown

-- ---- a batch

-- of a batch that was closed or not
abbrev pub batch_status : Bool → Bytes
batch_status true = codes "closed"
batch_status false = codes "open"

abbrev pub batch_head : BatchRow → Bytes
batch_head row = column_line ((row.order ++ codes "/" ++ decimal row.number) ∷ word_of_state row.state ∷ row.unit ∷ batch_status row.closed ∷ [])

abbrev pub requirement_line : RequirementLine → Bytes
requirement_line shown = column_line (right_aligned 2 (decimal shown.row.segment) ∷ left_aligned 8 (use_word shown.row.role) ∷ left_aligned 16 shown.row.source ∷ left_aligned 16 shown.row.material ∷ right_aligned 10 (decimal shown.row.amount) ∷ right_aligned 14 (decimal shown.actual) ∷ [])

-- the batch, and a line for each requirement
abbrev pub batch_text : BatchRow → List RequirementLine → Bytes
batch_text row shown = batch_head row ++ flat_map requirement_line shown

-- ---- traces and recalls

abbrev pub step_line : Step → Bytes
step_line step = column_line (right_aligned 6 (decimal step.steps) ∷ left_aligned 16 step.lot.owner ∷ step.lot.lot ∷ [])

-- a line for each lot
abbrev pub trace_text : List Step → Bytes
trace_text steps = flat_map step_line steps

abbrev pub recall_head : Bytes
recall_head = column_line (right_aligned 6 (codes "steps") ∷ left_aligned 16 (codes "owner") ∷ left_aligned 16 (codes "lot") ∷ left_aligned 11 (codes "disposition") ∷ right_aligned 14 (codes "on-hand") ∷ right_aligned 14 (codes "shipped") ∷ [])

abbrev pub recall_line_text : RecallLine → Bytes
recall_line_text shown = column_line (right_aligned 6 (decimal shown.step.steps) ∷ left_aligned 16 shown.step.lot.owner ∷ left_aligned 16 shown.step.lot.lot ∷ left_aligned 11 (disposition_word shown.disposition) ∷ right_aligned 14 (decimal shown.totals.on_hand) ∷ right_aligned 14 (decimal shown.totals.shipped) ∷ [])

-- a heading, and a line for each lot
abbrev pub recall_text : List RecallLine → Bytes
recall_text shown = recall_head ++ flat_map recall_line_text shown
