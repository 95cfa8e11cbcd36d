-- The bodies of replies, as JSON values (RFC 8259): keys stand in the order of their bytes.
use Rattle.std.specs.Prelude.{ℕ, ℤ, pos, negsuc, List, [], ◌∷◌, ◌++◌, codes, decimal, map}
use Rattle.toll_wire.specs.Common.{Data, boolean, number, unsigned, negative, string, array, object, Members, member, no_members, Bytes}
use Rattle.serde_json.specs.View.{items_of}
use Rattle.toll_base.specs.Refusal.{refusal_code, title_of}
use Rattle.toll_base.specs.States.{word_of_state}
use Rattle.toll_base.specs.declared.lot.Origin.{Origin}
use Rattle.toll_base.specs.declared.lot.Origin.TheVariants.{Receipts, Batch}
use Rattle.toll_base.specs.declared.refusal.Refusal.{Refusal}
use Rattle.toll_base.specs.declared.rows.BatchRow.{BatchRow}
use Rattle.toll_base.specs.declared.rows.LotRow.{LotRow}
use Rattle.toll_base.specs.declared.rows.OrderRow.{OrderRow}
use Rattle.toll_base.specs.declared.rows.ResultRow.{ResultRow}
use Rattle.toll_base.specs.declared.rows.SublotRow.{SublotRow}
use Rattle.toll_base.specs.ValueWords.{disposition_word, order_status, use_word}
use Rattle.toll_trace.specs.declared.step.Step.{Step}
use Rattle.toll_answers.specs.declared.views.stock.StockLine.{StockLine}
use Rattle.toll_work.specs.declared.views.RequirementLine.{RequirementLine}

-- ---- forms

-- these members, in this order
abbrev pub members_of : List (Bytes × Data) → Members
members_of [] = no_members
members_of (m ∷ ms) = member m.0 m.1 (members_of ms)

-- an object of these members
abbrev pub fields : List (Bytes × Data) → Data
fields ms = object (members_of ms)

-- a count
abbrev pub count_data : ℕ → Data
count_data n = number (unsigned n)

-- a whole number, which may be below zero
abbrev pub whole_data : ℤ → Data
whole_data (pos n) = number (unsigned n)
whole_data (negsuc n) = number (negative (negsuc n))

-- a list, with what is said of each
abbrev pub list_data : {T : Type 0} → (T → Data) → List T → Data
list_data as_data rows = array (items_of (map as_data rows))

-- a list under this name
abbrev pub named_list_data : {T : Type 0} → Bytes → (T → Data) → List T → Data
named_list_data name as_data rows = fields ((name, list_data as_data rows) ∷ [])

-- ---- orders

-- an order
abbrev pub order_data : OrderRow → Data
order_data row =
    fields ((codes "batches", count_data row.batches)
    ∷ (codes "order", string row.order)
    ∷ (codes "recipe", string row.recipe)
    ∷ (codes "status", string (order_status row.cancelled)) ∷ [])

-- the orders of an owner
abbrev pub orders_data : List OrderRow → Data
orders_data rows = named_list_data (codes "orders") order_data rows

-- ---- a batch

-- a requirement, and how much of it the batch did
abbrev pub requirement_data : RequirementLine → Data
requirement_data line =
    fields ((codes "actual", count_data line.actual)
    ∷ (codes "material", string line.row.material)
    ∷ (codes "owner", string line.row.source)
    ∷ (codes "required", count_data line.row.amount)
    ∷ (codes "segment", count_data line.row.segment)
    ∷ (codes "use", string (use_word line.row.role)) ∷ [])

-- a batch, with its requirements
abbrev pub batch_data : BatchRow → List RequirementLine → Data
batch_data row lines =
    fields ((codes "batch", count_data row.number)
    ∷ (codes "closed", boolean row.closed)
    ∷ (codes "order", string row.order)
    ∷ (codes "requirements", list_data requirement_data lines)
    ∷ (codes "state", string (word_of_state row.state))
    ∷ (codes "unit", string row.unit) ∷ [])

-- ---- stock

-- a lot, and how much of it is on hand
abbrev pub stock_line_data : StockLine → Data
stock_line_data line =
    fields ((codes "amount", count_data line.amount)
    ∷ (codes "disposition", string (disposition_word line.row.disposition))
    ∷ (codes "lot", string line.row.lot)
    ∷ (codes "material", string line.row.material)
    ∷ (codes "measure", string line.measure) ∷ [])

-- all that is in stock
abbrev pub stock_data : List StockLine → Data
stock_data lines = named_list_data (codes "lots") stock_line_data lines

-- ---- a lot

-- the origin of a lot: receipts, or an order's batch
abbrev pub origin_word : Origin → Bytes
origin_word Receipts = codes "receipts"
origin_word (Batch order batch) = order ++ (codes "/" ++ decimal batch)

-- a result of a test
abbrev pub result_data : ResultRow → Data
result_data row =
    fields ((codes "day", count_data row.day)
    ∷ (codes "test", string row.test)
    ∷ (codes "value", whole_data row.value) ∷ [])

-- a sublot, and how much is there
abbrev pub sublot_data : SublotRow → Data
sublot_data row =
    fields ((codes "amount", count_data row.amount)
    ∷ (codes "sublot", string row.sublot) ∷ [])

-- a lot from this origin, with the measure of its material, its results and its sublots
abbrev pub lot_from : Bytes → LotRow → Bytes → List ResultRow → List SublotRow → Data
lot_from origin row measure results sublots =
    fields ((codes "disposition", string (disposition_word row.disposition))
    ∷ (codes "lot", string row.lot)
    ∷ (codes "material", string row.material)
    ∷ (codes "measure", string measure)
    ∷ (codes "origin", string origin)
    ∷ (codes "results", list_data result_data results)
    ∷ (codes "sublots", list_data sublot_data sublots) ∷ [])

-- a lot with the word of its origin
abbrev pub lot_data : LotRow → Bytes → List ResultRow → List SublotRow → Data
lot_data row measure results sublots = lot_from (origin_word row.origin) row measure results sublots

-- ---- a trace

-- a lot of a trace
abbrev pub step_data : Step → Data
step_data step =
    fields ((codes "lot", string step.lot.lot)
    ∷ (codes "owner", string step.lot.owner)
    ∷ (codes "steps", count_data step.steps) ∷ [])

-- the lots of a trace
abbrev pub trace_data : List Step → Data
trace_data steps = named_list_data (codes "lots") step_data steps

-- ---- refusals and failures

-- why a command is refused
abbrev pub refusal_data : Refusal → Data
refusal_data refusal =
    fields ((codes "code", count_data (refusal_code refusal))
    ∷ (codes "error", string (title_of refusal)) ∷ [])

-- why a request is answered without a command
abbrev pub error_data : Bytes → Data
error_data word = fields ((codes "error", string word) ∷ [])
