-- Bodies byte for byte, by the definitions.
use Rattle.std.proofs.Common.{◌≡◌, [], ◌∷◌, negsuc, false, true, Some, None, refl, codes}
use Rattle.toll_wire.proofs.Common.{option_and_then}
use Rattle.std.specs.Fmt.{digits}
use Rattle.serde_json.proofs.OnLiterals.{serde_json_on_literals}
use Rattle.serde_json.specs.Read.{read}
use Rattle.serde_json.specs.Written.{compact_text}
use Rattle.toll_base.specs.declared.lot.Disposition.TheVariants.{Quarantined, Released}
use Rattle.toll_base.specs.declared.lot.Origin.TheVariants.{Receipts, Batch}
use Rattle.toll_base.specs.declared.refusal.Refusal.TheVariants.{OrderExists}
use Rattle.toll_base.specs.declared.role.Role.TheVariants.{Consumed, Produced}
use Rattle.toll_base.specs.declared.rows.BatchRow.{BatchRow}
use Rattle.toll_base.specs.declared.rows.LotRow.{LotRow}
use Rattle.toll_base.specs.declared.rows.OrderRow.{OrderRow}
use Rattle.toll_base.specs.declared.state.State.TheVariants.{Running}
use Rattle.toll_base.specs.Rows.{lot_row_of, sublot_row_of}
use Rattle.toll_base.specs.Rows.{placing_of}
use Rattle.toll_wire.specs.Bodies.{order_in}
use Rattle.toll_wire.specs.ReplyBodies.{orders_data, order_data, batch_data, stock_data, lot_data, trace_data, refusal_data, error_data}
use Rattle.toll_work.specs.declared.views.RequirementLine.{RequirementLine}

-- ---- orders

abbrev pub open_order : OrderRow
open_order = record { order = codes "O-1"; recipe = codes "R-1"; batches = 2; cancelled = false }

an_order : compact_text (order_data open_order) ≡ codes "{\"batches\":2,\"order\":\"O-1\",\"recipe\":\"R-1\",\"status\":\"open\"}"
unfolding serde_json_on_literals digits
an_order = refl

the_orders : compact_text (orders_data (open_order ∷ record open_order { order = codes "O-2"; cancelled = true } ∷ []))
    ≡ codes "{\"orders\":[{\"batches\":2,\"order\":\"O-1\",\"recipe\":\"R-1\",\"status\":\"open\"},{\"batches\":2,\"order\":\"O-2\",\"recipe\":\"R-1\",\"status\":\"cancelled\"}]}"
unfolding serde_json_on_literals digits
the_orders = refl

no_orders : compact_text (orders_data []) ≡ codes "{\"orders\":[]}"
unfolding serde_json_on_literals digits
no_orders = refl

-- ---- a batch

abbrev a_batch : BatchRow
a_batch = record { order = codes "O"; number = 1; unit = codes "U1"; state = Running; closed = false }

abbrev consumes_m : RequirementLine
consumes_m = record { row = record { recipe = codes "R"; segment = 1; role = Consumed; source = codes "ACME"; material = codes "M"; amount = 100 }; actual = 100 }

abbrev produces_p : RequirementLine
produces_p = record { row = record { recipe = codes "R"; segment = 1; role = Produced; source = codes "ACME"; material = codes "P"; amount = 90 }; actual = 0 }

the_batch : compact_text (batch_data a_batch (consumes_m ∷ produces_p ∷ []))
    ≡ codes "{\"batch\":1,\"closed\":false,\"order\":\"O\",\"requirements\":[{\"actual\":100,\"material\":\"M\",\"owner\":\"ACME\",\"required\":100,\"segment\":1,\"use\":\"consumed\"},{\"actual\":0,\"material\":\"P\",\"owner\":\"ACME\",\"required\":90,\"segment\":1,\"use\":\"produced\"}],\"state\":\"running\",\"unit\":\"U1\"}"
unfolding serde_json_on_literals digits
the_batch = refl

-- ---- stock and a lot

abbrev received_row : LotRow
received_row = lot_row_of (codes "A") (codes "M") Receipts Released

abbrev produced_lot : LotRow
produced_lot = lot_row_of (codes "P1") (codes "P") (Batch (codes "O") 1) Quarantined

the_stock : compact_text (stock_data (record { row = received_row; measure = codes "kg"; amount = 60 } ∷ []))
    ≡ codes "{\"lots\":[{\"amount\":60,\"disposition\":\"released\",\"lot\":\"A\",\"material\":\"M\",\"measure\":\"kg\"}]}"
unfolding serde_json_on_literals digits
the_stock = refl

a_lot_of_receipts : compact_text (lot_data received_row (codes "kg") [] (sublot_row_of (codes "A") (codes "S1") 0 ∷ []))
    ≡ codes "{\"disposition\":\"released\",\"lot\":\"A\",\"material\":\"M\",\"measure\":\"kg\",\"origin\":\"receipts\",\"results\":[],\"sublots\":[{\"amount\":0,\"sublot\":\"S1\"}]}"
unfolding serde_json_on_literals digits
a_lot_of_receipts = refl

a_lot_of_a_batch : compact_text (lot_data produced_lot (codes "kg") (record { lot = codes "P1"; test = codes "PH"; number = 1; value = negsuc 4; day = 12 } ∷ []) [])
    ≡ codes "{\"disposition\":\"quarantined\",\"lot\":\"P1\",\"material\":\"P\",\"measure\":\"kg\",\"origin\":\"O/1\",\"results\":[{\"day\":12,\"test\":\"PH\",\"value\":-5}],\"sublots\":[]}"
unfolding serde_json_on_literals digits
a_lot_of_a_batch = refl

-- ---- a trace

the_trace : compact_text (trace_data (record { steps = 0; lot = record { owner = codes "HOUSE"; lot = codes "H-1" } } ∷ record { steps = 1; lot = record { owner = codes "ACME"; lot = codes "P1" } } ∷ []))
    ≡ codes "{\"lots\":[{\"lot\":\"H-1\",\"owner\":\"HOUSE\",\"steps\":0},{\"lot\":\"P1\",\"owner\":\"ACME\",\"steps\":1}]}"
unfolding serde_json_on_literals digits
the_trace = refl

-- ---- refusals and failures

a_refusal : compact_text (refusal_data OrderExists) ≡ codes "{\"code\":17,\"error\":\"OrderExists\"}"
unfolding serde_json_on_literals digits
a_refusal = refl

a_failure : compact_text (error_data (codes "NoRoute")) ≡ codes "{\"error\":\"NoRoute\"}"
unfolding serde_json_on_literals digits
a_failure = refl

-- ---- what a body asks for

-- of several members of one name the last counts
the_last_member_counts : option_and_then order_in (read (codes "{\"order\":\"O-1\",\"recipe\":\"R-1\",\"batches\":1,\"batches\":2}")) ≡ Some (placing_of (codes "O-1") (codes "R-1") 2)
unfolding serde_json_on_literals digits
the_last_member_counts = refl

-- a fraction is no number of batches
no_fraction : option_and_then order_in (read (codes "{\"order\":\"O-1\",\"recipe\":\"R-1\",\"batches\":2.0}")) ≡ None
unfolding serde_json_on_literals digits
no_fraction = refl

-- nor is 100
no_hundred : option_and_then order_in (read (codes "{\"order\":\"O-1\",\"recipe\":\"R-1\",\"batches\":100}")) ≡ None
unfolding serde_json_on_literals digits
no_hundred = refl
