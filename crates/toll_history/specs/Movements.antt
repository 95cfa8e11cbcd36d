-- Movements, stock, and the origin of lots. A lot is an owner with a name, and its facts follow from the commands of all owners.
use Rattle.std.specs.Prelude.{ℕ, ◌+◌, ◌-◌, Bool, false, not, ◌&&◌, if◌then◌else◌, Option, Some, None, is_none, List, [], ◌∷◌, ◌++◌, filter}
use Rattle.toll_history.specs.Common.{list_any, Bytes, same_bytes, lot_id, same_lot, total, count, or_else, is_some_where, where_so, same_role, is_actual_of, MoveRow, Move, Receive, Split, Ship, Scrap, Actual, LotId, Origin, Receipts, Batch, Consumed, Produced}
use Rattle.toll_history.specs.Command.{Action, Record, Void}
use Rattle.toll_history.specs.History.{History}
use Rattle.toll_history.specs.Work.{added_row, count_added}

-- ---- movements

-- a movement, and the owner that it belongs to
abbrev pub Movement : Type 0
Movement = Bytes × MoveRow

abbrev pub moved_by : Bytes → Action → List Movement
moved_by o (Record row) = (o, row) ∷ []
moved_by o _ = []

-- the movements of a history, the newest first
abbrev pub movements : History → List Movement
movements [] = []
movements (c ∷ H) = moved_by c.owner c.action ++ movements H

abbrev pub has_move_key : Bytes → Bytes → Movement → Bool
has_move_key o key m = same_bytes o m.0 && same_bytes key m.1.key

-- the standing movements after an action, from those before: a recorded movement is added, and a voided one removed
abbrev pub standing_after : Bytes → Action → List Movement → List Movement
standing_after o (Record row) ms = (o, row) ∷ ms
standing_after o (Void key) ms = filter (λ m. not (has_move_key o key m)) ms
standing_after o _ ms = ms

-- the movements that no later command voids
abbrev pub standing : History → List Movement
standing [] = []
standing (c ∷ H) = standing_after c.owner c.action (standing H)

abbrev pub movement_recorded : Action → Option MoveRow
movement_recorded (Record row) = Some row
movement_recorded _ = None

-- the movement of an owner with this key
abbrev pub movement_of : List Action → Bytes → Option MoveRow
movement_of own key = added_row movement_recorded (λ row. same_bytes key row.key) own

abbrev pub count_movements : List Action → ℕ
count_movements own = count_added movement_recorded own

abbrev pub voids_key : Bytes → Action → Bool
voids_key key (Void k) = same_bytes k key
voids_key key _ = false

-- whether the owner's movement with this key is voided
abbrev pub voided_in : List Action → Bytes → Bool
voided_in own key = list_any (voids_key key) own

-- how many actuals the batch has, voided ones included
abbrev pub count_actuals_of : List Action → Bytes → ℕ → ℕ
count_actuals_of own order number = count (λ a. is_some_where (λ row. is_actual_of order number row.what) (movement_recorded a)) own

-- ---- stock (IEC 62264-2, material sublots)

-- whether a movement of this owner brings into the sublot: it is received, produced, or the target of a split
abbrev pub brings_into : LotId → Bytes → Bytes → Move → Bool
brings_into id sub o (Receive material lot sublot) = same_lot id (lot_id o lot) && same_bytes sub sublot
brings_into id sub o (Split lot sublot target) = same_lot id (lot_id o lot) && same_bytes sub target
brings_into id sub o (Actual order number segment Produced material lot sublot) = same_lot id lot && same_bytes sub sublot
brings_into id sub o _ = false

-- whether a movement of this owner takes out of the sublot: it is shipped, scrapped, consumed, or split
abbrev pub takes_from : LotId → Bytes → Bytes → Move → Bool
takes_from id sub o (Split lot sublot target) = same_lot id (lot_id o lot) && same_bytes sub sublot
takes_from id sub o (Ship lot sublot) = same_lot id (lot_id o lot) && same_bytes sub sublot
takes_from id sub o (Scrap lot sublot) = same_lot id (lot_id o lot) && same_bytes sub sublot
takes_from id sub o (Actual order number segment Consumed material lot sublot) = same_lot id lot && same_bytes sub sublot
takes_from id sub o _ = false

-- what standing movements bring in
abbrev pub brought : History → LotId → Bytes → ℕ
brought H id sub = total (λ m. if brings_into id sub m.0 m.1.what then m.1.amount else 0) (standing H)

-- what standing movements take out
abbrev pub taken : History → LotId → Bytes → ℕ
taken H id sub = total (λ m. if takes_from id sub m.0 m.1.what then m.1.amount else 0) (standing H)

unfoldable pub stock : History → LotId → Bytes → ℕ
stock H id sub = brought H id sub - taken H id sub

-- whether the sublot is known: a movement brings into it, voided or not
unfoldable pub sublot_known : History → LotId → Bytes → Bool
sublot_known H id sub = list_any (λ m. brings_into id sub m.0 m.1.what) (movements H)

-- ---- the origin of a lot (IEC 62264-2, material lots)

-- a lot's material and its origin
pub record Made : Type 0 where
  pub material : Bytes
  pub origin : Origin

abbrev pub made_by : LotId → Bytes → Move → Option Made
made_by id o (Receive material lot sublot) = where_so (same_lot id (lot_id o lot)) (record { material = material; origin = Receipts })
made_by id o (Actual order number segment Produced material lot sublot) = where_so (same_lot id lot) (record { material = material; origin = Batch order number })
made_by id o _ = None

-- the first movement into the lot says; the list has the newest first
abbrev pub first_made : LotId → List Movement → Option Made
first_made id [] = None
first_made id (m ∷ ms) = or_else (first_made id ms) (made_by id m.0 m.1.what)

unfoldable pub lot_made : History → LotId → Option Made
lot_made H id = first_made id (movements H)

-- ---- the lots and sublots of an owner

-- whether a movement makes a lot of its owner's: none before it brought into that lot
abbrev pub makes_lot : Bytes → Move → List Movement → Bool
makes_lot o (Receive material lot sublot) ms = is_none (first_made (lot_id o lot) ms)
makes_lot o (Actual order number segment Produced material lot sublot) ms = is_none (first_made lot ms)
makes_lot o _ ms = false

abbrev pub sublot_in : LotId → Bytes → List Movement → Bool
sublot_in id sub ms = list_any (λ m. brings_into id sub m.0 m.1.what) ms

-- whether a movement makes a sublot: none before it brought into that sublot
abbrev pub makes_sublot : Bytes → Move → List Movement → Bool
makes_sublot o (Receive material lot sublot) ms = not (sublot_in (lot_id o lot) sublot ms)
makes_sublot o (Split lot sublot target) ms = not (sublot_in (lot_id o lot) target ms)
makes_sublot o (Actual order number segment Produced material lot sublot) ms = not (sublot_in lot sublot ms)
makes_sublot o _ ms = false

-- how many of an owner's movements make something that was not there before
abbrev pub count_making : (Bytes → Move → List Movement → Bool) → Bytes → List Movement → ℕ
count_making makes o [] = 0
count_making makes o (m ∷ ms) = (if same_bytes o m.0 && makes m.0 m.1.what ms then 1 else 0) + count_making makes o ms

unfoldable pub count_lots : History → Bytes → ℕ
count_lots H o = count_making makes_lot o (movements H)

unfoldable pub count_sublots : History → Bytes → ℕ
count_sublots H o = count_making makes_sublot o (movements H)

-- the lot of this owner that a movement brings into
abbrev pub lot_brought : Bytes → Movement → Option Bytes
lot_brought o m = elim m.1.what [ Receive material lot sublot ↦ where_so (same_bytes o m.0) lot | Actual order number segment role material lot sublot ↦ where_so (same_role role Produced && same_bytes o lot.owner) lot.lot | _ ↦ None ]

-- whether a lot of the owner is of this material
unfoldable pub material_used : History → Bytes → Bytes → Bool
material_used H o material = list_any (λ m. is_some_where (λ lot. is_some_where (λ made. same_bytes made.material material) (lot_made H (lot_id o lot))) (lot_brought o m)) (movements H)
