-- Named statements about every lawful history.
use Rattle.std.specs.Prelude.{◌≡◌, ℕ, ◌+◌, ◌-◌, ◌≤◌, Bool, true, false, ◌||◌, Option, Some, None, is_some, List, ◌∷◌, if◌then◌else◌}
use Rattle.toll_history.specs.Common.{lot_row_of, list_any, Bytes, same_bytes, house_name, total, is_some_where, lot_id, same_lot, MOST_ACTUALS, MOST_LOTS, MOST_MATERIALS, MOST_MOVEMENTS, MOST_ORDERS, MOST_RECIPES, MOST_REQUIREMENTS, MOST_RESULTS, MOST_SUBLOTS, MOST_TESTS, LotId, Quarantined, Released, Consumed, TestRow, MoveRow, Move, Ship, Actual}
use Rattle.toll_history.specs.Command.{Action, Record, Void, Command, by}
use Rattle.toll_history.specs.History.{History, acts}
use Rattle.toll_history.specs.Work.{material_of, test_of, count_materials, count_tests, count_recipes, count_requirements, count_orders}
use Rattle.toll_history.specs.Movements.{Movement, Made, made_by, lot_made, movement_of, voided_in, movement_recorded, movements, standing, stock, material_used, brings_into, takes_from, sublot_known, count_movements, count_actuals_of, count_lots, count_sublots}
use Rattle.toll_history.specs.Dispositions.{count_results, count_results_of, releases, rejects, disposition_of, has_open_test, passes_test}
use Rattle.toll_history.specs.OwnerFacts.{facts_given, without_amounts, lot_row, sublot_row}
use Rattle.toll_history.specs.Verdict.{Accepted, is_actual, verdict}

-- An owner has no more of each kind than the office keeps.
pub record IsWithinLimits (H : History) (o : Bytes) : Type 0 where
  pub materials : count_materials (acts o H) ≤ MOST_MATERIALS
  pub tests : count_tests (acts o H) ≤ MOST_TESTS
  pub recipes : count_recipes (acts o H) ≤ MOST_RECIPES
  pub requirements : count_requirements (acts o H) ≤ MOST_REQUIREMENTS
  pub orders : count_orders (acts o H) ≤ MOST_ORDERS
  pub lots : count_lots H o ≤ MOST_LOTS
  pub sublots : count_sublots H o ≤ MOST_SUBLOTS
  pub movements : count_movements (acts o H) ≤ MOST_MOVEMENTS
  pub results : count_results (acts o H) ≤ MOST_RESULTS
  pub actuals : (order : Bytes) (number : ℕ) → count_actuals_of (acts o H) order number ≤ MOST_ACTUALS

-- The lot was neither released nor rejected, and has no results.
pub record IsLotUndisposed (own : List Action) (lot : Bytes) : Type 0 where
  pub released : list_any (releases lot) own ≡ false
  pub rejected : list_any (rejects lot) own ≡ false
  pub results : (test : Bytes) → count_results_of own lot test ≡ 0

-- A sublot that the movement brings into is known, and of a lot of the movement's owner.
abbrev pub BringsOwn : History → Movement → Type 0
BringsOwn H m = (id : LotId) (sub : Bytes) → brings_into id sub m.0 m.1.what ≡ true → (id.owner ≡ m.0) × (sublot_known H id sub ≡ true)

-- A sublot that the movement takes from is known, and of a lot of the movement's owner or HOUSE.
abbrev pub TakesKnown : History → Movement → Type 0
TakesKnown H m = (id : LotId) (sub : Bytes) → takes_from id sub m.0 m.1.what ≡ true → (sublot_known H id sub ≡ true) × ((same_bytes id.owner m.0 || same_bytes id.owner house_name) ≡ true)

-- The lot that the movement makes has the material and origin that the movement gives it.
abbrev pub Agrees : History → Movement → Type 0
Agrees H m = (id : LotId) (made : Made) → made_by id m.0 m.1.what ≡ Some made → lot_made H id ≡ Some made

-- whether the action records a movement with the key
abbrev pub has_this_key : Bytes → Action → Bool
has_this_key key a = is_some_where (λ row. same_bytes key row.key) (movement_recorded a)

-- what a movement of this owner brings into the sublot
abbrev pub coming : LotId → Bytes → Bytes → MoveRow → ℕ
coming id sub o row = if brings_into id sub o row.what then row.amount else 0

-- what a movement of this owner takes from the sublot
abbrev pub going : LotId → Bytes → Bytes → MoveRow → ℕ
going id sub o row = if takes_from id sub o row.what then row.amount else 0

-- whether the action records or voids a movement
abbrev pub records_or_voids : Action → Bool
records_or_voids (Record row) = true
records_or_voids (Void key) = true
records_or_voids _ = false

-- The command leaves the movements, the lots and the stock unchanged.
pub record IsUnmoved (H : History) (c : Command) : Type 0 where
  pub movements : movements (c ∷ H) ≡ movements H
  pub standing : standing (c ∷ H) ≡ standing H
  pub stock : stock (c ∷ H) ≡ stock H
  pub known : sublot_known (c ∷ H) ≡ sublot_known H
  pub made : lot_made (c ∷ H) ≡ lot_made H
  pub lots : count_lots (c ∷ H) ≡ count_lots H
  pub sublots : count_sublots (c ∷ H) ≡ count_sublots H
  pub used : material_used (c ∷ H) ≡ material_used H

-- the movement that a command records or voids
abbrev pub movement_in : History → Command → Option MoveRow
movement_in H c = elim c.action [ Record row ↦ Some row | Void key ↦ movement_of (acts c.owner H) key | _ ↦ None ]

-- whether the command records or voids a movement that takes from the sublot
abbrev pub is_taken_in : History → Command → LotId → Bytes → Bool
is_taken_in H c id sub = is_some_where (λ row. takes_from id sub c.owner row.what) (movement_in H c)

-- whether a movement of this owner gives material of the lot to a shipment or a batch
abbrev pub gives_from : LotId → Bytes → Move → Bool
gives_from id o (Ship lot sublot) = same_lot id (lot_id o lot)
gives_from id o (Actual order number segment Consumed material lot sublot) = same_lot id lot
gives_from id o _ = false

-- The lot is known and released, and none of its tests is open.
pub record IsCleared (H : History) (id : LotId) : Type 0 where
  pub made : Made
  pub known : lot_made H id ≡ Some made
  pub released : disposition_of (acts id.owner H) made.material id.lot ≡ Released
  pub tested : has_open_test (acts id.owner H) made.material id.lot ≡ false

-- The owner has the material.
abbrev pub IsKnownMaterial : History → (o material : Bytes) → Type 0
IsKnownMaterial H o material = is_some (material_of (acts o H) material) ≡ true

-- The key is that of an actual.
abbrev pub IsOfActual : History → (o key : Bytes) → Type 0
IsOfActual H o key = is_some_where (λ row. is_actual row.what) (movement_of (acts o H) key) ≡ true

-- Whatever its material, the lot is quarantined.
abbrev pub IsQuarantined : List Action → Bytes → Type 0
IsQuarantined own l = (material : Bytes) → disposition_of own material l ≡ Quarantined

-- The lot passes each test of its material.
abbrev pub PassesEach : List Action → Bytes → Made → Type 0
PassesEach own l made = (test : Bytes) (row : TestRow) → test_of own (made.material, test) ≡ Some row → passes_test own l row ≡ true

-- If the owner's lot has this material and origin and is released, P holds.
abbrev pub IfReleased : History → (o l : Bytes) → Made → Type 0 → Type 0
IfReleased H o l made P = lot_made H (lot_id o l) ≡ Some made → disposition_of (acts o H) made.material l ≡ Released → P

-- If the owner's movement with the key is this one and stands, P holds.
abbrev pub IfStands : History → (o key : Bytes) → MoveRow → Type 0 → Type 0
IfStands H o key row P = movement_of (acts o H) key ≡ Some row → voided_in (acts o H) key ≡ false → P

-- If the owner's movement is accepted, P holds.
abbrev pub IfRecorded : History → (o : Bytes) → MoveRow → Type 0 → Type 0
IfRecorded H o row P = verdict H (by o (Record row)) ≡ Accepted → P

-- After the void of its key, any sum over the standing movements is less by what this movement adds to it.
abbrev pub IsTakenBack : History → (o key : Bytes) → MoveRow → Type 0
IsTakenBack H o key row = (f : Movement → ℕ) → total f (standing H) ≡ f (o, row) + total f (standing (by o (Void key) ∷ H))

-- If the movement brings material into the lot, the lot is quarantined then, with the material and origin of the movement.
abbrev pub ComesQuarantined : History → (o : Bytes) → MoveRow → (l : Bytes) → Made → Type 0
ComesQuarantined H o row l made =
    made_by (lot_id o l) o row.what ≡ Some made →
    lot_row (by o (Record row) ∷ H) o l ≡ Some (lot_row_of l made.material made.origin Quarantined)

-- The sublot holds more by what the movement brings into it, and less by what it takes.
abbrev pub IsMoved : History → (o : Bytes) → MoveRow → LotId → Bytes → Type 0
IsMoved H o row id sub = stock (by o (Record row) ∷ H) id sub ≡ stock H id sub + coming id sub o row - going id sub o row

-- The sublot holds more by what the voided movement took from it, and less by what it brought.
abbrev pub IsMovedBack : History → (o key : Bytes) → MoveRow → LotId → Bytes → Type 0
IsMovedBack H o key row id sub = stock (by o (Void key) ∷ H) id sub ≡ stock H id sub + going id sub o row - coming id sub o row

-- The command leaves the owner's sublots unchanged, except those that it takes from or gives back to.
abbrev pub KeepsSublots : History → Command → (o : Bytes) → Type 0
KeepsSublots H c o = (k : Bytes × Bytes) → is_taken_in H c (lot_id o k.0) k.1 ≡ false → sublot_row (c ∷ H) o k ≡ sublot_row H o k

-- The command leaves the tables of an owner other than HOUSE unchanged.
abbrev pub KeepsTables : History → Command → (o : Bytes) → Type 0
KeepsTables H c o = same_bytes o house_name ≡ false → facts_given (c ∷ H) o ≡ facts_given H o

-- The command leaves the tables of HOUSE unchanged, except the amounts in sublots.
abbrev pub KeepsHouse : History → Command → Type 0
KeepsHouse H c = without_amounts (facts_given (c ∷ H) house_name) ≡ without_amounts (facts_given H house_name)
