-- The movement that a stored row has.
use Rattle.std.specs.Prelude.{◌≡◌, ℕ, pos, [], IsTrue}
use Rattle.toll_sql.specs.Common.{Row, column, Int, Text, Bytes, is_name, LotId, Move, Receive, Split, Actual, Role}
use Rattle.toll_sql.specs.Encode.{kind_number, move_lot, move_sublot, move_target, move_material, move_order, move_number, move_segment}
use Rattle.toll_sql.specs.Valid.{IsMove}

-- The cells are those of this owner's movement.
pub record ShowsMove (o : Bytes) (row : Row) (m : Move) : Type 0 where
  pub kind : column row 2 ≡ Int (pos (kind_number m))
  pub lot_owner : column row 3 ≡ Text (move_lot o m).owner
  pub lot : column row 4 ≡ Text (move_lot o m).lot
  pub sublot : column row 5 ≡ Text (move_sublot m)
  pub target : column row 6 ≡ Text (move_target m)
  pub material : column row 7 ≡ Text (move_material m)
  pub order : column row 8 ≡ Text (move_order m)
  pub number : column row 9 ≡ Int (pos (move_number m))
  pub segment : column row 10 ≡ Int (pos (move_segment m))

-- The cells are those of a movement that takes from this lot of the owner, out of this sublot.
pub record ShowsTaking (o : Bytes) (row : Row) (from of : Bytes) : Type 0 where
  pub lot_owner : column row 3 ≡ Text o
  pub lot : column row 4 ≡ Text from
  pub sublot : column row 5 ≡ Text of
  pub target : column row 6 ≡ Text []
  pub material : column row 7 ≡ Text []
  pub order : column row 8 ≡ Text []
  pub number : column row 9 ≡ Int (pos 0)
  pub segment : column row 10 ≡ Int (pos 0)

-- The cells are not those of this movement with valid values.
abbrev pub IsUnshown : Bytes → Row → Move → Type 0
IsUnshown o row m = IsMove m → ShowsMove o row m → ⊥

-- The cells of a row, of which the first names its owner, are those of no movement.
abbrev pub ShowsNoMove : Row → Type 0
ShowsNoMove row = (o : Bytes) (m : Move) → column row 0 ≡ Text o → IsUnshown o row m

-- The cells are those of no receipt.
abbrev pub ShowsNoReceipt : Row → Type 0
ShowsNoReceipt row = (o material lot sublot : Bytes) → column row 0 ≡ Text o → IsUnshown o row (Receive material lot sublot)

-- The cells are those of no split.
abbrev pub ShowsNoSplit : Row → Type 0
ShowsNoSplit row = (o lot sublot target : Bytes) → column row 0 ≡ Text o → IsUnshown o row (Split lot sublot target)

-- The cells are those of no movement that takes from a lot of the owner.
abbrev pub ShowsNoTaking : Row → Type 0
ShowsNoTaking row = (o lot sublot : Bytes) → column row 0 ≡ Text o → IsTrue (is_name lot) → IsTrue (is_name sublot) → ShowsTaking o row lot sublot → ⊥

-- The cells are those of no actual with this role.
abbrev pub ShowsNoActual : Role → Row → Type 0
ShowsNoActual role row =
    (o order : Bytes) (number segment : ℕ) (material : Bytes) (lot : LotId) (sublot : Bytes)
    → IsUnshown o row (Actual order number segment role material lot sublot)
