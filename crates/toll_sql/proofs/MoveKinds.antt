-- A movement is determined by its cells.
use Rattle.std.proofs.Common.{◌≡◌, ℕ, ℤ, pos, [], ◌∷◌, get_or, refl, sym, ap, subst, ◌∙◌}
use Rattle.toll_sql.proofs.Common.{Value, Int, Text, Row, column, Bytes, Role, Consumed, Produced, Move, Receive, Split, Ship, Scrap, Actual, kind_number, move_lot, move_sublot, move_target, move_material, move_order, move_number, move_segment}
use Rattle.toll_sql.specs.Moves.{ShowsMove, IsUnshown}

-- ---- the value of a cell of the kind

abbrev pub value_text : Value → Bytes
value_text (Text t) = t
value_text _ = []

abbrev pub int_of : Value → ℤ
int_of (Int n) = n
int_of _ = pos 0

abbrev pub nat_of : Value → ℕ
nat_of (Int (pos n)) = n
nat_of _ = 0

-- ---- the movement with such parts

abbrev moved : (kind owner lot sublot target material order number segment : Value) → Move
moved kind owner lot sublot target material order number segment =
    let l = value_text lot in
    let s = value_text sublot in
    let actual : Role → Move = λ role. Actual (value_text order) (nat_of number) (nat_of segment) role (value_text material) (record { owner = value_text owner; lot = l }) s in
    get_or (Receive (value_text material) l s ∷ Split l s (value_text target) ∷ Ship l s ∷ Scrap l s ∷ actual Consumed ∷ actual Produced ∷ []) (nat_of kind) (actual Consumed)

pub move_read_back : (o : Bytes) (m : Move) → moved (Int (pos (kind_number m))) (Text (move_lot o m).owner) (Text (move_lot o m).lot) (Text (move_sublot m)) (Text (move_target m)) (Text (move_material m)) (Text (move_order m)) (Int (pos (move_number m))) (Int (pos (move_segment m))) ≡ m
move_read_back o (Actual order number segment Consumed material lot sublot) = refl
move_read_back o _ = refl

-- the movement of this kind with these cells, and the one of the kind that the cells have
abbrev pub move_of_kind : Value → Row → Move
move_of_kind kind row = moved kind (column row 3) (column row 4) (column row 5) (column row 6) (column row 7) (column row 8) (column row 9) (column row 10)

abbrev pub of_row : Row → Move
of_row row = move_of_kind (column row 2) row

move_shown : (o : Bytes) (row : Row) (m : Move) → ShowsMove o row m → of_row row ≡ m
move_shown o row m s = (λ i. moved (s.kind i) (s.lot_owner i) (s.lot i) (s.sublot i) (s.target i) (s.material i) (s.order i) (s.number i) (s.segment i)) ∙ move_read_back o m

-- A row shows no movement other than the one of its kind.
pub unshown : (n : ℕ) (o : Bytes) (row : Row) (m : Move) → column row 2 ≡ Int (pos n) → IsUnshown o row (move_of_kind (Int (pos n)) row) → IsUnshown o row m
unshown n o row m is none valid shows = subst (λ m. IsUnshown o row m) (ap (λ kind. move_of_kind kind row) (sym is) ∙ move_shown o row m shows) none valid shows
