-- Which sublots and lots are known along a history, and of which materials.
use Rattle.std.proofs.Common.{◌≡◌, ℕ, true, false, Option, Some, None, is_some, is_none, [], ◌∷◌, inl, inr, refl, sym, ap, ◌∙◌}
use Rattle.toll_history.proofs.Common.{false≢true, or_cases, or_right, Bytes, or_else, lot_id, same_lot, LotId, Consumed, Produced, Move, Receive, Split, Ship, Scrap, Actual, both, Action, Record, by, History, movement_recorded, brings_into, sublot_known, Made, made_by, lot_made, lot_row, Accepted, IsLawful, verdict}
use Rattle.toll_history.proofs.Options.{some_if_not_none, some_first, some_second, some_where, or_else_none}
use Rattle.toll_history.proofs.Passed.{MoveFits, move_fits}
use Rattle.toll_history.proofs.Moving.{same_lot-exact, lot_row_none}

-- ---- one command more

-- the material and origin that an action gives to a lot
abbrev pub made_in : LotId → Bytes → Action → Option Made
made_in id o a = elim (movement_recorded a) [ Some row ↦ made_by id o row.what | None ↦ None ]

pub lot_made-cons : (H : History) (o : Bytes) (a : Action) (id : LotId) → lot_made (by o a ∷ H) id ≡ or_else (lot_made H id) (made_in id o a)
unfolding lot_made
lot_made-cons H o (Record row) id = refl
lot_made-cons H o a id = sym (or_else_none _)

-- A lot keeps the material and origin of its first movement.
pub made_stays : (H : History) (o : Bytes) (a : Action) (id : LotId) (made : Made) → lot_made H id ≡ Some made → lot_made (by o a ∷ H) id ≡ Some made
made_stays H o a id made is = lot_made-cons H o a id ∙ ap (λ x. or_else x (made_in id o a)) is

pub known_stays : (H : History) (o : Bytes) (a : Action) (id : LotId) → is_some (lot_made H id) ≡ true → is_some (lot_made (by o a ∷ H) id) ≡ true
known_stays H o a id known = ap is_some (lot_made-cons H o a id) ∙ some_first (lot_made H id) _ known

pub sublot_stays : (H : History) (o : Bytes) (a : Action) (id : LotId) (sub : Bytes) → sublot_known H id sub ≡ true → sublot_known (by o a ∷ H) id sub ≡ true
unfolding sublot_known
sublot_stays H o (Record row) id sub known = or_right (brings_into id sub o row.what) _ known
sublot_stays H o a id sub known = known

-- ---- a known sublot is of a known lot

lot_known : (H : History) (id : LotId) (o lot : Bytes) → is_none (lot_row H o lot) ≡ false → same_lot id (lot_id o lot) ≡ true → is_some (lot_made H id) ≡ true
lot_known H id o lot known same = ap (λ x. is_some (lot_made H x)) (same_lot-exact id (lot_id o lot) same) ∙ some_if_not_none (lot_made H (lot_id o lot)) (sym (lot_row_none H o lot) ∙ known)

-- A movement that brings into a sublot makes its lot, or knows it.
brings_known : (H : History) (o : Bytes) (what : Move) (amount : ℕ) → MoveFits H o what amount → (id : LotId) (sub : Bytes) → brings_into id sub o what ≡ true → is_some (or_else (lot_made H id) (made_by id o what)) ≡ true
brings_known H o (Receive material lot sublot) amount fits id sub brings = some_second (lot_made H id) _ (some_where (same_lot id (lot_id o lot)) _ (both (same_lot id (lot_id o lot)) _ brings).0)
brings_known H o (Split lot sublot target) amount fits id sub brings = some_first (lot_made H id) _ (lot_known H id o lot (fits 1) (both (same_lot id (lot_id o lot)) _ brings).0)
brings_known H o (Ship lot sublot) amount fits id sub brings = absurd (false≢true brings)
brings_known H o (Scrap lot sublot) amount fits id sub brings = absurd (false≢true brings)
brings_known H o (Actual order number segment Consumed material lot sublot) amount fits id sub brings = absurd (false≢true brings)
brings_known H o (Actual order number segment Produced material lot sublot) amount fits id sub brings = some_second (lot_made H id) _ (some_where (same_lot id lot) _ (both (same_lot id lot) _ brings).0)

sublot_lot_step : (H : History) (o : Bytes) (a : Action) → verdict H (by o a) ≡ Accepted → (id : LotId) (sub : Bytes) → (sublot_known H id sub ≡ true → is_some (lot_made H id) ≡ true) → sublot_known (by o a ∷ H) id sub ≡ true → is_some (lot_made (by o a ∷ H) id) ≡ true
unfolding sublot_known
sublot_lot_step H o (Record row) accepted id sub before known =
    elim (or_cases (brings_into id sub o row.what) (sublot_known H id sub) known) [
      | inl brings ↦ ap is_some (lot_made-cons H o (Record row) id) ∙ brings_known H o row.what row.amount (move_fits H o row accepted) id sub brings
      | inr there ↦ known_stays H o (Record row) id (before there)
    ]
sublot_lot_step H o a accepted id sub before known = known_stays H o a id (before known)

pub sublot_lot : (H : History) (id : LotId) (sub : Bytes) → IsLawful H → sublot_known H id sub ≡ true → is_some (lot_made H id) ≡ true
unfolding sublot_known
sublot_lot [] id sub lawful known = absurd (false≢true known)
sublot_lot (c ∷ H) id sub lawful known = sublot_lot_step H c.owner c.action lawful.2 id sub (sublot_lot H id sub lawful.0) known
