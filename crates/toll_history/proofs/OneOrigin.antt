-- Each movement into a lot makes it what its first movement made it.
use Rattle.std.proofs.Common.{◌≡◌, ℕ, Bool, true, false, not, ◌==◌, Some, None, ◌∷◌, refl, sym, ap, ◌∙◌}
use Rattle.toll_history.proofs.Common.{false≢true, AllByRecursion, option_map, not-false, cond_some, Bytes, same_bytes, or_else, is_some_where, lot_id, same_lot, LotId, Origin, Receipts, Batch, Produced, LotRow, MoveRow, Move, Receive, Actual, both, same_bytes-exact, nat_eq-exact, Record, by, History, acts, movements, Made, made_by, lot_made, lot_row, lot_row_made, Accepted, IsLawful, verdict, is_receipts, is_made_by, Agrees}
use Rattle.toll_history.proofs.Passed.{MoveFits, move_fits}
use Rattle.toll_history.proofs.EachMove.{each_move}
use Rattle.toll_history.proofs.Moving.{same_lot-exact, crosses_not}
use Rattle.toll_history.proofs.Lots.{lot_made-cons, made_stays}

receipts_exact : (origin : Origin) → is_receipts origin ≡ true → origin ≡ Receipts
receipts_exact Receipts h = refl
receipts_exact (Batch order number) h = absurd (false≢true h)

origin_exact : (order : Bytes) (number : ℕ) (origin : Origin) → is_made_by order number origin ≡ true → origin ≡ Batch order number
origin_exact order number Receipts h = absurd (false≢true h)
origin_exact order number (Batch o n) h = let parts = both (same_bytes o order) (n == number) h in λ i. Batch (same_bytes-exact o order parts.0 i) (nat_eq-exact n number parts.1 i)

-- The row of a lot that was made passes the test of its check.
pub at_made : (H : History) (o l : Bytes) (made : Made) → lot_made H (lot_id o l) ≡ Some made → (p : LotRow → Bool) → is_some_where (λ row. not (p row)) (lot_row H o l) ≡ false → p (lot_row_made (acts o H) l made) ≡ true
at_made H o l made is p h = not-false _ (ap (λ x. is_some_where (λ row. not (p row)) (option_map (lot_row_made (acts o H) l) x)) (sym is) ∙ h)

-- A movement that fits agrees with the lot's material and origin.
pub agrees : (H : History) (o : Bytes) (what : Move) (amount : ℕ) → MoveFits H o what amount → (id : LotId) (old made : Made) → lot_made H id ≡ Some old → made_by id o what ≡ Some made → old ≡ made
agrees H o (Receive material lot sublot) amount fits id old made there is =
    let parts = cond_some (same_lot id (lot_id o lot)) _ made is in
    let here : lot_made H (lot_id o lot) ≡ Some old = ap (lot_made H) (sym (same_lot-exact id (lot_id o lot) parts.0)) ∙ there in
    let origin = receipts_exact old.origin (at_made H o lot old here (λ row. is_receipts row.origin) (fits 1)) in
    let same = same_bytes-exact old.material material (at_made H o lot old here (λ row. same_bytes row.material material) (fits 2)) in
    let e : old ≡ record { material = material; origin = Receipts } = λ i. record { material = same i; origin = origin i } in
    e ∙ parts.1
agrees H o (Actual order number segment Produced material lot sublot) amount fits id old made there is =
    let parts = cond_some (same_lot id lot) _ made is in
    let mine = same_bytes-exact lot.owner o (not-false _ (crosses_not H o order number segment Produced material lot sublot amount fits)) in
    let here : lot_made H (lot_id o lot.lot) ≡ Some old = ap (λ w. lot_made H (lot_id w lot.lot)) (sym mine) ∙ ap (lot_made H) (sym (same_lot-exact id lot parts.0)) ∙ there in
    let origin = origin_exact order number old.origin (at_made H o lot.lot old here (λ row. is_made_by order number row.origin) (fits 7)) in
    let same = same_bytes-exact old.material material (at_made H o lot.lot old here (λ row. same_bytes row.material material) (fits 8)) in
    let e : old ≡ record { material = material; origin = Batch order number } = λ i. record { material = same i; origin = origin i } in
    e ∙ parts.1
agrees H o _ amount fits id old made there is = (cc)

pub new_agrees : (H : History) (o : Bytes) (row : MoveRow) → verdict H (by o (Record row)) ≡ Accepted → Agrees (by o (Record row) ∷ H) (o, row)
new_agrees H o row accepted id made is =
    lot_made-cons H o (Record row) id ∙
    elim (lot_made H id) as (λ x. lot_made H id ≡ x → or_else x (made_by id o row.what) ≡ Some made) [
      | Some old ↦ λ there. ap Some (agrees H o row.what row.amount (move_fits H o row accepted) id old made there is)
      | None ↦ λ none. is
    ] refl

pub one_origin : (H : History) → IsLawful H → AllByRecursion (Agrees H) (movements H)
one_origin = each_move Agrees (λ H o row lawful valid accepted. new_agrees H o row accepted) (λ H o a accepted m agreed id made is. made_stays H o a id made (agreed id made is))
