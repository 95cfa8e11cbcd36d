-- What is on hand of an owner's lots, and what its batches did, follows from the owner's part of a history.
use Rattle.std.proofs.Common.{◌≡◌, ℕ, ◌-◌, Bool, false, ◌&&◌, cond, refl, sym, ap, subst, ◌∙◌}
use Rattle.std.proofs.lemmas.Bool.{and_left}
use Rattle.toll_history.proofs.Common.{Bytes, same_bytes, house_name, total, lot_id, Consumed, Produced, RequirementRow, Move, Receive, Split, Ship, Scrap, Actual, same_bytes-symm, is_actual_of, History, part, standing, IsLawful}
use Rattle.toll_history.proofs.Own.{standing-part}
use Rattle.toll_history.proofs.Crossing.{crosses_by, standing_not_crossing, not_same_lot, is_the_owner, neither_name}
use Rattle.toll_history.proofs.OwnFacts.{total-own}
use Rattle.toll_history.specs.Amounts.{adds_to, ships_from, uses_up, amounts, on_hand, shipped, meets_requirement, serves, actual_amount}

module _ (o : Bytes) where
  -- Movements of others that don't cross fail the test.
  abbrev OthersFail : (Bytes → Move → Bool) → Type 0
  OthersFail passes = (p : Bytes) (what : Move) → same_bytes o p ≡ false → crosses_by p what ≡ false → passes p what ≡ false

  module _ (H : History) (lawful : IsLawful H) where
    amounts-part : (passes : Bytes → Move → Bool) → OthersFail passes → amounts passes (part o H) ≡ amounts passes H
    amounts-part passes fail =
        ap (total (λ m. cond (passes m.0 m.1.what) m.1.amount 0)) (sym (standing-part o H))
        ∙ sym (total-own o (λ m. cond (passes m.0 m.1.what) m.1.amount 0)
        (λ m other h. ap (λ b. cond b m.1.amount 0) (fail m.0 m.1.what (same_bytes-symm o m.0 ∙ other) h))
        (standing H) (standing_not_crossing H lawful))

    adds_to_not : (l : Bytes) → OthersFail (adds_to (lot_id o l))
    adds_to_not l p (Receive material lot sublot) other h = not_same_lot (lot_id o l) p lot other
    adds_to_not l p (Actual order number segment Produced material lot sublot) other h =
        and_left (same_bytes o lot.owner) _ (subst (λ q. same_bytes o q ≡ false) (sym (is_the_owner lot.owner p h)) other)
    adds_to_not l p (Actual order number segment Consumed material lot sublot) other h = refl
    adds_to_not l p (Split lot sublot target) other h = refl
    adds_to_not l p (Ship lot sublot) other h = refl
    adds_to_not l p (Scrap lot sublot) other h = refl

    uses_up_not : same_bytes o house_name ≡ false → (l : Bytes) → OthersFail (uses_up (lot_id o l))
    uses_up_not not_house l p (Ship lot sublot) other h = not_same_lot (lot_id o l) p lot other
    uses_up_not not_house l p (Scrap lot sublot) other h = not_same_lot (lot_id o l) p lot other
    uses_up_not not_house l p (Actual order number segment Consumed material lot sublot) other h =
        and_left (same_bytes o lot.owner) _ (neither_name o p house_name lot.owner h other not_house)
    uses_up_not not_house l p (Actual order number segment Produced material lot sublot) other h = refl
    uses_up_not not_house l p (Receive material lot sublot) other h = refl
    uses_up_not not_house l p (Split lot sublot target) other h = refl

    ships_from_not : (l : Bytes) → OthersFail (ships_from (lot_id o l))
    ships_from_not l p (Ship lot sublot) other h = not_same_lot (lot_id o l) p lot other
    ships_from_not l p _ other h = refl

    serves_not : (order : Bytes) (number : ℕ) (row : RequirementRow) → OthersFail (serves o order number row)
    serves_not order number row p what other h = ap (λ x. x && is_actual_of order number what && meets_requirement row what) (same_bytes-symm p o ∙ other)

    pub on_hand-part : same_bytes o house_name ≡ false → (l : Bytes) → on_hand (part o H) (lot_id o l) ≡ on_hand H (lot_id o l)
    unfolding on_hand
    on_hand-part not_house l i = amounts-part (adds_to (lot_id o l)) (adds_to_not l) i - amounts-part (uses_up (lot_id o l)) (uses_up_not not_house l) i

    pub shipped-part : (l : Bytes) → shipped (part o H) (lot_id o l) ≡ shipped H (lot_id o l)
    unfolding shipped
    shipped-part l = amounts-part (ships_from (lot_id o l)) (ships_from_not l)

    pub actual_amount-part : (order : Bytes) (number : ℕ) (row : RequirementRow) → actual_amount (part o H) o order number row ≡ actual_amount H o order number row
    unfolding actual_amount
    actual_amount-part order number row = amounts-part (serves o order number row) (serves_not order number row)
