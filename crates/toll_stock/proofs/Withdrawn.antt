-- The effect on everybody's tables of a movement that takes from one of its owner's sublots.
use Rattle.std.proofs.Common.{◌≡◌, ◌-◌, false, ◌&&◌, None, is_some, is_none, List, [], ◌∷◌, sym, ap, ◌∙◌}
use Rattle.toll_stock.proofs.Common.{Bytes, same_bytes, Record, by, History, lot_id, Movement, made_by, makes_lot, makes_sublot, lot_brought, brings_into, takes_from, OwnerFacts, facts_of, sublot_row, Accepted, verdict, MoveRow, SublotRow, Row, Sublot, Move, Grows, LeavesOthers, accepted_passes, with_move, with_sublot, put_went, went_out, tables-untaken, same_bytes-refl, same_bytes-symm, less_in_sublot}

-- Of the owner's lots, the movement takes from this sublot and does nothing else.
pub record Withdraws (row : MoveRow) (lot sublot : Bytes) : Type 0 where
  pub takes : (p o : Bytes) (k : Bytes × Bytes) → takes_from (lot_id p k.0) k.1 o row.what ≡ ((same_bytes p o && same_bytes k.0 lot) && same_bytes k.1 sublot)
  pub brings : (o : Bytes) (k : Bytes × Bytes) → brings_into (lot_id o k.0) k.1 o row.what ≡ false
  pub makes : (o l : Bytes) → made_by (lot_id o l) o row.what ≡ None
  pub no_lot : (o : Bytes) (ms : List Movement) → makes_lot o row.what ms ≡ false
  pub no_sublot : (o : Bytes) (ms : List Movement) → makes_sublot o row.what ms ≡ false
  pub into_none : (o : Bytes) → lot_brought o (o, row) ≡ None

module _ (row : MoveRow) (lot sublot : Bytes) (withdraws : Withdraws row lot sublot) where
  abbrev pub sublot_left : OwnerFacts → SublotRow
  sublot_left = less_in_sublot lot sublot row.amount

  abbrev pub withdrawal_rows : OwnerFacts → List Row
  withdrawal_rows t = Move row ∷ Sublot (sublot_left t) ∷ []

  pub leaves : LeavesOthers (Record row)
  leaves H o p lawful valid accepted other =
      tables-untaken H o row lawful valid accepted p other
      (λ k. withdraws.takes p o k ∙ ap (λ b. (b && same_bytes k.0 lot) && same_bytes k.1 sublot) (same_bytes-symm p o ∙ other))

  -- The sublot is known.
  pub withdrawal_grows : ((H : History) (o : Bytes) → verdict H (by o (Record row)) ≡ Accepted → is_none (sublot_row H o (lot, sublot)) ≡ false) → Grows (Record row) withdrawal_rows
  withdrawal_grows known H s lawful valid accepted there =
      put_went s row (sublot_left (facts_of s)) (ap (λ (t : OwnerFacts). is_some (t.movement row.key)) there ∙ accepted_passes H s.owner (Record row) accepted 2)
      ∙ (λ i. with_sublot (sublot_left (there i)) (with_move row (there i)))
      ∙ sym (went_out H s.owner row lawful valid accepted lot sublot
      ((λ l. withdraws.makes s.owner l), withdraws.no_lot s.owner _, withdraws.into_none s.owner)
      (withdraws.no_sublot s.owner _)
      (known H s.owner accepted)
      (λ k. withdraws.brings s.owner k)
      (λ k. withdraws.takes s.owner s.owner k ∙ ap (λ b. (b && same_bytes k.0 lot) && same_bytes k.1 sublot) (same_bytes-refl s.owner)))
