-- An accepted command leaves the sublots of other owners unchanged, except those that it takes from.
use Rattle.std.proofs.Common.{◌≡◌, ℕ, ◌+◌, ◌-◌, Bool, true, false, ◌||◌, cond, ◌∷◌, refl, sym, ap, ◌∙◌, arith}
use Rattle.toll_history.proofs.Common.{sublot_row_of, false≢true, false_from_ne_true, Bytes, same_bytes, where_so, is_some_where, lot_id, MoveRow, Move, same_bytes-refl, Action, Record, Void, by, History, brings_into, takes_from, stock, sublot_known, sublot_row, Accepted, IsLawful, verdict, is_taken_in}
use Rattle.toll_history.proofs.Passed.{MoveFits, move_fits}
use Rattle.toll_history.proofs.Moving.{brings_own, Voidable, void_passes}
use Rattle.toll_history.proofs.Owned.{found_brings_own}
use Rattle.toll_history.proofs.StockChanges.{stock-recorded, stock-voided}

module _ (H : History) (w o : Bytes) (other : same_bytes o w ≡ false) where
  -- Another owner's movement brings into no lot of the owner.
  brings_none : (what : Move) (amount : ℕ) → MoveFits H w what amount → (l sub : Bytes) → brings_into (lot_id o l) sub w what ≡ false
  brings_none what amount fits l sub = false_from_ne_true _ (λ brings. false≢true (sym other ∙ ap (λ x. same_bytes x w) (brings_own H w what amount fits (lot_id o l) sub brings) ∙ same_bytes-refl w))

  known_kept : (a : Action) → verdict H (by w a) ≡ Accepted → (l sub : Bytes) → sublot_known (by w a ∷ H) (lot_id o l) sub ≡ sublot_known H (lot_id o l) sub
  unfolding sublot_known
  known_kept (Record row) accepted l sub = ap (λ b. b || sublot_known H (lot_id o l) sub) (brings_none row.what row.amount (move_fits H w row accepted) l sub)
  known_kept a accepted l sub = refl

  other_same_after : (comes goes : Bool) (amount stock after : ℕ) → comes ≡ false → goes ≡ false → after ≡ stock + cond comes amount 0 - cond goes amount 0 → after ≡ stock
  other_same_after true goes amount stock after none stays is = absurd (false≢true (sym none))
  other_same_after false true amount stock after none stays is = absurd (false≢true (sym stays))
  other_same_after false false amount stock after none stays is = omega arith

  void_kept : (key : Bytes) → IsLawful H → Voidable H w key → (l sub : Bytes) → is_taken_in H (by w (Void key)) (lot_id o l) sub ≡ false → stock (by w (Void key) ∷ H) (lot_id o l) sub ≡ stock H (lot_id o l) sub
  void_kept key lawful void l sub stays =
      let what = void.row.what in
      let none : brings_into (lot_id o l) sub w what ≡ false = false_from_ne_true _ (λ brings. false≢true (sym other ∙ ap (λ x. same_bytes x w) (found_brings_own H lawful w key void.row void.found (lot_id o l) sub brings) ∙ same_bytes-refl w)) in
      let stays' : takes_from (lot_id o l) sub w what ≡ false = ap (is_some_where (λ (row : MoveRow). takes_from (lot_id o l) sub w row.what)) (sym void.found) ∙ stays in
      other_same_after (takes_from (lot_id o l) sub w what) (brings_into (lot_id o l) sub w what) void.row.amount _ _ stays' none (stock-voided H w key void.row (lot_id o l) sub lawful void.found void.stays)

  stock_kept : (a : Action) → IsLawful H → verdict H (by w a) ≡ Accepted → (l sub : Bytes) → is_taken_in H (by w a) (lot_id o l) sub ≡ false → stock (by w a ∷ H) (lot_id o l) sub ≡ stock H (lot_id o l) sub
  unfolding stock
  stock_kept (Record row) lawful accepted l sub stays =
      other_same_after (brings_into (lot_id o l) sub w row.what) (takes_from (lot_id o l) sub w row.what) row.amount _ _ (brings_none row.what row.amount (move_fits H w row accepted) l sub) stays (stock-recorded H w row (lot_id o l) sub lawful)
  stock_kept (Void key) lawful accepted l sub stays = void_kept key lawful (void_passes H w key accepted) l sub stays
  stock_kept a lawful accepted l sub stays = refl

  -- The sublots from which nothing is taken are unchanged.
  pub sublot_row_kept : (a : Action) → IsLawful H → verdict H (by w a) ≡ Accepted → (k : Bytes × Bytes) → is_taken_in H (by w a) (lot_id o k.0) k.1 ≡ false → sublot_row (by w a ∷ H) o k ≡ sublot_row H o k
  sublot_row_kept a lawful accepted k stays i = where_so (known_kept a accepted k.0 k.1 i) (sublot_row_of k.0 k.1 (stock_kept a lawful accepted k.0 k.1 stays i))
