-- What a sublot holds after a movement is recorded or voided.
use Rattle.std.proofs.Common.{◌≡◌, ℕ, ◌+◌, ◌-◌, ◌≤◌, false, cond, Some, ◌∷◌, arith}
use Rattle.toll_history.proofs.Common.{Bytes, LotId, MoveRow, Record, Void, by, History, acts, movement_of, voided_in, brings_into, takes_from, brought, taken, stock, IsLawful, coming, going}
use Rattle.toll_history.proofs.StandsOnce.{total_voided}
use Rattle.toll_history.proofs.Stock.{covered}

stock_changed : (came went comes goes : ℕ) → went ≤ came → (comes + came) - (goes + went) ≡ (came - went) + comes - goes
stock_changed came went comes goes le = omega arith

pub stock-recorded : (H : History) (o : Bytes) (row : MoveRow) (id : LotId) (sub : Bytes) → IsLawful H → stock (by o (Record row) ∷ H) id sub ≡ stock H id sub + coming id sub o row - going id sub o row
unfolding stock
stock-recorded H o row id sub lawful = stock_changed (brought H id sub) (taken H id sub) (coming id sub o row) (going id sub o row) (covered H id sub lawful)

stock_less_in : (came went comes goes came' went' : ℕ) → came ≡ comes + came' → went ≡ goes + went' → went ≤ came → came' - went' ≡ (came - went) + goes - comes
stock_less_in came went comes goes came' went' ec ew le = omega arith

pub stock-voided : (H : History) (o key : Bytes) (row : MoveRow) (id : LotId) (sub : Bytes) → IsLawful H → movement_of (acts o H) key ≡ Some row → voided_in (acts o H) key ≡ false → stock (by o (Void key) ∷ H) id sub ≡ stock H id sub + going id sub o row - coming id sub o row
unfolding stock
stock-voided H o key row id sub lawful found stays =
    stock_less_in (brought H id sub) (taken H id sub) (coming id sub o row) (going id sub o row) _ _
    (total_voided H o key row lawful found stays (λ m. cond (brings_into id sub m.0 m.1.what) m.1.amount 0))
    (total_voided H o key row lawful found stays (λ m. cond (takes_from id sub m.0 m.1.what) m.1.amount 0))
    (covered H id sub lawful)
