-- The owners of the sublots that a movement of a lawful history brings into and takes from; and that these sublots are known.
use Rattle.std.proofs.Common.{◌≡◌, true, Some, ◌∷◌}
use Rattle.toll_history.proofs.Common.{AllByRecursion, or_left, Bytes, LotId, MoveRow, Action, Record, by, History, acts, Movement, movement_of, movements, brings_into, sublot_known, Accepted, IsLawful, verdict, BringsOwn, TakesKnown}
use Rattle.toll_history.proofs.Passed.{move_fits}
use Rattle.toll_history.proofs.EachMove.{each_move, of_found}
use Rattle.toll_history.proofs.Moving.{brings_own, takes_known, takes_own}
use Rattle.toll_history.proofs.Lots.{sublot_stays}

brings_now : (H : History) (o : Bytes) (row : MoveRow) → verdict H (by o (Record row)) ≡ Accepted → BringsOwn (by o (Record row) ∷ H) (o, row)
unfolding sublot_known
brings_now H o row accepted id sub brings = (brings_own H o row.what row.amount (move_fits H o row accepted) id sub brings, or_left _ _ brings)

pub all_bring_own : (H : History) → IsLawful H → AllByRecursion (BringsOwn H) (movements H)
all_bring_own = each_move BringsOwn (λ H o row lawful valid accepted. brings_now H o row accepted) (λ H o a accepted m owned id sub brings. let was = owned id sub brings in (was.0, sublot_stays H o a id sub was.1))

takes_now : (H : History) (o : Bytes) (row : MoveRow) → verdict H (by o (Record row)) ≡ Accepted → TakesKnown H (o, row)
takes_now H o row accepted id sub takes = let fits = move_fits H o row accepted in (takes_known H o row.what row.amount fits id sub takes, takes_own H o row.what row.amount fits id sub takes)

takes_still : (H : History) (o : Bytes) (a : Action) (m : Movement) → TakesKnown H m → TakesKnown (by o a ∷ H) m
takes_still H o a m taken id sub takes = let was = taken id sub takes in (sublot_stays H o a id sub was.0, was.1)

pub all_take_known : (H : History) → IsLawful H → AllByRecursion (TakesKnown H) (movements H)
all_take_known = each_move TakesKnown (λ H o row lawful valid accepted. takes_still H o (Record row) (o, row) (takes_now H o row accepted)) (λ H o a accepted m. takes_still H o a m)

-- The movement with a key brings into sublots of its owner.
pub found_brings_own : (H : History) → IsLawful H → (o key : Bytes) (row : MoveRow) → movement_of (acts o H) key ≡ Some row → (id : LotId) (sub : Bytes) → brings_into id sub o row.what ≡ true → id.owner ≡ o
found_brings_own H lawful o key row is id sub brings = (of_found (BringsOwn H) o key row H (all_bring_own H lawful) is id sub brings).0
