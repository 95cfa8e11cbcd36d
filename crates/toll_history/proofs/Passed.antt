-- What an accepted action of an owner shows: none of its checks applies.
use Rattle.std.proofs.Common.{◌≡◌, ℕ, suc, false, not, ◌&&◌, Some, ◌∷◌}
use Rattle.toll_history.proofs.Common.{Bytes, house_name, UnknownOwner, MoveRow, Move, Action, Record, by, History, owner_known, facts_given, Accepted, verdict_of_checks, verdict, checks, plant_facts_given, action_checks, key_checks, movement_checks, needs_owner}
use Rattle.toll_history.proofs.Accepted.{applies, none_applies, rest_accept}

-- None of an accepted action's checks applies.
pub accepted_passes : (H : History) (o : Bytes) (a : Action) → verdict H (by o a) ≡ Accepted → (n : ℕ) → applies (action_checks (plant_facts_given H) o (facts_given H o) (facts_given H house_name) a) n ≡ false
unfolding checks
accepted_passes H o a accepted n = none_applies (checks H (by o a)) accepted (suc n)

-- None of the checks applies of what a movement of this owner moves.
abbrev pub MoveFits : History → Bytes → Move → ℕ → Type 0
MoveFits H o what amount = (n : ℕ) → applies (movement_checks o (facts_given H o) (facts_given H house_name) what amount) n ≡ false

-- The checks of what a movement moves follow the three checks of its key.
pub move_fits : (H : History) (o : Bytes) (row : MoveRow) → verdict H (by o (Record row)) ≡ Accepted → MoveFits H o row.what row.amount
move_fits H o row accepted n = accepted_passes H o (Record row) accepted (suc (suc (suc n)))

-- The movement's own checks accept.
pub checks_accept : (H : History) (o : Bytes) (row : MoveRow) → verdict H (by o (Record row)) ≡ Accepted → verdict_of_checks (movement_checks o (facts_given H o) (facts_given H house_name) row.what row.amount) ≡ Accepted
unfolding checks
checks_accept H o row accepted = rest_accept ((needs_owner (Record row) && not (owner_known H o), Some UnknownOwner) ∷ key_checks (facts_given H o) row) (movement_checks o (facts_given H o) (facts_given H house_name) row.what row.amount) accepted
