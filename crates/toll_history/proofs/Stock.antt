-- No more is taken from a sublot than was brought into it, and what was brought is bounded.
use Rattle.std.proofs.Common.{◌≡◌, ℕ, ◌+◌, ◌-◌, ◌*◌, ◌≤◌, Bool, true, false, ◌&&◌, cond, is_some, [], ◌∷◌, refl, sym, ap, subst, ◌∙◌, arith}
use Rattle.toll_history.proofs.Common.{false≢true, and_from, Bytes, same_bytes, LotId, MoveRow, same_bytes-refl, Action, Record, Void, by, History, acts, movement_recorded, count_movements, brings_into, takes_from, brought, taken, stock, Accepted, IsLawful, IsValidAction, verdict}
use Rattle.toll_history.proofs.Passed.{move_fits}
use Rattle.toll_history.proofs.Acts.{count_acts}
use Rattle.toll_history.proofs.LimitsKept.{movements_kept}
use Rattle.toll_history.proofs.StandsOnce.{total_voided}
use Rattle.toll_history.proofs.Owned.{found_brings_own}
use Rattle.toll_history.proofs.Moving.{brings_own, takes_enough, brought-voided, Voidable, void_passes, void_leaves}
use Rattle.toll_base.specs.declared.capacity.TheConstants.{MOST_STOCK}

-- ---- no more is taken than was brought

takes_no_more : (takes : Bool) (amount came went more held : ℕ) → held ≡ came - went → went ≤ came → (takes ≡ true → amount ≤ held) → cond takes amount 0 + went ≤ more + came
takes_no_more true amount came went more held is le enough = let e = enough refl in omega arith
takes_no_more false amount came went more held is le enough = omega arith

stock_if_recorded : (H : History) (o : Bytes) (row : MoveRow) → verdict H (by o (Record row)) ≡ Accepted → (id : LotId) (sub : Bytes) → taken H id sub ≤ brought H id sub → taken (by o (Record row) ∷ H) id sub ≤ brought (by o (Record row) ∷ H) id sub
unfolding stock
stock_if_recorded H o row accepted id sub le =
    takes_no_more (takes_from id sub o row.what) row.amount (brought H id sub) (taken H id sub) _ (stock H id sub) refl le
    (takes_enough H o row.what row.amount (move_fits H o row accepted) id sub)

held_after : (brings takes : Bool) (amount came went came' went' held : ℕ) → came ≡ cond brings amount 0 + came' → went ≡ cond takes amount 0 + went' → held ≡ came - went → went ≤ came → (brings ≡ true → (takes ≡ false) × (amount ≤ held)) → went' ≤ came'
held_after true true amount came went came' went' held ec ew is le room = absurd (false≢true (sym (room refl).0))
held_after true false amount came went came' went' held ec ew is le room = let r = (room refl).1 in omega arith
held_after false true amount came went came' went' held ec ew is le room = omega arith
held_after false false amount came went came' went' held ec ew is le room = omega arith

stock_if_voided : (H : History) (o key : Bytes) → IsLawful H → Voidable H o key → (id : LotId) (sub : Bytes) → taken H id sub ≤ brought H id sub → taken (by o (Void key) ∷ H) id sub ≤ brought (by o (Void key) ∷ H) id sub
unfolding stock
stock_if_voided H o key lawful void id sub le =
    let what = void.row.what in
    let owned = found_brings_own H lawful o key void.row void.found in
    held_after (brings_into id sub o what) (takes_from id sub o what) void.row.amount (brought H id sub) (taken H id sub) _ _ (stock H id sub)
    (total_voided H o key void.row lawful void.found void.stays (λ m. cond (brings_into id sub m.0 m.1.what) m.1.amount 0))
    (total_voided H o key void.row lawful void.found void.stays (λ m. cond (takes_from id sub m.0 m.1.what) m.1.amount 0))
    refl le
    (void_leaves H o what void.row.amount void.actual void.left owned id sub)

covered_step : (H : History) (o : Bytes) (a : Action) → IsLawful H → verdict H (by o a) ≡ Accepted → (id : LotId) (sub : Bytes) → taken H id sub ≤ brought H id sub → taken (by o a ∷ H) id sub ≤ brought (by o a ∷ H) id sub
covered_step H o (Record row) lawful accepted id sub le = stock_if_recorded H o row accepted id sub le
covered_step H o (Void key) lawful accepted id sub le = stock_if_voided H o key lawful (void_passes H o key accepted) id sub le
covered_step H o a lawful accepted id sub le = le

pub covered : (H : History) (id : LotId) (sub : Bytes) → IsLawful H → taken H id sub ≤ brought H id sub
covered [] id sub lawful = omega arith
covered (c ∷ H) id sub lawful = covered_step H c.owner c.action lawful.0 lawful.2 id sub (covered H id sub lawful.0)

-- ---- each movement brings in at most the greatest amount

brought_within : (brings own : Bool) (amount came moves : ℕ) → amount ≤ 1000000000 → came ≤ 1000000000 * moves → (brings ≡ true → own ≡ true) → cond brings amount 0 + came ≤ 1000000000 * (cond own 1 0 + moves)
brought_within true true amount came moves small le owned = omega arith
brought_within true false amount came moves small le owned = absurd (false≢true (owned refl))
brought_within false true amount came moves small le owned = omega arith
brought_within false false amount came moves small le owned = omega arith

more_moves : (H : History) (o w : Bytes) (a : Action) → count_movements (acts w H) ≤ count_movements (acts w (by o a ∷ H))
more_moves H o w a = omega (arith, count_acts (λ a. is_some (movement_recorded a)) w (by o a) H)

bounded_step : (H : History) (o : Bytes) (a : Action) → IsValidAction a → verdict H (by o a) ≡ Accepted → (id : LotId) (sub : Bytes) → brought H id sub ≤ 1000000000 * count_movements (acts id.owner H) → brought (by o a ∷ H) id sub ≤ 1000000000 * count_movements (acts id.owner (by o a ∷ H))
bounded_step H o (Record row) valid accepted id sub le =
    subst (λ n. cond (brings_into id sub o row.what) row.amount 0 + brought H id sub ≤ 1000000000 * n) (sym (count_acts (λ a. is_some (movement_recorded a)) id.owner (by o (Record row)) H))
    (brought_within (brings_into id sub o row.what) (same_bytes o id.owner && true) row.amount (brought H id sub) (count_movements (acts id.owner H)) valid.1 le
    (λ brings. and_from _ true (ap (same_bytes o) (brings_own H o row.what row.amount (move_fits H o row accepted) id sub brings) ∙ same_bytes-refl o) refl))
bounded_step H o (Void key) valid accepted id sub le = let takes_no_more = brought-voided H o key id sub in let more = more_moves H o id.owner (Void key) in omega arith
bounded_step H o a valid accepted id sub le = let more = more_moves H o id.owner a in omega arith

pub bounded : (H : History) (id : LotId) (sub : Bytes) → IsLawful H → brought H id sub ≤ 1000000000 * count_movements (acts id.owner H)
unfolding acts
bounded [] id sub lawful = omega arith
bounded (c ∷ H) id sub lawful = bounded_step H c.owner c.action lawful.1 lawful.2 id sub (bounded H id sub lawful.0)

pub stock_bounded : (H : History) (id : LotId) (sub : Bytes) → IsLawful H → stock H id sub ≤ MOST_STOCK
unfolding stock
stock_bounded H id sub lawful = let came = bounded H id sub lawful in let moves = movements_kept id.owner H lawful in omega arith
