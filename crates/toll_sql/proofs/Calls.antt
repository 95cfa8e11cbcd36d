-- The possible answers of a call on a text that compiles.
use Rattle.std.proofs.Common.{ℕ, List, Ok, Err, Result, subst}
use Rattle.toll_sql.proofs.Common.{Row, Compiled, CompileError, understood, State, Shown, IsUnchanged, IsPlain, IsGiven}

pub plain_given : (sql : List ℕ) (n : ℕ) (r : Result Compiled CompileError) → IsGiven sql n r → IsPlain r
plain_given sql n (Ok c) h = (h.2, h.3)
plain_given sql n (Err e) h = h

pub shown_same : (sql : List ℕ) (params : Row) (old new : State) (rows : List Row) → IsPlain (understood old.now.schema sql) → Shown sql params old new rows → IsUnchanged old new
unfolding Shown
shown_same sql params old new rows plain h =
    let none = (subst IsPlain h.1.is plain).0 in
    (rw none at h.2).3
