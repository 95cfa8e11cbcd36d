-- A commit that fails leaves what was there.
use Rattle.std.proofs.Common.{◌≡◌, ◌∙◌, inl, inr, sym, IsTrue, true, false}
use Rattle.toll_sql.proofs.Common.{Error, State, KeepsCommit, FailsToCommit}

pub not_committed : (old last end : State) (e : Error) → (IsTrue old.is_open → old.now ≡ old.committed) → KeepsCommit (record old { in_transaction = true }) last → IsTrue last.in_transaction → IsTrue end.is_open
    → FailsToCommit last end e → (end.now ≡ old.now) × (end.committed ≡ old.committed)
not_committed old last end e settled kept inside live (inl h) =
    let back = h.3 in
    let was = back.was_open live in
    let first = kept.was_open was in
    let same = kept.committed was in
    ((back.undone live).0 ∙ same ∙ sym (settled first), (back.undone live).1 ∙ same)
not_committed old last end e settled kept inside live (inr h) = absurd (let f : true ≡ false = sym inside ∙ h.1 in cc)
