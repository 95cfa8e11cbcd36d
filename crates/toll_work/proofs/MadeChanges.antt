-- The changes of a decision: none if a check applies, otherwise rows of its owner, or a sublot of HOUSE.
use Rattle.std.proofs.Common.{◌≡◌, ℕ, Bool, true, false, not, ◌&&◌, ◌||◌, List, [], ◌∷◌, map, sym, subst, ◌∙◌, refl}
use Rattle.toll_work.proofs.Common.{sublot_row_of, false≢true, or_left, Bytes, same_bytes, changes_of, house_name, Change, Put, Decision, LotId, Consumed, Sublot, and_is, same_bytes-refl, IsDecided, changes_if, is_put_of, is_put_in_house, EachChange, PutsOnly, PutsOnlyWith, Verdict, Checks, Accepted, Repeated, Refused, verdict_of_checks, crosses, applies, none_applies, Slice, KeepsRules, Row, DecisionKeepsRules, ChangesKeepRules, rules_by, keeps_skip}

each_change_if_accepted : (such : Change → Bool) (v : Verdict) (changes : List Change) → (v ≡ Accepted → EachChange such changes) → EachChange such (changes_if v changes)
each_change_if_accepted such Accepted changes each = each refl
each_change_if_accepted such Repeated changes each = tt
each_change_if_accepted such (Refused why) changes each = tt

-- A fact of each change that is made if the checks accept holds of each change of the decision.
pub each_accepted : (such : Change → Bool) (checks : Checks) (changes : List Change) (d : Decision) → (verdict_of_checks checks ≡ Accepted → EachChange such changes) → IsDecided checks changes d → EachChange such (changes_of d)
each_accepted such checks changes d each decided = subst (EachChange such) (sym decided.makes) (each_change_if_accepted such (verdict_of_checks checks) changes each)

no_changes_if_not_accepted : (v : Verdict) (changes : List Change) → (v ≡ Accepted → ⊥) → changes_if v changes ≡ []
no_changes_if_not_accepted Accepted changes not_accepted = absurd (not_accepted refl)
no_changes_if_not_accepted Repeated changes not_accepted = refl
no_changes_if_not_accepted (Refused why) changes not_accepted = refl

-- If one of the checks applies, nothing changes.
pub no_changes_made : (checks : Checks) (changes : List Change) (d : Decision) (n : ℕ) → applies checks n ≡ true → IsDecided checks changes d → changes_of d ≡ []
no_changes_made checks changes d n applied decided = decided.makes ∙ no_changes_if_not_accepted (verdict_of_checks checks) changes (λ accepted. false≢true (sym (none_applies checks accepted n) ∙ applied))

-- Rows of the owner alone are also rows of the owner or a sublot of HOUSE.
pub puts_with : (o : Bytes) (k : Bytes × Bytes) (changes : List Change) → PutsOnly o changes → PutsOnlyWith o k changes
puts_with o k [] puts = tt
puts_with o k (change ∷ changes) puts = (or_left (is_put_of o change) (is_put_in_house k change) puts.0, puts_with o k changes puts.1)

its_own_or_house : (a b x y : Bool) → not (a || b) ≡ false → x ≡ true → y ≡ true → (a || (b && x && y)) ≡ true
its_own_or_house true b x y stays hx hy = refl
its_own_or_house false true x y stays hx hy = and_is x y hx hy
its_own_or_house false false x y crossed hx hy = absurd (false≢true (sym crossed))

-- The put of a sublot whose lot the owner may consume is such a change.
pub puts_consumed : (o : Bytes) (lot : LotId) (sublot : Bytes) (amount : ℕ) → crosses o Consumed lot.owner ≡ false → PutsOnlyWith o (lot.lot, sublot) (Put lot.owner (Sublot (sublot_row_of lot.lot sublot amount)) ∷ [])
puts_consumed o lot sublot amount stays = (its_own_or_house (same_bytes lot.owner o) (same_bytes lot.owner house_name) _ _ stays (same_bytes-refl lot.lot) (same_bytes-refl sublot), tt)

-- Rows of its owner keep the rules of another's slice.
pub others_keep : (o : Bytes) (rows : List Row) (s : Slice) (d : Decision) (checks : Checks) → IsDecided checks (map (Put o) rows) d → same_bytes o s.owner ≡ false → KeepsRules s → DecisionKeepsRules s d
others_keep o rows s d checks decided other keeps = rules_by s (map (Put o) rows) d checks decided keeps (λ accepted. skipped rows)
  where
    skipped : (rows : List Row) → ChangesKeepRules (map (Put o) rows) s
    skipped [] = tt
    skipped (row ∷ rows) = keeps_skip o row (map (Put o) rows) s other keeps (skipped rows)
