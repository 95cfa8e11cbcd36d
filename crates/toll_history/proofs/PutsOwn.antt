-- A decision's changes put rows of one owner alone, if those of its verdict do.
use Rattle.std.proofs.Common.{Bool, List, [], ◌∷◌, map, sym, subst}
use Rattle.toll_history.proofs.Common.{Bytes, changes_of, Change, Put, Decision, Row, same_bytes-refl, Verdict, Checks, Accepted, Repeated, Refused, verdict_of_checks, IsDecided, changes_if}
use Rattle.toll_history.specs.OwnChanges.{EachChange, PutsOnly}

each_change_if : (such : Change → Bool) (v : Verdict) (changes : List Change) → EachChange such changes → EachChange such (changes_if v changes)
each_change_if such Accepted changes each = each
each_change_if such Repeated changes each = tt
each_change_if such (Refused why) changes each = tt

-- A fact of each change that is made if no check applies holds of each change of the decision.
pub each_decided : (such : Change → Bool) (checks : Checks) (changes : List Change) (d : Decision) → EachChange such changes → IsDecided checks changes d → EachChange such (changes_of d)
each_decided such checks changes d each decided = subst (EachChange such) (sym decided.makes) (each_change_if such (verdict_of_checks checks) changes each)

-- Rows put one after another put rows of their owner only.
pub puts_rows : (o : Bytes) (rows : List Row) → PutsOnly o (map (Put o) rows)
puts_rows o [] = tt
puts_rows o (row ∷ rows) = (same_bytes-refl o, puts_rows o rows)
