-- From what a decision is, by its checks, to what it owes to every lawful history and to every slice.
use Rattle.std.proofs.Common.{◌≡◌, ℕ, Bool, true, false, not, ◌&&◌, nat_le, nat_lt, cond, Some, List, [], ◌∷◌, ◌++◌, map, refl, sym, ap, subst, ◌∙◌, arith}
use Rattle.toll_history.proofs.Common.{nat_tests, Bytes, same_bytes, house_name, Slice, with_row, KeepsRules, row_fits, after_changes, changes_of, Change, Put, Decision, Refusal, UnknownOwner, Row, same_bytes-exact, same_bytes-refl, fits_exact, Action, Command, by, History, owner_known, OwnerFacts, facts_of, facts_given, IsRowsOf, verdict_of, changes_if, ChangesKeepRules, IsRightOver, IsDecided, Decides, DecidesWith, DecisionKeepsRules, Verdict, Accepted, Repeated, Refused, Checks, verdict_of_checks, verdict_of_check, plant_facts_given, action_checks, needs_owner, checks, verdict, grown, grow, IsLawful, IsValidAction}
use Rattle.toll_base.specs.declared.decision.Decision.TheVariants.{Refuse}
use Rattle.toll_base.proofs.SliceFits.{owner-with_row}
use Rattle.toll_history.proofs.Accepted.{refused_first}

-- ---- the verdict

and_unknown : (b known : Bool) → known ≡ true → (b && not known) ≡ false
and_unknown true known h = ap not h
and_unknown false known h = refl

-- For a known owner, the verdict is that of the action's checks, over any tables that equal the history's.
pub verdict_is : (H : History) (o : Bytes) (a : Action) (t house : OwnerFacts) → owner_known H o ≡ true → t ≡ facts_given H o → house ≡ facts_given H house_name → verdict_of_checks (action_checks (plant_facts_given H) o t house a) ≡ verdict H (by o a)
unfolding checks
verdict_is H o a t house known own houses =
    (λ i. verdict_of_checks (action_checks (plant_facts_given H) o (own i) (houses i) a))
    ∙ sym (ap (λ b. cond b (verdict_of_check (Some UnknownOwner)) (verdict_of_checks (action_checks (plant_facts_given H) o (facts_given H o) (facts_given H house_name) a))) (and_unknown (needs_owner a) (owner_known H o) known))

-- ---- rows that are put

-- a slice after rows were put, in order
abbrev pub put_rows : List Row → Slice → Slice
put_rows [] s = s
put_rows (row ∷ rows) s = put_rows rows (with_row s row)

pub put_rows_owner : (rows : List Row) (s : Slice) → (put_rows rows s).owner ≡ s.owner
put_rows_owner [] s = refl
put_rows_owner (row ∷ rows) s = put_rows_owner rows (with_row s row) ∙ owner-with_row s row

-- A slice takes the rows of its owner.
pub after_put : (o : Bytes) (rows : List Row) (s : Slice) → same_bytes o s.owner ≡ true → after_changes (map (Put o) rows) s ≡ put_rows rows s
after_put o [] s own = refl
after_put o (row ∷ rows) s own =
    ap (λ b. after_changes (map (Put o) rows) (cond b (with_row s row) s)) own
    ∙ after_put o rows (with_row s row) (ap (same_bytes o) (owner-with_row s row) ∙ own)

-- A slice doesn't take rows of other owners.
pub after_put_other : (o : Bytes) (rows : List Row) (s : Slice) → same_bytes o s.owner ≡ false → after_changes (map (Put o) rows) s ≡ s
after_put_other o [] s other = refl
after_put_other o (row ∷ rows) s other = ap (λ b. after_changes (map (Put o) rows) (cond b (with_row s row) s)) other ∙ after_put_other o rows s other

-- ---- the rules of a slice

-- Each of the rows, in order, fits after those before it were put.
abbrev pub RowsFit : List Row → Slice → Type 0
RowsFit [] s = Unit {0}
RowsFit (row ∷ rows) s = (row_fits s row ≡ true) × RowsFit rows (with_row s row)

pub rows_keep : (o : Bytes) (rows : List Row) (s : Slice) → same_bytes o s.owner ≡ true → KeepsRules s → RowsFit rows s → ChangesKeepRules (map (Put o) rows) s
rows_keep o [] s own keeps fit = tt
rows_keep o (row ∷ rows) s own keeps fit =
    let kept : KeepsRules (with_row s row) = (fits_exact s row keeps).0 fit.0 in
    subst (λ b. KeepsRules (cond b (with_row s row) s) × ChangesKeepRules (map (Put o) rows) (cond b (with_row s row) s)) (sym own)
    (kept, rows_keep o rows (with_row s row) (ap (same_bytes o) (owner-with_row s row) ∙ own) kept fit.1)

-- ---- decisions

rows_grown : (H : History) (c : Command) (changes : List Change) (s : Slice) (v : Verdict) → (v ≡ Accepted → IsRowsOf (c ∷ H) (after_changes changes s)) → IsRowsOf H s → IsRowsOf (grown v H c) (after_changes (changes_if v changes) s)
rows_grown H c changes s Accepted rows there = rows refl
rows_grown H c changes s Repeated rows there = there
rows_grown H c changes s (Refused why) rows there = there

-- A decision is right if it gives the verdict and makes the changes of an accepted command.
pub right_over : (H : History) (c : Command) (d : Decision) (v : Verdict) (changes : List Change) → verdict_of d ≡ v → changes_of d ≡ changes_if v changes → v ≡ verdict H c →
    (verdict H c ≡ Accepted → (s : Slice) → IsRowsOf H s → IsRowsOf (c ∷ H) (after_changes changes s)) → IsRightOver H c d
right_over H c d v changes said made is rows = record {
  verdict_is = said ∙ is;
  rows_are = λ s there.
      subst (λ cs. IsRowsOf (grow H c) (after_changes cs s)) (sym (made ∙ ap (λ w. changes_if w changes) is))
      (rows_grown H c changes s (verdict H c) (λ accepted. rows accepted s there) there);
}

-- The rows that the action puts into a slice of its owner make the tables of the grown history.
abbrev pub Grows : Action → (OwnerFacts → List Row) → Type 0
Grows a rows = (H : History) (s : Slice) → IsLawful H → IsValidAction a → verdict H (by s.owner a) ≡ Accepted → IsRowsOf H s → facts_of (put_rows (rows (facts_of s)) s) ≡ facts_given (by s.owner a ∷ H) s.owner

-- The action leaves the tables of others unchanged.
abbrev pub LeavesOthers : Action → Type 0
LeavesOthers a = (H : History) (o p : Bytes) → IsLawful H → IsValidAction a → verdict H (by o a) ≡ Accepted → same_bytes o p ≡ false → facts_given (by o a ∷ H) p ≡ facts_given H p

-- An owner's action that changes only the owner's rows.
module _ (a : Action) (rows : OwnerFacts → List Row) (grows : Grows a rows) (leaves : LeavesOthers a) where
  -- The rows that are put make every slice's rows those of the grown history.
  pub grown_rows : (H : History) (o : Bytes) (t : OwnerFacts) → t ≡ facts_given H o → IsLawful H → IsValidAction a → verdict H (by o a) ≡ Accepted → (s : Slice) → IsRowsOf H s → IsRowsOf (by o a ∷ H) (after_changes (map (Put o) (rows t)) s)
  grown_rows H o t is lawful valid accepted s there =
      elim (same_bytes o s.owner) as (λ b. same_bytes o s.owner ≡ b → IsRowsOf (by o a ∷ H) (after_changes (map (Put o) (rows t)) s)) [
        | true ↦ λ own.
            let e : o ≡ s.owner = same_bytes-exact o s.owner own in
            let same : t ≡ facts_of s = is ∙ ap (facts_given H) e ∙ sym there in
            let done : IsRowsOf (by s.owner a ∷ H) (put_rows (rows (facts_of s)) s) =
            grows H s lawful valid (ap (λ w. verdict H (by w a)) (sym e) ∙ accepted) there ∙ ap (facts_given (by s.owner a ∷ H)) (sym (put_rows_owner (rows (facts_of s)) s)) in
            subst (IsRowsOf (by o a ∷ H)) (sym (after_put o (rows t) s own))
            (coe 1 0 (i. IsRowsOf (by (e i) a ∷ H) (put_rows (rows (same i)) s)) done)
        | false ↦ λ other.
            subst (IsRowsOf (by o a ∷ H)) (sym (after_put_other o (rows t) s other)) (there ∙ sym (leaves H o s.owner lawful valid accepted other))
      ] refl

  -- A decision whose checks give the verdict does what it owes.
  pub decides : (own : Slice) (d : Decision) (checks : Checks) → IsDecided checks (map (Put own.owner) (rows (facts_of own))) d →
      ((H : History) → IsLawful H → IsValidAction a → owner_known H own.owner ≡ true → IsRowsOf H own → verdict_of_checks checks ≡ verdict H (by own.owner a)) → Decides (by own.owner a) own d
  unfolding Decides
  decides own d checks decided is H lawful valid known there =
      right_over H (by own.owner a) d (verdict_of_checks checks) (map (Put own.owner) (rows (facts_of own))) decided.says decided.makes (is H lawful valid known there)
      (λ accepted s. grown_rows H own.owner (facts_of own) there lawful valid accepted s)

  -- The same for a decision that also sees HOUSE's rows.
  pub decides_with : (own house : Slice) (d : Decision) (checks : Checks) → IsDecided checks (map (Put own.owner) (rows (facts_of own))) d →
      ((H : History) → IsLawful H → IsValidAction a → owner_known H own.owner ≡ true → IsRowsOf H own → facts_of house ≡ facts_given H house_name → verdict_of_checks checks ≡ verdict H (by own.owner a)) → DecidesWith (by own.owner a) own house d
  unfolding DecidesWith
  decides_with own house d checks decided is H lawful valid known there house_there is_house =
      right_over H (by own.owner a) d (verdict_of_checks checks) (map (Put own.owner) (rows (facts_of own))) decided.says decided.makes (is H lawful valid known there (house_there ∙ ap (facts_given H) is_house))
      (λ accepted s. grown_rows H own.owner (facts_of own) there lawful valid accepted s)

rules_if : (s : Slice) (changes : List Change) (v : Verdict) → KeepsRules s → (v ≡ Accepted → ChangesKeepRules changes s) → ChangesKeepRules (changes_if v changes) s
rules_if s changes Accepted keeps kept = kept refl
rules_if s changes Repeated keeps kept = tt
rules_if s changes (Refused why) keeps kept = tt

-- A decision keeps the rules if its rows fit whenever its checks accept.
pub keeps_rules : (own : Slice) (rows : List Row) (d : Decision) (checks : Checks) → IsDecided checks (map (Put own.owner) rows) d → KeepsRules own → (verdict_of_checks checks ≡ Accepted → RowsFit rows own) → DecisionKeepsRules own d
unfolding DecisionKeepsRules
keeps_rules own rows d checks decided keeps fit =
    subst (λ cs. ChangesKeepRules cs own) (sym decided.makes)
    (rules_if own (map (Put own.owner) rows) (verdict_of_checks checks) keeps (λ accepted. rows_keep own.owner rows own (same_bytes-refl own.owner) keeps (fit accepted)))

-- A count that isn't at its limit is below it.
pub below_limit : (most n : ℕ) → nat_le most n ≡ false → nat_lt n most ≡ true
below_limit most n h = grind (arith, nat_tests)

-- ---- decisions that change rows of two owners

pub keeps_put : (o : Bytes) (row : Row) (rest : List Change) (s : Slice) → same_bytes o s.owner ≡ true → KeepsRules s → row_fits s row ≡ true → (KeepsRules (with_row s row) → ChangesKeepRules rest (with_row s row)) → ChangesKeepRules (Put o row ∷ rest) s
keeps_put o row rest s own keeps fits more =
    let kept : KeepsRules (with_row s row) = (fits_exact s row keeps).0 fits in
    subst (λ b. KeepsRules (cond b (with_row s row) s) × ChangesKeepRules rest (cond b (with_row s row) s)) (sym own) (kept, more kept)

pub keeps_skip : (o : Bytes) (row : Row) (rest : List Change) (s : Slice) → same_bytes o s.owner ≡ false → KeepsRules s → ChangesKeepRules rest s → ChangesKeepRules (Put o row ∷ rest) s
keeps_skip o row rest s other keeps more = subst (λ b. KeepsRules (cond b (with_row s row) s) × ChangesKeepRules rest (cond b (with_row s row) s)) (sym other) (keeps, more)

-- A decision keeps the rules if its changes do whenever its checks accept.
pub rules_by : (s : Slice) (changes : List Change) (d : Decision) (checks : Checks) → IsDecided checks changes d → KeepsRules s → (verdict_of_checks checks ≡ Accepted → ChangesKeepRules changes s) → DecisionKeepsRules s d
unfolding DecisionKeepsRules
rules_by s changes d checks decided keeps kept = subst (λ cs. ChangesKeepRules cs s) (sym decided.makes) (rules_if s changes (verdict_of_checks checks) keeps kept)

-- A refusal by the first of two lists of checks is a refusal.
pub refused_decides : (first more : Checks) (changes : List Change) (why : Refusal) → Refused why ≡ verdict_of_checks first → IsDecided (first ++ more) changes (Refuse why)
refused_decides first more changes why is = record { says = refused_first first more why is; makes = ap (λ v. changes_if v changes) (refused_first first more why is) }
