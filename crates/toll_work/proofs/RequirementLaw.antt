-- What the requiring of a material owes.
use Rattle.std.proofs.Common.{◌≡◌, suc, false, cond, Some, is_some, [], ◌∷◌, length, refl, ◌∙◌}
use Rattle.toll_work.proofs.Common.{or_right, Bytes, requirement_cmp, Require, by, History, acts, Slice, requirement_at, with_row, KeepsRules, requirement_of, same_requirement, OwnerFacts, facts_of, facts_given, IsDecided, DecidesWith, DecisionKeepsRules, Checks, requirement_key, requirement_checks, tables_for, Put, Decision, RequirementRow, Requirement, none_applies, accepted_passes, adding_decided_with, adding_keeps, below_limit, tables-own, put_first, row_at-put_row, length-new, requirement_cmp_total, MOST_REQUIREMENTS}

-- tables with one more requirement
abbrev with_requirement : RequirementRow → OwnerFacts → OwnerFacts
with_requirement row t = record t { requirement = λ k. cond (same_requirement k (requirement_key row)) (Some row) (t.requirement k); requirements = suc t.requirements }

requirement_in_slice : (s : Slice) (row : RequirementRow) → is_some (requirement_at s (requirement_key row)) ≡ false → facts_of (with_row s (Requirement row)) ≡ with_requirement row (facts_of s)
requirement_in_slice s row absent i = record (facts_of s) {
  requirement = λ k. row_at-put_row requirement_cmp requirement_cmp_total requirement_key s.requirements row k i;
  requirements = length-new requirement_cmp requirement_cmp_total requirement_key s.requirements row absent i;
}

requirement_in_history : (H : History) (o : Bytes) (row : RequirementRow) → facts_given (by o (Require row) ∷ H) o ≡ with_requirement row (facts_given H o)
requirement_in_history H o row =
    tables-own H o (Require row) refl
    ∙ (λ i. record (with_requirement row (facts_given H o)) { requirement = λ k. put_first (same_requirement k (requirement_key row)) row (requirement_of (acts o H) k) i })

-- the checks, over the tables of the owner and of HOUSE
abbrev checks_over : (own house : Slice) → RequirementRow → Checks
checks_over own house row = requirement_checks own.owner (facts_of own) (tables_for own.owner (facts_of own) (facts_of house) row.source) row

module _ (own house : Slice) (row : RequirementRow) (d : Decision) (decided : IsDecided (checks_over own house row) (Put own.owner (Requirement row) ∷ []) d) where
  pub requirement_decided : DecidesWith (by own.owner (Require row)) own house d
  requirement_decided =
      adding_decided_with (Require row) (Requirement row) refl (with_requirement row) (λ t. is_some (t.requirement (requirement_key row))) (λ s. requirement_in_slice s row) (λ H o lawful accepted. requirement_in_history H o row) (λ H o accepted. accepted_passes H o (Require row) accepted 5)
      own d _ decided house (λ H. refl)

  pub requirement_keeps : KeepsRules own → DecisionKeepsRules own d
  requirement_keeps = adding_keeps own (Requirement row) d _ decided (λ accepted. or_right _ _ (below_limit MOST_REQUIREMENTS (length own.requirements) (none_applies (checks_over own house row) accepted 6)))
