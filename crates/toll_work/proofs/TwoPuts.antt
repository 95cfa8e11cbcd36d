-- Two rows that are put, the first of one owner and the second of the same or another.
use Rattle.std.proofs.Common.{◌≡◌, true, false, cond, [], ◌∷◌, refl, sym, ap, ◌∙◌}
use Rattle.toll_work.proofs.Common.{Bytes, same_bytes, Slice, with_row, KeepsRules, row_fits, facts_of, tables_for, after_changes, ChangesKeepRules, IsDecided, DecisionKeepsRules, Accepted, Checks, verdict_of_checks, Decision, Put, Row, put_rows_owner, rules_by, keeps_put, keeps_skip, same_bytes-exact, same_bytes-refl, same_bytes-symm}

-- A fact of a slice that follows whether or not the row is its owner's holds after the put.
after_one_put : (w : Bytes) (row : Row) (P : Slice → Type 0) (s : Slice) → (same_bytes w s.owner ≡ true → P (with_row s row)) → (same_bytes w s.owner ≡ false → P s) → P (after_changes (Put w row ∷ []) s)
after_one_put w row P s its other = elim (same_bytes w s.owner) as (λ b. same_bytes w s.owner ≡ b → P (cond b (with_row s row) s)) [ true ↦ its | false ↦ other ] refl

-- The same after two puts.
pub after_both : (o w : Bytes) (first second : Row) (P : Slice → Type 0) (s : Slice) →
    (same_bytes o s.owner ≡ true → same_bytes w s.owner ≡ true → P (with_row (with_row s first) second)) →
    (same_bytes o s.owner ≡ true → same_bytes w s.owner ≡ false → P (with_row s first)) →
    (same_bytes o s.owner ≡ false → same_bytes w s.owner ≡ true → P (with_row s second)) →
    (same_bytes o s.owner ≡ false → same_bytes w s.owner ≡ false → P s) →
    P (after_changes (Put o first ∷ Put w second ∷ []) s)
after_both o w first second P s both first_alone second_alone neither =
    let same : same_bytes w s.owner ≡ same_bytes w (with_row s first).owner = ap (same_bytes w) (sym (put_rows_owner (first ∷ []) s)) in
    after_one_put o first (λ r. P (after_changes (Put w second ∷ []) r)) s
    (λ own. after_one_put w second P (with_row s first) (λ its. both own (same ∙ its)) (λ other. first_alone own (same ∙ other)))
    (λ not_own. after_one_put w second P s (second_alone not_own) (neither not_own))

-- A row that fits, if it is of the slice's owner, keeps the rules.
keeps_one : (w : Bytes) (row : Row) (s : Slice) → KeepsRules s → (same_bytes w s.owner ≡ true → row_fits s row ≡ true) → ChangesKeepRules (Put w row ∷ []) s
keeps_one w row s keeps fits =
    elim (same_bytes w s.owner) as (λ b. same_bytes w s.owner ≡ b → ChangesKeepRules (Put w row ∷ []) s) [
      | true ↦ λ its. keeps_put w row [] s its keeps (fits its) (λ kept. tt)
      | false ↦ λ its. keeps_skip w row [] s its keeps tt
    ] refl

-- A decision that puts a row of its owner, and one of an owner whose tables it saw: the rules are kept if each row fits.
module _ (own house : Slice) (w : Bytes) (first second : Row) (checks : Checks) (d : Decision) (decided : IsDecided checks (Put own.owner first ∷ Put w second ∷ []) d) where
  abbrev SecondFits : (seen s : Slice) → Type 0
  SecondFits seen s = verdict_of_checks checks ≡ Accepted → KeepsRules seen → tables_for own.owner (facts_of own) (facts_of house) w ≡ facts_of seen → row_fits s second ≡ true

  pub both_keep : (verdict_of_checks checks ≡ Accepted → row_fits own first ≡ true) → SecondFits own (with_row own first) → KeepsRules own → DecisionKeepsRules own d
  both_keep first_fits fits keeps =
      rules_by own _ d checks decided keeps
      (λ accepted.
      keeps_put own.owner first (Put w second ∷ []) own (same_bytes-refl own.owner) keeps (first_fits accepted)
      (λ kept.
      keeps_one w second (with_row own first) kept
      (λ its. fits accepted keeps (ap (λ b. cond b (facts_of own) (facts_of house)) (ap (same_bytes w) (sym (put_rows_owner (first ∷ []) own)) ∙ its)))))

  pub second_keeps : SecondFits house house → same_bytes own.owner house.owner ≡ false → KeepsRules house → DecisionKeepsRules house d
  second_keeps fits other keeps =
      rules_by house _ d checks decided keeps
      (λ accepted.
      keeps_skip own.owner first (Put w second ∷ []) house other keeps
      (keeps_one w second house keeps
      (λ its. fits accepted keeps (ap (λ b. cond b (facts_of own) (facts_of house)) (ap (λ p. same_bytes p own.owner) (same_bytes-exact w house.owner its) ∙ same_bytes-symm house.owner own.owner ∙ other)))))
