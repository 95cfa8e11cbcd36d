-- What the adding of a test owes.
use Rattle.std.proofs.Common.{◌≡◌, false, ◌&&◌, ◌||◌, suc, cond, Some, is_some, [], ◌∷◌, length, refl, sym, ap, ◌∙◌}
use Rattle.toll_stock.proofs.Common.{false≢true, list_any, option_map, is_eq, or_right, false_from_ne_true, Bytes, same_bytes, bytes_cmp, pair_cmp, AddTest, by, History, acts, Slice, test_at, with_row, KeepsRules, or_else, where_so, is_some_where, lot_id, Made, lot_made, material_used, is_outside, is_out_of_limits, rejects, stays_released, disposition_of, OwnerFacts, facts_of, facts_given, lot_row, IsDecided, Decides, DecisionKeepsRules, Accepted, test_checks, verdict, Put, Decision, Quarantined, Released, Rejected, Test, none_applies, accepted_passes, below_limit, tables-own, put_first, row_at-put_row, length-new, any-new, same_bytes-exact, pair_cmp_total, is_eq-then, MOST_TESTS, lot_row_made}
use Rattle.toll_history.specs.Work.{test_of}
use Rattle.toll_base.specs.declared.rows.TestRow.{TestRow}
use Rattle.toll_history.proofs.Adding.{adding_decided, adding_keeps}
use Rattle.toll_history.proofs.OpenTests.{is_used}
use Rattle.toll_stock.proofs.LotLaw.{disposed}
use Rattle.toll_stock.proofs.Mapped.{mapped_alike}

-- tables with one more test
abbrev with_test : TestRow → OwnerFacts → OwnerFacts
with_test row t = record t {
  test = λ k. cond (is_eq (pair_cmp k (row.material, row.test))) (Some row) (t.test k);
  tests = suc t.tests;
  any_test = λ such. such row || t.any_test such;
}

test_in_slice : (s : Slice) (row : TestRow) → is_some (test_at s (row.material, row.test)) ≡ false → facts_of (with_row s (Test row)) ≡ with_test row (facts_of s)
test_in_slice s row absent i = record (facts_of s) {
  test = λ k. row_at-put_row pair_cmp pair_cmp_total (λ x. (x.material, x.test)) s.tests row k i;
  tests = length-new pair_cmp pair_cmp_total (λ x. (x.material, x.test)) s.tests row absent i;
  any_test = λ such. any-new pair_cmp (λ x. (x.material, x.test)) such s.tests row absent i;
}

-- ---- lots stay as they are, since none is of the material

module _ (H : History) (o : Bytes) (row : TestRow) (accepted : verdict H (by o (AddTest row)) ≡ Accepted) where
  test_not_its_material : (l : Bytes) (made : Made) → lot_made H (lot_id o l) ≡ Some made → same_bytes made.material row.material ≡ false
  test_not_its_material l made is = false_from_ne_true _ (λ same. false≢true (
      sym (accepted_passes H o (AddTest row) accepted 2) ∙ ap (material_used H o) (sym (same_bytes-exact made.material row.material same)) ∙ is_used H (lot_id o l) made is))

  same_bad : (material : Bytes) → same_bytes material row.material ≡ false → is_out_of_limits (AddTest row ∷ acts o H) material ≡ is_out_of_limits (acts o H) material
  same_bad material other i test value = ap (λ b. is_some_where (λ (r : TestRow). is_outside r.limits value) (or_else (where_so (b && same_bytes test row.test) row) (test_of (acts o H) (material, test)))) other i

  test_same_disposition : (material l : Bytes) → same_bytes material row.material ≡ false → disposition_of (AddTest row ∷ acts o H) material l ≡ disposition_of (acts o H) material l
  test_same_disposition material l other = ap (λ bad. cond (list_any (rejects l) (acts o H)) Rejected (cond (stays_released bad l (acts o H)) Released Quarantined)) (same_bad material other)

  same_lots : (l : Bytes) → option_map (lot_row_made (AddTest row ∷ acts o H) l) (lot_made H (lot_id o l)) ≡ lot_row H o l
  same_lots l = mapped_alike (lot_row_made (AddTest row ∷ acts o H) l) (lot_row_made (acts o H) l) (lot_made H (lot_id o l)) (λ made is. ap (disposed (lot_row_made (acts o H) l made)) (test_same_disposition made.material l (test_not_its_material l made is)))

  test_in_history : facts_given (by o (AddTest row) ∷ H) o ≡ with_test row (facts_given H o)
  test_in_history = tables-own H o (AddTest row) refl ∙ (λ i. record (with_test row (facts_given H o)) {
    test = λ k. (ap (λ b. or_else (where_so b row) (test_of (acts o H) k)) (sym (is_eq-then (bytes_cmp k.0 row.material) (bytes_cmp k.1 row.test))) ∙ put_first (is_eq (pair_cmp k (row.material, row.test))) row (test_of (acts o H) k)) i;
    lot = λ l. same_lots l i;
  })

module _ (own : Slice) (row : TestRow) (d : Decision) (decided : IsDecided (test_checks (facts_of own) row) (Put own.owner (Test row) ∷ []) d) where
  pub test_decided : Decides (by own.owner (AddTest row)) own d
  test_decided =
      adding_decided (AddTest row) (Test row) refl (with_test row) (λ t. is_some (t.test (row.material, row.test))) (λ s. test_in_slice s row) (λ H o lawful accepted. test_in_history H o row accepted) (λ H o accepted. accepted_passes H o (AddTest row) accepted 1)
      own d _ decided (λ H. refl)

  pub test_keeps : KeepsRules own → DecisionKeepsRules own d
  test_keeps = adding_keeps own (Test row) d _ decided (λ accepted. or_right _ _ (below_limit MOST_TESTS (length own.tests) (none_applies (test_checks (facts_of own) row) accepted 3)))
