-- What the recording of a result owes.
use Rattle.std.proofs.Common.{◌≡◌, ℕ, suc, ◌+◌, ◌<◌, ℤ, Bool, true, false, not, ◌&&◌, ◌==◌, cond, Option, Some, None, is_some, List, [], ◌∷◌, map, length, refl, sym, ap, ◌∙◌, arith}
use Rattle.toll_stock.proofs.Common.{false≢true, list_any, option_map, is_eq, ordering_then, nat_cmp, or_right, false_from_ne_true, tied_itself, Bytes, same_bytes, bytes_cmp, result_cmp, Action, RecordResult, by, History, acts, Slice, lot_at, result_at, with_row, KeepsRules, row_fits, or_else, is_out_of_limits, rejects, stays_released, disposition_of, result_of, result_row, latest_value, count_results_of, OwnerFacts, facts_of, facts_given, count_results_in, latest_in, IsDecided, Decides, DecisionKeepsRules, is_released, result_checks, Put, Decision, Disposition, Quarantined, Released, Rejected, ResultRow, Result, none_applies, both, and_is, verdict_is, Grows, put_rows, decides, keeps_rules, below_limit, tables-own, tables-others, tables_after, row_at-put_row, accepted_passes, length-new, count-new, same_bytes-exact, same_bytes-refl, same_bytes-symm, nat_eq-exact, is_eq-then, is_eq-nat_cmp, result_cmp_total, MOST_RESULTS, given_disposition, disposition_after, result_rows, lot_row_made}
use Rattle.std.proofs.lemmas.Bool.Decides.{nat_tests}
use Rattle.toll_base.proofs.SliceFits.{fits_exact}
use Rattle.toll_stock.proofs.LotLaw.{with_lot_changed, disposed, lot_in_slice, rows_fit, IsLotMade, known_made, lots_after, found_lot}

-- ---- keys of results

-- A result compares equal to one of the same lot, test and number.
same_result : (k j : Bytes × Bytes × ℕ) → is_eq (result_cmp k j) ≡ (same_bytes k.0 j.0 && same_bytes k.1 j.1 && k.2 == j.2)
same_result k j =
    is_eq-then (ordering_then (bytes_cmp k.0 j.0) (bytes_cmp k.1 j.1)) (nat_cmp k.2 j.2)
    ∙ (λ i. is_eq-then (bytes_cmp k.0 j.0) (bytes_cmp k.1 j.1) i && is_eq-nat_cmp k.2 j.2 i)

-- whether the result is of the lot's test
abbrev is_of_lots_test : Bytes → Bytes → Bytes → Bytes → Bool
is_of_lots_test lot test l x = same_bytes lot l && same_bytes test x

-- ---- in the slice

-- tables with one more result
abbrev with_result : ResultRow → OwnerFacts → OwnerFacts
with_result row t = record t {
  result = λ k. cond (is_eq (result_cmp k (row.lot, row.test, row.number))) (Some row) (t.result k);
  results = suc t.results;
  results_of = λ l x. cond (is_of_lots_test row.lot row.test l x) (suc (t.results_of l x)) (t.results_of l x);
  latest = λ l x. cond (is_of_lots_test row.lot row.test l x) (Some row.value) (t.latest l x);
}

module _ (s : Slice) (row : ResultRow) (absent : is_some (result_at s (row.lot, row.test, row.number)) ≡ false) where
  result_counted : (l x : Bytes) → count_results_in (with_row s (Result row)) l x ≡ cond (is_of_lots_test row.lot row.test l x) (suc (count_results_in s l x)) (count_results_in s l x)
  result_counted l x = count-new result_cmp result_cmp_total (λ r. (r.lot, r.test, r.number)) s.results row (λ r. same_bytes r.lot l && same_bytes r.test x) absent

  -- A row with the next number is the latest.
  latest : row.number ≡ count_results_in s row.lot row.test + 1 → (l x : Bytes) → latest_in (with_row s (Result row)) l x ≡ cond (is_of_lots_test row.lot row.test l x) (Some row.value) (latest_in s l x)
  latest next l x =
      ap (λ n. option_map (λ (r : ResultRow). r.value) (result_at (with_row s (Result row)) (l, x, n))) (result_counted l x)
      ∙ ap (option_map (λ (r : ResultRow). r.value)) (row_at-put_row result_cmp result_cmp_total (λ r. (r.lot, r.test, r.number)) s.results row (l, x, cond (is_of_lots_test row.lot row.test l x) (suc (count_results_in s l x)) (count_results_in s l x)))
      ∙ elim (is_of_lots_test row.lot row.test l x) as (λ b. is_of_lots_test row.lot row.test l x ≡ b →
      option_map (λ (r : ResultRow). r.value) (cond (is_eq (result_cmp (l, x, cond b (suc (count_results_in s l x)) (count_results_in s l x)) (row.lot, row.test, row.number))) (Some row) (result_at s (l, x, cond b (suc (count_results_in s l x)) (count_results_in s l x))))
      ≡ cond b (Some row.value) (latest_in s l x)) [
        | true ↦ λ same.
            let parts = both (same_bytes row.lot l) (same_bytes row.test x) same in
            let el = same_bytes-exact row.lot l parts.0 in
            let ex = same_bytes-exact row.test x parts.1 in
            let n : count_results_in s row.lot row.test + 1 ≡ suc (count_results_in s row.lot row.test) = omega arith in
            let key : (row.lot, row.test, row.number) ≡ (l, x, suc (count_results_in s l x)) = λ i. (el i, ex i, (next ∙ n ∙ (λ j. suc (count_results_in s (el j) (ex j)))) i) in
            let tied : is_eq (result_cmp (l, x, suc (count_results_in s l x)) (row.lot, row.test, row.number)) ≡ true =
            ap (λ (k : Bytes × Bytes × ℕ). is_eq (result_cmp k (row.lot, row.test, row.number))) (sym key) ∙ ap is_eq (tied_itself result_cmp_total (row.lot, row.test, row.number)) in
            ap (λ b. option_map (λ (r : ResultRow). r.value) (cond b (Some row) (result_at s (l, x, suc (count_results_in s l x))))) tied
        | false ↦ λ other.
            let apart : is_eq (result_cmp (l, x, count_results_in s l x) (row.lot, row.test, row.number)) ≡ false =
            same_result (l, x, count_results_in s l x) (row.lot, row.test, row.number)
            ∙ (λ i. same_bytes-symm l row.lot i && same_bytes-symm x row.test i && count_results_in s l x == row.number)
            ∙ ap (λ b. b && count_results_in s l x == row.number) other in
            ap (λ b. option_map (λ (r : ResultRow). r.value) (cond b (Some row) (result_at s (l, x, count_results_in s l x)))) apart
      ] refl

  result_in_slice : row.number ≡ count_results_in s row.lot row.test + 1 → facts_of (with_row s (Result row)) ≡ with_result row (facts_of s)
  result_in_slice next i = record (facts_of s) {
    result = λ k. row_at-put_row result_cmp result_cmp_total (λ r. (r.lot, r.test, r.number)) s.results row k i;
    results = length-new result_cmp result_cmp_total (λ r. (r.lot, r.test, r.number)) s.results row absent i;
    results_of = λ l x. result_counted l x i;
    latest = λ l x. latest next l x i;
  }

-- ---- in the history

-- No result has a number above the count.
too_many : (own : List Action) (k : Bytes × Bytes × ℕ) → count_results_of own k.0 k.1 < k.2 → result_of own k ≡ None
too_many [] k above = refl
too_many (RecordResult lot test value day ∷ own) k above =
    elim (is_of_lots_test lot test k.0 k.1) as (λ b. cond b 1 0 + count_results_of own k.0 k.1 < k.2 → or_else (cond (b && count_results_of own k.0 k.1 + 1 == k.2) (result_row k.0 k.1 k.2 (RecordResult lot test value day)) None) (result_of own k) ≡ None) [
      | true ↦ λ above.
          let less : count_results_of own k.0 k.1 < k.2 = omega arith in
          let miss : (count_results_of own k.0 k.1 + 1 == k.2) ≡ false = grind (arith, nat_tests) in
          ap (λ b. or_else (cond b (result_row k.0 k.1 k.2 (RecordResult lot test value day)) None) (result_of own k)) miss ∙ too_many own k less
      | false ↦ λ above. too_many own k (omega arith)
    ] above
too_many (_ ∷ own) k above = too_many own k (omega arith)

or_else_cond : {X : Type 0} (b : Bool) (x : X) (rest : Option X) → or_else (cond b (Some x) None) rest ≡ cond b (Some x) rest
or_else_cond true x rest = refl
or_else_cond false x rest = refl

module _ (own : List Action) (lot test : Bytes) (value : ℤ) (day : ℕ) where
  abbrev new_row : ResultRow
  new_row = record { lot = lot; test = test; number = count_results_of own lot test + 1; value = value; day = day }

  result-recorded : (k : Bytes × Bytes × ℕ) → result_of (RecordResult lot test value day ∷ own) k ≡ cond (is_eq (result_cmp k (lot, test, count_results_of own lot test + 1))) (Some new_row) (result_of own k)
  result-recorded k =
      elim (is_of_lots_test lot test k.0 k.1 && count_results_of own k.0 k.1 + 1 == k.2) as (λ b. (is_of_lots_test lot test k.0 k.1 && count_results_of own k.0 k.1 + 1 == k.2) ≡ b →
      or_else (cond b (result_row k.0 k.1 k.2 (RecordResult lot test value day)) None) (result_of own k) ≡ cond (is_eq (result_cmp k (lot, test, count_results_of own lot test + 1))) (Some new_row) (result_of own k)) [
        | true ↦ λ same.
            let parts = both (is_of_lots_test lot test k.0 k.1) (count_results_of own k.0 k.1 + 1 == k.2) same in
            let names = both (same_bytes lot k.0) (same_bytes test k.1) parts.0 in
            let el = same_bytes-exact lot k.0 names.0 in
            let ex = same_bytes-exact test k.1 names.1 in
            let en : count_results_of own lot test + 1 ≡ k.2 = (λ i. count_results_of own (el i) (ex i) + 1) ∙ nat_eq-exact _ k.2 parts.1 in
            let key : (lot, test, count_results_of own lot test + 1) ≡ k = λ i. (el i, ex i, en i) in
            let tied : is_eq (result_cmp k (lot, test, count_results_of own lot test + 1)) ≡ true =
            ap (λ (j : Bytes × Bytes × ℕ). is_eq (result_cmp j (lot, test, count_results_of own lot test + 1))) (sym key) ∙ ap is_eq (tied_itself result_cmp_total (lot, test, count_results_of own lot test + 1)) in
            (λ i. let r : ResultRow = record { lot = sym el i; test = sym ex i; number = sym en i; value = value; day = day } in Some r)
            ∙ sym (ap (λ b. cond b (Some new_row) (result_of own k)) tied)
        | false ↦ λ other.
            let apart : is_eq (result_cmp k (lot, test, count_results_of own lot test + 1)) ≡ false = false_from_ne_true _ (λ tied.
            let parts = both (same_bytes k.0 lot && same_bytes k.1 test) _ (sym (same_result k (lot, test, count_results_of own lot test + 1)) ∙ tied) in
            let names = both (same_bytes k.0 lot) (same_bytes k.1 test) parts.0 in
            let el = same_bytes-exact k.0 lot names.0 in
            let ex = same_bytes-exact k.1 test names.1 in
            let en = nat_eq-exact k.2 (count_results_of own lot test + 1) parts.1 in
            let counts : count_results_of own k.0 k.1 + 1 ≡ k.2 = (λ i. count_results_of own (el i) (ex i) + 1) ∙ sym en in
            let equal : (count_results_of own k.0 k.1 + 1 == k.2) ≡ true = grind (arith, nat_tests) in
            false≢true (sym other ∙ and_is _ _ (and_is _ _ (same_bytes-symm lot k.0 ∙ names.0) (same_bytes-symm test k.1 ∙ names.1)) equal)) in
            sym (ap (λ b. cond b (Some new_row) (result_of own k)) apart)
      ] refl

-- The disposition after a result: rejected if the lot was; released if it was and the result isn't bad.
result_disposition : (gone stays same bad : Bool) → same ≡ true →
    ◌≡◌ {A = Disposition} (cond gone Rejected (cond (not (same && bad) && stays) Released Quarantined))
    (cond (is_released (cond gone Rejected (cond stays Released Quarantined)) && bad) Quarantined (cond gone Rejected (cond stays Released Quarantined)))
result_disposition true stays same bad is = refl
result_disposition false stays false bad is = absurd (false≢true is)
result_disposition false true true true is = refl
result_disposition false true true false is = refl
result_disposition false false true true is = refl
result_disposition false false true false is = refl

module _ (H : History) (o lot test : Bytes) (value : ℤ) (day : ℕ) (m : IsLotMade H o lot) where
  result_now : disposition_of (RecordResult lot test value day ∷ acts o H) m.made.material lot ≡ disposition_after (facts_given H o) test value (lot_row_made (acts o H) lot m.made)
  result_now = result_disposition (list_any (rejects lot) (acts o H)) (stays_released (is_out_of_limits (acts o H) m.made.material) lot (acts o H)) (same_bytes lot lot) (is_out_of_limits (acts o H) m.made.material test value) (same_bytes-refl lot)

  result_other : (l material : Bytes) → same_bytes lot l ≡ false → disposition_of (RecordResult lot test value day ∷ acts o H) material l ≡ disposition_of (acts o H) material l
  result_other l material other = ap (λ b. cond (list_any (rejects l) (acts o H)) Rejected (cond (not (b && is_out_of_limits (acts o H) material test value) && stays_released (is_out_of_limits (acts o H) material) l (acts o H)) Released Quarantined)) other

  result_in_history : facts_given (by o (RecordResult lot test value day) ∷ H) o ≡ with_lot_changed (disposed (lot_row_made (acts o H) lot m.made) (disposition_after (facts_given H o) test value (lot_row_made (acts o H) lot m.made))) (with_result (new_row (acts o H) lot test value day) (facts_given H o))
  result_in_history = tables-own H o (RecordResult lot test value day) refl ∙ (λ i. record (tables_after (RecordResult lot test value day) (acts o H) o H) {
    lot = λ k. lots_after H o lot m.made m.is (RecordResult lot test value day ∷ acts o H) _ result_now result_other k i;
    result = λ k. result-recorded (acts o H) lot test value day k i;
    latest = λ l x. or_else_cond (is_of_lots_test lot test l x) value (latest_value (acts o H) l x) i;
  })

-- ---- in both

result_grows : (lot test : Bytes) (value : ℤ) (day : ℕ) → Grows (RecordResult lot test value day) (result_rows lot test value day)
result_grows lot test value day H s lawful valid accepted there =
    let m = known_made H s.owner lot (accepted_passes H s.owner (RecordResult lot test value day) accepted 0) in
    let row : ResultRow = record { lot = lot; test = test; number = count_results_in s lot test + 1; value = value; day = day } in
    let made = lot_row_made (acts s.owner H) lot m.made in
    let d = disposition_after (facts_of s) test value made in
    let found = found_lot H s there lot m in
    let none : result_of (acts s.owner H) (lot, test, count_results_of (acts s.owner H) lot test + 1) ≡ None = too_many (acts s.owner H) (lot, test, count_results_of (acts s.owner H) lot test + 1) (omega arith) in
    let absent : is_some (result_at s (lot, test, row.number)) ≡ false = ap (λ (t : OwnerFacts). is_some (t.result (lot, test, t.results_of lot test + 1))) there ∙ ap is_some none in
    ap (λ x. facts_of (put_rows (given_disposition (disposition_after (facts_of s) test value) x) (with_row s (Result row)))) found
    ∙ lot_in_slice (with_row s (Result row)) made d found
    ∙ ap (with_lot_changed (disposed made d)) (result_in_slice s row absent refl)
    ∙ ap (λ (t : OwnerFacts). with_lot_changed (disposed made (disposition_after t test value made)) (with_result (record { lot = lot; test = test; number = t.results_of lot test + 1; value = value; day = day }) t)) there
    ∙ sym (result_in_history H s.owner lot test value day m)

module _ (own : Slice) (lot test : Bytes) (value : ℤ) (day : ℕ) (d : Decision) (decided : IsDecided (result_checks (facts_of own) lot test) (map (Put own.owner) (result_rows lot test value day (facts_of own))) d) where
  pub result_decided : Decides (by own.owner (RecordResult lot test value day)) own d
  result_decided =
      decides (RecordResult lot test value day) (result_rows lot test value day) (result_grows lot test value day) (λ H o p lawful valid accepted other. tables-others H o (RecordResult lot test value day) refl p other)
      own d _ decided (λ H lawful valid known there. verdict_is H own.owner (RecordResult lot test value day) (facts_of own) _ known there refl)

  pub result_keeps : KeepsRules own → DecisionKeepsRules own d
  result_keeps keeps =
      keeps_rules own (result_rows lot test value day (facts_of own)) d _ decided keeps
      (λ accepted.
      let row : ResultRow = record { lot = lot; test = test; number = count_results_in own lot test + 1; value = value; day = day } in
      let fit : row_fits own (Result row) ≡ true = or_right _ _ (below_limit MOST_RESULTS (length own.results) (none_applies (result_checks (facts_of own) lot test) accepted 3)) in
      (fit, rows_fit (with_row own (Result row)) lot (disposition_after (facts_of own) test value) (lot_at own lot) ((fits_exact own (Result row) keeps).0 fit) refl))
