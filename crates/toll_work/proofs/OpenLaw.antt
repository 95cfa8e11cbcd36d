-- What the opening of a batch owes.
use Rattle.std.proofs.Common.{◌≡◌, ℕ, suc, ◌+◌, ◌<◌, Bool, true, false, not, ◌&&◌, ◌||◌, ◌==◌, cond, Option, Some, None, is_some, is_none, List, [], ◌∷◌, map, refl, sym, ap, ◌∙◌, arith}
use Rattle.toll_work.proofs.Common.{false≢true, option_map, is_eq, nat_tests, Bytes, same_bytes, or_else, batch_cmp, Action, OpenBatch, CommandBatch, CloseBatch, by, History, acts, unit_known, Slice, batch_at, with_row, KeepsRules, followed, opens, count_opened, unit_opened, unit_of, state_of, is_closed, batch_of, OwnerFacts, facts_of, facts_given, IsDecided, DecisionKeepsRules, Accepted, verdict_of_checks, verdict, open_checks, IsLawful, IsValidAction, State, Put, Decision, BatchRow, Batch, along_acts, is_none_map, accepted_passes, verdict_is, Grows, keeps_rules, tables-own, tables-others, row_at-put_row, count-new, same_bytes-exact, same_bytes-symm, nat_eq-exact, batch_cmp_total, same_batch, right_over, grown_rows, opened_row, opened_rows}
use Rattle.toll_history.specs.Holders.{holder}
use Rattle.toll_base.specs.declared.state.State.TheVariants.{Idle}
use Rattle.toll_work.specs.Opening.{DecidesOpening}
use Rattle.toll_work.proofs.BatchLaw.{batch_key, batch_row, same_batch-exact, nat_eq-symm}

-- ---- the tables

-- tables with one more batch
abbrev with_opened : BatchRow → OwnerFacts → OwnerFacts
with_opened row t = record t {
  batch = λ k. cond (is_eq (batch_cmp k (batch_key row))) (Some row) (t.batch k);
  opened = λ order. cond (same_bytes row.order order) (suc (t.opened order)) (t.opened order);
}

opened_in_slice : (s : Slice) (row : BatchRow) → is_some (batch_at s (batch_key row)) ≡ false → facts_of (with_row s (Batch row)) ≡ with_opened row (facts_of s)
opened_in_slice s row absent i = record (facts_of s) {
  batch = λ k. row_at-put_row batch_cmp batch_cmp_total batch_key s.batches row k i;
  opened = λ order. count-new batch_cmp batch_cmp_total batch_key s.batches row (λ r. same_bytes r.order order) absent i;
}

-- ---- a batch that isn't opened yet

second_of : {X : Type 0} (x y : Option X) → or_else x y ≡ None → y ≡ None
second_of None y h = h
second_of (Some x) y h = (cc)

not_next : (m n : ℕ) → 1 + m < n → (m + 1 == n) ≡ false
not_next m n h = grind (arith, nat_tests)

-- A number above the count of opened batches has no unit.
no_unit : (own : List Action) (order : Bytes) (number : ℕ) → count_opened own order < number → unit_of own order number ≡ None
no_unit [] order number above = refl
no_unit (a ∷ own) order number above =
    elim (opens order a) as (λ b. cond b 1 0 + count_opened own order < number → or_else (cond (b && count_opened own order + 1 == number) (unit_opened a) None) (unit_of own order number) ≡ None) [
      | true ↦ λ above. ap (λ b. or_else (cond b (unit_opened a) None) (unit_of own order number)) (not_next (count_opened own order) number above) ∙ no_unit own order number (omega arith)
      | false ↦ λ above. no_unit own order number (omega arith)
    ] above

-- The batch is idle and isn't closed.
record IsUnborn (own : List Action) (order : Bytes) (number : ℕ) : Type 0 where
  idle : state_of own order number ≡ Idle
  open_still : is_closed own order number ≡ false

abbrev AreUnborn : List Action → Type 0
AreUnborn own = (order : Bytes) (number : ℕ) → unit_of own order number ≡ None → IsUnborn own order number

-- No command to a batch that has no unit is accepted.
not_that_batch : (H : History) (o : Bytes) (order o' : Bytes) (number n : ℕ) → is_none (batch_of (acts o H) (o', n)) ≡ false → unit_of (acts o H) order number ≡ None → (same_bytes o' order && n == number) ≡ false
not_that_batch H o order o' number n known none =
    elim (same_bytes o' order) as (λ b. same_bytes o' order ≡ b → (b && n == number) ≡ false) [
      | true ↦ λ same. elim (n == number) as (λ b. (n == number) ≡ b → b ≡ false) [
        | true ↦ λ at.
            let gone : is_none (batch_of (acts o H) (o', n)) ≡ true = is_none_map _ _ ∙ (λ i. is_none (unit_of (acts o H) (same_bytes-exact o' order same i) (nat_eq-exact n number at i))) ∙ ap is_none none in
            absurd (false≢true (sym known ∙ gone))
        | false ↦ λ other. refl
      ] refl
      | false ↦ λ other. refl
    ] refl

unborn_more : (o : Bytes) (H : History) (a : Action) → IsLawful H → IsValidAction a → verdict H (by o a) ≡ Accepted → AreUnborn (acts o H) → AreUnborn (a ∷ acts o H)
unborn_more o H (OpenBatch o' unit) lawful valid accepted before order number none =
    let unborn = before order number (second_of (cond (same_bytes o' order && count_opened (acts o H) order + 1 == number) (Some unit) None) (unit_of (acts o H) order number) none) in
    record { idle = unborn.idle; open_still = unborn.open_still }
unborn_more o H (CommandBatch o' n command) lawful valid accepted before order number none =
    let unborn = before order number none in
    let other = not_that_batch H o order o' number n (accepted_passes H o (CommandBatch o' n command) accepted 1) none in
    record {
      idle = ap (λ b. cond b (followed (state_of (acts o H) order number) command) (state_of (acts o H) order number)) other ∙ unborn.idle;
      open_still = unborn.open_still;
    }
unborn_more o H (CloseBatch o' n) lawful valid accepted before order number none =
    let unborn = before order number none in
    let other = not_that_batch H o order o' number n (accepted_passes H o (CloseBatch o' n) accepted 1) none in
    record { idle = unborn.idle; open_still = ap (λ b. b || is_closed (acts o H) order number) other ∙ unborn.open_still }
unborn_more o H _ lawful valid accepted before order number none =
    let unborn = before order number none in record { idle = unborn.idle; open_still = unborn.open_still }

unborn : (H : History) (o : Bytes) → IsLawful H → AreUnborn (acts o H)
unborn H o lawful = along_acts AreUnborn o (λ order number none. record { idle = refl; open_still = refl }) (unborn_more o) H lawful

-- ---- the batch that is opened

opened_first : (b : Bool) (k : Bytes × ℕ) (state : State) (closed : Bool) (unit : Bytes) (older : Option Bytes) (row : BatchRow) → (b ≡ true → batch_row k state closed unit ≡ row) →
    option_map (batch_row k state closed) (or_else (cond b (Some unit) None) older) ≡ cond b (Some row) (option_map (batch_row k state closed) older)
opened_first true k state closed unit older row is = ap Some (is refl)
opened_first false k state closed unit older row is = refl

module _ (H : History) (o order unit : Bytes) where
  abbrev own_actions : List Action
  own_actions = acts o H

  abbrev next_batch : BatchRow
  next_batch = opened_row order unit (count_opened own_actions order)

  no_next : unit_of own_actions order next_batch.number ≡ None
  no_next = no_unit own_actions order next_batch.number (omega arith)

  opened_is_new : is_some (batch_of own_actions (batch_key next_batch)) ≡ false
  opened_is_new = ap (λ x. is_some (option_map (batch_row (batch_key next_batch) (state_of own_actions order next_batch.number) (is_closed own_actions order next_batch.number)) x)) no_next

  named_next : (k : Bytes × ℕ) → (same_bytes order k.0 && count_opened own_actions k.0 + 1 == k.1) ≡ is_eq (batch_cmp k (batch_key next_batch))
  named_next k =
      elim (same_bytes order k.0) as (λ b. same_bytes order k.0 ≡ b → (b && count_opened own_actions k.0 + 1 == k.1) ≡ (b && k.1 == next_batch.number)) [
        | true ↦ λ same. ap (λ x. count_opened own_actions x + 1 == k.1) (sym (same_bytes-exact order k.0 same)) ∙ nat_eq-symm next_batch.number k.1
        | false ↦ λ other. refl
      ] refl
      ∙ ap (λ b. b && k.1 == next_batch.number) (same_bytes-symm order k.0)
      ∙ sym (same_batch k (batch_key next_batch))

  opening_in_history : IsLawful H → facts_given (by o (OpenBatch order unit) ∷ H) o ≡ with_opened next_batch (facts_given H o)
  opening_in_history lawful =
      tables-own H o (OpenBatch order unit) refl
      ∙ (λ i. record (with_opened next_batch (facts_given H o)) { batch = λ k. opened_at k i })
    where
      is_next : (k : Bytes × ℕ) → k ≡ batch_key next_batch → batch_row k (state_of own_actions k.0 k.1) (is_closed own_actions k.0 k.1) unit ≡ next_batch
      is_next k e =
          let new = unborn H o lawful order next_batch.number no_next in
          (λ i. batch_row (e i) (state_of own_actions (e i).0 (e i).1) (is_closed own_actions (e i).0 (e i).1) unit) ∙ (λ i. batch_row (batch_key next_batch) (new.idle i) (new.open_still i) unit)

      opened_at : (k : Bytes × ℕ) → batch_of (OpenBatch order unit ∷ own_actions) k ≡ cond (is_eq (batch_cmp k (batch_key next_batch))) (Some next_batch) (batch_of own_actions k)
      opened_at k =
          ap (λ b. option_map (batch_row k (state_of own_actions k.0 k.1) (is_closed own_actions k.0 k.1)) (or_else (cond b (Some unit) None) (unit_of own_actions k.0 k.1))) (named_next k)
          ∙ opened_first (is_eq (batch_cmp k (batch_key next_batch))) k (state_of own_actions k.0 k.1) (is_closed own_actions k.0 k.1) unit (unit_of own_actions k.0 k.1) next_batch
          (λ same. is_next k (same_batch-exact k (batch_key next_batch) same))

opening_grows : (order unit : Bytes) → Grows (OpenBatch order unit) (opened_rows order unit)
opening_grows order unit H s lawful valid accepted there =
    opened_in_slice s (opened_row order unit ((facts_of s).opened order))
    (ap (λ (t : OwnerFacts). is_some (t.batch (order, t.opened order + 1))) there ∙ opened_is_new H s.owner order unit)
    ∙ ap (λ (t : OwnerFacts). with_opened (opened_row order unit (t.opened order)) t) there
    ∙ sym (opening_in_history H s.owner order unit lawful)

module _ (own_actions : Slice) (order unit : Bytes) (known free : Bool) (d : Decision) (decided : IsDecided (open_checks (facts_of own_actions) order known (not free)) (map (Put own_actions.owner) (opened_rows order unit (facts_of own_actions))) d) where
  pub opening_decided : DecidesOpening order unit known free own_actions d
  unfolding DecidesOpening
  opening_decided H lawful known_owner there reported =
      let a = OpenBatch order unit in
      right_over H (by own_actions.owner a) d _ _ decided.says decided.makes
      ((λ i. verdict_of_checks (open_checks (facts_of own_actions) order (reported.known i) (not (reported.free i))))
      ∙ ap (λ b. verdict_of_checks (open_checks (facts_of own_actions) order (unit_known H unit) b)) (not_not (is_some (holder H unit)))
      ∙ verdict_is H own_actions.owner a (facts_of own_actions) _ known_owner there refl)
      (λ accepted s. grown_rows a (opened_rows order unit) (opening_grows order unit) (λ H o p lawful valid accepted other. tables-others H o a refl p other) H own_actions.owner (facts_of own_actions) there lawful tt accepted s)
    where
      not_not : (b : Bool) → not (not b) ≡ b
      not_not true = refl
      not_not false = refl

  pub opening_keeps : KeepsRules own_actions → DecisionKeepsRules own_actions d
  opening_keeps keeps = keeps_rules own_actions (opened_rows order unit (facts_of own_actions)) d _ decided keeps (λ accepted. (refl, tt))
