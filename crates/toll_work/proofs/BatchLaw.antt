-- What the commanding and the closing of a batch owe: each changes the row of a known batch.
use Rattle.std.proofs.Common.{◌≡◌, ℕ, Bool, true, false, ◌&&◌, ◌||◌, ◌==◌, cond, Option, Some, None, is_none, List, [], ◌∷◌, map, refl, sym, ap, ◌∙◌, arith}
use Rattle.toll_work.proofs.Common.{option_map, is_eq, nat_tests, Bytes, same_bytes, batch_cmp, Action, CommandBatch, CloseBatch, by, History, acts, Slice, batch_at, with_row, KeepsRules, followed, unit_of, state_of, is_closed, batch_of, OwnerFacts, facts_of, facts_given, IsDecided, Decides, DecisionKeepsRules, Checks, Accepted, verdict_of_checks, verdict, batch_command_checks, close_checks, records_or_voids, State, Put, Decision, BatchRow, Batch, none_applies, both, accepted_passes, verdict_is, Grows, RowsFit, put_rows, decides, keeps_rules, tables-own, tables-others, tables_after, row_at-put_row, count-known, same_bytes-exact, same_bytes-symm, nat_eq-exact, batch_cmp_total, same_batch, commanded_row, closed_row, changed_rows}
use Rattle.toll_base.specs.declared.state_command.StateCommand.{StateCommand}
use Rattle.toll_work.proofs.FoundRow.{row_at-key, so_of_known, known_changed}

-- ---- keys of batches

abbrev pub batch_key : BatchRow → Bytes × ℕ
batch_key row = (row.order, row.number)

pub same_batch-exact : (k l : Bytes × ℕ) → is_eq (batch_cmp k l) ≡ true → k ≡ l
same_batch-exact k l h =
    let parts = both (same_bytes k.0 l.0) (k.1 == l.1) (sym (same_batch k l) ∙ h) in
    λ i. (same_bytes-exact k.0 l.0 parts.0 i, nat_eq-exact k.1 l.1 parts.1 i)

pub nat_eq-symm : (m n : ℕ) → (m == n) ≡ (n == m)
nat_eq-symm m n = grind (arith, nat_tests)

-- Testing a batch by its order and its number is testing its key.
named_so : (order : Bytes) (number : ℕ) (k : Bytes × ℕ) → (same_bytes order k.0 && number == k.1) ≡ is_eq (batch_cmp k (order, number))
named_so order number k = (λ i. same_bytes-symm order k.0 i && nat_eq-symm number k.1 i) ∙ sym (same_batch k (order, number))

-- ---- tables with a batch changed

abbrev with_batch : Bytes × ℕ → BatchRow → OwnerFacts → OwnerFacts
with_batch key row t = record t { batch = λ k. cond (is_eq (batch_cmp k key)) (Some row) (t.batch k) }

-- the batch's row with this state, if it was opened
abbrev pub batch_row : Bytes × ℕ → State → Bool → Bytes → BatchRow
batch_row k state closed unit = record { order = k.0; number = k.1; unit = unit; state = state; closed = closed }

module _ (key : Bytes × ℕ) (change : BatchRow → BatchRow) (same_key : (row : BatchRow) → batch_key (change row) ≡ batch_key row) where
  module _ (s : Slice) (known : BatchRow) (found : batch_at s key ≡ Some known) where
    batch_key_is : batch_key (change known) ≡ key
    batch_key_is = same_key known ∙ sym (same_batch-exact key (batch_key known) (row_at-key batch_cmp batch_key s.batches key known found))

    batch_in_slice : facts_of (with_row s (Batch (change known))) ≡ with_batch key (change known) (facts_of s)
    batch_in_slice i = record (facts_of s) {
      batch = λ k. (row_at-put_row batch_cmp batch_cmp_total batch_key s.batches (change known) k ∙ ap (λ l. cond (is_eq (batch_cmp k l)) (Some (change known)) (batch_at s k)) batch_key_is) i;
      opened = λ o. count-known batch_cmp batch_cmp_total batch_key s.batches (change known) (λ row. same_bytes row.order o) known (ap (batch_at s) batch_key_is ∙ found) (ap (λ (k : Bytes × ℕ). same_bytes k.0 o) (sym (same_key known))) i;
    }

  -- An action that changes the row of this batch alone.
  module _ (a : Action) (none : records_or_voids a ≡ false)
      (only : (H : History) (o : Bytes) → tables_after a (acts o H) o H ≡ record (facts_given H o) { batch = batch_of (a ∷ acts o H) })
      (changed : (own : List Action) (k : Bytes × ℕ) → batch_of (a ∷ own) k ≡ cond (is_eq (batch_cmp k key)) (option_map change (batch_of own k)) (batch_of own k))
      (checked : (H : History) (o : Bytes) → verdict H (by o a) ≡ Accepted → is_none (batch_of (acts o H) key) ≡ false) where
    batch_in_history : (H : History) (o : Bytes) (known : BatchRow) → batch_of (acts o H) key ≡ Some known → facts_given (by o a ∷ H) o ≡ with_batch key (change known) (facts_given H o)
    batch_in_history H o known found =
        tables-own H o a none
        ∙ only H o
        ∙ (λ i. record (facts_given H o) {
          batch = λ k. (changed (acts o H) k ∙ known_changed change (is_eq (batch_cmp k key)) (batch_of (acts o H) k) known (λ same. ap (batch_of (acts o H)) (same_batch-exact k key same) ∙ found)) i;
        })

    batch_grows : Grows a (changed_rows change key.0 key.1)
    batch_grows H s lawful valid accepted there =
        so_of_known (batch_at s key) (λ row. Batch (change row) ∷ []) (λ rows. facts_of (put_rows rows s) ≡ facts_given (by s.owner a ∷ H) s.owner)
        (ap (λ (t : OwnerFacts). is_none (t.batch key)) there ∙ checked H s.owner accepted)
        (λ known found.
        batch_in_slice s known found
        ∙ ap (with_batch key (change known)) there
        ∙ sym (batch_in_history H s.owner known (sym (ap (λ (t : OwnerFacts). t.batch key) there) ∙ found)))

  -- If the checks know the batch, a changed row fits.
  batch_fits : (own : Slice) (d : Decision) (checks : Checks) → IsDecided checks (map (Put own.owner) (changed_rows change key.0 key.1 (facts_of own))) d → (verdict_of_checks checks ≡ Accepted → is_none (batch_at own key) ≡ false) → KeepsRules own → DecisionKeepsRules own d
  batch_fits own d checks decided checked keeps =
      keeps_rules own (changed_rows change key.0 key.1 (facts_of own)) d checks decided keeps
      (λ accepted. so_of_known (batch_at own key) (λ row. Batch (change row) ∷ []) (λ rows. RowsFit rows own) (checked accepted) (λ known found. (refl, tt)))

-- ---- a command

commanded_now : (b : Bool) (k : Bytes × ℕ) (state : State) (closed : Bool) (command : StateCommand) (unit : Option Bytes) →
    option_map (batch_row k (cond b (followed state command) state) closed) unit ≡ cond b (option_map (commanded_row command) (option_map (batch_row k state closed) unit)) (option_map (batch_row k state closed) unit)
commanded_now true k state closed command None = refl
commanded_now true k state closed command (Some unit) = refl
commanded_now false k state closed command unit = refl

commanded : (order : Bytes) (number : ℕ) (command : StateCommand) (own : List Action) (k : Bytes × ℕ) → batch_of (CommandBatch order number command ∷ own) k ≡ cond (is_eq (batch_cmp k (order, number))) (option_map (commanded_row command) (batch_of own k)) (batch_of own k)
commanded order number command own k =
    ap (λ b. option_map (batch_row k (cond b (followed (state_of own k.0 k.1) command) (state_of own k.0 k.1)) (is_closed own k.0 k.1)) (unit_of own k.0 k.1)) (named_so order number k)
    ∙ commanded_now (is_eq (batch_cmp k (order, number))) k (state_of own k.0 k.1) (is_closed own k.0 k.1) command (unit_of own k.0 k.1)

module _ (own : Slice) (order : Bytes) (number : ℕ) (command : StateCommand) (d : Decision) (decided : IsDecided (batch_command_checks (facts_of own) order number command) (map (Put own.owner) (changed_rows (commanded_row command) order number (facts_of own))) d) where
  pub command_decided : Decides (by own.owner (CommandBatch order number command)) own d
  command_decided =
      let a = CommandBatch order number command in
      decides a (changed_rows (commanded_row command) order number)
      (batch_grows (order, number) (commanded_row command) (λ row. refl) a refl (λ H o. refl) (commanded order number command) (λ H o accepted. accepted_passes H o a accepted 1))
      (λ H o p lawful valid accepted other. tables-others H o a refl p other)
      own d _ decided (λ H lawful valid known there. verdict_is H own.owner a (facts_of own) _ known there refl)

  pub command_keeps : KeepsRules own → DecisionKeepsRules own d
  command_keeps = batch_fits (order, number) (commanded_row command) (λ row. refl) own d _ decided (λ accepted. none_applies (batch_command_checks (facts_of own) order number command) accepted 1)

-- ---- a closing

closed_now : (b : Bool) (k : Bytes × ℕ) (state : State) (closed : Bool) (unit : Option Bytes) →
    option_map (batch_row k state (b || closed)) unit ≡ cond b (option_map closed_row (option_map (batch_row k state closed) unit)) (option_map (batch_row k state closed) unit)
closed_now true k state closed None = refl
closed_now true k state closed (Some unit) = refl
closed_now false k state closed unit = refl

closed_too : (order : Bytes) (number : ℕ) (own : List Action) (k : Bytes × ℕ) → batch_of (CloseBatch order number ∷ own) k ≡ cond (is_eq (batch_cmp k (order, number))) (option_map closed_row (batch_of own k)) (batch_of own k)
closed_too order number own k =
    ap (λ b. option_map (batch_row k (state_of own k.0 k.1) (b || is_closed own k.0 k.1)) (unit_of own k.0 k.1)) (named_so order number k)
    ∙ closed_now (is_eq (batch_cmp k (order, number))) k (state_of own k.0 k.1) (is_closed own k.0 k.1) (unit_of own k.0 k.1)

module _ (own : Slice) (order : Bytes) (number : ℕ) (d : Decision) (decided : IsDecided (close_checks (facts_of own) order number) (map (Put own.owner) (changed_rows closed_row order number (facts_of own))) d) where
  pub closing_decided : Decides (by own.owner (CloseBatch order number)) own d
  closing_decided =
      let a = CloseBatch order number in
      decides a (changed_rows closed_row order number)
      (batch_grows (order, number) closed_row (λ row. refl) a refl (λ H o. refl) (closed_too order number) (λ H o accepted. accepted_passes H o a accepted 1))
      (λ H o p lawful valid accepted other. tables-others H o a refl p other)
      own d _ decided (λ H lawful valid known there. verdict_is H own.owner a (facts_of own) _ known there refl)

  pub closing_keeps : KeepsRules own → DecisionKeepsRules own d
  closing_keeps = batch_fits (order, number) closed_row (λ row. refl) own d _ decided (λ accepted. none_applies (close_checks (facts_of own) order number) accepted 1)
