-- One row put within a transaction.
use Rattle.std.proofs.Common.{◌≡◌, ◌≢◌, ◌⊎◌, inl, inr, ℕ, true, false, List, [], ◌∷◌, Ok, Err, Result, IsTrue, sym, ap, subst, ◌∙◌, nat_eq}
use Rattle.toll_sql.proofs.Common.{AllByRecursion, cases_Bool, eqb-true, eq-eqb, Row, State, ExecutesInside, Survives, HasCleanDisk, Table, Trees, Error, IsShaped, columns_from, fill, HasOurs, IsReady, IsTransactionStep, MakesPuts, PutsRow, made_all, table_of, tree_of, width_of, put_text, TableKind}
use Rattle.sqlite_trees.specs.declared.store.Shape.TheVariants as shape
use Rattle.toll_sql.proofs.CellLemmas.{every_column, fit_length}
use Rattle.toll_sql.proofs.OthersLemmas.{at_listed}
use Rattle.toll_sql.proofs.PutRows.{puts_at}
use Rattle.toll_sql.proofs.StepLemmas.{one_step}
use Rattle.toll_sql.proofs.PutTexts.{table_listed, tree_is, columns_are, table_number}

-- each of our tables
pub at_table : (P : ℕ → Type 0) (k : TableKind) → AllByRecursion (λ (t : Table). P t.tree) made_all.tables → P (tree_of k)
at_table P k all = subst P (tree_is k) (at_listed (λ (t : Table). P t.tree) made_all.tables (table_number k) (table_of k) all (table_listed k))

-- ---- a tree with rowids keeps them

same_or_not : (a b : ℕ) → (a ≡ b) ⊎ (a ≢ b)
same_or_not a b = elim (cases_Bool (nat_eq a b)) [
  | inl equal ↦ inl (eqb-true a b equal)
  | inr other ↦ inr (λ same. absurd (let e = sym other ∙ eq-eqb a b same in cc))
]

pub shaped_after : (tree : ℕ) (old new : Trees) (ts : List Table) → IsShaped shape.Table (new tree) → AllByRecursion (λ t. t.tree ≢ tree → new t.tree ≡ old t.tree) ts
    → AllByRecursion (λ t. IsShaped shape.Table (old t.tree)) ts → AllByRecursion (λ t. IsShaped shape.Table (new t.tree)) ts
shaped_after tree old new [] here others shaped = tt
shaped_after tree old new (t ∷ ts) here others shaped =
    let one : IsShaped shape.Table (new t.tree) = elim (same_or_not t.tree tree) [
      | inl same ↦ subst (λ n. IsShaped shape.Table (new n)) (sym same) here
      | inr not ↦ subst (IsShaped shape.Table) (sym (others.0 not)) shaped.0
    ] in
    (one, shaped_after tree old new ts here others.1 shaped.1)

-- ---- the call

pub whole_row : (k : TableKind) (cells : Row) → fill k cells ≡ true → columns_from 0 (width_of k) cells ≡ cells
whole_row k cells fits = ap (λ n. columns_from 0 n cells) (sym (columns_are k) ∙ sym (fit_length (table_of k).columns cells fits)) ∙ every_column cells

pub writes_row : (k : TableKind) (cells : Row) → fill k cells ≡ true → (old new : State) (r : Result ℕ Error) → (old.in_transaction ≡ false → new ≡ old)
    → (HasCleanDisk new → IsTrue old.in_transaction → ExecutesInside 0 (put_text k) cells old new r) → Survives old new (λ _. ⊥) → IsTransactionStep IsReady (MakesPuts (PutsRow k cells)) old new r
writes_row k cells fits old new r outside runs survives = one_step IsReady (MakesPuts (PutsRow k cells)) (put_text k) cells old new r (λ count limit ready h.
    let is = whole_row k cells fits in
    let shaped = at_table (λ tree. IsShaped shape.Table (old.now.trees tree)) k ready.ours.shaped in
    let p0 = puts_at k cells (subst (λ c. fill k c ≡ true) (sym is) fits) old new count ready.ours.schema ready.unlimited shaped (subst (λ c. ExecutesInside 0 (put_text k) c old new (Ok count)) (sym is) h).0 in
    let put : PutsRow k cells old.now.trees new.now.trees = subst (λ c. PutsRow k c old.now.trees new.now.trees) is p0.0 in
    record {
      put = put;
      ready = record {
        ours = record { schema = subst HasOurs (sym p0.1) ready.ours.schema; shaped = shaped_after (tree_of k) old.now.trees new.now.trees made_all.tables put.shaped put.others ready.ours.shaped };
        unlimited = limit ∙ ready.unlimited;
        inside = h.1.mode;
      };
      schema = p0.1;
      committed = h.1.committed_is;
    }) outside runs survives

-- the result without the number of rows written
abbrev pub uncounted : Result ℕ Error → Result (Unit {0}) Error
uncounted (Ok count) = Ok tt
uncounted (Err e) = Err e

pub writes_uncounted : {Before : State → Type 0} {Makes : State → State → Type 0} {old new : State} (r : Result ℕ Error) → IsTransactionStep Before Makes old new r → IsTransactionStep Before Makes old new (uncounted r)
writes_uncounted (Ok count) w = record { makes = w.makes; inside = w.inside; fault = λ clean within. tt; kept = w.kept; survives = w.survives }
writes_uncounted (Err e) w = record { makes = λ _ _ _. tt; inside = λ _ _. tt; fault = w.fault; kept = w.kept; survives = w.survives }
