-- The effect of making one more table, and of the row of the version.
use Rattle.std.proofs.Common.{◌≡◌, ℕ, suc, ◌+◌, ◌<◌, false, List, [], ◌∷◌, take, get_or, arith, Ok, Result, IsTrue, ap, subst, ◌∙◌, sym, refl}
use Rattle.toll_sql.proofs.Common.{AllByRecursion, State, ExecutesInside, Survives, HasCleanDisk, Table, Trees, Error, IsShaped, AreEmpty, IsTransactionStep, IsMaking, MakesTable, IsShapedAs, WritesVersion, meta_cells, version, HasOurs, IsReady, MakesPuts, PutsRow, no_schema, every_table, with_tables, made_before, made_all, create_text, TableKind, Meta}
use Rattle.sqlite_catalog.specs.Change.{KeepsRows, next_tree}
use Rattle.sqlite_trees.specs.declared.store.Shape.TheVariants as shape
use Rattle.toll_sql.proofs.CreateLemmas.{adds}
use Rattle.toll_sql.proofs.CreateTexts.{unplaced, create_is, create_defines, create_uncounted, create_place, earlier_is, next_is, number_at}
use Rattle.toll_sql.proofs.PutTexts.{table_number}
use Rattle.toll_sql.proofs.StepLemmas.{step_in_turn, one_step}
use Rattle.toll_sql.proofs.SoFar.{all_append}

pub table_step : (k : TableKind) (old new : State) (r : Result ℕ Error) → (old.in_transaction ≡ false → new ≡ old) → (HasCleanDisk new → IsTrue old.in_transaction → ExecutesInside 0 (create_text k) [] old new r) → Survives old new (λ _. ⊥)
    → IsTransactionStep (IsMaking (made_before k)) (MakesTable k) old new r
table_step k old new r outside runs survives = one_step (IsMaking (made_before k)) (MakesTable k) (create_text k) [] old new r (λ count limit before h.
    let it = adds (create_text k) (made_before k) (create_is k).1 (create_is k).2 old new count before.schema h.0 (unplaced k) (create_is k).0 (create_defines k) (create_uncounted k) in
    record {
      making = record { schema = it.schema_is; unlimited = limit ∙ before.unlimited; inside = h.1.mode };
      empty = subst (λ tree. new.now.trees tree ≡ []) (create_place k) it.empty;
      others = it.others;
    }) outside runs survives

-- Rows that stay still have rowids.
pub shaped_still : (ts : List Table) (old new : Trees) → KeepsRows ts old new → AllByRecursion (λ t. IsShaped shape.Table (old t.tree)) ts → AllByRecursion (λ t. IsShaped shape.Table (new t.tree)) ts
shaped_still [] old new kept shaped = tt
shaped_still (t ∷ ts) old new kept shaped = (subst (IsShaped shape.Table) (sym kept.0) shaped.0, shaped_still ts old new kept.1 shaped.1)

-- The office's tables alone are ours.
pub all_ours : HasOurs made_all
all_ours = record { tables = ([], refl, tt); indexes = ([], refl, tt) }

-- All tables are made, and a row can be put.
pub make_ready : (s : State) → IsShapedAs made_all s → IsReady s
make_ready s h = record {
  ours = record { schema = subst HasOurs (sym h.making.schema) all_ours; shaped = h.shaped };
  unlimited = h.making.unlimited;
  inside = h.making.inside;
}

pub version_written : (old new : State) → IsShapedAs made_all old → MakesPuts (PutsRow Meta (meta_cells version)) old new → WritesVersion old new
version_written old new before put = record { put = put.put; ours = put.ready.ours; alone = put.schema ∙ before.making.schema }

-- ---- the tables, one after another

-- This many tables are made, and none has a row.
pub record MakesFirst (n : ℕ) (old new : State) : Type 0 where
  pub making : IsMaking (with_tables no_schema (take n every_table)) new
  pub empty : AreEmpty (with_tables no_schema (take n every_table)) new.now.trees

abbrev pub none_yet : Result (Unit {0}) Error
none_yet = Ok tt

all_kept : (ts : List Table) (old new : Trees) → KeepsRows ts old new → AllByRecursion (λ t. old t.tree ≡ []) ts → AllByRecursion (λ t. new t.tree ≡ []) ts
all_kept [] old new h e = tt
all_kept (t ∷ ts) old new h e = (h.0 ∙ e.0, all_kept ts old new h.1 e.1)

-- The tables before it are the first ones.
before_is : (n : ℕ) (k : TableKind) → table_number k ≡ n → made_before k ≡ with_tables no_schema (take n every_table)
before_is n k at = ap (with_tables no_schema) (earlier_is k) ∙ ap (λ m. with_tables no_schema (take m every_table)) at

next_ready : (n : ℕ) (k : TableKind) → table_number k ≡ n → (first now : State) → MakesFirst n first now → IsMaking (made_before k) now
next_ready n k at first now h = subst (λ s. IsMaking s now) (sym (before_is n k at)) h.making

next_made : (n : ℕ) (k : TableKind) → table_number k ≡ n → (first now next : State) → MakesFirst n first now → MakesTable k now next → MakesFirst (n + 1) first next
next_made n k at first now next h one =
    let were : AreEmpty (made_before k) now.now.trees = subst (λ s. AreEmpty s now.now.trees) (sym (before_is n k at)) h.empty in
    let are = all_append (λ t. next.now.trees t.tree ≡ []) (made_before k).tables (record (unplaced k) { tree = next_tree (made_before k) } ∷ []) (all_kept (made_before k).tables _ _ one.others were)
    (subst (λ tree. next.now.trees tree ≡ []) (sym (create_place k)) one.empty, tt) in
    let more : suc (table_number k) ≡ n + 1 = omega (arith, at) in
    let all : with_tables (made_before k) (k ∷ []) ≡ with_tables no_schema (take (n + 1) every_table) = next_is k ∙ ap (λ m. with_tables no_schema (take m every_table)) more in
    record { making = subst (λ s. IsMaking s next) all one.making; empty = subst (λ s. AreEmpty s next.now.trees) all are }

pub next_step : {X : Type 0} (tables : List TableKind) → tables ≡ every_table → (n : ℕ) → n < 14 → (first now next : State) (r : Result X Error) → IsTransactionStep (IsMaking no_schema) (MakesFirst n) first now none_yet
    → IsTransactionStep (IsMaking (made_before (get_or tables n Meta))) (MakesTable (get_or tables n Meta)) now next r → IsTransactionStep (IsMaking no_schema) (MakesFirst (n + 1)) first next r
next_step tables are n low first now next r so_far one =
    let k = get_or every_table n Meta in
    let at = number_at n low in
    step_in_turn (IsMaking no_schema) (IsMaking (made_before k)) (MakesFirst n) (MakesTable k) (MakesFirst (n + 1)) first now next tt r (λ _. next_ready n k at first now) (next_made n k at first now next) so_far
    (subst (λ all. IsTransactionStep (IsMaking (made_before (get_or all n Meta))) (MakesTable (get_or all n Meta)) now next r) are one)
