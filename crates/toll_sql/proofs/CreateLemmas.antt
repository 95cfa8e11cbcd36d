-- The effect of CREATE TABLE on a database.
use Rattle.std.proofs.Common.{◌≡◌, ℕ, false, List, [], None, Ok, sym, ap, subst, ◌∙◌}
use Rattle.toll_sql.proofs.Common.{IsPlain, command_of, statement_of, runs_as, CreateTable, table_defined_by, Tally, lacks_sequence, Database, understood, Schema, State, Writes, Executes, Table}
use Rattle.sqlite.specs.Change.{created, next_tree, KeepsRows}
use Rattle.toll_sql.proofs.UpsertLemmas.{went, same_ok_value}

module _ (sql : List ℕ) (schema : Schema) (whole : statement_of sql (understood schema sql) ≡ sql) (plain : IsPlain (understood schema sql)) (old new : State) (count : ℕ) (has : old.now.schema ≡ schema)
    (h : Executes sql [] old new (Ok count)) where
  pub record AddsTable (table : Table) : Type 0 where
    pub schema_is : new.now.schema ≡ created schema table
    pub empty : new.now.trees (next_tree schema) ≡ []
    pub others : KeepsRows schema.tables old.now.trees new.now.trees

  pub adds : (table : Table) → command_of (understood schema sql) ≡ CreateTable → table_defined_by sql ≡ Ok table → lacks_sequence (created schema table) ≡ false → AddsTable table
  adds table is made uncounted =
      let w = subst (λ t. Writes old new None CreateTable t [] count) whole (runs_as sql [] old new schema has CreateTable is plain count h) in
      let all = went w.changed in
      let first = went all.1 in
      let it = first.1 in
      let both : Ok it.table ≡ Ok table = sym it.defined ∙ made in
      let same : it.table ≡ table = cc in
      let after : first.0.schema ≡ created schema table = it.is ∙ ap (λ s. created s it.table) has ∙ ap (created schema) same in
      let lacks : lacks_sequence first.0.schema ≡ false = ap lacks_sequence after ∙ uncounted in
      let now : new.now ≡ first.0 = ap (λ (p : Tally × Database). p.1) (same_ok_value all.2) ∙ same_ok_value (rw lacks at first.2) in
      let empty : first.0.trees (next_tree schema) ≡ [] = subst (λ s. first.0.trees (next_tree s) ≡ []) has it.empty in
      let others : KeepsRows schema.tables old.now.trees first.0.trees = subst (λ (s : Schema). KeepsRows s.tables old.now.trees first.0.trees) has it.others in
      record {
        schema_is = ap (λ (d : Database). d.schema) now ∙ after;
        empty = subst (λ (d : Database). d.trees (next_tree schema) ≡ []) (sym now) empty;
        others = subst (λ (d : Database). KeepsRows schema.tables old.now.trees d.trees) (sym now) others;
      }
