-- No statement is refused by its own meaning with an error of the disk.
use Rattle.std.proofs.Common.{◌≡◌, inl, inr, ℕ, ℤ, Bool, true, false, List, [], ◌∷◌, Option, Some, None, Err, Result, ◌++◌, fold, if◌then◌else◌, is_lt, int_cmp, is_some, slice_get, option_map, refl, ap, subst, ◌∙◌}
use Rattle.std.specs.Bool.{MatchBool}
use Rattle.toll_sql.proofs.Common.{option_to_list, Does, IsKeptAside, Tally, Database, RefusesQuery, RefusesToAlter, RefusesToRead, alter_error, edit_error, Row, Part, Gives, Refuses, Task, Then, Written, Trees, Null, Error, InvalidQuery, SqliteFailure, without_index, without_table, without_view, ids_of, cast_row, Edit, edit_of, with_rowid, Given, Refusal, Abort, Ignore, Replace, Returning, Upsert, Refers, is_disk_fault}
use Rattle.sqlite.specs.Does as does
use Rattle.sqlite.specs.Rows as rows
use Rattle.sqlite_trees.specs.Tree.{rowid}
use Rattle.sqlite.specs.declared.error.ErrorCode.TheVariants as code
use Rattle.sqlite.specs.declared.run.Mode.{Mode}
use Rattle.sqlite_catalog.specs.declared.error.Refusal.{Refusal as AlterRefusal}
use Rattle.sqlite_catalog.specs.declared.error.Refusal.TheVariants as why
use Rattle.sqlite_catalog.specs.Calls.{RefusesToDropIndex}
use Rattle.sqlite_rules.specs.declared.error.Refusal.TheVariants as broken
use Rattle.sqlite_schema.specs.declared.command.Command.{Command}
use Rattle.sqlite_schema.specs.declared.command.Command.TheVariants as command
use Rattle.sqlite_schema.specs.declared.command.Conflict.{Conflict}
use Rattle.sqlite_schema.specs.declared.command.Source.{Source}
use Rattle.sqlite_schema.specs.declared.command.Source.TheVariants as source
use Rattle.sqlite_schema.specs.declared.program.Program.{Program}
use Rattle.sqlite_schema.specs.declared.schema.Among.{Among}
use Rattle.sqlite_schema.specs.declared.schema.Constraint.TheVariants.{ForeignKey}
use Rattle.sqlite_schema.specs.declared.schema.Keys.{Keys}
use Rattle.sqlite_schema.specs.declared.schema.Schema.{Schema}
use Rattle.sqlite_schema.specs.declared.schema.Table.{Table}

-- It isn't refused with an error of the disk.
abbrev Spares : {A : Type 0} → Part A → Type 0
Spares P = (e : Error) → P (Err (Some e)) → is_disk_fault e ≡ false

is_other : (e x : Error) → e ≡ x → is_disk_fault x ≡ false → is_disk_fault e ≡ false
is_other e x is out = ap is_disk_fault is ∙ out

-- ---- the parts of any statement

abbrev refusal_fails : {A : Type 0} → Option Error → Result A (Option Error)
refusal_fails stop = Err stop

gives : {A : Type 0} (a : A) → Spares (Gives a)
gives a e is = absurd (cc is)

refuses_other : {A : Type 0} (x : Error) → is_disk_fault x ≡ false → Spares (Refuses {A = A} x)
refuses_other x out e is = let same : e ≡ x = cc in is_other e x same out

-- The first part stopped.
halted : {A B : Type 0} (P : Part A) (e : Error) → Spares P → (stop : Option Error) → P (Err stop) → refusal_fails {A = B} (Some e) ≡ refusal_fails stop → is_disk_fault e ≡ false
halted P e spares stop h is = let same : stop ≡ Some e = cc in spares e (subst (λ stop. P (Err stop)) same h)

match_either : {R : Type 0} (b : Bool) (P Q : Type 0) → (P → R) → (Q → R) → MatchBool b P Q → R
match_either true P Q p q h = p h
match_either false P Q p q h = q h

at_place : {X A : Type 0} (P : X → Part A) (it : Option X) (e : Error) → ((x : X) → P x (Err (Some e)) → is_disk_fault e ≡ false) → does.AtPlace P it (Err (Some e)) → is_disk_fault e ≡ false
at_place {X} {A} P None e each h = refuses_other {A = A} InvalidQuery refl e h
at_place P (Some x) e each h = each x h

of_edit : (r : Refusal) → is_disk_fault (edit_error r) ≡ false
of_edit (broken.Violates rule) = refl
of_edit _ = refl

of_alter : (r : AlterRefusal) → is_disk_fault (alter_error r) ≡ false
of_alter (why.Invalid e) = refl
of_alter _ = refl

-- ---- queries

no_query_faults : (limit : Option ℕ) (db : Database) (q : Program) (params : Row) (e : Error) → RefusesQuery limit db q params e → is_disk_fault e ≡ false
no_query_faults limit db q params e (inl h) = is_other e _ h.0 refl
no_query_faults limit db q params e (inr (inl h)) = is_other e _ h.0 refl
no_query_faults limit db q params e (inr (inr h)) = is_other e _ h.0 refl

pub reading : (limit : Option ℕ) (c : Command) (db : Database) (params : Row) (e : Error) → RefusesToRead limit c db params e → is_disk_fault e ≡ false
reading limit (command.Select q names) db params e h = no_query_faults limit db q params e h
reading limit (command.Rows values width names) db params e h = is_other e _ h.0 refl
reading limit _ db params e h = is_other e _ h refl

sourced : (limit : Option ℕ) (db : Database) (params : Row) (from : Source) → Spares (rows.Sourced limit db params from)
sourced limit db params (source.Values terms width) e (inl h) = is_other e _ h.0 refl
sourced limit db params (source.Values terms width) e (inr h) = is_other e _ h.0 refl
sourced limit db params (source.Query q) e h = no_query_faults limit db q params e h

edited : (schema : Schema) (keys : Keys) (db : Trees) (edit : Edit) → Spares (rows.Edited schema keys db edit)
edited schema keys db edit e h = of_why h.0 h.2
  where
    of_why : (r : Option Refusal) → Some e ≡ option_map edit_error r → is_disk_fault e ≡ false
    of_why None is = absurd (cc is)
    of_why (Some r) is = let same : e ≡ edit_error r = cc in is_other e (edit_error r) same (of_edit r)

-- ---- rows

module _ (task : Task) where
  abbrev database_over : Trees → Database
  database_over db = record { schema = task.schema; trees = db }

  counter_in : (db : Trees) (counters : Option Table) → Spares (rows.CounterIn task db counters)
  counter_in db None e h = refuses_other {A = Option Row} InvalidQuery refl e h
  counter_in db (Some counters) e h = absurd (cc h)

  counter : (db : Trees) → Spares (rows.Counter task db)
  counter db e h = match_either task.table.is_counted (rows.CounterIn task db (rows.sequence task.schema) (Err (Some e))) (Gives {A = Option Row} None (Err (Some e))) (counter_in db (rows.sequence task.schema) e) (gives None e) h

  edits : (db : Trees) (edit : Edit) → Spares (rows.Edited task.schema task.keys db edit)
  edits db edit = edited task.schema task.keys db edit

  counts_in : (db : Trees) (was : Option Row) (top : ℤ) (counters : Option Table) → Spares (rows.CountsIn task db was top counters)
  counts_in db was top None e h = refuses_other {A = Trees} InvalidQuery refl e h
  counts_in db was top (Some counters) e h = edits db (rows.counting db task.table counters top was) e h

  refusal_counts : (db : Trees) (was : Option Row) (top : ℤ) → Spares (rows.Counts task db was top)
  refusal_counts db was top e h = match_either (if task.table.is_counted then is_lt (int_cmp (rows.count_of was) top) else false) (rows.CountsIn task db was top (rows.sequence task.schema) (Err (Some e))) (Gives db (Err (Some e)))
      (counts_in db was top (rows.sequence task.schema) e) (gives db e) h

  query_spares : (q : Program) (given : Row) (db : Trees) → Spares (rows.Queried task.limit (database_over db) q given)
  query_spares q given db = no_query_faults task.limit (database_over db) q given

  updates : (q : Program) (given : Row) (db : Trees) → Spares (rows.Updates task q given db)
  updates q given db e (inl h) = halted (rows.Queried task.limit (database_over db) q given) e (query_spares q given db) h.0 h.1 h.2
  updates q given db e (inr h) = elim h.2 [
    | inl k ↦ halted (rows.Edited task.schema task.keys db (edit_of db task.table (ids_of h.0) Given 1 h.0)) e (edits db _) k.0 k.1 k.2
    | inr k ↦ absurd (let is = k.2 in cc)
  ]

  deletes : (q : Program) (db : Trees) → Spares (rows.Deletes task q db)
  deletes q db e (inl h) = halted (rows.Queried task.limit (database_over db) q task.params) e (query_spares q task.params db) h.0 h.1 h.2
  deletes q db e (inr h) = elim h.2 [
    | inl k ↦ halted (rows.Edited task.schema task.keys db (edit_of db task.table (ids_of h.0) Given 0 [])) e (edits db _) k.0 k.1 k.2
    | inr k ↦ absurd (let is = k.2 in cc)
  ]

  from_source : (from : Source) (db : Trees) → Spares (rows.Sourced task.limit (database_over db) (rows.stamped task.table task.params) from)
  from_source from db = sourced task.limit (database_over db) (rows.stamped task.table task.params) from

  inserts : (from : Source) (db : Trees) → Spares (rows.Inserts task from db)
  inserts from db e (inl h) = halted (rows.Sourced task.limit (database_over db) (rows.stamped task.table task.params) from) e (from_source from db) h.0 h.1 h.2
  inserts from db e (inr h) = elim h.2 [
    | inl k ↦ halted (rows.Counter task db) e (counter db) k.0 k.1 k.2
    | inr k ↦ elim k.2 [
      | inl m ↦ halted (rows.Edited task.schema task.keys db (edit_of db task.table [] (rows.rowids_for task.table (rows.count_of k.0)) 0 h.0)) e (edits db _) m.0 m.1 m.2
      | inr m ↦ elim m.2 [
        | inl n ↦ halted (rows.Counts task m.0 k.0 (fold rows.higher (rows.count_of k.0) (edit_of db task.table [] (rows.rowids_for task.table (rows.count_of k.0)) 0 h.0).news)) e (refusal_counts m.0 k.0 _) n.0 n.1 n.2
        | inr n ↦ absurd (let is = n.2 in cc)
      ]
    ]
  ]

  puts_spare : (new : Row) (db : Trees) → Spares (rows.Puts task new db)
  puts_spare new db e (inl k) = halted (rows.Edited task.schema task.keys db (edit_of db task.table [] Given 0 (new ∷ []))) e (edits db _) k.0 k.1 k.2
  puts_spare new db e (inr k) = absurd (let is = k.2 in cc)

  clears : (way : Conflict) (new : Row) (db : Trees) (there : List Row) → Spares (rows.Clears task way new db there)
  clears way new db [] e h = puts_spare new db e h
  clears Abort new db (x ∷ more) e h = puts_spare new db e h
  clears Ignore new db (x ∷ more) e h = absurd (cc h)
  clears Replace new db (x ∷ more) e (inl k) = halted (rows.Edited task.schema task.keys db (edit_of db task.table (ids_of (x ∷ more)) Given 0 [])) e (edits db _) k.0 k.1 k.2
  clears Replace new db (x ∷ more) e (inr k) = puts_spare new k.0 e k.2

  resolves : (new : Row) (db : Trees) (there : Row) (q : Option Program) → Spares (rows.Resolves task new db there q)
  resolves new db there None e h = absurd (cc h)
  resolves new db there (Some q) e h = updates q (task.params ++ rowid there ∷ rows.shown task.table new) db e h

  meets : (Otherwise : Part Written) → Spares Otherwise → (new : Row) (db : Trees) (clause : Upsert) (found : List Row) → Spares (rows.Meets task Otherwise new db clause found)
  meets Otherwise other new db clause [] e h = other e h
  meets Otherwise other new db clause (there ∷ more) e h = resolves new db there clause.update e h

  upserts : (way : Conflict) (new : Row) (db : Trees) (clauses : List Upsert) → Spares (rows.Upserts task way new db clauses)
  upserts way new db [] e h = clears way new db h.0 e h.2
  upserts way new db (clause ∷ more) e h = meets (rows.Upserts task way new db more) (upserts way new db more) new db clause h.0 e h.2

  judged_spares : (way : Conflict) (clauses : List Upsert) (new : Row) (db : Trees) (r : Option Refusal) → Spares (rows.Judged task way clauses new db r)
  judged_spares way clauses new db None e h = upserts way new db clauses e h
  judged_spares way clauses new db (Some r) e h = match_either (rows.passes_over way r) (Gives (rows.nothing db) (Err (Some e))) (Refuses {A = Written} (edit_error r) (Err (Some e))) (gives (rows.nothing db) e) (refuses_other {A = Written} (edit_error r) (of_edit r) e) h

  tries : (way : Conflict) (clauses : List Upsert) (new : Row) (db : Trees) → Spares (rows.Tries task way clauses new db)
  tries way clauses new db e (inl h) = refuses_other {A = Written} (SqliteFailure code.NoRowid) refl e h.1
  tries way clauses new db e (inr h) = judged_spares way clauses new db h.0 e h.2

  tries_each : (way : Conflict) (clauses : List Upsert) (from : List Row) (top : ℤ) (done : Written) → Spares (rows.TriesEach task way clauses from top done)
  tries_each way clauses [] top done e h = absurd (cc h)
  tries_each way clauses (first ∷ more) top done e (inl k) =
      let new = with_rowid (rows.rowids_for task.table top) (done.trees task.table.tree) (cast_row task.table (rows.mended way task.table first)) in
      halted (rows.Tries task way clauses new done.trees) e (tries way clauses new done.trees) k.0 k.1 k.2
  tries_each way clauses (first ∷ more) top done e (inr k) =
      let new = with_rowid (rows.rowids_for task.table top) (done.trees task.table.tree) (cast_row task.table (rows.mended way task.table first)) in
      tries_each way clauses more (rows.higher top new) (rows.joined done k.0) e k.2

  inserts_or : (way : Conflict) (clauses : List Upsert) (from : Source) (db : Trees) → Spares (rows.InsertsOr task way clauses from db)
  inserts_or way clauses from db e (inl h) = halted (rows.Sourced task.limit (database_over db) (rows.stamped task.table task.params) from) e (from_source from db) h.0 h.1 h.2
  inserts_or way clauses from db e (inr h) = elim h.2 [
    | inl k ↦ halted (rows.Counter task db) e (counter db) k.0 k.1 k.2
    | inr k ↦ elim k.2 [
      | inl m ↦ halted (rows.TriesEach task way clauses h.0 (rows.count_of k.0) (rows.nothing db)) e (tries_each way clauses h.0 (rows.count_of k.0) (rows.nothing db)) m.0 m.1 m.2
      | inr m ↦ elim m.2 [
        | inl n ↦ halted (rows.Counts task m.0.0.trees k.0 m.0.1) e (refusal_counts m.0.0.trees k.0 m.0.1) n.0 n.1 n.2
        | inr n ↦ absurd (let is = n.2 in cc)
      ]
    ]
  ]

  -- ---- results

  tested : (mode : Mode) (Hold : Among → Type 0) → Spares (does.Tested mode Hold)
  tested mode Hold e h = let is = h.1 in let same : e ≡ SqliteFailure (code.ConstraintViolation ForeignKey) = cc in is_other e _ same refl

  shows : (what : Returning) (now : Trees) (written : List Row) → Spares (does.Shows task what now written)
  shows what now [] e h = absurd (cc h)
  shows what now (row ∷ more) e (inl h) = halted (rows.Sourced task.limit (database_over now) (task.params ++ Null ∷ rows.shown task.table row) what.row) e (sourced task.limit (database_over now) (task.params ++ Null ∷ rows.shown task.table row) what.row) h.0 h.1 h.2
  shows what now (row ∷ more) e (inr h) = elim h.2 [
    | inl k ↦ halted (does.Shows task what now more) e (shows what now more) k.0 k.1 k.2
    | inr k ↦ absurd (let is = k.2 in cc)
  ]

  refusal_counted : (reported : List Row) → Spares (does.Counted task.limit reported)
  refusal_counted reported e h = let is = h.1 in let same : e ≡ SqliteFailure code.OperationInterrupted = cc in is_other e _ same refl

  returns : (w : Written) (r : Option Returning) → Spares (does.Returns task w r)
  returns w None e h = absurd (cc h)
  returns w (Some what) e (inl h) = halted (does.Shows task what w.trees w.rows) e (shows what w.trees w.rows) h.0 h.1 h.2
  returns w (Some what) e (inr h) = elim h.2 [
    | inl k ↦ halted (does.Counted task.limit h.0) e (refusal_counted h.0) k.0 k.1 k.2
    | inr k ↦ absurd (let is = k.2 in cc)
  ]

  on_rows : (mode : Mode) (r : Option Returning) (c : Command) (db : Trees) → Spares (does.WritesRows task db c) → Spares (does.OnRows task mode r c db)
  on_rows mode r c db writes e (inl h) = halted (does.WritesRows task db c) e writes h.0 h.1 h.2
  on_rows mode r c db writes e (inr h) = elim h.2 [
    | inl k ↦ halted (does.Tested mode (λ among. Refers among task.schema h.0.trees)) e (tested mode (λ among. Refers among task.schema h.0.trees)) k.0 k.1 k.2
    | inr k ↦ elim k.2 [
      | inl m ↦ halted (does.Returns task h.0 r) e (returns h.0 r) m.0 m.1 m.2
      | inr m ↦ absurd (let is = m.2 in cc)
    ]
  ]

  empties : (db : Trees) → Spares (does.Empties task db)
  empties db e h = match_either (does.is_acted_on task.schema task.keys task.table) (rows.Edited task.schema task.keys db (edit_of db task.table (ids_of (db task.table.tree)) Given 0 []) (Err (Some e))) (Gives db (Err (Some e)))
      (edits db (edit_of db task.table (ids_of (db task.table.tree)) Given 0 []) e) (gives db e) h

  uncounts_in : (db : Trees) (counters : Option Table) → Spares (does.UncountsIn task db counters)
  uncounts_in db None e h = absurd (cc h)
  uncounts_in db (Some counters) e (inl h) = halted (rows.Counter task db) e (counter db) h.0 h.1 h.2
  uncounts_in db (Some counters) e (inr h) = edits db (edit_of db counters (ids_of (option_to_list h.0)) Given 0 []) e h.2

  drops : (mode : Mode) (db : Trees) → Spares (does.Drops task mode db)
  drops mode db e (inl h) = halted (does.Empties task db) e (empties db) h.0 h.1 h.2
  drops mode db e (inr h) = elim h.2 [
    | inl k ↦ halted (does.Uncounts task h.0) e (uncounts_in h.0 (if task.table.is_counted then rows.sequence task.schema else None)) k.0 k.1 k.2
    | inr k ↦ elim k.2 [
      | inl m ↦ halted (does.Tested mode (does.HoldWithout task k.0)) e (tested mode (does.HoldWithout task k.0)) m.0 m.1 m.2
      | inr m ↦ elim m.2 [
        | inl n ↦ halted (does.Leaves (without_table task.schema task.table.tree) k.0 (λ _. ⊥)) e (λ e h. absurd h) n.0 n.1 n.2
        | inr n ↦ absurd (let is = n.2 in cc)
      ]
    ]
  ]

-- ---- tables, indexes and views

table : (text : List ℕ) (db : Database) → Spares (does.MakesTable text db)
table text db e (inl h) = is_other e _ h.1 refl
table text db e (inr h) = is_other e _ h.2 (of_alter h.0)

sequenced : (db : Database) → Spares (does.MakesSequence db)
sequenced db e h = match_either (does.lacks_sequence db.schema) (does.MakesTable does.sequence_text db (Err (Some e))) (Gives db (Err (Some e))) (table does.sequence_text db e) (gives db e) h

index : (text : List ℕ) (db : Database) (t : Table) → Spares (does.MakesIndex text db t)
index text db t e (inl h) = is_other e _ h.1 refl
index text db t e (inr h) = is_other e _ h.2 (of_alter h.0)

view : (text : List ℕ) (db : Database) → Spares (does.MakesView text db)
view text db e (inl h) = is_other e _ h.1 refl
view text db e (inr h) = is_other e _ h.2 (of_alter h.0)

module _ (limit : Option ℕ) (mode : Mode) (params : Row) (db : Database) (text : List ℕ) where
  defines : (Makes : Part Database) → Spares Makes → Spares (does.Defines mode Makes)
  defines Makes makes e (inl h) = halted Makes e makes h.0 h.1 h.2
  defines Makes makes e (inr h) = absurd (let is = h.2 in cc)

  makes_tables : Spares (Then (does.MakesTable text db) does.MakesSequence)
  makes_tables e (inl h) = halted (does.MakesTable text db) e (table text db) h.0 h.1 h.2
  makes_tables e (inr h) = sequenced h.0 e h.2

  abbrev task_for : Table → Task
  task_for t = record { limit = limit; keys = mode.keys; schema = db.schema; table = t; params = params }

  on_table : (at : ℕ) (P : Task → Part (Tally × Database)) → ((task : Task) → Spares (P task)) → Spares (does.OnTable limit mode params db at P)
  on_table at P each e h = at_place (λ t. P (task_for t)) (slice_get db.schema.tables at) e (λ t. each (task_for t) e) h

  without_index' : (at : ℕ) → Spares (does.Redefines limit mode params db text (command.DropIndex at))
  without_index' at e h = at_place (λ i. does.Defines mode (does.Leaves (without_index db.schema i.tree) db.trees (RefusesToAlter (RefusesToDropIndex i)))) (slice_get db.schema.indexes at) e
      (λ i. defines (does.Leaves (without_index db.schema i.tree) db.trees (RefusesToAlter (RefusesToDropIndex i))) (λ e h. is_other e _ h.2 (of_alter h.0)) e) h

  without_view' : (at : ℕ) → Spares (does.Redefines limit mode params db text (command.DropView at))
  without_view' at e h = at_place (λ v. does.Defines mode (does.Leaves (without_view db.schema v.tree) db.trees (IsKeptAside v))) (slice_get db.schema.views at) e
      (λ v. defines (does.Leaves (without_view db.schema v.tree) db.trees (IsKeptAside v)) (λ e h. is_other e _ h.1 refl) e) h

  redefines : (c : Command) → Spares (does.Redefines limit mode params db text c)
  redefines command.CreateTable e h = defines (Then (does.MakesTable text db) does.MakesSequence) makes_tables e h
  redefines (command.CreateIndex at) e h = on_table at (λ task. does.Defines mode (does.MakesIndex text db task.table)) (λ task. defines (does.MakesIndex text db task.table) (index text db task.table)) e h
  redefines command.CreateView e h = defines (does.MakesView text db) (view text db) e h
  redefines (command.DropTable at) e h = on_table at (λ task. does.Drops task mode db.trees) (λ task. drops task mode db.trees) e h
  redefines (command.DropIndex at) e h = without_index' at e h
  redefines (command.DropView at) e h = without_view' at e h
  redefines _ e h = refuses_other {A = Tally × Database} InvalidQuery refl e h

  other_refusal : (r : Option Returning) (c : Command) (e : Error) → MatchBool (is_some r) (Refuses {A = Tally × Database} InvalidQuery (Err (Some e))) (does.Redefines limit mode params db text c (Err (Some e))) → is_disk_fault e ≡ false
  other_refusal r c e h = match_either (is_some r) (Refuses {A = Tally × Database} InvalidQuery (Err (Some e))) (does.Redefines limit mode params db text c (Err (Some e))) (refuses_other {A = Tally × Database} InvalidQuery refl e) (redefines c e) h

  pub doing : (r : Option Returning) (c : Command) (e : Error) → Does limit mode params db text r c (Err (Some e)) → is_disk_fault e ≡ false
  doing r (command.Insert at from) e h = on_table at (λ task. does.OnRows task mode r (command.Insert at from) db.trees) (λ task. on_rows task mode r (command.Insert at from) db.trees (inserts task from db.trees)) e h
  doing r (command.InsertOr at how from clauses) e h = on_table at (λ task. does.OnRows task mode r (command.InsertOr at how from clauses) db.trees) (λ task. on_rows task mode r (command.InsertOr at how from clauses) db.trees (inserts_or task how clauses from db.trees)) e h
  doing r (command.Update at q) e h = on_table at (λ task. does.OnRows task mode r (command.Update at q) db.trees) (λ task. on_rows task mode r (command.Update at q) db.trees (updates task q task.params db.trees)) e h
  doing r (command.Delete at q) e h = on_table at (λ task. does.OnRows task mode r (command.Delete at q) db.trees) (λ task. on_rows task mode r (command.Delete at q) db.trees (deletes task q db.trees)) e h
  doing r c e h = other_refusal r c e h
