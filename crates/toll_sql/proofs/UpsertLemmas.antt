-- The effect on any table of an INSERT of one row with ON CONFLICT DO UPDATE.
use Rattle.std.proofs.Common.{◌≡◌, ◌≢◌, ◌⊎◌, inl, inr, ℕ, ℤ, pos, Bool, true, false, not, cond, ◌&&◌, List, [], ◌∷◌, ◌++◌, map, drop, length, slice_get, Option, Some, None, Ok, Err, Result, refl, sym, ap, subst, subst₂, ◌∙◌, filter, IsPermutation, ◌/◌}
use Rattle.toll_sql.proofs.Common.{is_eq, AllByRecursion, list_all, filter_agree, IsPermutation-map, Value, Null, Int, Row, column, value_cmp, binary, is_true, Term, col, op2, eval_all, holds, Query, IsAnswer, overlay, IsShaped, Schema, Table, Values, Binary, plain, Compare, Eq, Abort, Upsert, Enforced, agree, Has, conflicts, AreConflicts, cast_row, ids_of, Given, Chosen, Above, edit_of, taken_by, is_taken, next_rowid, with_rowid, id_in, without_all, put_all, are_fresh, all_has, value_rows, edit_error, Refusal, one_step, one_permutation, Command, InsertOr, Database, Tally, Does, OnTable, OnRows, AtPlace, understood, State, mode_of, Executes, IsPlain, command_of, statement_of, runs_as, Puts, all_cells, plain_query, and-true}
use Rattle.sqlite.specs.Tree.{Trees, rowid, has_rowid, put_row, without_rowid}
use Rattle.sqlite_trees.specs.declared.store.Shape.TheVariants as shape
use Rattle.sqlite_trees.proofs.TreeLemmas.{IsShaped-put_row, IsShaped-filter, not_true}
use Rattle.sqlite_rules.specs.Action.{works, Writes}
use Rattle.sqlite_rules.proofs.PlaceLemmas.{given as given_stay}
use Rattle.sqlite_rules.proofs.TableLemmas.{int_is}
use Rattle.sqlite.specs.Rows.{Task, Written, Outcome, InsertsOr, Tries, TriesEach, Upserts, Puts as PutsRow, Resolves, Clears, Counts, Meets, Judged, nothing, stamped, count_of, rowids_for, shown as returned}
use Rattle.toll_sql.proofs.SelectLemmas.{shown_by}
use Rattle.toll_sql.proofs.TableLemmas.{one_hit, parted_by_rowid, put_perm}
use Rattle.toll_sql.proofs.PutCommon.{truth_of_bool}

-- A part that gave a value wasn't stopped.
pub went : {B E R : Type 0} {b : B} {Stops : E → Type 0} → ((stop : E) × Stops stop × (Ok b ≡ Err stop)) ⊎ R → R
went (inl stopped) = absurd (let e = stopped.2 in cc)
went (inr on) = on

pub same_ok_value : {B E : Type 0} {a b : B} → ◌≡◌ {A = Result B E} (Ok a) (Ok b) → a ≡ b
same_ok_value e = cc

null_is_no_int : (n : ℤ) → is_eq (value_cmp Null (Int n)) ≡ false
unfolding value_cmp
null_is_no_int n = refl

pub equals_int : (v : Value) (n : ℤ) → is_true (binary (Compare Eq Binary) v (Int n)) ≡ is_eq (value_cmp v (Int n))
unfolding binary
equals_int Null n = sym (null_is_no_int n)
equals_int _ n = truth_of_bool _

not_not : (b : Bool) → not b && true ≡ true → b ≡ false
not_not true e = absurd cc
not_not false e = refl

all_of : {X : Type 0} (P : X → Type 0) (xs : List X) → ((x : X) → Has xs x → P x) → AllByRecursion P xs
all_of P [] f = tt
all_of P (x ∷ xs) f = (f x (inl refl), all_of P xs (λ y has. f y (inr has)))

abbrev by_rowid : ℕ → List Term
by_rowid n = op2 (Compare Eq Binary) (col 1 0) (col 0 n) ∷ []

module _ (schema : Schema) (table : Table) (still : (olds news : List Row) → works schema Enforced 0 table.tree olds news ≡ []) where
  abbrev Other : Trees → Trees → Type 0
  Other old new = AllByRecursion (λ t. t.tree ≢ table.tree → new t.tree ≡ old t.tree) schema.tables

  -- One row was added under a free rowid.
  pub record Placed (left : List Row) (new : Row) (db next : Trees) : Type 0 where
    pub rows : next table.tree ≡ put_row new left
    pub free : is_taken left new ≡ false
    pub other : Other db next

  upsert_placed : (db next : Trees) (gone : List ℤ) (from : ℕ) (sources : List Row) (new : Row) → map (λ s. cast_row table (drop from s)) sources ≡ new ∷ []
      → Writes schema Enforced db (edit_of db table gone Given from sources) (Ok next) → Placed (without_all (db table.tree) gone) new db next
  upsert_placed db next gone from sources new is w =
      let edit = edit_of db table gone Given from sources in
      let left = without_all (db table.tree) gone in
      let a = one_step schema Enforced db next edit (still (taken_by db edit) edit.news) w in
      let news : edit.news ≡ new ∷ [] = given_stay left _ ∙ is in
      record {
        rows = subst (λ ns. next table.tree ≡ put_all left ns) news a.rows;
        free = not_not (is_taken left new) (subst (λ ns. are_fresh left ns ≡ true) news a.fresh);
        other = a.tables;
      }

  module _ (at : ℕ) (listed : slice_get schema.tables at ≡ Some table) (limit : Option ℕ) (params cols : Row) (terms : List Term) (width n : ℕ) (target : List ℕ) (project : List Term)
      (uncounted : table.is_counted ≡ false)
      (unstamped : stamped table params ≡ params)
      (source : value_rows params width (length terms / width) terms ≡ (Null ∷ cols) ∷ [])
      (cast_null : cast_row table (Null ∷ cols) ≡ Null ∷ cols)
      (cast_int : (id : ℤ) → cast_row table (Int id ∷ cols) ≡ Int id ∷ cols)
      (meets : (new r : Row) → conflicts (Some target) schema.indexes table new r ≡ agree plain target r target new)
      (keyed : (r : Row) (a b : ℤ) → agree plain target r target (Int a ∷ cols) ≡ agree plain target r target (Int b ∷ cols))
      (nth : (v : Value) (more : Row) → column (params ++ v ∷ more) n ≡ v)
      (seen : (db : Trees) → overlay db [] table.tree ≡ db table.tree)
      (shows : (given r : Row) → rowid (eval_all project (given ∷ r ∷ [])) ≡ rowid r)
      (merges : (r : Row) (id a : ℤ) → rowid r ≡ Int id → agree plain target r target (Int a ∷ cols) ≡ true
      → cast_row table (drop 1 (eval_all project ((params ++ rowid r ∷ returned table (Int a ∷ cols)) ∷ r ∷ []))) ≡ Int id ∷ cols) where
    abbrev task : Task
    task = record { limit = limit; keys = Enforced; schema = schema; table = table; params = params }

    abbrev upsert_query : Query
    upsert_query = plain_query table.tree (by_rowid n) project []

    abbrev clause : Upsert
    clause = record { target = Some target; update = Some (record { lets = []; body = upsert_query }) }

    abbrev has_key : Row → Bool
    has_key r = agree plain target r target (Int (pos 0) ∷ cols)

    upsert_added : (db : Trees) (id : ℤ) (one : Written) → IsShaped shape.Table (db table.tree) → AllByRecursion (λ r. has_key r ≡ false) (db table.tree) → PutsRow task (Int id ∷ cols) db (Ok one) → Puts schema table.tree has_key cols db one.trees
    upsert_added db id one shaped none h =
        let at = went h in
        let p = upsert_placed db at.0 [] 0 ((Int id ∷ cols) ∷ []) (Int id ∷ cols) (ap (λ r. r ∷ []) (cast_int id)) at.1 in
        let now : one.trees ≡ at.0 = ap (λ (w : Written). w.trees) (same_ok_value at.2) in
        subst (Puts schema table.tree has_key cols db) (sym now) (record {
          here = inr (none, subst (λ rows. IsPermutation (cols ∷ all_cells (db table.tree)) (all_cells rows)) (sym p.rows) (IsPermutation-map (drop 1) _ _ (put_perm (Int id ∷ cols) (db table.tree) p.free)));
          others = p.other;
          shaped = subst (IsShaped shape.Table) (sym p.rows) (IsShaped-put_row (Int id ∷ cols) (db table.tree) refl shaped);
        })

    hits_are : (given : Row) (id : ℤ) → column given n ≡ Int id → (rows : List Row) → filter (λ r. list_all (holds (given ∷ r ∷ [])) (by_rowid n)) rows ≡ filter (has_rowid id) rows
    hits_are given id is rows = filter_agree _ _ (λ r. and-true _ ∙ ap (λ v. is_true (binary (Compare Eq Binary) (rowid r) v)) is ∙ equals_int (rowid r) id) rows

    upsert_replaced : (db : Trees) (a : ℤ) (r : Row) (one : Written) → IsShaped shape.Table (db table.tree) → Has (db table.tree) r → agree plain target r target (Int a ∷ cols) ≡ true
        → Resolves task (Int a ∷ cols) db (rowid r ∷ []) (Some (record { lets = []; body = upsert_query })) (Ok one) → Puts schema table.tree has_key cols db one.trees
    upsert_replaced db a r one shaped has key h =
        let rows = db table.tree in
        let id = id_in (rowid r) in
        let id_is : rowid r ≡ Int id = int_is (rowid r) (all_has _ rows r shaped.1 has) in
        let given = params ++ rowid r ∷ returned table (Int a ∷ cols) in
        let q = went h in
        let answer : IsAnswer upsert_query (overlay db []) given q.0 = q.1.answer Null in
        let shown = (shown_by table.tree (by_rowid n) project [] (λ _. []) (λ env. refl) (overlay db []) given q.0 answer).same in
        let hits : filter (λ r. list_all (holds (given ∷ r ∷ [])) (by_rowid n)) (overlay db [] table.tree) ≡ r ∷ [] = hits_are given id (nth _ _ ∙ id_is) _ ∙ ap (filter (has_rowid id)) (seen db) ∙ one_hit id rows r shaped.0 has id_is in
        let show = eval_all project (given ∷ r ∷ []) in
        let only : q.0 ≡ show ∷ [] = one_permutation show q.0 (subst (λ hs. IsPermutation (map (λ r. eval_all project (given ∷ r ∷ [])) hs) q.0) hits shown) in
        let at = went q.2 in
        let p0 = upsert_placed db at.0 (ids_of q.0) 1 q.0 (Int id ∷ cols) (rw only (ap (λ x. x ∷ []) (merges r id a id_is key))) at.1 in
        let gone : ids_of q.0 ≡ id ∷ [] = ap ids_of only ∙ ap (λ v. id_in v ∷ []) (shows given r) in
        let p = subst (λ ids. Placed (without_all rows ids) (Int id ∷ cols) db at.0) gone p0 in
        let left = without_rowid id rows in
        let now : one.trees ≡ at.0 = ap (λ (w : Written). w.trees) (same_ok_value at.2) in
        subst (Puts schema table.tree has_key cols db) (sym now) (record {
          here = inl (r, left, keyed r (pos 0) a ∙ key, parted_by_rowid id rows r shaped.0 has id_is, subst (λ rows. IsPermutation (cols ∷ all_cells left) (all_cells rows)) (sym p.rows) (IsPermutation-map (drop 1) _ _ (put_perm (Int id ∷ cols) left p.free)));
          others = p.other;
          shaped = subst (IsShaped shape.Table) (sym p.rows) (IsShaped-put_row (Int id ∷ cols) left refl (IsShaped-filter shape.Table _ rows shaped));
        })

    cleared : (db : Trees) (id : ℤ) (found : List Row) (one : Written) → Clears task Abort (Int id ∷ cols) db found (Ok one) → PutsRow task (Int id ∷ cols) db (Ok one)
    cleared db id [] one h = h
    cleared db id (x ∷ found) one h = h

    met : (db : Trees) (a : ℤ) (one : Written) → IsShaped shape.Table (db table.tree) → (found : List Row) → AreConflicts (Some target) schema.indexes table (db table.tree) (Int a ∷ cols) found
        → Meets task (Upserts task Abort (Int a ∷ cols) db []) (Int a ∷ cols) db clause found (Ok one) → Puts schema table.tree has_key cols db one.trees
    met db a one shaped [] conf h =
        let none = all_of (λ r. has_key r ≡ false) (db table.tree) (λ r has. not_true _ (λ hit. conf.complete r has (meets (Int a ∷ cols) r ∙ sym (keyed r (pos 0) a) ∙ hit))) in
        upsert_added db a one shaped none (cleared db a h.0 one h.2)
    met db a one shaped (there ∷ more) conf h =
        let it = conf.sound there (inl refl) in
        upsert_replaced db a it.0 one shaped it.1 (sym (meets (Int a ∷ cols) it.0) ∙ it.2) (subst (λ t. Resolves task (Int a ∷ cols) db t (Some (record { lets = []; body = upsert_query })) (Ok one)) it.3 h)

    judged_puts : (db : Trees) (a : ℤ) (one : Written) → IsShaped shape.Table (db table.tree) → (verdict : Option Refusal) → Judged task Abort (clause ∷ []) (Int a ∷ cols) db verdict (Ok one)
        → Puts schema table.tree has_key cols db one.trees
    judged_puts db a one shaped None h = met db a one shaped h.0 h.1 h.2
    judged_puts db a one shaped (Some why) h = absurd (let e : ◌≡◌ {A = Outcome Written} (Ok one) (Err (Some (edit_error why))) = h in cc)

    tried : (db : Trees) (a : ℤ) (one : Written) → IsShaped shape.Table (db table.tree) → Tries task Abort (clause ∷ []) (Int a ∷ cols) db (Ok one) → Puts schema table.tree has_key cols db one.trees
    tried db a one shaped (inl h) = absurd (let e = h.1 in cc)
    tried db a one shaped (inr h) = judged_puts db a one shaped h.0 h.2

    upsert_chosen : (db : Trees) (top : ℤ) → with_rowid (rowids_for table top) (db table.tree) (cast_row table (Null ∷ cols)) ≡ Int (next_rowid (db table.tree)) ∷ cols
    upsert_chosen db top = ap (with_rowid (rowids_for table top) (db table.tree)) cast_null ∙ ap (λ (b : Bool). with_rowid (cond b (Above top) Chosen) (db table.tree) (Null ∷ cols)) uncounted

    upsert_kept : (db next : Trees) (counter : Option Row) (top : ℤ) → Counts task db counter top (Ok next) → next ≡ db
    upsert_kept db next counter top h = same_ok_value (rw uncounted at h)

    pub upsert_puts : (db : Trees) (w : Written) → IsShaped shape.Table (db table.tree) → InsertsOr task Abort (clause ∷ []) (Values terms width) db (Ok w) → Puts schema table.tree has_key cols db w.trees
    upsert_puts db w shaped h =
        let given = went h in
        let rows : given.0 ≡ (Null ∷ cols) ∷ [] = given.1.1 ∙ ap (λ p. value_rows p width (length terms / width) terms) unstamped ∙ source in
        let counter = went given.2 in
        let done = went counter.2 in
        let next = went done.2 in
        let top = count_of counter.0 in
        let each = subst (λ rs. TriesEach task Abort (clause ∷ []) rs top (nothing db) (Ok done.0)) rows done.1 in
        let id = next_rowid (db table.tree) in
        let new : with_rowid (rowids_for table top) (db table.tree) (cast_row table (Null ∷ cols)) ≡ Int id ∷ cols = upsert_chosen db top in
        let one = went each in
        let p = tried db id one.0 shaped (subst (λ r. Tries task Abort (clause ∷ []) r db (Ok one.0)) new one.1) in
        let last : done.0.0.trees ≡ one.0.trees = ap (λ (d : Written × ℤ). d.0.trees) (same_ok_value one.2) in
        let counted : next.0 ≡ done.0.0.trees = upsert_kept done.0.0.trees next.0 counter.0 done.0.1 next.1 in
        let now : w.trees ≡ one.0.trees = ap (λ (v : Written). v.trees) (same_ok_value next.2) ∙ counted ∙ last in
        subst (Puts schema table.tree has_key cols db) (sym now) p

    abbrev pub upsert_command : Command
    upsert_command = InsertOr at Abort (Values terms width) (clause ∷ [])

    pub state_puts : (sql : List ℕ) (old new : State) (count : ℕ) → old.now.schema ≡ schema → old.step_limit ≡ limit → command_of (understood schema sql) ≡ upsert_command → IsPlain (understood schema sql)
        → IsShaped shape.Table (old.now.trees table.tree) → Executes sql params old new (Ok count) → Puts schema table.tree has_key cols old.now.trees new.now.trees × (new.now.schema ≡ schema)
    state_puts sql old new count has free is plain shaped h =
        let w = runs_as sql params old new schema has upsert_command is plain count h in
        let text = statement_of sql (understood schema sql) in
        let all : OnTable limit (mode_of old) params (record { schema = schema; trees = old.now.trees }) at (λ task. OnRows task (mode_of old) None upsert_command old.now.trees) (Ok (w.tally, new.now)) =
        subst₂ (λ s l. Does l (mode_of old) params (record { schema = s; trees = old.now.trees }) text None upsert_command (Ok (w.tally, new.now))) has free w.changed in
        let rows : OnRows task (mode_of old) None upsert_command old.now.trees (Ok (w.tally, new.now)) =
        subst (λ o. AtPlace (λ table. OnRows (record { limit = limit; keys = Enforced; schema = schema; table = table; params = params }) (mode_of old) None upsert_command old.now.trees) o (Ok (w.tally, new.now))) listed all in
        let done = went rows in
        let p = upsert_puts old.now.trees done.0 shaped done.1 in
        let now : new.now ≡ record { schema = schema; trees = done.0.trees } = ap (λ (p : Tally × Database). p.1) (same_ok_value (went (went done.2).2).2) in
        (subst (λ (d : Database). Puts schema table.tree has_key cols old.now.trees d.trees) (sym now) p, ap (λ (d : Database). d.schema) now)
