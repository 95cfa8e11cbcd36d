-- The rows for a unit are exactly the batches that hold it.
use Rattle.std.proofs.Common.{◌≡◌, ℕ, pos, Bool, true, false, not, Option, Some, None, List, [], ◌∷◌, map, codes, Result, Ok, Err, IfOk, OnOk, refl, sym, ap, ap₂, subst, ◌∙◌, ◌&&◌, ◌≢◌, Contains, IsPermutation, filter}
use Rattle.toll_sql.proofs.Common.{false≢true, list_all, is_eq, ordering_reverse, and_parts, tied_itself, Contains-permutation, IsPermutation-sym, IfOk-weaker, on_ok_weaker, all-permutation, IsPlain, command_of, reads_as, Binary, Command, Select, understood, reads_listing, Database, Row, column, bytes, value_cmp, overlay, Query, IsAnswer, State, Shown, Term, col, lit, op2, holds, eval_all, Trees, Value, Null, Int, Text, Compare, Eq, everything, batch_cmp_total, same_bytes-exact, same_bytes-refl, Bytes, same_bytes, batch_cmp, Slice, batch_at, IsInKeyOrder, is_some_where, none_or, BatchRow, Content, KeepFault, Damaged, IsHolder, is_on, row_of_member, member_of_row, Contains-none, Contains-map, Contains-from_map, Contains-filter, Contains-from_filter, member_of_all, and_from, columns_from, flag, batch_cells, AreBatchRows, HasNoBatch, IsHolderOf, IsRowOfBatch, IsShownIn, ReportsHolder, ShowHolders, batch_columns, open_on, Holds, HoldsSlice, plain_query, HasOurs, is_owned, tree_of, width_of, IsBatch, Batches, AreReadWith, unit_text}
use Rattle.toll_keep.specs.declared.holder.Holder.{Holder}
use Rattle.toll_sql.proofs.Beside.{Others, is_ours, others_of, ours_and}
use Rattle.toll_sql.proofs.JoinTests.{equals, texts_same, text_itself, numbers_same, number_itself}
use Rattle.toll_sql.proofs.MemberRows.{AreRowsOfOwner, rows_kept, trees_seen, member_under, named_owner}
use Rattle.toll_sql.proofs.Orders.{batches_order}
use Rattle.toll_sql.proofs.Placing.{in_key_order}
use Rattle.toll_sql.proofs.PutCommon.{equals_text}
use Rattle.toll_sql.proofs.SelectLemmas.{shown_by}
use Rattle.toll_sql.proofs.Unvoided.{no_member}
use Rattle.toll_sql.proofs.UpsertLemmas.{equals_int}

-- ---- the text

abbrev unit_tests : List Term
unit_tests = op2 (Compare Eq Binary) (col 1 4) (col 0 0) ∷ op2 (Compare Eq Binary) (col 1 6) (lit (Int (pos 0))) ∷ []

abbrev holder_columns : List Term
holder_columns = col 1 1 ∷ col 1 2 ∷ col 1 3 ∷ col 1 4 ∷ col 1 5 ∷ col 1 6 ∷ []

abbrev pub unit_query : Query
unit_query = plain_query (tree_of Batches) unit_tests holder_columns []

abbrev select_unit : Command
select_unit = Select (record { lets = []; body = unit_query }) (codes "owner" ∷ codes "ord" ∷ codes "number" ∷ codes "unit" ∷ codes "state" ∷ codes "closed" ∷ [])

unit_is : (others : Others) → (command_of (understood (ours_and others) unit_text) ≡ select_unit) × (reads_listing (ours_and others) unit_text ≡ false)
unfolding understood everything
unit_is others = (refl, refl)

pub unit_plain : (others : Others) → IsPlain (understood (ours_and others) unit_text)
unfolding understood everything
unit_plain others = (refl, refl)

pub unit_answered : (old new : State) → HasOurs old.now.schema → (params : Row) (rows : List Row) → Shown unit_text params old new rows → IsAnswer unit_query (overlay old.now.trees []) params rows
unit_answered old new has params rows h = (reads_as unit_text params old new (ours_and (others_of has)) (is_ours has) select_unit (unit_is (others_of has)).0 (unit_plain (others_of has)) (unit_is (others_of has)).1 rows h).answer Null

-- ---- the stored rows of the answer

abbrev passes_unit_tests : Bytes → Row → Bool
passes_unit_tests unit r = list_all (holds ((Text unit ∷ []) ∷ r ∷ [])) unit_tests

abbrev holder_cells : Bytes → Row → Row
holder_cells unit r = eval_all holder_columns ((Text unit ∷ []) ∷ r ∷ [])

module _ (unit : Bytes) (db : Trees) (rows : List Row) (a : IsAnswer unit_query db (Text unit ∷ []) rows) where
  holder_rows_same : IsPermutation (map (holder_cells unit) (filter (passes_unit_tests unit) (db (tree_of Batches)))) rows
  holder_rows_same = (shown_by (tree_of Batches) unit_tests holder_columns [] (λ _. []) (λ _. refl) db (Text unit ∷ []) rows a).same

  pub stored_row : (row : Row) → Contains rows row → (r : Row) × Contains (db (tree_of Batches)) r × (passes_unit_tests unit r ≡ true) × (holder_cells unit r ≡ row)
  stored_row row i =
      let k = Contains-permutation rows (map (holder_cells unit) (filter (passes_unit_tests unit) (db (tree_of Batches)))) row (IsPermutation-sym (map (holder_cells unit) (filter (passes_unit_tests unit) (db (tree_of Batches)))) rows holder_rows_same) i in
      let r = Contains-from_map (holder_cells unit) (filter (passes_unit_tests unit) (db (tree_of Batches))) row k in
      let f = Contains-from_filter (passes_unit_tests unit) (db (tree_of Batches)) r.0 r.1 in
      (r.0, f.0, f.1, r.2)

  pub row_told : (r : Row) → Contains (db (tree_of Batches)) r → passes_unit_tests unit r ≡ true → Contains rows (holder_cells unit r)
  row_told r i h = Contains-permutation (map (holder_cells unit) (filter (passes_unit_tests unit) (db (tree_of Batches)))) rows (holder_cells unit r) holder_rows_same (Contains-map (holder_cells unit) (filter (passes_unit_tests unit) (db (tree_of Batches))) r (Contains-filter (passes_unit_tests unit) (db (tree_of Batches)) r i h))

-- The tests are those of the definition.
both_true : (a b : Bool) → (a && (b && true)) ≡ (a && b)
both_true true true = refl
both_true true false = refl
both_true false b = refl

passes_is : (unit : Bytes) (r : Row) → passes_unit_tests unit r ≡ (is_eq (value_cmp (column r 4) (Text unit)) && is_eq (value_cmp (column r 6) (Int (pos 0))))
passes_is unit r = both_true _ _ ∙ ap₂ (λ a b. a && b) (equals_text (column r 4) unit) (equals_int (column r 6) (pos 0))

pub found_on : (db : Trees) (unit : Bytes) (rows : List Row) → IsAnswer unit_query (trees_seen db) (Text unit ∷ []) rows → IsPermutation (open_on unit db) rows
found_on db unit rows a = subst (λ (p : Row → Bool). IsPermutation (map (columns_from 1 (width_of Batches)) (filter p (db (tree_of Batches)))) rows) (λ i. λ r. passes_is unit r i) (holder_rows_same unit (trees_seen db) rows a)

-- ---- batches on the unit

open_flag : (b : Bool) → flag b ≡ 0 → b ≡ false
open_flag false h = refl
open_flag true h = absurd (let e : ◌≡◌ {A = ℕ} 1 0 = h in cc)

module _ (unit : Bytes) (o : Bytes) (id : Value) (x : BatchRow) where
  abbrev holder_stored : Row
  holder_stored = id ∷ batch_cells o x

  on_passes : is_on unit x ≡ true → passes_unit_tests unit holder_stored ≡ true
  on_passes on =
      let parts = and_parts _ _ on in
      let is : x.unit ≡ unit = same_bytes-exact x.unit unit parts.0 in
      let open_ : x.closed ≡ false = unclosed x.closed parts.1 in
      and_from _ _ (subst (λ u. equals (Text u) (Text unit) ≡ true) (sym is) (text_itself unit)) (and_from _ true (subst (λ b. equals (Int (pos (flag b))) (Int (pos 0)) ≡ true) (sym open_) (number_itself 0)) refl)
    where
      unclosed : (b : Bool) → not b ≡ true → b ≡ false
      unclosed false h = refl
      unclosed true h = absurd (false≢true h)

  passes_on : passes_unit_tests unit holder_stored ≡ true → is_on unit x ≡ true
  passes_on h =
      let parts = and_parts (equals (Text x.unit) (Text unit)) _ h in
      let is : x.unit ≡ unit = texts_same x.unit unit parts.0 in
      let open_ : x.closed ≡ false = open_flag x.closed (numbers_same (flag x.closed) 0 (and_parts _ true parts.1).0) in
      and_from _ _ (subst (λ u. same_bytes u unit ≡ true) (sym is) (same_bytes-refl unit)) (ap not open_)

module _ (db : Trees) (s : Slice) (has : HoldsSlice db s.owner s) where
  pub batches_kept : AreRowsOfOwner s.owner (batch_cells s.owner) s.batches (db (tree_of Batches))
  batches_kept = rows_kept Batches s.owner (batch_cells s.owner) s.batches (db (tree_of Batches)) (λ x. refl) (λ x. refl) (has.stored Batches refl).same

  batches_rise : IsInKeyOrder batch_cmp (λ (row : BatchRow). (row.order, row.number)) s.batches
  batches_rise = in_key_order batch_cmp batch_cmp_total (λ (row : BatchRow). (row.order, row.number)) (batch_cells s.owner) _ (batches_order s.owner) s.batches (has.stored Batches refl).rising

  pub batch_there : (x : BatchRow) → Contains s.batches x → batch_at s (x.order, x.number) ≡ Some x
  batch_there x i = row_of_member batch_cmp (λ (row : BatchRow). (row.order, row.number)) (tied_itself batch_cmp_total) (λ a b lt. batch_cmp_total.antisymm b a ∙ ap ordering_reverse lt) s.batches x batches_rise i

module _ (db : Trees) (c : Content) (has : Holds db c) (unit : Bytes) (rows : List Row) (a : IsAnswer unit_query (trees_seen db) (Text unit ∷ []) rows) where
  shown_one : (row : Row) → Contains rows row → (h : Holder) × IsHolder c unit (Some h) × IsRowOfBatch row h × (row ≡ batch_columns row)
  shown_one row i =
      let r = stored_row unit (trees_seen db) rows a row i in
      let o = named_owner is_owned db c.rows has.each Batches refl r.0 r.1 in
      let s = c.rows o.0 in
      let x = (batches_kept db s (member_under is_owned db c.rows has.each o.0)).only r.0 r.1 o.2 in
      let valid = member_of_all IsBatch s.batches x.1 ((has.each.slices o.0).valid Batches refl) x.2 in
      let on = passes_on unit s.owner x.0 x.1 (subst (λ r. passes_unit_tests unit r ≡ true) x.3 r.2) in
      let h : Holder = record { owner = o.0; order = x.1.order; number = x.1.number } in
      let is : row ≡ batch_cells o.0 x.1 = sym r.3 ∙ ap (holder_cells unit) x.3 ∙ ap (λ n. batch_cells n x.1) (has.each.slices o.0).named in (
        h,
        ap (is_some_where (is_on unit)) (batch_there db s (member_under is_owned db c.rows has.each o.0) x.1 x.2) ∙ on,
        record { batch = x.1; owner = o.1; valid = valid; cells = ap batch_columns is; order = refl; number = refl },
        is ∙ sym (ap batch_columns is),
      )

  none_there : rows ≡ [] → (o : Bytes) (k : Bytes × ℕ) → none_or (λ row. not (is_on unit row)) (batch_at (c.rows o) k) ≡ true
  none_there empty o k = at (batch_at (c.rows o) k) refl
    where
      off : (x : BatchRow) → Contains (c.rows o).batches x → (b : Bool) → is_on unit x ≡ b → not b ≡ true
      off x i false e = refl
      off x i true e =
          let s = c.rows o in
          let r = (batches_kept db s (member_under is_owned db c.rows has.each o)).every x i in
          let there = row_told unit (trees_seen db) rows a (r.0 ∷ batch_cells s.owner x) r.1 (on_passes unit s.owner r.0 x e) in
          absurd (Contains-none _ (subst (λ xs. Contains xs (holder_cells unit (r.0 ∷ batch_cells s.owner x))) empty there))

      at : (found : Option BatchRow) → batch_at (c.rows o) k ≡ found → none_or (λ row. not (is_on unit row)) found ≡ true
      at None e = refl
      at (Some x) e = off x (member_of_row batch_cmp (λ (row : BatchRow). (row.order, row.number)) (c.rows o).batches k x e) (is_on unit x) refl

  pub holders_shown : ShowHolders c unit rows
  holders_shown = record { only = shown_one; none = none_there }

-- ---- what rows show in another order

module _ (listed rows : List Row) (holder_rows_same : IsPermutation listed rows) where
  listed_too : (row : Row) → Contains rows row → Contains listed row
  listed_too row i = Contains-permutation rows listed row (IsPermutation-sym listed rows holder_rows_same) i

  shown_too : (found : Option Holder) → IsShownIn rows found → IsShownIn listed found
  shown_too None empty = no_member listed (λ row i. Contains-none row (subst (λ xs. Contains xs row) empty (Contains-permutation listed rows row holder_rows_same i)))
  shown_too (Some h) (row, i, e) = (row, listed_too row i, e)

  pub told_too : {E : Type 0} (r : Result (Option Holder) E) → IfOk r (IsShownIn rows) → IfOk r (IsShownIn listed)
  told_too r h = IfOk-weaker r _ _ (λ found is. shown_too found is) h

  pub whole_too : {E : Type 0} (r : Result (Option Holder) E) → OnOk r (AreBatchRows rows) → OnOk r (AreBatchRows listed)
  whole_too r h = on_ok_weaker r (λ all. all-permutation (λ row. (h : Holder) × IsRowOfBatch row h) rows listed (IsPermutation-sym listed rows holder_rows_same) all) h

  pub unnamed_too : HasNoBatch rows → HasNoBatch listed
  unnamed_too (row, i, none) = (row, listed_too row i, none)

pub shown_whole : {E : Type 0} (db : Database) (text : List ℕ) (params : Row) (found : List Row) → AreReadWith db text params found → (r : Result (Option Holder) E) → IfOk r (IsShownIn found) → OnOk r (AreBatchRows found) → IfOk r (IsHolderOf db text params)
shown_whole db text params found read (Ok h) shown whole = (found, read, shown, whole)
shown_whole db text params found read (Err e) shown whole = tt

-- ---- the batch that is read

module _ (c : Content) (unit : Bytes) (rows : List Row) (shown : ShowHolders c unit rows) where
  holder_same : (row : Row) (h k : Holder) → IsRowOfBatch row h → IsRowOfBatch row k → h ≡ k
  holder_same row h k p q =
      let cells : batch_cells h.owner p.batch ≡ batch_cells k.owner q.batch = sym p.cells ∙ q.cells in
      let numbers : p.batch.number ≡ q.batch.number = (cc) in
      let owner : h.owner ≡ k.owner = ap (λ r. bytes (column r 0)) cells in
      let order : h.order ≡ k.order = sym p.order ∙ ap (λ r. bytes (column r 1)) cells ∙ q.order in
      let number : h.number ≡ k.number = sym p.number ∙ numbers ∙ q.number in
      λ i. record { owner = owner i; order = order i; number = number i }

  holder_shown_is : (found : Option Holder) → IsShownIn rows found → IsHolder c unit found
  holder_shown_is None empty = shown.none empty
  holder_shown_is (Some h) (row, i, is) =
      let f = shown.only row i in
      subst (λ h. IsHolder c unit (Some h)) (holder_same row f.0 h f.2 is) f.1

  pub holder_read_from : {E : Type 0} (r : Result (Option Holder) E) → IfOk r (IsShownIn rows) → IfOk r (IsHolder c unit)
  holder_read_from r h = IfOk-weaker r _ _ (λ found is. holder_shown_is found is) h

  pub holder_each_named : ¬ HasNoBatch rows
  holder_each_named bad =
      let f = shown.only bad.0 bad.1 in
      bad.2 f.0.owner f.2.batch f.2.owner f.2.valid (f.3 ∙ f.2.cells)

-- A fault other than damage reports nothing of a holder.
pub no_holder : (unit : Bytes) (db : Trees) (fault : KeepFault) → fault ≢ Damaged → ReportsHolder unit db (Err fault)
no_holder unit db fault other = record { reported = tt; whole = tt; damaged = λ is. absurd (other (cc)) }
