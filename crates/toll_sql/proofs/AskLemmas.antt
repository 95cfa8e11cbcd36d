-- The answer to a text that reads rows.
use Rattle.std.proofs.Common.{◌≡◌, ℕ, zero, suc, Bool, true, false, cond, List, [], ◌∷◌, map, length, Result, IfOk, IfErr, refl, sym, ap, ap₂, subst, subst₂, ◌∙◌, Ordering, filter, IsPermutation, IsSorted}
use Rattle.toll_sql.proofs.Common.{on, ordering_then, list_all, filter_agree, IfErr-weaker, IsPlain, command_of, reads_as, never_commits, survives_weaker, understood, reads_listing, Row, column, row_cmp, overlay, IsAnswer, key_cmp, Schema, State, HasCleanDisk, Survives, Shown, FailsToQuery, CommitsShowing, Env, eval_all, holds, Trees, Error, Null, Text, Bytes, IsQuerying, owned_by, columns_from, key_cells, key_order, AreSorted, AreOfOwner, AreAll, AreShown, HasOurs, tree_of, key_columns, width_of, is_owned, select_text, TableKind, Meta, and-true}
use Rattle.toll_sql.proofs.Beside.{Others, is_ours, others_of, ours_and}
use Rattle.toll_sql.proofs.Calls.{plain_given, shown_same}
use Rattle.toll_sql.proofs.CellLemmas.{every_column}
use Rattle.toll_sql.proofs.PutCommon.{equals_text}
use Rattle.toll_sql.proofs.PutTexts.{terms_from}
use Rattle.toll_sql.proofs.QueryLemmas.{query_fails, live_of, open_of, same_of}
use Rattle.toll_sql.proofs.SelectLemmas.{shown_by}
use Rattle.toll_sql.proofs.SelectTexts.{owner_is, owner_tests, keys_from, query_of, select_table, select_is, select_given}

-- ---- any text that compiles, whatever it reads

module _ (sql : List ℕ) (params : Row) (old new : State) (plain : (others : Others) → IsPlain (understood (ours_and others) sql)) where
  select_under : HasOurs old.now.schema → IsPlain (understood old.now.schema sql)
  select_under has = subst (λ s. IsPlain (understood s sql)) (sym (is_ours has)) (plain (others_of has))

  querying : {X : Type 0} (items : X → List Row) (r : Result X Error) → (old.in_transaction ≡ false → new.in_transaction ≡ false) → (HasCleanDisk new → IfOk r (λ x. Shown sql params old new (items x)))
      → (HasCleanDisk new → IfErr r (FailsToQuery sql params old new)) → Survives old new (CommitsShowing sql params old) → IsQuerying old new r
  querying {X} items r mode ok err survives = record {
    asks = record {
      live = λ clean live. live_of old new X items sql params r (ok clean) (err clean) live;
      shown = λ clean. open_of old new X items sql params r (ok clean);
      same = λ clean has live idle. same_of old new X items sql params r (λ rows h. shown_same sql params old new rows (select_under has) h) (ok clean) (err clean) live idle;
      mode = mode;
      survives = survives_weaker _ _ _ _ (λ _ db h has idle. never_commits sql params old db (select_under has) h) survives;
    };
    cause = λ clean. IfErr-weaker r _ _ (λ e h. (query_fails old new sql params e h).1) (err clean);
  }

  -- The same for a call with this text and these parameters.
  pub select_answered : {X : Type 0} (items : X → List Row) (r : Result X Error) (text : List ℕ) (given : Row) → text ≡ sql → given ≡ params → (old.in_transaction ≡ false → new.in_transaction ≡ false) → (HasCleanDisk new → IfOk r (λ x. Shown text given old new (items x)))
      → (HasCleanDisk new → IfErr r (FailsToQuery text given old new)) → Survives old new (CommitsShowing text given old) → IsQuerying old new r × (HasCleanDisk new → IfOk r (λ x. Shown sql params old new (items x)))
  select_answered items r text given is are mode ok err survives =
      let shown = λ (clean : HasCleanDisk new). subst₂ (λ t p. IfOk r (λ x. Shown t p old new (items x))) is are (ok clean) in
      (querying items r mode shown (λ clean. subst₂ (λ t p. IfErr r (FailsToQuery t p old new)) is are (err clean)) (subst₂ (λ t p. Survives old new (CommitsShowing t p old)) is are survives), shown)

  -- The same of an answer that was passed on.
  pub select_passed : {X : Type 0} (items : X → List Row) (r passed : Result X Error) → passed ≡ r → (text : List ℕ) (given : Row) → text ≡ sql → given ≡ params → (old.in_transaction ≡ false → new.in_transaction ≡ false)
      → (HasCleanDisk new → IfOk r (λ x. Shown text given old new (items x))) → (HasCleanDisk new → IfErr r (FailsToQuery text given old new)) → Survives old new (CommitsShowing text given old)
      → IsQuerying old new passed × (HasCleanDisk new → IfOk passed (λ x. Shown sql params old new (items x)))
  select_passed items r passed same text given is are mode ok err survives =
      subst (λ a. IsQuerying old new a × (HasCleanDisk new → IfOk a (λ x. Shown sql params old new (items x)))) (sym same) (select_answered items r text given is are mode ok err survives)

-- ---- columns, keys and tests

columns_shown : (at n : ℕ) (params row : Row) → eval_all (terms_from 1 at n) (params ∷ row ∷ []) ≡ columns_from at n row
columns_shown at zero params row = refl
columns_shown at (suc n) params row = ap (λ cells. column row at ∷ cells) (columns_shown (suc at) n params row)

keys_evaluated : (k : TableKind) (env : Env) → eval_all (map (λ key. key.0) (keys_from 1 (length (key_columns k)))) env ≡ columns_from 0 (length (key_columns k)) (eval_all (terms_from 1 1 (width_of k)) env)
keys_evaluated Meta env = refl
keys_evaluated _ env = refl

keys_compare : (at from n : ℕ) (a b : Row) → key_cmp at (map (λ key. key.1) (keys_from from n)) a b ≡ row_cmp (columns_from at n a) (columns_from at n b)
keys_compare at from zero a b = refl
keys_compare at from (suc n) a b = ap (ordering_then _) (keys_compare (suc at) (suc from) n a b)

as_long : (at n : ℕ) (row : Row) → length (columns_from at n row) ≡ n
as_long at zero row = refl
as_long at (suc n) row = ap suc (as_long (suc at) n row)

pub select_again : (n : ℕ) (row : Row) → columns_from 0 n (columns_from 0 n row) ≡ columns_from 0 n row
select_again n row = ap (λ m. columns_from 0 m (columns_from 0 n row)) (sym (as_long 0 n row)) ∙ every_column (columns_from 0 n row)

key_orders_agree : (k : TableKind) (a b : Row) → on (key_cells k) (key_cmp 0 (map (λ key. key.1) (keys_from 1 (length (key_columns k))))) a b ≡ key_order k a b
key_orders_agree k a b =
    let n = length (key_columns k) in
    keys_compare 0 1 n (key_cells k a) (key_cells k b) ∙ ap₂ row_cmp (select_again n a) (select_again n b)

-- ---- the rows

pub tree_seen : (k : TableKind) (db : Trees) → overlay db [] (tree_of k) ≡ db (tree_of k)
tree_seen Meta db = refl
tree_seen _ db = refl

unfiltered : (rows : List Row) (params : Row) → filter (λ row. list_all (holds (params ∷ row ∷ [])) []) rows ≡ rows
unfiltered [] params = refl
unfiltered (row ∷ rows) params = ap (λ more. row ∷ more) (unfiltered rows params)

own_pass : (o : Bytes) (rows : List Row) → filter (λ row. list_all (holds ((Text o ∷ []) ∷ row ∷ [])) owner_is) rows ≡ owned_by o rows
own_pass o rows = filter_agree _ _ (λ row. and-true _ ∙ equals_text (column row 1) o) rows

module _ (k : TableKind) (params : Row) (old new : State) (schema : Schema) (has : old.now.schema ≡ schema) (is : (command_of (understood schema (select_text k)) ≡ select_table k) × (reads_listing schema (select_text k) ≡ false)) (hits : List Row)
    (passed : filter (λ row. list_all (holds (params ∷ row ∷ [])) (owner_tests (is_owned k))) (old.now.trees (tree_of k)) ≡ hits) (plain : IsPlain (understood schema (select_text k))) where
  pub selected : (rows : List Row) → Shown (select_text k) params old new rows → AreSorted k hits rows
  selected rows h =
      let read = reads_as (select_text k) params old new schema has (select_table k) is.0 plain is.1 rows h in
      let a : IsAnswer (query_of k) (overlay old.now.trees []) params rows = read.answer Null in
      let shown = shown_by (tree_of k) (owner_tests (is_owned k)) (terms_from 1 1 (width_of k)) (keys_from 1 (length (key_columns k))) (key_cells k) (keys_evaluated k) (overlay old.now.trees []) params rows a in
      let there = subst (λ rs. AreShown (λ row. eval_all (terms_from 1 1 (width_of k)) (params ∷ row ∷ [])) (key_cells k) (map (λ key. key.1) (keys_from 1 (length (key_columns k)))) rs rows)
      (ap (filter (λ row. list_all (holds (params ∷ row ∷ [])) (owner_tests (is_owned k)))) (tree_seen k old.now.trees) ∙ passed) shown in
      record {
        same = subst (λ (show : Row → Row). IsPermutation (map show hits) rows) (λ i. λ row. columns_shown 1 (width_of k) params row i) there.same;
        sorted = subst (λ (cmp : Row → Row → Ordering). IsSorted cmp rows) (λ i. λ a b. key_orders_agree k a b i) there.sorted;
      }

module _ (k : TableKind) (old new : State) where
  pub select_plain : (others : Others) → IsPlain (understood (ours_and others) (select_text k))
  select_plain others = plain_given (select_text k) (cond (is_owned k) 1 0) (understood (ours_and others) (select_text k)) (select_given others k)

  pub owners_selected : (o : Bytes) → is_owned k ≡ true → HasOurs old.now.schema → (rows : List Row) → Shown (select_text k) (Text o ∷ []) old new rows → AreOfOwner k o old.now.trees rows
  owners_selected o owned has rows h = selected k (Text o ∷ []) old new (ours_and (others_of has)) (is_ours has) (select_is (others_of has) k) (owned_by o (old.now.trees (tree_of k)))
      (ap (λ (b : Bool). filter (λ row. list_all (holds ((Text o ∷ []) ∷ row ∷ [])) (owner_tests b)) (old.now.trees (tree_of k))) owned ∙ own_pass o (old.now.trees (tree_of k))) (select_plain (others_of has)) rows h

  pub all_selected_in : (schema : Schema) → old.now.schema ≡ schema → (command_of (understood schema (select_text k)) ≡ select_table k) × (reads_listing schema (select_text k) ≡ false) → IsPlain (understood schema (select_text k)) → is_owned k ≡ false
      → (rows : List Row) → Shown (select_text k) [] old new rows → AreAll k old.now.trees rows
  all_selected_in schema has is plain unowned rows h = selected k [] old new schema has is (old.now.trees (tree_of k))
      (ap (λ (b : Bool). filter (λ row. list_all (holds ([] ∷ row ∷ [])) (owner_tests b)) (old.now.trees (tree_of k))) unowned ∙ unfiltered (old.now.trees (tree_of k)) []) plain rows h

  pub all_selected : is_owned k ≡ false → HasOurs old.now.schema → (rows : List Row) → Shown (select_text k) [] old new rows → AreAll k old.now.trees rows
  all_selected unowned has rows h = all_selected_in (ours_and (others_of has)) (is_ours has) (select_is (others_of has) k) (select_plain (others_of has)) unowned rows h
