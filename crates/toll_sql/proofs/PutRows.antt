-- The effect on the tables of a text that puts a row.
use Rattle.std.proofs.Common.{◌≡◌, ℕ, suc, true, None, Ok, refl, ap, ◌∙◌}
use Rattle.toll_sql.proofs.Common.{cast, Integer, understood, Row, State, Executes, rowid, Null, Int, agree, IsShaped, plain, columns_from, fill, PutsRow, HasOurs, table_of, tree_of, key_columns, width_of, put_text, TableKind, Meta}
use Rattle.sqlite_trees.specs.declared.store.Shape.TheVariants as shape
use Rattle.toll_sql.proofs.Calls.{plain_given}
use Rattle.toll_sql.proofs.CellLemmas.{cast_is}
use Rattle.toll_sql.proofs.Beside.{is_ours, others_of, ours_and}
use Rattle.toll_sql.proofs.OthersLemmas.{others_here, meets_by_key, no_key_acts}
use Rattle.toll_sql.proofs.PutCommon.{cast_null, cast_int}
use Rattle.toll_sql.proofs.PutTexts.{table_number, put_inserted, becomes, put_is, put_given}
use Rattle.toll_sql.proofs.UpsertLemmas.{state_puts}

abbrev pub all_columns_of : TableKind → Row → Row
all_columns_of k cells = columns_from 0 (width_of k) cells

pub puts_at : (k : TableKind) (cells : Row) → fill k (all_columns_of k cells) ≡ true → (old new : State) (count : ℕ) → HasOurs old.now.schema → old.step_limit ≡ None → IsShaped shape.Table (old.now.trees (tree_of k))
    → Executes (put_text k) (all_columns_of k cells) old new (Ok count) → PutsRow k (all_columns_of k cells) old.now.trees new.now.trees × (new.now.schema ≡ old.now.schema)
puts_at Meta cells fits old new count has free shaped h = let all = ours_and (others_of has) in others_here Meta (all_columns_of Meta cells) old new has (
    state_puts all (table_of Meta) (no_key_acts (tree_of Meta) has) (table_number Meta) refl None (all_columns_of Meta cells) (all_columns_of Meta cells) (put_inserted (width_of Meta)) (suc (width_of Meta)) (width_of Meta) (key_columns Meta) (becomes (width_of Meta)) refl refl refl
    (cast_is (table_of Meta) Null Null (all_columns_of Meta cells) cast_null fits) (λ id. cast_is (table_of Meta) (Int id) (Int id) (all_columns_of Meta cells) (cast_int id) fits) (λ new r. meets_by_key Meta has (agree plain (key_columns Meta) r (key_columns Meta) new) new r) (λ r a b. refl) (λ v more. refl) (λ db. refl)
    (λ given r. refl) (λ r id a is key. cast_is (table_of Meta) (rowid r) (Int id) (all_columns_of Meta cells) (ap (cast Integer) is ∙ cast_int id) fits)
    (put_text Meta) old new count (is_ours has) free (put_is (others_of has) Meta) (plain_given (put_text Meta) (width_of Meta) (understood all (put_text Meta)) (put_given (others_of has) Meta)) shaped h)
puts_at k cells fits old new count has free shaped h = let all = ours_and (others_of has) in others_here k (all_columns_of k cells) old new has (
    state_puts all (table_of k) (no_key_acts (tree_of k) has) (table_number k) refl None (all_columns_of k cells) (all_columns_of k cells) (put_inserted (width_of k)) (suc (width_of k)) (width_of k) (key_columns k) (becomes (width_of k)) refl refl refl
    (cast_is (table_of k) Null Null (all_columns_of k cells) cast_null fits) (λ id. cast_is (table_of k) (Int id) (Int id) (all_columns_of k cells) (cast_int id) fits) (λ new r. meets_by_key k has (agree plain (key_columns k) r (key_columns k) new) new r) (λ r a b. refl) (λ v more. refl) (λ db. refl)
    (λ given r. refl) (λ r id a is key. cast_is (table_of k) (rowid r) (Int id) (all_columns_of k cells) (ap (cast Integer) is ∙ cast_int id) fits)
    (put_text k) old new count (is_ours has) free (put_is (others_of has) k) (plain_given (put_text k) (width_of k) (understood all (put_text k)) (put_given (others_of has) k)) shaped h)
