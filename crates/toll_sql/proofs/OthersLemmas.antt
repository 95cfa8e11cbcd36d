-- Whatever follows the office's tables has no part in a put.
use Rattle.std.proofs.Common.{◌≡◌, ℕ, zero, suc, slice_get, subst, Bool, false, ◌&&◌, ◌||◌, List, [], ◌∷◌, ◌++◌, Option, Some, refl, sym, ap, ◌∙◌}
use Rattle.toll_sql.proofs.Common.{AllByRecursion, filter_map, flat_map, list_any, Row, Schema, State, Table, Work, work_for, works, aims, shares, agree, guards, Index, Enforced, GuardsNone, HasOurs, RefersToNone, Puts, PutsRow, has_row_key, key_columns, made_all, table_of, tree_of, TableKind, or-false}
use Rattle.sqlite_schema.specs.declared.schema.Reference.{Reference}
use Rattle.toll_sql.proofs.Beside.{is_ours, others_of, ours_and}
use Rattle.toll_sql.proofs.PutTexts.{table_listed, table_number}

pub at_listed : {X : Type 0} (P : X → Type 0) (xs : List X) (i : ℕ) (x : X) → AllByRecursion P xs → slice_get xs i ≡ Some x → P x
at_listed P [] i x all h = absurd cc
at_listed P (y ∷ xs) zero x all h = let same : y ≡ x = cc in subst P same all.0
at_listed P (y ∷ xs) (suc i) x all h = at_listed P xs i x all.1 h

-- A fact of all holds of the first.
pub all_of_front : {X : Type 0} (P : X → Type 0) (xs ys : List X) → AllByRecursion P (xs ++ ys) → AllByRecursion P xs
all_of_front P [] ys all = tt
all_of_front P (x ∷ xs) ys all = (all.0, all_of_front P xs ys all.1)

no_work : (work : Table → Reference → Option Work) (tables : List Table) → AllByRecursion RefersToNone tables → flat_map (λ child. filter_map (work child) child.references) tables ≡ []
no_work work [] none = refl
no_work work (t ∷ tables) none = ap (λ refs. filter_map (work t) refs ++ flat_map (λ child. filter_map (work child) child.references) tables) none.0 ∙ no_work work tables none.1

-- No foreign key acts when a row of the office is put.
pub no_key_acts : {schema : Schema} (tree : ℕ) (has : HasOurs schema) (olds news : List Row) → works (ours_and (others_of has)) Enforced 0 tree olds news ≡ []
no_key_acts tree has olds news = no_work (work_for (ours_and (others_of has)) Enforced 0 tree olds news) has.tables.0 has.tables.2

none_shares : (k : TableKind) (target : List ℕ) (new row : Row) (indexes : List Index) → AllByRecursion (GuardsNone made_all.tables) indexes → list_any (shares (Some target) (table_of k) new row) indexes ≡ false
none_shares k target new row [] none = refl
none_shares k target new row (i ∷ indexes) none =
    let unguarded : guards i (table_of k) ≡ false = at_listed (λ t. guards i t ≡ false) made_all.tables (table_number k) (table_of k) none.0 (table_listed k) in
    ap (λ guarded. (guarded && aims (Some target) i.columns && agree i.order i.columns row i.columns new) || list_any (shares (Some target) (table_of k) new row) indexes) unguarded ∙ none_shares k target new row indexes none.1

-- A row conflicts with another by the key of its table alone.
pub meets_by_key : {schema : Schema} (k : TableKind) (has : HasOurs schema) (by_key : Bool) (new row : Row) → by_key || list_any (shares (Some (key_columns k)) (table_of k) new row) has.indexes.0 ≡ by_key
meets_by_key k has by_key new row = ap (λ b. by_key || b) (none_shares k (key_columns k) new row has.indexes.0 has.indexes.2) ∙ or-false by_key

-- The office's other tables stay unchanged, and so does the schema.
pub others_here : (k : TableKind) (cells : Row) (old new : State) (has : HasOurs old.now.schema) → Puts (ours_and (others_of has)) (tree_of k) (has_row_key k cells) cells old.now.trees new.now.trees × (new.now.schema ≡ ours_and (others_of has))
    → PutsRow k cells old.now.trees new.now.trees × (new.now.schema ≡ old.now.schema)
others_here k cells old new has put =
    let row : PutsRow k cells old.now.trees new.now.trees = record { here = put.0.here; others = all_of_front _ made_all.tables has.tables.0 put.0.others; shaped = put.0.shaped } in
    (row, put.1 ∙ sym (is_ours has))
