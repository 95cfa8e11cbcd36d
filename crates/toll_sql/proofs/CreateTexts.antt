-- The meaning of the texts that make the tables.
use Rattle.std.proofs.Common.{◌≡◌, ◌<◌, ℕ, suc, false, [], ◌∷◌, take, get_or, Ok, refl, arith}
use Rattle.toll_sql.proofs.Common.{IsPlain, command_of, statement_of, created, next_tree, CreateTable, table_defined_by, lacks_sequence, understood, Table, compiled, everything, no_schema, every_table, with_tables, earlier, table_of, tree_of, made_before, create_text, TableKind, Meta}
use Rattle.toll_sql.proofs.PutTexts.{table_number}
use Rattle.toll_sql.proofs.TextLemmas.{one_statement, command_is, statement_is, statement_plain}

-- the table while it has no tree yet
abbrev pub unplaced : TableKind → Table
unplaced k = record (table_of k) { tree = 0 }

create_compiles : (k : TableKind) → compiled (made_before k) (create_text k) ≡ Ok (one_statement CreateTable [] (create_text k))
unfolding everything
create_compiles Meta = refl
create_compiles _ = refl

pub create_is : (k : TableKind) → (command_of (understood (made_before k) (create_text k)) ≡ CreateTable) × (statement_of (create_text k) (understood (made_before k) (create_text k)) ≡ create_text k) × IsPlain (understood (made_before k) (create_text k))
create_is k = let is = create_compiles k in let before = made_before k in let text = create_text k in
    (command_is before text is, statement_is before text is, statement_plain before text is)

pub create_defines : (k : TableKind) → table_defined_by (create_text k) ≡ Ok (unplaced k)
unfolding everything
create_defines Meta = refl
create_defines _ = refl

pub create_uncounted : (k : TableKind) → lacks_sequence (created (made_before k) (unplaced k)) ≡ false
create_uncounted Meta = refl
create_uncounted _ = refl

-- the tree of its rows
pub create_place : (k : TableKind) → next_tree (made_before k) ≡ tree_of k
create_place Meta = refl
create_place _ = refl

-- The tables before it are the first ones of all.
pub earlier_is : (k : TableKind) → earlier k ≡ take (table_number k) every_table
earlier_is Meta = refl
earlier_is _ = refl

pub number_at : (i : ℕ) → i < 14 → table_number (get_or every_table i Meta) ≡ i
number_at (suc (suc (suc (suc (suc (suc (suc (suc (suc (suc (suc (suc (suc (suc i)))))))))))))) low = absurd (omega (arith, low))
number_at _ low = refl

-- With it, there is one more of the first tables.
pub next_is : (k : TableKind) → with_tables (made_before k) (k ∷ []) ≡ with_tables no_schema (take (suc (table_number k)) every_table)
next_is Meta = refl
next_is _ = refl
