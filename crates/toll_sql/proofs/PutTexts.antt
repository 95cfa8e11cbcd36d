-- The meaning of the texts that put rows.
use Rattle.std.proofs.Common.{◌≡◌, ◌⊎◌, inl, inr, ℕ, zero, suc, nat_eq, List, [], ◌∷◌, ◌++◌, length, codes, Some, Ok, slice_get, get_or, refl, sym, ap, ◌∙◌}
use Rattle.std.specs.Fmt.{decimal}
use Rattle.toll_sql.proofs.Common.{cases_Bool, eqb-true, eq-eqb, command_of, Binary, Command, InsertOr, understood, Query, Values, Term, lit, col, op2, Null, Abort, compiled, Compare, Eq, everything, IsGiven, plain_query, made_all, earlier, every_table, table_of, tree_of, key_columns, width_of, put_text, TableKind, Meta, Voids}
use Rattle.toll_sql.proofs.Beside.{Others, ours_and}
use Rattle.toll_sql.proofs.TextLemmas.{one_statement, command_is, statement_given}

-- this many columns of a row, from this one on
abbrev pub terms_from : ℕ → ℕ → ℕ → List Term
terms_from slot at zero = []
terms_from slot at (suc n) = col slot at ∷ terms_from slot (suc at) n

-- the inserted values: no rowid, and the parameters
abbrev pub put_inserted : ℕ → List Term
put_inserted width = lit Null ∷ terms_from 0 0 width

-- the new values of the row with the key: its rowid twice, and the parameters
abbrev pub becomes : ℕ → List Term
becomes width = col 1 0 ∷ col 1 0 ∷ terms_from 0 0 width

abbrev pub update : ℕ → ℕ → Query
update tree width = plain_query tree (op2 (Compare Eq Binary) (col 1 0) (col 0 width) ∷ []) (becomes width) []

-- the table's number in the order in which the tables are made
abbrev pub table_number : TableKind → ℕ
table_number k = length (earlier k)

pub columns_are : (k : TableKind) → length (table_of k).columns ≡ width_of k
columns_are Meta = refl
columns_are _ = refl

-- the table with a number
abbrev pub table_numbered : ℕ → TableKind
table_numbered n = get_or every_table n Voids

numbered_table_number : (k : TableKind) → table_numbered (table_number k) ≡ k
numbered_table_number Meta = refl
numbered_table_number _ = refl

-- Tables with the same number are equal.
pub same_table : (j k : TableKind) → (j ≡ k) ⊎ (table_number j ≡ table_number k → ⊥)
same_table j k = elim (cases_Bool (nat_eq (table_number j) (table_number k))) [
  | inl equal ↦ inl (sym (numbered_table_number j) ∙ ap table_numbered (eqb-true (table_number j) (table_number k) equal) ∙ numbered_table_number k)
  | inr other ↦ inr (λ same. absurd (let e = sym other ∙ eq-eqb (table_number j) (table_number k) same in cc))
]

-- The table with this number is that one.
pub table_listed : (k : TableKind) → slice_get made_all.tables (table_number k) ≡ Some (table_of k)
table_listed Meta = refl
table_listed _ = refl

pub tree_is : (k : TableKind) → (table_of k).tree ≡ tree_of k
tree_is Meta = refl
tree_is _ = refl

-- a row is inserted, or the row with its key is changed to it
abbrev pub putting : TableKind → Command
putting k = InsertOr (table_number k) Abort (Values (put_inserted (width_of k)) (suc (width_of k))) (record { target = Some (key_columns k); update = Some (record { lets = []; body = update (tree_of k) (width_of k) }) } ∷ [])

-- this many parameters, from this number on
abbrev slots_from : ℕ → ℕ → List (List ℕ)
slots_from at zero = []
slots_from at (suc n) = (codes "?" ++ decimal at) ∷ slots_from (suc at) n

abbrev pub slots_of : TableKind → List (List ℕ)
slots_of k = slots_from 1 (width_of k)

slots_are : (at n : ℕ) → length (slots_from at n) ≡ n
slots_are at zero = refl
slots_are at (suc n) = ap suc (slots_are (suc at) n)

-- (no text is compiled again from here on)
put_compiles : (others : Others) (k : TableKind) → compiled (ours_and others) (put_text k) ≡ Ok (one_statement (putting k) (slots_of k) (put_text k))
unfolding everything
put_compiles others Meta = refl
put_compiles others _ = refl

pub put_is : (others : Others) (k : TableKind) → command_of (understood (ours_and others) (put_text k)) ≡ putting k
put_is others k = command_is (ours_and others) (put_text k) (put_compiles others k)

pub put_given : (others : Others) (k : TableKind) → IsGiven (put_text k) (width_of k) (understood (ours_and others) (put_text k))
put_given others k = statement_given (ours_and others) (put_text k) (put_compiles others k) (slots_are 1 (width_of k))
