-- The meaning of the texts that read rows.
use Rattle.std.proofs.Common.{◌≡◌, ℕ, zero, suc, Bool, true, false, cond, List, [], ◌∷◌, map, length, codes, Ok, refl}
use Rattle.toll_sql.proofs.Common.{command_of, Binary, Command, Select, understood, reads_listing, Query, Term, col, op2, compiled, Compare, Eq, everything, ascending, Key, IsGiven, plain_query, table_of, tree_of, key_columns, width_of, is_owned, select_text, TableKind, Meta}
use Rattle.toll_sql.proofs.Beside.{Others, ours_and}
use Rattle.toll_sql.proofs.PutTexts.{terms_from}
use Rattle.toll_sql.proofs.TextLemmas.{one_statement, command_is, unlisted, statement_given}

-- the test that the first column equals the parameter
abbrev pub owner_is : List Term
owner_is = op2 (Compare Eq Binary) (col 1 1) (col 0 0) ∷ []

abbrev pub owner_tests : Bool → List Term
owner_tests b = cond b owner_is []

-- this many columns, from this one on, in order
abbrev pub keys_from : ℕ → ℕ → List (Term × Key)
keys_from at zero = []
keys_from at (suc n) = (col 1 at, ascending Binary) ∷ keys_from (suc at) n

abbrev pub query_of : TableKind → Query
query_of k = plain_query (tree_of k) (owner_tests (is_owned k)) (terms_from 1 1 (width_of k)) (keys_from 1 (length (key_columns k)))

-- the names of the columns
abbrev pub names_of : TableKind → List (List ℕ)
names_of k = map (λ c. c.name) (table_of k).columns

abbrev pub select_table : TableKind → Command
select_table k = Select (record { lets = []; body = query_of k }) (names_of k)

-- the owner is the one parameter, if there is one
abbrev pub slot_of : Bool → List (List ℕ)
slot_of b = cond b (codes "?1" ∷ []) []

slot_is : (b : Bool) → length (slot_of b) ≡ cond b 1 0
slot_is true = refl
slot_is false = refl

select_compiles : (others : Others) (k : TableKind) → compiled (ours_and others) (select_text k) ≡ Ok (one_statement (select_table k) (slot_of (is_owned k)) (select_text k))
unfolding everything
select_compiles others Meta = refl
select_compiles others _ = refl

pub select_is : (others : Others) (k : TableKind) → (command_of (understood (ours_and others) (select_text k)) ≡ select_table k) × (reads_listing (ours_and others) (select_text k) ≡ false)
select_is others k = let text = select_text k in (command_is (ours_and others) text (select_compiles others k), unlisted (ours_and others) text (select_compiles others k))

pub select_given : (others : Others) (k : TableKind) → IsGiven (select_text k) (cond (is_owned k) 1 0) (understood (ours_and others) (select_text k))
select_given others k = statement_given (ours_and others) (select_text k) (select_compiles others k) (slot_is (is_owned k))
