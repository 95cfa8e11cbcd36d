-- The meaning of the texts that pair movements.
use Rattle.std.proofs.Common.{◌≡◌, ℕ, pos, negsuc, false, List, [], ◌∷◌, ◌++◌, None, codes, refl}
use Rattle.toll_sql.proofs.Common.{IsPlain, command_of, reads_as, Binary, Command, Select, understood, reads_listing, Row, overlay, Query, Join, IsAnswer, inner, left, end, State, Shown, Term, lit, col, op2, Null, Int, Compare, Is, Eq, Le, everything, HasOurs, tree_of, Moves, Voids, owners_text, all_text}
use Rattle.toll_sql.proofs.Beside.{Others, is_ours, others_of, ours_and}

abbrev same_terms : Term → Term → Term
same_terms a b = op2 (Compare Eq Binary) a b

abbrev is_null : Term → Term
is_null a = op2 (Is Binary) a (lit Null)

-- the four columns of a pair; the consumption is in slot 1 and the production in 2, and column 0 of the table is the rowid
abbrev pub lots : List Term
lots = col 1 4 ∷ col 1 5 ∷ col 2 4 ∷ col 2 5 ∷ []

-- a void, in slot v, of the movement in slot m
abbrev pub void_of : ℕ → ℕ → List Term
void_of v m = same_terms (col v 1) (col m 1) ∷ same_terms (col v 2) (col m 2) ∷ []

abbrev batch_tests : List Term
batch_tests = same_terms (col 2 1) (col 1 1) ∷ same_terms (col 2 9) (col 1 9) ∷ same_terms (col 2 10) (col 1 10) ∷ []

abbrev pair_tests : List Term
pair_tests = same_terms (col 1 3) (lit (Int (pos 4))) ∷ same_terms (col 2 3) (lit (Int (pos 5))) ∷ op2 (Compare Le Binary) (col 1 11) (col 2 11) ∷ is_null (col 3 2) ∷ is_null (col 4 2) ∷ []

abbrev pub owners_tests : List Term
owners_tests = batch_tests ++ same_terms (col 1 1) (col 0 0) ∷ pair_tests

abbrev pub all_tests : List Term
all_tests = batch_tests ++ pair_tests

abbrev pub sources : Join
sources = inner (tree_of Moves) (inner (tree_of Moves) (left (tree_of Voids) (void_of 3 1) (left (tree_of Voids) (void_of 4 2) end)))

abbrev pub pairs_that : List Term → Query
pairs_that tests = record {
  from = sources;
  filter = tests;
  group = None;
  project = lots;
  distinct = false;
  collations = [];
  order = [];
  limit = lit (Int (negsuc 0));
  offset = lit (Int (pos 0));
}

abbrev select_pairs : List Term → Command
select_pairs tests = Select (record { lets = []; body = pairs_that tests }) (codes "lot_owner" ∷ codes "lot" ∷ codes "lot_owner" ∷ codes "lot" ∷ [])

owners_is : (others : Others) → (command_of (understood (ours_and others) owners_text) ≡ select_pairs owners_tests) × (reads_listing (ours_and others) owners_text ≡ false)
unfolding understood everything
owners_is others = (refl, refl)

pub owners_plain : (others : Others) → IsPlain (understood (ours_and others) owners_text)
unfolding understood everything
owners_plain others = (refl, refl)

all_is : (others : Others) → (command_of (understood (ours_and others) all_text) ≡ select_pairs all_tests) × (reads_listing (ours_and others) all_text ≡ false)
unfolding understood everything
all_is others = (refl, refl)

pub all_plain : (others : Others) → IsPlain (understood (ours_and others) all_text)
unfolding understood everything
all_plain others = (refl, refl)

module _ (old new : State) (has : HasOurs old.now.schema) (params : Row) (rows : List Row) where
  pub owners_answered : Shown owners_text params old new rows → IsAnswer (pairs_that owners_tests) (overlay old.now.trees []) params rows
  owners_answered h = (reads_as owners_text params old new (ours_and (others_of has)) (is_ours has) (select_pairs owners_tests) (owners_is (others_of has)).0 (owners_plain (others_of has)) (owners_is (others_of has)).1 rows h).answer Null

  pub all_answered : Shown all_text params old new rows → IsAnswer (pairs_that all_tests) (overlay old.now.trees []) params rows
  all_answered h = (reads_as all_text params old new (ours_and (others_of has)) (is_ours has) (select_pairs all_tests) (all_is (others_of has)).0 (all_plain (others_of has)) (all_is (others_of has)).1 rows h).answer Null
