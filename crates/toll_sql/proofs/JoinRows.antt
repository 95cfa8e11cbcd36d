-- The rows of the pairing: those of two movements that pass, with the voids that are joined to them.
use Rattle.std.proofs.Common.{◌≡◌, inl, inr, Bool, true, false, cond, List, [], ◌∷◌, map, refl, sym, ap, subst, ◌∙◌, Contains, filter}
use Rattle.toll_sql.proofs.Common.{list_all, Contains-permutation, IsPermutation-sym, Row, Query, Output, output, IsAnswer, matches, or_nulls, Term, Env, eval_all, holds, Trees, Contains-none, Contains-here, Contains-cases, Contains-map, Contains-from_map, Contains-flat_map, Contains-from_flat_map, tree_of, Moves, Voids}
use Rattle.toll_sql.proofs.JoinQuery.{pairs_that, sources, lots, void_of}

only_here : (b : Bool) (e env : Env) → Contains (cond b (e ∷ []) []) env → (b ≡ true) × (env ≡ e)
only_here true e env i = elim (Contains-cases e [] env i) [ inl same ↦ (refl, sym same) | inr none ↦ absurd (Contains-none env none) ]
only_here false e env i = absurd (Contains-none env i)

-- Two movements match, with the voids that LEFT JOIN puts beside them.
pub record IsMatch (tests : List Term) (db : Trees) (params c p v w : Row) : Type 0 where
  pub consumption : Contains (db (tree_of Moves)) c
  pub production : Contains (db (tree_of Moves)) p
  pub void_of_c : Contains (or_nulls (filter (λ r. list_all (holds (params ∷ c ∷ p ∷ r ∷ [])) (void_of 3 1)) (db (tree_of Voids)))) v
  pub void_of_p : Contains (or_nulls (filter (λ r. list_all (holds (params ∷ c ∷ p ∷ v ∷ r ∷ [])) (void_of 4 2)) (db (tree_of Voids)))) w
  pub passes : list_all (holds (params ∷ c ∷ p ∷ v ∷ w ∷ [])) tests ≡ true

module _ (tests : List Term) (db : Trees) (params : Row) (rows : List Row) (a : IsAnswer (pairs_that tests) db params rows) where
  abbrev join_query : Query
  join_query = pairs_that tests

  abbrev join_found : List Env
  join_found = matches db tests sources (params ∷ [])

  shown : rows ≡ map (λ (o : Output). o.1) a.ordered
  shown = a.shown

  join_kept : a.kept ≡ map (output join_query) join_found
  join_kept = a.distinct ∙ ap (map (output join_query)) a.grouped

  join_row_of : (row : Row) → Contains rows row → (env : Env) × Contains join_found env × (row ≡ eval_all lots env)
  join_row_of row i =
      let o = Contains-from_map (λ (o : Output). o.1) a.ordered row (subst (λ xs. Contains xs row) shown i) in
      let k = Contains-permutation a.ordered a.kept o.0 (IsPermutation-sym a.kept a.ordered a.same) o.1 in
      let e = Contains-from_map (output join_query) join_found o.0 (subst (λ xs. Contains xs o.0) join_kept k) in
      (e.0, e.1, sym o.2 ∙ ap (λ (o : Output). o.1) (sym e.2))

  join_listed : (env : Env) → Contains join_found env → Contains rows (eval_all lots env)
  join_listed env i =
      let k = subst (λ xs. Contains xs (output join_query env)) (sym join_kept) (Contains-map (output join_query) join_found env i) in
      let o = Contains-permutation a.kept a.ordered (output join_query env) a.same k in
      subst (λ xs. Contains xs (eval_all lots env)) (sym shown) (Contains-map (λ (o : Output). o.1) a.ordered (output join_query env) o)

  -- A row of the answer is that of a match.
  pub match_of : (row : Row) → Contains rows row → (c p v w : Row) × IsMatch tests db params c p v w × (row ≡ eval_all lots (params ∷ c ∷ p ∷ v ∷ w ∷ []))
  match_of row i =
      let e = join_row_of row i in
      let c = Contains-from_flat_map _ (db (tree_of Moves)) e.0 e.1 in
      let p = Contains-from_flat_map _ (db (tree_of Moves)) e.0 c.2 in
      let v = Contains-from_flat_map _ (or_nulls (filter (λ r. list_all (holds (params ∷ c.0 ∷ p.0 ∷ r ∷ [])) (void_of 3 1)) (db (tree_of Voids)))) e.0 p.2 in
      let w = Contains-from_flat_map _ (or_nulls (filter (λ r. list_all (holds (params ∷ c.0 ∷ p.0 ∷ v.0 ∷ r ∷ [])) (void_of 4 2)) (db (tree_of Voids)))) e.0 v.2 in
      let here = only_here (list_all (holds (params ∷ c.0 ∷ p.0 ∷ v.0 ∷ w.0 ∷ [])) tests) (params ∷ c.0 ∷ p.0 ∷ v.0 ∷ w.0 ∷ []) e.0 w.2 in
      (c.0, p.0, v.0, w.0, record { consumption = c.1; production = p.1; void_of_c = v.1; void_of_p = w.1; passes = here.0 }, e.2 ∙ ap (eval_all lots) here.1)

  -- Each match is shown.
  pub match_shown : (c p v w : Row) → IsMatch tests db params c p v w → Contains rows (eval_all lots (params ∷ c ∷ p ∷ v ∷ w ∷ []))
  match_shown c p v w m =
      let env = params ∷ c ∷ p ∷ v ∷ w ∷ [] in
      join_listed env
      (Contains-flat_map _ (db (tree_of Moves)) c _ m.consumption
      (Contains-flat_map _ (db (tree_of Moves)) p _ m.production
      (Contains-flat_map _ (or_nulls (filter (λ r. list_all (holds (params ∷ c ∷ p ∷ r ∷ [])) (void_of 3 1)) (db (tree_of Voids)))) v _ m.void_of_c
      (Contains-flat_map _ (or_nulls (filter (λ r. list_all (holds (params ∷ c ∷ p ∷ v ∷ r ∷ [])) (void_of 4 2)) (db (tree_of Voids)))) w _ m.void_of_p
      (subst (λ b. Contains (cond b (env ∷ []) []) env) (sym m.passes) (Contains-here env []))))))
