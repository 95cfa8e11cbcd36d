-- The pairs are exactly the edges of the slice whose rows the tables have.
use Rattle.std.proofs.Common.{◌≡◌, ◌≤◌, true, false, is_some, List, [], ◌∷◌, refl, sym, ap, subst, subst₂, ◌∙◌, Contains}
use Rattle.toll_sql.proofs.Common.{false≢true, list_all, ordering_reverse, Row, column, IsAnswer, State, Term, eval_all, holds, Trees, Value, Text, Bytes, bytes_cmp, Slice, void_at, IsInKeyOrder, Edge, MoveRow, Consumed, Produced, Content, IsEdgeOfSome, row_of_member, member_of_row, IsActual, Stands, IsEdge, ShowEdges, draws_edges, edge_cells, kind_number, move_lot, move_order, move_number, move_segment, move_cells, void_cells, HoldsEach, HoldsPart, HoldsIn, HoldsPartIn, is_owned, tree_of, TableKind, Moves, Voids}
use Rattle.std.proofs.lemmas.Cmp.{tied_itself, nat_list_cmp_total}
use Rattle.toll_sql.proofs.JoinQuery.{pairs_that, owners_tests, all_tests, lots}
use Rattle.toll_sql.proofs.JoinRows.{IsMatch, match_of, match_shown}
use Rattle.toll_sql.proofs.JoinTests.{PassesTests, IsPairOf, equals, equals_text_only, null_is_none, owners_pass, pass_owners, all_pass, pass_all, pair_of, pair_passes, actual_of_kind}
use Rattle.toll_sql.proofs.LookLemmas.{holds_part, part_within}
use Rattle.toll_sql.proofs.MemberRows.{AreRowsOfOwner, rows_kept, trees_seen, member_under, under_name, named_owner}
use Rattle.toll_sql.proofs.Orders.{moves_order}
use Rattle.toll_sql.proofs.Placing.{in_key_order}
use Rattle.toll_sql.proofs.Unvoided.{unvoided_is_standing, missing}

-- ---- over rows as they are kept

module _ (db : Trees) (s : Slice) (o : Bytes)
    (moves : AreRowsOfOwner o (move_cells o) s.moves (db (tree_of Moves))) (voids : AreRowsOfOwner o (void_cells o) s.voids (db (tree_of Voids)))
    (ordered : IsInKeyOrder bytes_cmp (λ (row : MoveRow). row.key) s.moves) where
  abbrev params : Row
  params = Text o ∷ []

  abbrev edge_of_moves : MoveRow → MoveRow → Edge
  edge_of_moves x y = record { from = move_lot o x.what; to = move_lot o y.what }

  edge_stands : (x : MoveRow) → Contains s.moves x → is_some (void_at s x.key) ≡ false → Stands s x
  edge_stands x i unvoided = record {
    recorded = row_of_member bytes_cmp (λ (row : MoveRow). row.key) (tied_itself nat_list_cmp_total) (λ a b lt. nat_list_cmp_total.antisymm b a ∙ ap ordering_reverse lt) s.moves x ordered i;
    not_voided = unvoided;
  }

  drawn_by : (x y : MoveRow) → Stands s x → Stands s y → IsPairOf x y → IsEdge s (edge_of_moves x y)
  drawn_by x y sx sy pair = record {
    order = move_order x.what;
    number = move_number x.what;
    consumption = x;
    production = y;
    consumed_in = move_segment x.what;
    produced_in = move_segment y.what;
    consumption_stands = sx;
    production_stands = sy;
    consumes = actual_of_kind o Consumed x pair.consumes;
    produces = subst₂ (λ order number. IsActual order number (move_segment y.what) Produced (move_lot o y.what) y) pair.order pair.number (actual_of_kind o Produced y pair.produces);
    not_above = pair.not_above;
  }

  kept_match : (tests : List Term) (env : Row) (id id' : Value) (x y : MoveRow) (v w : Row) → Contains s.moves x → Contains s.moves y → IsMatch tests db env (id ∷ move_cells o x) (id' ∷ move_cells o y) v w
      → PassesTests params (id ∷ move_cells o x) (id' ∷ move_cells o y) v w → IsEdge s (edge_of_moves x y)
  kept_match tests env id id' x y v w i j m t =
      drawn_by x y (edge_stands x i (unvoided_is_standing o s.voids (db (tree_of Voids)) voids x.key v m.void_of_c t.at7)) (edge_stands y j (unvoided_is_standing o s.voids (db (tree_of Voids)) voids y.key w m.void_of_p t.at8)) (pair_of o id id' x y v w t)

  -- A match for this owner shows an edge.
  match_draws : (tests : List Term) (env c p v w row : Row) → IsMatch tests db env c p v w → PassesTests params c p v w → row ≡ eval_all lots (env ∷ c ∷ p ∷ v ∷ w ∷ []) → (e : Edge) × IsEdge s e × (row ≡ edge_cells e)
  match_draws tests env c p v w row m t shown =
      let owned_c = equals_text_only (column c 1) o t.at3 in
      let owned_p = equals_text_only (column p 1) o (subst (λ t. equals (column p 1) t ≡ true) owned_c t.at0) in
      let x = moves.only c m.consumption owned_c in
      let y = moves.only p m.production owned_p in (
        edge_of_moves x.1 y.1,
        kept_match tests env x.0 y.0 x.1 y.1 v w x.2 y.2 (subst₂ (λ c p. IsMatch tests db env c p v w) x.3 y.3 m) (subst₂ (λ c p. PassesTests params c p v w) x.3 y.3 t),
        shown ∙ ap (λ (c : Row). eval_all lots (env ∷ c ∷ p ∷ v ∷ w ∷ [])) x.3 ∙ ap (λ (p : Row). eval_all lots (env ∷ (x.0 ∷ move_cells o x.1) ∷ p ∷ v ∷ w ∷ [])) y.3,
      )

  pair_drawn : (e : Edge) (d : IsEdge s e) → IsPairOf d.consumption d.production
  pair_drawn e d = record {
    order = ap move_order d.produces.is ∙ sym (ap move_order d.consumes.is);
    number = ap move_number d.produces.is ∙ sym (ap move_number d.consumes.is);
    consumes = ap kind_number d.consumes.is;
    produces = ap kind_number d.produces.is;
    not_above = subst₂ (λ m n. m ≤ n) (sym (ap move_segment d.consumes.is)) (sym (ap move_segment d.produces.is)) d.not_above;
  }

  -- Each edge has a match.
  edge_matches : (tests : List Term) (env : Row) → ((c p : Row) → PassesTests params c p [] [] → list_all (holds (env ∷ c ∷ p ∷ [] ∷ [] ∷ [])) tests ≡ true) → (e : Edge) → IsEdge s e
      → (c : Row) × (p : Row) × IsMatch tests db env c p [] [] × (edge_cells e ≡ eval_all lots (env ∷ c ∷ p ∷ [] ∷ [] ∷ []))
  edge_matches tests env passing e d =
      let x = d.consumption in
      let y = d.production in
      let c = moves.every x (member_of_row bytes_cmp (λ (row : MoveRow). row.key) s.moves x.key x d.consumption_stands.recorded) in
      let p = moves.every y (member_of_row bytes_cmp (λ (row : MoveRow). row.key) s.moves y.key y d.production_stands.recorded) in (
        c.0 ∷ move_cells o x,
        p.0 ∷ move_cells o y,
        record {
          consumption = c.1;
          production = p.1;
          void_of_c = missing o s.voids (db (tree_of Voids)) voids x.key d.consumption_stands.not_voided;
          void_of_p = missing o s.voids (db (tree_of Voids)) voids y.key d.production_stands.not_voided;
          passes = passing (c.0 ∷ move_cells o x) (p.0 ∷ move_cells o y) (pair_passes o c.0 p.0 x y [] [] (pair_drawn e d) null_is_none null_is_none);
        },
        sym (ap (λ l. edge_cells (record { from = l; to = move_lot o y.what })) (ap (move_lot o) d.consumes.is) ∙ ap (λ l. edge_cells (record { from = e.from; to = l })) (ap (move_lot o) d.produces.is)),
      )

-- ---- over tables that hold an owner's movements and voids

module _ (db : Trees) (s : Slice) (has : HoldsPart draws_edges db s.owner s) where
  moves_kept : AreRowsOfOwner s.owner (move_cells s.owner) s.moves (db (tree_of Moves))
  moves_kept = rows_kept Moves s.owner (move_cells s.owner) s.moves (db (tree_of Moves)) (λ x. refl) (λ x. refl) (has.stored Moves refl).same

  voids_kept : AreRowsOfOwner s.owner (void_cells s.owner) s.voids (db (tree_of Voids))
  voids_kept = rows_kept Voids s.owner (void_cells s.owner) s.voids (db (tree_of Voids)) (λ x. refl) (λ x. refl) (has.stored Voids refl).same

  moves_rise : IsInKeyOrder bytes_cmp (λ (row : MoveRow). row.key) s.moves
  moves_rise = in_key_order bytes_cmp nat_list_cmp_total (λ (row : MoveRow). row.key) (move_cells s.owner) _ (moves_order s.owner) s.moves (has.stored Moves refl).rising

  draws : (tests : List Term) (env c p v w row : Row) → IsMatch tests (trees_seen db) env c p v w → PassesTests (Text s.owner ∷ []) c p v w → row ≡ eval_all lots (env ∷ c ∷ p ∷ v ∷ w ∷ []) → (e : Edge) × IsEdge s e × (row ≡ edge_cells e)
  draws = match_draws (trees_seen db) s s.owner moves_kept voids_kept moves_rise

  matched : (tests : List Term) (env : Row) → ((c p : Row) → PassesTests (Text s.owner ∷ []) c p [] [] → list_all (holds (env ∷ c ∷ p ∷ [] ∷ [] ∷ [])) tests ≡ true) → (e : Edge) → IsEdge s e
      → (c : Row) × (p : Row) × IsMatch tests (trees_seen db) env c p [] [] × (edge_cells e ≡ eval_all lots (env ∷ c ∷ p ∷ [] ∷ [] ∷ []))
  matched = edge_matches (trees_seen db) s s.owner moves_kept voids_kept moves_rise

  pub owners_edges : (rows : List Row) → IsAnswer (pairs_that owners_tests) (trees_seen db) (Text s.owner ∷ []) rows → ShowEdges (IsEdge s) rows
  owners_edges rows a = record {
    only = λ row i.
        let m = match_of owners_tests (trees_seen db) (Text s.owner ∷ []) rows a row i in
        draws owners_tests (Text s.owner ∷ []) m.0 m.1 m.2 m.3 row m.4 (owners_pass (Text s.owner ∷ []) m.0 m.1 m.2 m.3 m.4.passes) m.5;
    every = λ e d.
        let m = matched owners_tests (Text s.owner ∷ []) (λ c p t. pass_owners (Text s.owner ∷ []) c p [] [] t) e d in
        subst (Contains rows) (sym m.3) (match_shown owners_tests (trees_seen db) (Text s.owner ∷ []) rows a m.0 m.1 [] [] m.2);
  }

pub owners_shown : (db : Trees) (o : Bytes) (s : Slice) → HoldsPart draws_edges db o s → (rows : List Row) → IsAnswer (pairs_that owners_tests) (trees_seen db) (Text o ∷ []) rows → ShowEdges (IsEdge s) rows
owners_shown db o s has rows a = owners_edges db s (under_name draws_edges db o s has) rows (subst (λ n. IsAnswer (pairs_that owners_tests) (trees_seen db) (Text n ∷ []) rows) (sym has.named) a)

-- ---- over tables that hold all owners' movements and voids

module _ (db : Trees) (c : Content) (has : HoldsEach draws_edges db c.rows) where
  pub all_shown : (rows : List Row) → IsAnswer (pairs_that all_tests) (trees_seen db) [] rows → ShowEdges (IsEdgeOfSome c) rows
  all_shown rows a = record {
    only = λ row i.
        let m = match_of all_tests (trees_seen db) [] rows a row i in
        let o = named_owner draws_edges db c.rows has Moves refl m.0 m.4.consumption in
        let e = draws db (c.rows o.0) (member_under draws_edges db c.rows has o.0) all_tests [] m.0 m.1 m.2 m.3 row m.4 (all_pass m.0 m.1 m.2 m.3 (c.rows o.0).owner o.2 m.4.passes) m.5 in
        (e.0, record { owner = o.0; edge = e.1 }, e.2);
    every = λ e d.
        let s = c.rows d.owner in
        let m = matched db s (member_under draws_edges db c.rows has d.owner) all_tests [] (λ c p t. pass_all c p [] [] s.owner t) e d.edge in
        subst (Contains rows) (sym m.3) (match_shown all_tests (trees_seen db) [] rows a m.0 m.1 [] [] m.2);
  }

-- ---- tables that hold all rows hold movements and voids

draws_owned : (k : TableKind) → draws_edges k ≡ true → is_owned k ≡ true
draws_owned Moves draws = refl
draws_owned Voids draws = refl
draws_owned _ draws = absurd (false≢true draws)

pub moves_of_all : (db : Trees) (rows : Bytes → Slice) → HoldsEach is_owned db rows → HoldsEach draws_edges db rows
moves_of_all db rows has = record { slices = λ o. part_within draws_edges is_owned draws_owned db o (rows o) (has.slices o); owned = λ k draws. has.owned k (draws_owned k draws) }

pub moves_part : (s : State) (c : Content) → HoldsIn s c → (o : Bytes) → HoldsPartIn draws_edges s o (c.rows o)
moves_part = holds_part draws_edges draws_owned
