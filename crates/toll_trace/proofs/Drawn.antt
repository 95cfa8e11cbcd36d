-- The edges made from the uses of lots are those that two standing actuals draw.
use Rattle.std.proofs.Common.{◌≡◌, ℕ, ◌≤◌, Bool, true, false, Some, None, is_some, List, [], ◌∷◌, map, refl, ap, ◌∙◌, subst, inl, inr, arith, Contains, filter, if◌then◌else◌}
use Rattle.toll_base.proofs.Texts.{batch_cmp_total}
use Rattle.toll_trace.proofs.Common.{false≢true, flat_map, IsStrictlySortedBy, IsPermutation, is_eq, ordering_reverse, Ordering, Less, Equal, Greater, leb-true, le-leb, tied_itself, nat_list_cmp_total, Contains-permutation, IsPermutation-sym, tells_apart, Bytes, bytes_cmp, batch_cmp, LotId, Edge, Role, Consumed, Produced, MoveRow, edge_cmp, LotUse, IsInOrder, IsActual, IsDrawn, Stands, IsEdge, AreEdges, Batch, AreLeft, use_as, standing_use, uses, is_not_above, edge_between, edges_from}
use Rattle.toll_base.specs.Roles.{same_role}
use Rattle.toll_base.specs.Slice.{Slice, void_at}
use Rattle.toll_base.specs.Table.{row_at, IsInKeyOrder}
use Rattle.toll_base.specs.declared.movement.Move.{Move}
use Rattle.toll_base.specs.declared.movement.Move.TheVariants.{Receive, Split, Ship, Scrap, Actual}
use Rattle.toll_trace.proofs.Members.{Contains-none, Contains-here, Contains-later, Contains-cases, Contains-map, Contains-from_map, Contains-filter, Contains-from_filter, Contains-filter_map, Contains-from_filter_map, Contains-flat_map, Contains-from_flat_map, member_of_all, kept_in_order, some_by_test}
use Rattle.toll_trace.proofs.Orders.{edges_exact}
use Rattle.toll_trace.proofs.Extremes.{exact_batches}

-- ==== rows by their key

-- A row of a list in key order is the one that a search for its key finds.
pub row_of_member : {K R : Type 0} (cmp : K → K → Ordering) (key : R → K) → ((k : K) → cmp k k ≡ Equal) → ((a b : K) → cmp a b ≡ Less → cmp b a ≡ Greater) → (rows : List R) (row : R) → IsInKeyOrder cmp key rows → Contains rows row → row_at cmp key rows (key row) ≡ Some row
unfolding row_at IsStrictlySortedBy
row_of_member cmp key ties turns [] row order i = absurd (Contains-none row i)
row_of_member cmp key ties turns (r ∷ rows) row order i = elim (Contains-cases r rows row i) [
  | inl e ↦ subst (λ z. row_at cmp key (r ∷ rows) (key z) ≡ Some z) e (rw (ties (key r)) refl)
  | inr j ↦ rw (turns (key r) (key row) (member_of_all (λ k. cmp (key r) k ≡ Less) (map key rows) (key row) order.0 (Contains-map key rows row j))) (row_of_member cmp key ties turns rows row order.1 j)
]

pub member_of_row : {K R : Type 0} (cmp : K → K → Ordering) (key : R → K) (rows : List R) (k : K) (row : R) → row_at cmp key rows k ≡ Some row → Contains rows row
unfolding row_at
member_of_row cmp key [] k row h = cc
member_of_row cmp key (r ∷ rows) k row h = go (is_eq (cmp k (key r))) h (member_of_row cmp key rows k row)
  where
    go : (b : Bool) → (if b then Some r else row_at cmp key rows k) ≡ Some row → (row_at cmp key rows k ≡ Some row → Contains rows row) → Contains (r ∷ rows) row
    go true h ih = let e : r ≡ row = cc in subst (λ z. Contains (r ∷ rows) z) e (Contains-here r rows)
    go false h ih = Contains-later r rows row (ih h)

-- ==== what the lists of uses hold

exact_role : (a b : Role) → same_role a b ≡ true → a ≡ b
exact_role Consumed Consumed h = refl
exact_role Consumed Produced h = absurd (false≢true h)
exact_role Produced Consumed h = absurd (false≢true h)
exact_role Produced Produced h = refl

pub same_role-refl : (a : Role) → same_role a a ≡ true
same_role-refl Consumed = refl
same_role-refl Produced = refl

pub used_is : (role : Role) (row : MoveRow) (what : Move) (u : Batch × LotUse) → row.what ≡ what → use_as role what ≡ Some u → IsActual u.0.0 u.0.1 u.1.segment role u.1.lot row
used_is role row (Actual order number segment recorded material lot sublot) u is h =
    let r = some_by_test (same_role recorded role) _ u h in
    record {
      material = material;
      sublot = sublot;
      is = subst (λ (v : Batch × LotUse). row.what ≡ Actual v.0.0 v.0.1 v.1.segment role material v.1.lot sublot) r.1 (subst (λ as_recorded. row.what ≡ Actual order number segment as_recorded material lot sublot) (exact_role recorded role r.0) is);
    }
used_is role row (Receive material lot sublot) u is h = absurd (cc)
used_is role row (Split lot sublot target) u is h = absurd (cc)
used_is role row (Ship lot sublot) u is h = absurd (cc)
used_is role row (Scrap lot sublot) u is h = absurd (cc)

use_stands : (role : Role) (s : Slice) (row : MoveRow) (u : Batch × LotUse) → standing_use role s row ≡ Some u → (is_some (void_at s row.key) ≡ false) × (use_as role row.what ≡ Some u)
use_stands role s row u h = go (is_some (void_at s row.key)) refl h
  where
    go : (voided : Bool) → is_some (void_at s row.key) ≡ voided → (if voided then None else use_as role row.what) ≡ Some u → (is_some (void_at s row.key) ≡ false) × (use_as role row.what ≡ Some u)
    go false e h = (e, h)
    go true e h = absurd (cc)

-- A use in the list is one that a standing actual records.
pub use_recorded : (role : Role) (s : Slice) (u : Batch × LotUse) → IsInKeyOrder bytes_cmp (λ row. row.key) s.moves → Contains (uses role s) u → (row : MoveRow) × Stands s row × IsActual u.0.0 u.0.1 u.1.segment role u.1.lot row
use_recorded role s u order i =
    let row = Contains-from_filter_map (standing_use role s) s.moves u i in
    let stands = use_stands role s row.0 u row.2 in
    (row.0, record { recorded = row_of_member bytes_cmp (λ row. row.key) (tied_itself nat_list_cmp_total) (λ a b lt. nat_list_cmp_total.antisymm b a ∙ ap ordering_reverse lt) s.moves row.0 order row.1; not_voided = stands.0 }, used_is role row.0 row.0.what u refl stands.1)

-- A use that a standing actual records is in the list.
pub use_listed : (role : Role) (s : Slice) (row : MoveRow) (order : Bytes) (number segment : ℕ) (lot : LotId) → Stands s row → IsActual order number segment role lot row → Contains (uses role s) ((order, number), record { segment = segment; lot = lot })
use_listed role s row order number segment lot stands actual =
    Contains-filter_map (standing_use role s) s.moves row _ (member_of_row bytes_cmp (λ row. row.key) s.moves row.key row stands.recorded)
    (ap (λ voided. if voided then None else use_as role row.what) stands.not_voided ∙ ap (use_as role) actual.is ∙ ap (λ b. if b then Some ((order, number), record { segment = segment; lot = lot }) else None) (same_role-refl role))

-- ==== the edges

-- standing actuals, by the lists of their uses
module _ (stands : MoveRow → Type 0) (consumptions productions : List (Batch × LotUse)) where
  pub edge_drawn :
      ((u : Batch × LotUse) → Contains consumptions u → (row : MoveRow) × stands row × IsActual u.0.0 u.0.1 u.1.segment Consumed u.1.lot row)
      → ((u : Batch × LotUse) → Contains productions u → (row : MoveRow) × stands row × IsActual u.0.0 u.0.1 u.1.segment Produced u.1.lot row)
      → (e : Edge) → Contains (flat_map (edges_from productions) consumptions) e → IsDrawn stands e
  edge_drawn consumed produced e i =
      let c = Contains-from_flat_map (edges_from productions) consumptions e i in
      let p = Contains-from_map (edge_between c.0.1) (filter (is_not_above c.0.1) (filter (λ production. is_eq (batch_cmp production.0 c.0.0)) productions)) e c.2 in
      let above = Contains-from_filter (is_not_above c.0.1) (filter (λ production. is_eq (batch_cmp production.0 c.0.0)) productions) p.0 p.1 in
      let batch = Contains-from_filter (λ (production : Batch × LotUse). is_eq (batch_cmp production.0 c.0.0)) productions p.0 above.0 in
      let consumption = consumed c.0 c.1 in
      let production = produced p.0 batch.0 in
      let same : p.0.0 ≡ c.0.0 = tells_apart exact_batches p.0.0 c.0.0 batch.1 in
      subst (IsDrawn stands) p.2 (record {
        order = c.0.0.0;
        number = c.0.0.1;
        consumption = consumption.0;
        production = production.0;
        consumed_in = c.0.1.segment;
        produced_in = p.0.1.segment;
        consumption_stands = consumption.1;
        production_stands = production.1;
        consumes = consumption.2;
        produces = subst (λ (b : Batch). IsActual b.0 b.1 p.0.1.segment Produced p.0.1.lot production.0) same production.2;
        not_above = leb-true _ _ above.1;
      })

  pub edge_listed :
      ((row : MoveRow) (order : Bytes) (number segment : ℕ) (lot : LotId) → stands row → IsActual order number segment Consumed lot row → (n : ℕ) × Contains consumptions ((order, number), record { segment = n; lot = lot }) × (n ≤ segment))
      → ((row : MoveRow) (order : Bytes) (number segment : ℕ) (lot : LotId) → stands row → IsActual order number segment Produced lot row → (n : ℕ) × Contains productions ((order, number), record { segment = n; lot = lot }) × (segment ≤ n))
      → (e : Edge) → IsDrawn stands e → Contains (flat_map (edges_from productions) consumptions) e
  edge_listed consumed produced e fed =
      let lowest = consumed fed.consumption fed.order fed.number fed.consumed_in e.from fed.consumption_stands fed.consumes in
      let highest = produced fed.production fed.order fed.number fed.produced_in e.to fed.production_stands fed.produces in
      let c : Batch × LotUse = ((fed.order, fed.number), record { segment = lowest.0; lot = e.from }) in
      let p : Batch × LotUse = ((fed.order, fed.number), record { segment = highest.0; lot = e.to }) in
      let not_above : lowest.0 ≤ highest.0 = omega (arith, lowest.2, fed.not_above, highest.2) in
      let of_batch = Contains-filter (λ production. is_eq (batch_cmp production.0 c.0)) productions p highest.1 (ap is_eq (tied_itself batch_cmp_total c.0)) in
      let above = Contains-filter (is_not_above c.1) (filter (λ production. is_eq (batch_cmp production.0 c.0)) productions) p of_batch (le-leb _ _ not_above) in
      Contains-flat_map (edges_from productions) consumptions c e lowest.1
      (Contains-map (edge_between c.1) (filter (is_not_above c.1) (filter (λ production. is_eq (batch_cmp production.0 c.0)) productions)) p above)

-- The edges by the uses that are left: the lowest consumptions and the highest productions.
pub edges_are : (s : Slice) (consumptions left productions : List (Batch × LotUse)) (sorted : List Edge) → IsInKeyOrder bytes_cmp (λ row. row.key) s.moves → AreLeft (λ lowest segment. lowest ≤ segment) (uses Consumed s) consumptions → AreLeft (λ highest segment. segment ≤ highest) (uses Produced s) left → IsPermutation left productions → IsInOrder edge_cmp (flat_map (edges_from productions) consumptions) sorted → AreEdges (IsEdge s) sorted
edges_are s consumptions left productions sorted order lowest highest moved in_order = record {
  only = λ e i. edge_drawn (Stands s) consumptions productions
      (λ u i. use_recorded Consumed s u order (lowest.none_new u i))
      (λ u i. use_recorded Produced s u order (highest.none_new u (Contains-permutation productions left u (IsPermutation-sym left productions moved) i)))
      e (in_order.none_new e i);
  every = λ e fed. kept_in_order edge_cmp edges_exact _ sorted in_order e (edge_listed (Stands s) consumptions productions
      (λ row order number segment lot stands is. lowest.none_lost (order, number) lot segment (use_listed Consumed s row order number segment lot stands is))
      (λ row order number segment lot stands is. let l = highest.none_lost (order, number) lot segment (use_listed Produced s row order number segment lot stands is) in (l.0, Contains-permutation left productions _ moved l.1, l.2))
      e fed);
  ordered = in_order.ordered;
}
