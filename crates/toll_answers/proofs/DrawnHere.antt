-- The edges of an owner's actions, and the traces over them, made from lists: for examples.
use Rattle.std.proofs.Common.{◌≡◌, not, Some, List, [], ◌∷◌, map, refl, sym, ap, subst, inl, inr, Contains, filter}
use Rattle.toll_answers.proofs.Common.{IsStrictlySortedBy, not-true, Action, Record, movement_recorded, voided_in, LotId, Edge, MoveRow, Way, edge_of, IsJoined, AreEdges, lot_cmp, edge_cmp, IsTrace, Contains-none, Contains-here, Contains-later, Contains-cases, Contains-filter, Contains-from_filter, Contains-filter_map, Contains-from_filter_map, drawn_same, trace_same, WasDone, IsOwnEdge, IsOwnJoined, filter_map, is_eq}
use Rattle.std.proofs.lemmas.Cmp.{tied_itself}
use Rattle.toll_trace.specs.InOrder.{IsInOrder}
use Rattle.toll_trace.specs.Search.{step_at}
use Rattle.toll_trace.proofs.Orders.{lots_total}
use Rattle.toll_trace.proofs.DrawnRows.{drawn, listed_drawn, drawn_listed}
use Rattle.toll_trace.proofs.Levels.{reached_start, reached_more, trace_done}
use Rattle.toll_trace.proofs.Rounds.{led_to, level_by_edges}

-- ---- edges

-- the movements that were done and not voided
abbrev unvoided_moves : List Action → List MoveRow
unvoided_moves own = filter (λ row. not (voided_in own row.key)) (filter_map movement_recorded own)

is_record : (a : Action) (row : MoveRow) → movement_recorded a ≡ Some row → a ≡ Record row
is_record (Record new) row is = (cc)
is_record a row is = absurd (cc)

done_listed : (own : List Action) (row : MoveRow) → WasDone own row → Contains (unvoided_moves own) row
done_listed own row d =
    Contains-filter (λ (row : MoveRow). not (voided_in own row.key)) (filter_map movement_recorded own) row
    (Contains-filter_map movement_recorded own (Record row) row d.recorded refl) (ap not d.not_voided)

listed_done : (own : List Action) (row : MoveRow) → Contains (unvoided_moves own) row → WasDone own row
listed_done own row i =
    let kept = Contains-from_filter (λ (row : MoveRow). not (voided_in own row.key)) (filter_map movement_recorded own) row i in
    let recorded = Contains-from_filter_map movement_recorded own row kept.0 in
    record {
      recorded = subst (Contains own) (is_record recorded.0 row recorded.2) recorded.1;
      not_voided = not-true _ kept.1;
    }

abbrev pub drawn_here : List Action → List Edge
drawn_here own = drawn (unvoided_moves own)

drawn_own : (own : List Action) (e : Edge) → Contains (drawn_here own) e → IsOwnEdge own e
drawn_own own e i = drawn_same (Contains (unvoided_moves own)) (WasDone own) (listed_done own) e (listed_drawn (unvoided_moves own) e i)

own_drawn : (own : List Action) (e : Edge) → IsOwnEdge own e → Contains (drawn_here own) e
own_drawn own e is = drawn_listed (unvoided_moves own) e (drawn_same (WasDone own) (Contains (unvoided_moves own)) (done_listed own) e is)

-- two edges in the other order
pub edges_swapped : (x y e : Edge) → Contains (x ∷ y ∷ []) e → Contains (y ∷ x ∷ []) e
edges_swapped x y e i = elim (Contains-cases x (y ∷ []) e i) [
  | inl is ↦ subst (Contains (y ∷ x ∷ [])) is (Contains-later y (x ∷ []) x (Contains-here x []))
  | inr j ↦ elim (Contains-cases y [] e j) [
    | inl is ↦ subst (Contains (y ∷ x ∷ [])) is (Contains-here y (x ∷ []))
    | inr k ↦ absurd (Contains-none e k)
  ]
]

module _ (own : List Action) (edges : List Edge) (to : (e : Edge) → Contains (drawn_here own) e → Contains edges e) (from : (e : Edge) → Contains edges e → Contains (drawn_here own) e) where
  pub edges_are_drawn : IsStrictlySortedBy edge_cmp edges → AreEdges (IsOwnEdge own) edges
  edges_are_drawn sorted = record {
    only = λ e i. drawn_own own e (from e i);
    every = λ e is. to e (own_drawn own e is);
    ordered = sorted;
  }

  -- ---- traces

  in_order : (lots : List LotId) → IsStrictlySortedBy lot_cmp lots → IsInOrder lot_cmp lots lots
  in_order lots sorted = record {
    ordered = sorted;
    none_new = λ b i. i;
    none_lost = λ b i. (i.0, b, i.1, i.2, ap is_eq (tied_itself lots_total b));
  }

  -- a trace of one level
  pub trace_of_a_level : (way : Way) (a : LotId) (lots : List LotId) → led_to edges way (step_at 0 a ∷ []) ≡ lots → IsStrictlySortedBy lot_cmp lots → led_to edges way (step_at 0 a ∷ map (step_at 1) lots) ≡ [] → IsTrace (IsOwnJoined own way) a (step_at 0 a ∷ map (step_at 1) lots)
  unfolding IsStrictlySortedBy
  trace_of_a_level way a lots next sorted end =
      trace_same (IsJoined edges way) (IsOwnJoined own way)
      (λ a b i. drawn_own own (edge_of way a b) (from (edge_of way a b) i))
      (λ a b is. to (edge_of way a b) (own_drawn own (edge_of way a b) is))
      a _ (trace_done (IsJoined edges way) a _ 1
      (reached_more (IsJoined edges way) a (step_at 0 a ∷ []) 0 lots (reached_start (IsJoined edges way) a)
      (level_by_edges edges way (step_at 0 a ∷ []) lots (subst (λ ls. IsInOrder lot_cmp ls lots) (sym next) (in_order lots sorted))))
      (level_by_edges edges way _ [] (subst (λ ls. IsInOrder lot_cmp ls []) (sym end) (in_order [] tt))))

-- the same, by the list of edges itself
pub trace_by_list : (own : List Action) (edges : List Edge) → drawn_here own ≡ edges → (way : Way) (a : LotId) (lots : List LotId) → led_to edges way (step_at 0 a ∷ []) ≡ lots → IsStrictlySortedBy lot_cmp lots → led_to edges way (step_at 0 a ∷ map (step_at 1) lots) ≡ [] → IsTrace (IsOwnJoined own way) a (step_at 0 a ∷ map (step_at 1) lots)
trace_by_list own edges are way a lots next sorted end =
    trace_of_a_level own edges (λ e i. subst (λ es. Contains es e) are i) (λ e i. subst (λ es. Contains es e) (sym are) i) way a lots next sorted end
