-- What stands in a slice is what its owner did and didn't void, over each history whose rows it has.
use Rattle.std.proofs.Common.{◌≡◌, ℕ, ◌+◌, ◌≤◌, Bool, true, false, cond, Some, None, is_some, List, [], ◌∷◌, sym, ap, subst, ◌∙◌, inl, inr, arith, Contains}
use Rattle.toll_answers.proofs.Common.{Bytes, same_bytes, count, or_else, Action, Record, History, acts, movement_of, OwnerFacts, IsRowsOf, IsLawful, has_this_key, Edge, MoveRow, same_bytes-refl, found_once, Stands, IsEdge, AreEdges, Contains-none, Contains-here, Contains-later, Contains-cases, drawn_same, edges_same, WasDone, IsOwnEdge}
use Rattle.toll_base.specs.Slice.{Slice}

-- what a key finds was recorded
edge_found_recorded : (own : List Action) (key : Bytes) (row : MoveRow) → movement_of own key ≡ Some row → Contains own (Record row)
edge_found_recorded [] key row is = absurd (cc)
edge_found_recorded (Record new ∷ own) key row is =
    elim (same_bytes key new.key) as (λ b. or_else (cond b (Some new) None) (movement_of own key) ≡ Some row → Contains (Record new ∷ own) (Record row)) [
      | true ↦ λ is. let r : new ≡ row = (cc) in subst (λ x. Contains (Record new ∷ own) (Record x)) r (Contains-here (Record new) own)
      | false ↦ λ is. Contains-later (Record new) own (Record row) (edge_found_recorded own key row is)
    ] is
edge_found_recorded (a ∷ own) key row is = Contains-later a own (Record row) (edge_found_recorded own key row is)

-- a recorded movement is counted with its key
recorded_counts : (own : List Action) (row : MoveRow) → Contains own (Record row) → 1 ≤ count (has_this_key row.key) own
recorded_counts [] row i = absurd (Contains-none (Record row) i)
recorded_counts (a ∷ own) row i = elim (Contains-cases a own (Record row) i) [
  | inl is ↦ subst (λ x. 1 ≤ cond (has_this_key row.key x) 1 0 + count (has_this_key row.key) own) (sym is)
      (subst (λ b. 1 ≤ cond b 1 0 + count (has_this_key row.key) own) (sym (same_bytes-refl row.key)) (omega arith))
  | inr later ↦ more (has_this_key row.key a) (count (has_this_key row.key) own) (recorded_counts own row later)
]
  where
    more : (b : Bool) (n : ℕ) → 1 ≤ n → 1 ≤ cond b 1 0 + n
    more true n one = omega arith
    more false n one = omega arith

-- where no other has its key, the key finds it
recorded_found : (own : List Action) (row : MoveRow) → count (has_this_key row.key) own ≤ 1 → Contains own (Record row) → movement_of own row.key ≡ Some row
recorded_found [] row once i = absurd (Contains-none (Record row) i)
recorded_found (Record new ∷ own) row once i = elim (Contains-cases (Record new) own (Record row) i) [
  | inl is ↦
      let same : new ≡ row = (cc) in
      subst (λ x. movement_of (Record x ∷ own) row.key ≡ Some row) (sym same)
      (ap (λ b. or_else (cond b (Some row) None) (movement_of own row.key)) (same_bytes-refl row.key))
  | inr later ↦ elim (same_bytes row.key new.key) as (λ b. cond b 1 0 + count (has_this_key row.key) own ≤ 1 → or_else (cond b (Some new) None) (movement_of own row.key) ≡ Some row) [
    | true ↦ λ once. let one = recorded_counts own row later in absurd (omega arith)
    | false ↦ λ once. recorded_found own row (omega arith) later
  ] once
]
recorded_found (a ∷ own) row once i = elim (Contains-cases a own (Record row) i) [
  | inl is ↦ absurd (cc)
  | inr later ↦ recorded_found own row (omega arith) later
]

edge_at_most_one : (b : Bool) (n : ℕ) → n ≡ cond b 1 0 → n ≤ 1
edge_at_most_one true n is = omega arith
edge_at_most_one false n is = omega arith

module _ (H : History) (s : Slice) (rows : IsRowsOf H s) where
  stands_was_done : (row : MoveRow) → Stands s row → WasDone (acts s.owner H) row
  stands_was_done row stands = record {
    recorded = edge_found_recorded (acts s.owner H) row.key row (sym (ap (λ (t : OwnerFacts). t.movement row.key) rows) ∙ stands.recorded);
    not_voided = sym (ap (λ (t : OwnerFacts). t.voided row.key) rows) ∙ stands.not_voided;
  }

  done_stands : IsLawful H → (row : MoveRow) → WasDone (acts s.owner H) row → Stands s row
  done_stands lawful row done =
      let once = edge_at_most_one (is_some (movement_of (acts s.owner H) row.key)) _ (found_once s.owner row.key H lawful) in
      record {
        recorded = ap (λ (t : OwnerFacts). t.movement row.key) rows ∙ recorded_found (acts s.owner H) row once done.recorded;
        not_voided = ap (λ (t : OwnerFacts). t.voided row.key) rows ∙ done.not_voided;
      }

  -- so they draw the same edges
  pub slice_edge_is_own : (e : Edge) → IsEdge s e → IsOwnEdge (acts s.owner H) e
  slice_edge_is_own = drawn_same (Stands s) (WasDone (acts s.owner H)) stands_was_done

  pub own_edge_is_slices : IsLawful H → (e : Edge) → IsOwnEdge (acts s.owner H) e → IsEdge s e
  own_edge_is_slices lawful = drawn_same (WasDone (acts s.owner H)) (Stands s) (done_stands lawful)

  pub slice_edges_are_own : IsLawful H → (edges : List Edge) → AreEdges (IsEdge s) edges → AreEdges (IsOwnEdge (acts s.owner H)) edges
  slice_edges_are_own lawful edges are = edges_same (IsEdge s) (IsOwnEdge (acts s.owner H)) slice_edge_is_own (own_edge_is_slices lawful) edges are
