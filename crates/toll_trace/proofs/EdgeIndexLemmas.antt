-- A joint for each edge.
use Rattle.std.proofs.Common.{◌≡◌, ◌↔◌, ℕ, ◌+◌, ◌<◌, ◌≤◌, List, [], ◌∷◌, ◌++◌, length, get_or, take, refl, sym, ap, ap₂, ◌∙◌, subst, inl, inr, arith, Contains}
use Rattle.toll_trace.proofs.Common.{IsPermutation, Contains-permutation, IsPermutation-sym, take_all, Contains-append_left, Contains-append_right, Contains-append_cases, IsStrictlySortedBy, LotId, lot_cmp, Edge, get_or_append_left, get_or_default, get_or_push, length_push, Span, Step, Way, Back, Forward, step_ends, edge_of, IsJoined, IsGraphOf, Leads, IsInOrder, leaving, AreWithin, LeadsThrough, AreBelow, IsNumber, IsTrace}
use Rattle.toll_trace.specs.declared.graph.Graph.{Graph}
use Rattle.toll_trace.proofs.Ends.{ends_of, edge_of_ends}
use Rattle.toll_trace.proofs.Members.{Contains-none, Contains-here, Contains-cases, kept_in_order}
use Rattle.toll_trace.proofs.Numbering.{one_lot_numbered}
use Rattle.toll_trace.proofs.Orders.{lots_exact}
use Rattle.toll_trace.proofs.Unique.{trace_same}
use Rattle.toll_trace.proofs.Walks.{at_from_range, range_from_at, with_item}

-- the span of one joint
abbrev pub joint : ℕ → Span
joint k = record { start = k; end = k + 1 }

-- These lots have both ends of each edge.
pub record HasEnds (edges : List Edge) (lots : List LotId) : Type 0 where
  pub from : (e : Edge) → Contains edges e → Contains lots e.from
  pub to : (e : Edge) → Contains edges e → Contains lots e.to

pub ends_none : HasEnds [] []
ends_none = record { from = λ e i. absurd (Contains-none e i); to = λ e i. absurd (Contains-none e i) }

pub ends_more : (edges : List Edge) (lots : List LotId) (e : Edge) → HasEnds edges lots → HasEnds (edges ++ e ∷ []) ((lots ++ e.from ∷ []) ++ e.to ∷ [])
ends_more edges lots e has = record {
  from = λ f i. elim (Contains-append_cases edges (e ∷ []) f i) [
    | inl i ↦ Contains-append_left (lots ++ e.from ∷ []) (e.to ∷ []) f.from (Contains-append_left lots (e.from ∷ []) f.from (has.from f i))
    | inr i ↦ elim (Contains-cases e [] f i) [
      | inl same ↦ Contains-append_left (lots ++ e.from ∷ []) (e.to ∷ []) f.from (Contains-append_right lots (e.from ∷ []) f.from (subst (λ (g : Edge). Contains (e.from ∷ []) g.from) same (Contains-here e.from [])))
      | inr none ↦ absurd (Contains-none f none)
    ]
  ];
  to = λ f i. elim (Contains-append_cases edges (e ∷ []) f i) [
    | inl i ↦ Contains-append_left (lots ++ e.from ∷ []) (e.to ∷ []) f.to (Contains-append_left lots (e.from ∷ []) f.to (has.to f i))
    | inr i ↦ elim (Contains-cases e [] f i) [
      | inl same ↦ Contains-append_right (lots ++ e.from ∷ []) (e.to ∷ []) f.to (subst (λ (g : Edge). Contains (e.to ∷ []) g.to) same (Contains-here e.to []))
      | inr none ↦ absurd (Contains-none f none)
    ]
  ];
}

pub ends_in_order : (edges : List Edge) (lots sorted : List LotId) → HasEnds edges lots → IsInOrder lot_cmp lots sorted → (e : Edge) → Contains edges e → Contains sorted e.from × Contains sorted e.to
ends_in_order edges lots sorted has order e i = (kept_in_order lot_cmp lots_exact lots sorted order e.from (has.from e i), kept_in_order lot_cmp lots_exact lots sorted order e.to (has.to e i))

-- The lots at the ends of a step along the edge are in the list.
ends_listed : (way : Way) (lots : List LotId) (e : Edge) → Contains lots e.from × Contains lots e.to → Contains lots (step_ends way e).0 × Contains lots (step_ends way e).1
ends_listed Back lots e has = (has.1, has.0)
ends_listed Forward lots e has = has

-- The entries and exits are those of the first n edges, with a joint for each.
pub record AreOfEdges (lots : List LotId) (edges : List Edge) (way : Way) (n : ℕ) (sources : List (ℕ × Span)) (targets : List ℕ) : Type 0 where
  pub below : AreBelow (length lots) targets
  pub only : (entry : ℕ × Span) → Contains sources entry → (k : ℕ) × (k < length targets) × (entry.1 ≡ joint k) × ((e : Edge) × Contains edges e × IsNumber lots entry.0 (step_ends way e).0 × IsNumber lots (get_or targets k 0) (step_ends way e).1)
  pub every : (e : Edge) → Contains (take n edges) e → (k : ℕ) × (from : ℕ) × (k < length targets) × Contains sources (from, joint k) × IsNumber lots from (step_ends way e).0 × IsNumber lots (get_or targets k 0) (step_ends way e).1

pub edges_none : (lots : List LotId) (edges : List Edge) (way : Way) → AreOfEdges lots edges way 0 [] []
edges_none lots edges way = record {
  below = λ n i. absurd (Contains-none n i);
  only = λ entry i. absurd (Contains-none entry i);
  every = λ e i. absurd (Contains-none e i);
}

module _ (lots : List LotId) (edges : List Edge) (way : Way) (n : ℕ) (e : Edge) (sources : List (ℕ × Span)) (targets : List ℕ) (lt : n < length edges) (is : e ≡ get_or edges n e) (old : AreOfEdges lots edges way n sources targets) (from to : ℕ) (at_from : IsNumber lots from (step_ends way e).0) (at_to : IsNumber lots to (step_ends way e).1) where
  joint_room : (k : ℕ) → k < length targets → k < length (targets ++ to ∷ [])
  joint_room k lt = let l = length_push targets to in omega arith

  last : length targets < length (targets ++ to ∷ [])
  last = let l = length_push targets to in omega arith

  its_exit : IsNumber lots (get_or (targets ++ to ∷ []) (length targets) 0) (step_ends way e).1
  its_exit = subst (λ m. IsNumber lots m (step_ends way e).1) (sym (get_or_push targets to 0 (length targets) refl)) at_to

  joint_still : (k : ℕ) (lot : LotId) → k < length targets → IsNumber lots (get_or targets k 0) lot → IsNumber lots (get_or (targets ++ to ∷ []) k 0) lot
  joint_still k lot in_exits at = subst (λ m. IsNumber lots m lot) (sym (get_or_append_left targets (to ∷ []) 0 k in_exits)) at

  pub edges_more : AreOfEdges lots edges way (n + 1) (sources ++ (from, joint (length targets)) ∷ []) (targets ++ to ∷ [])
  edges_more = record {
    below = λ m i. elim (Contains-append_cases targets (to ∷ []) m i) [
      | inl i ↦ old.below m i
      | inr i ↦ elim (Contains-cases to [] m i) [ inl same ↦ subst (λ k. k < length lots) same at_to.0 | inr none ↦ absurd (Contains-none m none) ]
    ];
    only = λ entry i. elim (Contains-append_cases sources ((from, joint (length targets)) ∷ []) entry i) [
      | inl i ↦ let r = old.only entry i in (r.0, joint_room r.0 r.1, r.2, (r.3.0, r.3.1, r.3.2, joint_still r.0 (step_ends way r.3.0).1 r.1 r.3.3))
      | inr i ↦ elim (Contains-cases (from, joint (length targets)) [] entry i) [
        | inl same ↦ (length targets, last, sym (ap (λ (p : ℕ × Span). p.1) same), (e, (n, lt, sym is), subst (λ (p : ℕ × Span). IsNumber lots p.0 (step_ends way e).0) same at_from, its_exit))
        | inr none ↦ absurd (Contains-none entry none)
      ]
    ];
    every = λ f i. elim (Contains-append_cases (take n edges) (e ∷ []) f (subst (λ es. Contains es f) (with_item edges n e lt is) i)) [
      | inl i ↦ let r = old.every f i in (r.0, r.1, joint_room r.0 r.2, Contains-append_left sources ((from, joint (length targets)) ∷ []) (r.1, joint r.0) r.3, r.4, joint_still r.0 (step_ends way f).1 r.2 r.5)
      | inr i ↦ elim (Contains-cases e [] f i) [
        | inl same ↦ subst (λ g. (k : ℕ) × (m : ℕ) × (k < length (targets ++ to ∷ [])) × Contains (sources ++ (from, joint (length targets)) ∷ []) (m, joint k) × IsNumber lots m (step_ends way g).0 × IsNumber lots (get_or (targets ++ to ∷ []) k 0) (step_ends way g).1) same
            (length targets, from, last, Contains-append_right sources ((from, joint (length targets)) ∷ []) (from, joint (length targets)) (Contains-here (from, joint (length targets)) []), at_from, its_exit)
        | inr none ↦ absurd (Contains-none f none)
      ]
    ];
  }

module _ (lots : List LotId) (sorted : IsStrictlySortedBy lot_cmp lots) (edges : List Edge) (way : Way) (n : ℕ) (sources index : List (ℕ × Span)) (targets : List ℕ) (all : length edges ≤ n) (old : AreOfEdges lots edges way n sources targets) (moved : IsPermutation sources index) where
  joint_listed : (entry : ℕ × Span) → Contains index entry → Contains sources entry
  joint_listed entry i = Contains-permutation index sources entry (IsPermutation-sym sources index moved) i

  pub edges_within : AreWithin targets index
  edges_within entry i = let r = old.only entry (joint_listed entry i) in subst (λ (s : Span). s.end ≤ length targets) (sym r.2) (let lt = r.1 in omega arith)

  pub edges_joined : (a b : LotId) → ((m : ℕ) × (o : ℕ) × IsNumber lots m a × IsNumber lots o b × LeadsThrough index targets m o) ↔ IsJoined edges way a b
  edges_joined a b = (to, from)
    where
      to : (m : ℕ) × (o : ℕ) × IsNumber lots m a × IsNumber lots o b × LeadsThrough index targets m o → IsJoined edges way a b
      to (m, o, at_m, at_o, leads) =
          let r = old.only (m, leads.0) (joint_listed (m, leads.0) leads.1) in
          let e = r.3.0 in
          let (k, ge, lt, in_exits, at) = at_from_range targets r.0 (r.0 + 1) o (subst (λ (s : Span). Contains (leaving targets s) o) r.2 leads.2) in
          let same : k ≡ r.0 = omega arith in
          let its : get_or targets r.0 0 ≡ o = get_or_default targets r.0 0 o r.1 ∙ ap (λ p. get_or targets p o) (sym same) ∙ at in
          let left : (step_ends way e).0 ≡ a = one_lot_numbered lots m (step_ends way e).0 a r.3.2 at_m in
          let right : (step_ends way e).1 ≡ b = one_lot_numbered lots o (step_ends way e).1 b (subst (λ q. IsNumber lots q (step_ends way e).1) its r.3.3) at_o in
          let is : e ≡ edge_of way a b = sym (edge_of_ends way e) ∙ ap₂ (edge_of way) left right in
          subst (Contains edges) is r.3.1

      from : IsJoined edges way a b → (m : ℕ) × (o : ℕ) × IsNumber lots m a × IsNumber lots o b × LeadsThrough index targets m o
      from i =
          let r = old.every (edge_of way a b) (subst (λ es. Contains es (edge_of way a b)) (sym (take_all n edges all)) i) in
          let two = ends_of way a b in
          let left : (step_ends way (edge_of way a b)).0 ≡ a = ap (λ (p : LotId × LotId). p.0) two in
          let right : (step_ends way (edge_of way a b)).1 ≡ b = ap (λ (p : LotId × LotId). p.1) two in
          let entry : Contains index (r.1, joint r.0) = Contains-permutation sources index (r.1, joint r.0) moved r.3 in
          let out : Contains (leaving targets (joint r.0)) (get_or targets r.0 0) = range_from_at targets r.0 (r.0 + 1) r.0 (get_or targets r.0 0) (omega arith) (omega arith) r.2 (get_or_default targets r.0 (get_or targets r.0 0) 0 r.2) in
          (r.1, get_or targets r.0 0, subst (IsNumber lots r.1) left r.4, subst (IsNumber lots (get_or targets r.0 0)) right r.5, (joint r.0, entry, out))

-- An edge of the list has both its numbers.
pub has_both : (lots : List LotId) (edges : List Edge) (way : Way) (e : Edge) → ((e : Edge) → Contains edges e → Contains lots e.from × Contains lots e.to) → Contains edges e → Contains lots (step_ends way e).0 × Contains lots (step_ends way e).1
has_both lots edges way e has i = ends_listed way lots e (has e i)

-- ==== what a graph of edges joins

pub trace_of_graph : (edges : List Edge) (graph : Graph) → IsGraphOf edges graph → (way : Way) (from : LotId) (trace : List Step) → IsTrace (Leads graph way) from trace → IsTrace (IsJoined edges way) from trace
trace_of_graph edges graph of_edges way from trace t = trace_same (Leads graph way) (IsJoined edges way) (of_edges.only way) (of_edges.every way) from trace t

pub graph_of : (edges : List Edge) (graph : Graph) → ((a b : LotId) → Leads graph Back a b ↔ IsJoined edges Back a b) → ((a b : LotId) → Leads graph Forward a b ↔ IsJoined edges Forward a b) → IsGraphOf edges graph
graph_of edges graph back forward = record { only = only; every = every }
  where
    only : (way : Way) (a b : LotId) → Leads graph way a b → IsJoined edges way a b
    only Back a b = (back a b).0
    only Forward a b = (forward a b).0

    every : (way : Way) (a b : LotId) → IsJoined edges way a b → Leads graph way a b
    every Back a b = (back a b).1
    every Forward a b = (forward a b).1
