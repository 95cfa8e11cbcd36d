-- The records of several slices draw the edges of each.
use Rattle.std.proofs.Common.{◌≡◌, ◌↔◌, ◌⊎◌, ℕ, ◌+◌, ◌<◌, List, [], ◌++◌, map, length, refl, sym, ap, ◌∙◌, subst, inl, inr, arith, Contains}
use Rattle.toll_trace.proofs.Common.{length-append, length-map, Contains-append_left, Contains-append_right, Contains-append_cases, IsPermutation, Contains-permutation, IsPermutation-sym, bytes_cmp, lot_cmp, LotId, Edge, Consumed, Produced, LotUse, EdgeIndex, Way, Back, Forward, edge_of, IsActual, IsEdge, IsGraph, Leads, IsInOrder, LeadsThrough, AreBelow, HaveNumbers, IsNumber, HaveUsed, Chain, ChainSegment, placed_use, PassesThrough, AreSliceNumbersInRange, Batch, uses}
use Rattle.toll_base.specs.Slice.{Slice}
use Rattle.toll_base.specs.Table.{IsInKeyOrder}
use Rattle.toll_trace.specs.declared.graph.Graph.{Graph}
use Rattle.toll_trace.specs.Leads.{IsIndexedStep}
use Rattle.toll_trace.proofs.Drawn.{use_recorded, use_listed}
use Rattle.toll_trace.proofs.Members.{Contains-none, Contains-map, Contains-from_map, kept_in_order}
use Rattle.toll_trace.proofs.Numbering.{has_number, one_lot_numbered}
use Rattle.toll_trace.proofs.Orders.{lots_exact}

-- The consumptions and productions draw the edge.
abbrev pub AreDrawn : List (ChainSegment × LotId) → List (ChainSegment × LotId) → Edge → Type 0
AreDrawn consumptions productions e = PassesThrough Forward consumptions productions e.from e.to

pub nothing_drawn : (productions : List (ChainSegment × LotId)) (e : Edge) → AreDrawn [] productions e → ⊥
nothing_drawn productions e (u, v, i, j, left, right, same, above) = Contains-none u i

-- ==== the uses of one slice

pub slice_drawn : (s : Slice) (number : ℕ) → IsInKeyOrder bytes_cmp (λ row. row.key) s.moves → (e : Edge) → AreDrawn (map (placed_use number) (uses Consumed s)) (map (placed_use number) (uses Produced s)) e → IsEdge s e
slice_drawn s number order e (u, v, i, j, left, right, same, above) =
    let c = Contains-from_map (placed_use number) (uses Consumed s) u i in
    let p = Contains-from_map (placed_use number) (uses Produced s) v j in
    let consumption = use_recorded Consumed s c.0 order c.1 in
    let production = use_recorded Produced s p.0 order p.1 in
    let from : c.0.1.lot ≡ e.from = ap (λ (w : ChainSegment × LotId). w.1) c.2 ∙ left in
    let to : p.0.1.lot ≡ e.to = ap (λ (w : ChainSegment × LotId). w.1) p.2 ∙ right in
    let batch : p.0.0 ≡ c.0.0 = ap (λ (w : ChainSegment × LotId). w.0.0.1) p.2 ∙ sym (ap (λ (ch : Chain). ch.1) same) ∙ sym (ap (λ (w : ChainSegment × LotId). w.0.0.1) c.2) in
    let in_c : c.0.1.segment ≡ u.0.1 = ap (λ (w : ChainSegment × LotId). w.0.1) c.2 in
    let in_p : p.0.1.segment ≡ v.0.1 = ap (λ (w : ChainSegment × LotId). w.0.1) p.2 in
    record {
      order = c.0.0.0;
      number = c.0.0.1;
      consumption = consumption.0;
      production = production.0;
      consumed_in = c.0.1.segment;
      produced_in = p.0.1.segment;
      consumption_stands = consumption.1;
      production_stands = production.1;
      consumes = subst (λ l. IsActual c.0.0.0 c.0.0.1 c.0.1.segment Consumed l consumption.0) from consumption.2;
      produces = subst (λ l. IsActual c.0.0.0 c.0.0.1 p.0.1.segment Produced l production.0) to (subst (λ (b : Batch). IsActual b.0 b.1 p.0.1.segment Produced p.0.1.lot production.0) batch production.2);
      not_above = omega arith;
    }

pub drawn_of_slice : (s : Slice) (number : ℕ) (e : Edge) → IsEdge s e → AreDrawn (map (placed_use number) (uses Consumed s)) (map (placed_use number) (uses Produced s)) e
drawn_of_slice s number e drawn =
    let c : Batch × LotUse = ((drawn.order, drawn.number), record { segment = drawn.consumed_in; lot = e.from }) in
    let p : Batch × LotUse = ((drawn.order, drawn.number), record { segment = drawn.produced_in; lot = e.to }) in (
      placed_use number c,
      placed_use number p,
      Contains-map (placed_use number) (uses Consumed s) c (use_listed Consumed s drawn.consumption drawn.order drawn.number drawn.consumed_in e.from drawn.consumption_stands drawn.consumes),
      Contains-map (placed_use number) (uses Produced s) p (use_listed Produced s drawn.production drawn.order drawn.number drawn.produced_in e.to drawn.production_stands drawn.produces),
      refl,
      refl,
      refl,
      drawn.not_above,
    )

-- ==== a slice more

module _ (consumptions productions : List (ChainSegment × LotId)) (consumed produced : List (Batch × LotUse)) (n : ℕ) (is_n : n ≡ length consumptions + length productions) (numbered : AreSliceNumbersInRange consumptions productions) where
  its_number : (list : List (Batch × LotUse)) (u : ChainSegment × LotId) → Contains (map (placed_use n) list) u → (u.0.0.0 ≡ n) × (0 < length list)
  its_number list u (k, lt, at) =
      let r = Contains-from_map (placed_use n) list u (k, lt, at) in
      let m = length-map list (placed_use n) in
      (sym (ap (λ (w : ChainSegment × LotId). w.0.0.0) r.2), omega arith)

  pub all_numbered : AreSliceNumbersInRange (consumptions ++ map (placed_use n) consumed) (productions ++ map (placed_use n) produced)
  all_numbered u i =
      let lc = length-append consumptions (map (placed_use n) consumed) in
      let lp = length-append productions (map (placed_use n) produced) in
      let mc = length-map consumed (placed_use n) in
      let mp = length-map produced (placed_use n) in
      elim i [
        | inl i ↦ elim (Contains-append_cases consumptions (map (placed_use n) consumed) u i) [
          | inl old ↦ let lt = numbered u (inl old) in omega arith
          | inr new ↦ let r = its_number consumed u new in omega arith
        ]
        | inr i ↦ elim (Contains-append_cases productions (map (placed_use n) produced) u i) [
          | inl old ↦ let lt = numbered u (inr old) in omega arith
          | inr new ↦ let r = its_number produced u new in omega arith
        ]
      ]

  pub recording_drawn_more : (e : Edge) → AreDrawn (consumptions ++ map (placed_use n) consumed) (productions ++ map (placed_use n) produced) e → AreDrawn consumptions productions e ⊎ AreDrawn (map (placed_use n) consumed) (map (placed_use n) produced) e
  recording_drawn_more e (u, v, i, j, left, right, same, above) = elim (Contains-append_cases consumptions (map (placed_use n) consumed) u i) [
    | inl old_u ↦ elim (Contains-append_cases productions (map (placed_use n) produced) v j) [
      | inl old_v ↦ inl (u, v, old_u, old_v, left, right, same, above)
      | inr new_v ↦ absurd (let lt = numbered u (inl old_u) in let r = its_number produced v new_v in let one = ap (λ (ch : Chain). ch.0) same in omega arith)
    ]
    | inr new_u ↦ elim (Contains-append_cases productions (map (placed_use n) produced) v j) [
      | inl old_v ↦ absurd (let lt = numbered v (inr old_v) in let r = its_number consumed u new_u in let one = ap (λ (ch : Chain). ch.0) same in omega arith)
      | inr new_v ↦ inr (u, v, new_u, new_v, left, right, same, above)
    ]
  ]

  pub drawn_either : (e : Edge) → AreDrawn consumptions productions e ⊎ AreDrawn (map (placed_use n) consumed) (map (placed_use n) produced) e → AreDrawn (consumptions ++ map (placed_use n) consumed) (productions ++ map (placed_use n) produced) e
  drawn_either e (inl d) = (d.0, d.1, Contains-append_left consumptions (map (placed_use n) consumed) d.0 d.2, Contains-append_left productions (map (placed_use n) produced) d.1 d.3, d.4, d.5, d.6, d.7)
  drawn_either e (inr d) = (d.0, d.1, Contains-append_right consumptions (map (placed_use n) consumed) d.0 d.2, Contains-append_right productions (map (placed_use n) produced) d.1 d.3, d.4, d.5, d.6, d.7)

-- With the slice's uses, the records draw the slice's edges too.
pub recorded_more : (consumptions productions : List (ChainSegment × LotId)) (n : ℕ) (s : Slice) → n ≡ length consumptions + length productions → AreSliceNumbersInRange consumptions productions → IsInKeyOrder bytes_cmp (λ row. row.key) s.moves → (e : Edge) → AreDrawn (consumptions ++ map (placed_use n) (uses Consumed s)) (productions ++ map (placed_use n) (uses Produced s)) e ↔ (AreDrawn consumptions productions e ⊎ IsEdge s e)
recorded_more consumptions productions n s is_n numbered order e = (to, from)
  where
    to : AreDrawn (consumptions ++ map (placed_use n) (uses Consumed s)) (productions ++ map (placed_use n) (uses Produced s)) e → AreDrawn consumptions productions e ⊎ IsEdge s e
    to drawn = elim (recording_drawn_more consumptions productions (uses Consumed s) (uses Produced s) n is_n numbered e drawn) [ inl d ↦ inl d | inr d ↦ inr (slice_drawn s n order e d) ]

    from : AreDrawn consumptions productions e ⊎ IsEdge s e → AreDrawn (consumptions ++ map (placed_use n) (uses Consumed s)) (productions ++ map (placed_use n) (uses Produced s)) e
    from (inl d) = drawn_either consumptions productions (uses Consumed s) (uses Produced s) n is_n numbered e (inl d)
    from (inr d) = drawn_either consumptions productions (uses Consumed s) (uses Produced s) n is_n numbered e (inr (drawn_of_slice s n e d))

-- ==== the graph of the records

passes_back : (consumptions productions : List (ChainSegment × LotId)) (a b : LotId) → PassesThrough Back productions consumptions a b → PassesThrough Forward consumptions productions b a
passes_back consumptions productions a b (u, v, i, j, left, right, same, above) = (v, u, j, i, right, left, sym same, above)

passes_forward : (consumptions productions : List (ChainSegment × LotId)) (a b : LotId) → PassesThrough Forward consumptions productions b a → PassesThrough Back productions consumptions a b
passes_forward consumptions productions a b (u, v, i, j, left, right, same, above) = (v, u, j, i, right, left, sym same, above)

passes_moved : {X : Type 0} (way : Way) (entering moved leaving : List (ChainSegment × X)) → IsPermutation entering moved → (a b : X) → PassesThrough way moved leaving a b ↔ PassesThrough way entering leaving a b
passes_moved way entering moved leaving p a b = (to, from)
  where
    to : PassesThrough way moved leaving a b → PassesThrough way entering leaving a b
    to d = (d.0, d.1, Contains-permutation moved entering d.0 (IsPermutation-sym entering moved p) d.2, d.3, d.4, d.5, d.6, d.7)

    from : PassesThrough way entering leaving a b → PassesThrough way moved leaving a b
    from d = (d.0, d.1, Contains-permutation entering moved d.0 p d.2, d.3, d.4, d.5, d.6, d.7)

pub leads_passes : (way : Way) (lots : List LotId) (joints : EdgeIndex) (entering leaving : List (ChainSegment × LotId)) (in_numbers out_numbers : List (ChainSegment × ℕ)) → HaveNumbers lots entering in_numbers → HaveNumbers lots leaving out_numbers → ((u : ChainSegment × LotId) → Contains entering u → Contains lots u.1) → ((v : ChainSegment × LotId) → Contains leaving v → Contains lots v.1) → ((m n : ℕ) → LeadsThrough joints.sources joints.targets.items m n ↔ PassesThrough way in_numbers out_numbers m n) → (a b : LotId) → IsIndexedStep lots joints a b ↔ PassesThrough way entering leaving a b
leads_passes way lots joints entering leaving in_numbers out_numbers ins outs ins_listed outs_listed joined a b = (to, from)
  where
    to : IsIndexedStep lots joints a b → PassesThrough way entering leaving a b
    to (m, n, at_m, at_n, through) =
        let (u, v, i, j, left, right, same, above) = (joined m n).0 through in
        let x = ins.only u i in
        let y = outs.only v j in
        ((u.0, x.0), (v.0, y.0), x.2, y.2, one_lot_numbered lots m x.0 a (subst (λ k. IsNumber lots k x.0) left x.1) at_m, one_lot_numbered lots n y.0 b (subst (λ k. IsNumber lots k y.0) right y.1) at_n, same, above)

    from : PassesThrough way entering leaving a b → IsIndexedStep lots joints a b
    from (u, v, i, j, left, right, same, above) =
        let m = has_number lots u.1 (ins_listed u i) in
        let n = has_number lots v.1 (outs_listed v j) in
        (m.0, n.0, subst (λ l. IsNumber lots m.0 l) left m.1, subst (λ l. IsNumber lots n.0 l) right n.1, (joined m.0 n.0).1 ((u.0, m.0), (v.0, n.0), ins.every u m.0 i m.1, outs.every v n.0 j n.1, refl, refl, same, above))

pub graph_drawn : (consumptions productions : List (ChainSegment × LotId)) (graph : Graph) → ((a b : LotId) → Leads graph Forward a b ↔ PassesThrough Forward consumptions productions a b) → ((a b : LotId) → Leads graph Back a b ↔ PassesThrough Back productions consumptions a b) → IsGraph (AreDrawn consumptions productions) graph
graph_drawn consumptions productions graph forward back = record { only = only; every = every }
  where
    only : (way : Way) (a b : LotId) → Leads graph way a b → AreDrawn consumptions productions (edge_of way a b)
    only Back a b l = passes_back consumptions productions a b ((back a b).0 l)
    only Forward a b l = (forward a b).0 l

    every : (way : Way) (a b : LotId) → AreDrawn consumptions productions (edge_of way a b) → Leads graph way a b
    every Back a b d = (back a b).1 (passes_forward consumptions productions a b d)
    every Forward a b d = (forward a b).1 d

-- the joints after the uses were moved
pub joined_moved : (way : Way) (joints : EdgeIndex) (entering moved leaving : List (ChainSegment × ℕ)) → IsPermutation entering moved → ((m n : ℕ) → LeadsThrough joints.sources joints.targets.items m n ↔ PassesThrough way moved leaving m n) → (m n : ℕ) → LeadsThrough joints.sources joints.targets.items m n ↔ PassesThrough way entering leaving m n
joined_moved way joints entering moved leaving p joined m n = ((λ l. (passes_moved way entering moved leaving p m n).0 ((joined m n).0 l)), (λ d. (joined m n).1 ((passes_moved way entering moved leaving p m n).1 d)))

-- Each exit is the number of a lot that leaves.
pub exits_below : (lots : List LotId) (leaving : List (ChainSegment × LotId)) (out_numbers : List (ChainSegment × ℕ)) (targets : List ℕ) → HaveNumbers lots leaving out_numbers → ((n : ℕ) → Contains targets n → (v : ChainSegment × ℕ) × Contains out_numbers v × (v.1 ≡ n)) → AreBelow (length lots) targets
exits_below lots leaving out_numbers targets outs of_uses n i = let r = of_uses n i in let y = outs.only r.0 r.1 in subst (λ k. k < length lots) r.2 y.1.0

-- The lots in order include each lot that is used.
pub used_in_order : (consumptions productions : List (ChainSegment × LotId)) (sorted : List LotId) → IsInOrder lot_cmp (map (λ u. u.1) consumptions ++ map (λ u. u.1) productions) sorted → HaveUsed consumptions productions sorted
used_in_order consumptions productions sorted order =
    let left = map (λ (u : ChainSegment × LotId). u.1) consumptions in
    let right = map (λ (u : ChainSegment × LotId). u.1) productions in
    record {
      consumed = λ u i. kept_in_order lot_cmp lots_exact (left ++ right) sorted order u.1 (Contains-append_left left right u.1 (Contains-map (λ (u : ChainSegment × LotId). u.1) consumptions u i));
      produced = λ u i. kept_in_order lot_cmp lots_exact (left ++ right) sorted order u.1 (Contains-append_right left right u.1 (Contains-map (λ (u : ChainSegment × LotId). u.1) productions u i));
    }

-- A graph of these edges is also one of equal edges.
pub graph_same : (P Q : Edge → Type 0) → ((e : Edge) → P e → Q e) → ((e : Edge) → Q e → P e) → (graph : Graph) → IsGraph P graph → IsGraph Q graph
graph_same P Q to from graph is = record { only = λ way a b l. to (edge_of way a b) (is.only way a b l); every = λ way a b q. is.every way a b (from (edge_of way a b) q) }
