-- A trace is the only one, and depends on nothing but which lots an edge joins; and so are the edges of movements.
use Rattle.std.proofs.Common.{◌≡◌, ℕ, zero, suc, List, sym, ap₂, subst, arith, Contains}
use Rattle.toll_trace.proofs.Common.{LotId, Edge, MoveRow, Step, IsChain, IsTrace, IsDrawn, AreEdges}
use Rattle.toll_trace.specs.Order.{step_cmp}
use Rattle.toll_trace.proofs.Members.{Contains-from_map, same_sorted}
use Rattle.toll_trace.proofs.Orders.{steps_total}

pub chain_same : (E F : LotId → LotId → Type 0) → ((a b : LotId) → E a b → F a b) → (a : LotId) (n : ℕ) (b : LotId) → IsChain E a n b → IsChain F a n b
chain_same E F to a zero b c = c
chain_same E F to a (suc n) b c = (c.0, chain_same E F to a n c.0 c.1, to c.0 b c.2)

-- If the same lots are joined, the trace is the same.
pub trace_same : (E F : LotId → LotId → Type 0) → ((a b : LotId) → E a b → F a b) → ((a b : LotId) → F a b → E a b) → (a : LotId) (trace : List Step) → IsTrace E a trace → IsTrace F a trace
trace_same E F to from a trace t = record {
  only = λ s i. chain_same E F to a s.steps s.lot (t.only s i);
  fewest = λ s i n c. t.fewest s i n (chain_same F E from a n s.lot c);
  every = λ b n c. t.every b n (chain_same F E from a n b c);
  ordered = t.ordered;
}

pub trace_unique : (E : LotId → LotId → Type 0) (a : LotId) (x y : List Step) → IsTrace E a x → IsTrace E a y → x ≡ y
trace_unique E a x y tx ty = same_sorted step_cmp steps_total x y tx.ordered ty.ordered (λ s i. also x y tx ty s i) (λ s i. also y x ty tx s i)
  where
    also : (v w : List Step) → IsTrace E a v → IsTrace E a w → (s : Step) → Contains v s → Contains w s
    also v w tv tw s i =
        let t = Contains-from_map (λ (t : Step). t.lot) w s.lot (tw.every s.lot s.steps (tv.only s i)) in
        let to_t = subst (λ l. IsChain E a t.0.steps l) t.2 (tw.only t.0 t.1) in
        let to_s = subst (λ l. IsChain E a s.steps l) (sym t.2) (tv.only s i) in
        let le = tv.fewest s i t.0.steps to_t in
        let ge = tw.fewest t.0 t.1 s.steps to_s in
        let same : t.0.steps ≡ s.steps = omega arith in
        let is : t.0 ≡ s = ap₂ {C = Step} (λ n l. record { steps = n; lot = l }) same t.2 in
        subst (Contains w) is t.1

-- If the same movements stand in both senses, the same edges are drawn.
pub drawn_same : (S T : MoveRow → Type 0) → ((row : MoveRow) → S row → T row) → (e : Edge) → IsDrawn S e → IsDrawn T e
drawn_same S T to e fed = record {
  order = fed.order;
  number = fed.number;
  consumption = fed.consumption;
  production = fed.production;
  consumed_in = fed.consumed_in;
  produced_in = fed.produced_in;
  consumption_stands = to fed.consumption fed.consumption_stands;
  production_stands = to fed.production fed.production_stands;
  consumes = fed.consumes;
  produces = fed.produces;
  not_above = fed.not_above;
}

pub edges_same : (P Q : Edge → Type 0) → ((e : Edge) → P e → Q e) → ((e : Edge) → Q e → P e) → (edges : List Edge) → AreEdges P edges → AreEdges Q edges
edges_same P Q to from edges are = record {
  only = λ e i. to e (are.only e i);
  every = λ e q. are.every e (from e q);
  ordered = are.ordered;
}
