-- Graphs of owners, and the edges that they have together.
use Rattle.std.proofs.Common.{Bor, ◌≡◌, ◌↔◌, ◌⊎◌, ℕ, ◌+◌, ◌<◌, cond, length, get_or, take, drop, Bool, true, false, Some, None, List, [], ◌∷◌, ◌++◌, map, Result, Ok, Err, IfOk, Vec, Global, refl, sym, ap, subst, ◌∙◌, inl, inr, append-nil, Contains, filter, ◌||◌}
use Rattle.toll_trace.specs.Chain.{edge_of}
use Rattle.toll_trace.specs.Graph.{IsGraph, LeadAmong, Leads}
use Rattle.toll_trace.specs.Trace.{IsTrace}
use Rattle.toll_trace.specs.declared.graph.Graph.{Graph}
use Rattle.toll_trace.specs.declared.step.Step.{Step}
use Rattle.toll_trace.specs.declared.way.Way.{Way}
use Rattle.toll_trace.proofs.Members.{Contains-filter, Contains-from_filter, Contains-map, Contains-from_map}
use Rattle.toll_trace.proofs.Unique.{trace_same}
use Rattle.toll_base.specs.declared.lot.LotId.{LotId}
use Rattle.toll_keep.proofs.Common.{list_any, Bytes, same_bytes, same_bytes-exact, same_bytes-refl, Slice, empty_slice, IsEdge, Contains-none, Contains-cases, Contains-append_left, Contains-append_cases, Contains-push, Contains-push_cases, take_more, Edge, take-append-drop, Content, slice_of, knows, AreGraphsFor, AreGraphsOf, HasGraph, IsKnownGraph, IsEdgeOfOne, GivesTrace, map-append, or_right}
use Rattle.toll_keep.specs.declared.known_graph.KnownGraph.{KnownGraph}
use Rattle.toll_keep.proofs.DrawnStay.{drawn_any_member}
use Rattle.toll_keep.proofs.RememberedLemmas.{cached_known_slice, unknown_if_none}

-- ---- a graph of rows

pub known_of : (c : Content) (known : KnownGraph) (o : Bytes) (s : Slice) → known.owner ≡ o → c.rows o ≡ s → known.named ≡ s.owner → IsGraph (IsEdge s) known.graph → IsKnownGraph c known
known_of c known o s own rows named graph =
    let is : c.rows known.owner ≡ s = ap c.rows own ∙ rows in record {
      named = ap (λ (t : Slice). t.owner) is ∙ sym named;
      graph = subst (λ t. IsGraph (IsEdge t) known.graph) (sym is) graph;
    }

pub rows_there : (c : Content) (o : Bytes) (s : Slice) → slice_of c o ≡ Some s → c.rows o ≡ s
rows_there c o s there = (cached_known_slice (knows c o) (c.rows o) s there).1

pub no_rows_there : (c : Content) (o : Bytes) → (knows c o ≡ false → c.rows o ≡ empty_slice o) → slice_of c o ≡ None → c.rows o ≡ empty_slice o
no_rows_there c o only none = only (unknown_if_none (knows c o) (c.rows o) none)

-- ---- the graphs that are there

pub known_there : (graphs : List KnownGraph) (o : Bytes) → list_any (λ known. same_bytes known.owner o) graphs ≡ true → HasGraph graphs o
known_there graphs o h = let r = drawn_any_member (λ (known : KnownGraph). same_bytes known.owner o) graphs h in (r.0, r.1, same_bytes-exact r.0.owner o r.2)

pub still_has_graph : (graphs more : List KnownGraph) (o : Bytes) → HasGraph graphs o → HasGraph (graphs ++ more) o
still_has_graph graphs more o has = (has.0, Contains-append_left graphs more has.0 has.1, has.2)

pub has_pushed : (graphs : List KnownGraph) (known : KnownGraph) (o : Bytes) → known.owner ≡ o → HasGraph (graphs ++ known ∷ []) o
has_pushed graphs known o own = (known, Contains-push graphs known, own)

pub graphs_pushed : (c : Content) (graphs : List KnownGraph) (known : KnownGraph) → AreGraphsOf c graphs → IsKnownGraph c known → AreGraphsOf c (graphs ++ known ∷ [])
graphs_pushed c graphs known are is k i = elim (Contains-append_cases graphs (known ∷ []) k i) [
  | inl i ↦ are k i
  | inr i ↦ elim (Contains-cases known [] k i) [ inl same ↦ subst (IsKnownGraph c) same is | inr none ↦ absurd (Contains-none k none) ]
]

pub graphs_pushed_for : (os : List Bytes) (c : Content) (graphs : List KnownGraph) (known : KnownGraph) → AreGraphsFor os c graphs → (Contains os known.owner → IsKnownGraph c known) → AreGraphsFor os c (graphs ++ known ∷ [])
graphs_pushed_for os c graphs known are is k i own = elim (Contains-append_cases graphs (known ∷ []) k i) [
  | inl i ↦ are k i own
  | inr i ↦ elim (Contains-cases known [] k i) [ inl same ↦ subst (IsKnownGraph c) same (is (subst (λ (t : KnownGraph). Contains os t.owner) (sym same) own)) | inr none ↦ absurd (Contains-none k none) ]
]

-- ---- the graphs of some owners

learnt_any_of : {X : Type 0} (p : X → Bool) (xs : List X) (x : X) → Contains xs x → p x ≡ true → list_any p xs ≡ true
learnt_any_of p [] x i h = absurd (Contains-none x i)
learnt_any_of p (y ∷ xs) x i h = elim (Contains-cases y xs x i) [
  | inl same ↦ subst (λ b. (b || list_any p xs) ≡ true) (sym (ap p same ∙ h)) refl
  | inr later ↦ or_right (p y) (list_any p xs) (learnt_any_of p xs x later h)
]

-- the graphs of these owners
abbrev pub graphs_of : List Bytes → List KnownGraph → List Graph
graphs_of owners graphs = map (λ known. known.graph) (filter (λ known. list_any (same_bytes known.owner) owners) graphs)

pub lead_of_one : (c : Content) (owners : List Bytes) (graphs : List KnownGraph) → AreGraphsFor owners c graphs → ((o : Bytes) → Contains owners o → HasGraph graphs o) → (way : Way) (from : LotId) (steps : List Step) → IsTrace (LeadAmong (graphs_of owners graphs) way) from steps → IsTrace (λ a b. IsEdgeOfOne c owners (edge_of way a b)) from steps
lead_of_one c owners graphs are each way from steps traced = trace_same (LeadAmong (graphs_of owners graphs) way) (λ a b. IsEdgeOfOne c owners (edge_of way a b)) to back from steps traced
  where
    chosen : KnownGraph → Bool
    chosen known = list_any (same_bytes known.owner) owners

    to : (a b : LotId) → LeadAmong (graphs_of owners graphs) way a b → IsEdgeOfOne c owners (edge_of way a b)
    to a b leads =
        let r = Contains-from_map (λ (known : KnownGraph). known.graph) (filter chosen graphs) leads.0 leads.1 in
        let there = Contains-from_filter chosen graphs r.0 r.1 in
        let o = drawn_any_member (same_bytes r.0.owner) owners there.1 in
        let own : r.0.owner ≡ o.0 = same_bytes-exact r.0.owner o.0 o.2 in
        let named = subst (Contains owners) (sym own) o.1 in
        record {
          owner = r.0.owner;
          named = named;
          edge = (are r.0 there.0 named).graph.only way a b (subst (λ g. Leads g way a b) (sym r.2) leads.2);
        }

    back : (a b : LotId) → IsEdgeOfOne c owners (edge_of way a b) → LeadAmong (graphs_of owners graphs) way a b
    back a b edge =
        let (known, there, own) = each edge.owner edge.named in
        let test : chosen known ≡ true = learnt_any_of (same_bytes known.owner) owners edge.owner edge.named (ap (same_bytes known.owner) (sym own) ∙ same_bytes-refl known.owner) in
        (known.graph, Contains-map (λ (k : KnownGraph). k.graph) (filter chosen graphs) known (Contains-filter chosen graphs known there test), (are known there (subst (Contains owners) (sym own) edge.named)).graph.every way a b (subst (λ o. IsEdge (c.rows o) (edge_of way a b)) (sym own) edge.edge))

pub gives_trace : {E : Type 0} (c : Content) (owners : List Bytes) (graphs : List KnownGraph) → AreGraphsFor owners c graphs → ((o : Bytes) → Contains owners o → HasGraph graphs o) → (way : Way) (from : LotId) (reported : Result (Vec Step Global) E) → IfOk reported (λ steps. IsTrace (LeadAmong (graphs_of owners graphs) way) from steps.items) → GivesTrace c owners from way reported
gives_trace c owners graphs are each way from (Ok steps) led = lead_of_one c owners graphs are each way from steps.items led
gives_trace c owners graphs are each way from (Err e) led = tt

-- ---- one more graph, or some of them dropped

filter_push : {X : Type 0} (p : X → Bool) (xs : List X) (x : X) (b : Bool) → p x ≡ b → filter p (xs ++ x ∷ []) ≡ filter p xs ++ cond b (x ∷ []) []
filter_push p [] x b e = ap (λ t. cond t (x ∷ []) []) e
filter_push p (y ∷ xs) x b e = elim (p y) as (λ t. cond t (y ∷ filter p (xs ++ x ∷ [])) (filter p (xs ++ x ∷ [])) ≡ cond t (y ∷ filter p xs) (filter p xs) ++ cond b (x ∷ []) []) [
  | true ↦ ap (λ zs. y ∷ zs) (filter_push p xs x b e)
  | false ↦ filter_push p xs x b e
]

pub graphs_more : (owners : List Bytes) (graphs : List KnownGraph) (i : ℕ) (known : KnownGraph) (b : Bool) → i < length graphs → known ≡ get_or graphs i known → list_any (same_bytes known.owner) owners ≡ b → graphs_of owners (take (i + 1) graphs) ≡ graphs_of owners (take i graphs) ++ cond b (known.graph ∷ []) []
graphs_more owners graphs i known b lt is e =
    let test = λ (k : KnownGraph). list_any (same_bytes k.owner) owners in
    ap (graphs_of owners) (take_more graphs i known lt ∙ ap (λ k. take i graphs ++ k ∷ []) (sym is))
    ∙ ap (map (λ (k : KnownGraph). k.graph)) (filter_push test (take i graphs) known b e)
    ∙ map-append (λ (k : KnownGraph). k.graph) (filter test (take i graphs)) (cond b (known ∷ []) [])
    ∙ ap (λ gs. graphs_of owners (take i graphs) ++ gs) (last b)
  where
    last : (b : Bool) → map (λ (k : KnownGraph). k.graph) (cond b (known ∷ []) []) ≡ cond b (known.graph ∷ []) []
    last true = refl
    last false = refl

pub graphs_taken : (c : Content) (graphs : List KnownGraph) (n : ℕ) → AreGraphsOf c graphs → AreGraphsOf c (take n graphs)
graphs_taken c graphs n are known i = are known (subst (λ gs. Contains gs known) (take-append-drop n graphs) (Contains-append_left (take n graphs) (drop n graphs) known i))

pub graphs_taken_for : (os : List Bytes) (c : Content) (graphs : List KnownGraph) (n : ℕ) → AreGraphsFor os c graphs → AreGraphsFor os c (take n graphs)
graphs_taken_for os c graphs n are known i = are known (subst (λ gs. Contains gs known) (take-append-drop n graphs) (Contains-append_left (take n graphs) (drop n graphs) known i))

pub chosen_more : (owners : List Bytes) (graphs : List KnownGraph) (i : ℕ) (known : KnownGraph) (refs : List (Bor Graph)) (ref : Bor Graph) → i < length graphs → known ≡ get_or graphs i known → list_any (same_bytes known.owner) owners ≡ true → ref.now ≡ known.graph → map (λ graph. graph.now) refs ≡ graphs_of owners (take i graphs) → map (λ graph. graph.now) (refs ++ ref ∷ []) ≡ graphs_of owners (take (i + 1) graphs)
chosen_more owners graphs i known refs ref lt is e shown before =
    map-append (λ (graph : Bor Graph). graph.now) refs (ref ∷ []) ∙ ap (λ g. map (λ (graph : Bor Graph). graph.now) refs ++ g ∷ []) shown ∙ ap (λ gs. gs ++ known.graph ∷ []) before ∙ sym (graphs_more owners graphs i known true lt is e)

pub chosen_same : (owners : List Bytes) (graphs : List KnownGraph) (i : ℕ) (known : KnownGraph) (refs : List (Bor Graph)) → i < length graphs → known ≡ get_or graphs i known → list_any (same_bytes known.owner) owners ≡ false → map (λ graph. graph.now) refs ≡ graphs_of owners (take i graphs) → map (λ graph. graph.now) refs ≡ graphs_of owners (take (i + 1) graphs)
chosen_same owners graphs i known refs lt is e before = before ∙ sym (graphs_more owners graphs i known false lt is e ∙ append-nil (graphs_of owners (take i graphs)))

-- ---- the records of some owners

pub drawn_none : (c : Content) (none : Edge → Type 0) → ((e : Edge) → none e → ⊥) → (e : Edge) → none e ↔ IsEdgeOfOne c [] e
drawn_none c none not e = (λ drawn. absurd (not e drawn), λ edge. absurd (Contains-none edge.owner edge.named))

pub drawn_more : (c : Content) (owners : List Bytes) (i : ℕ) (o : Bytes) (old new : Edge → Type 0) → i < length owners → o ≡ get_or owners i o → ((e : Edge) → old e ↔ IsEdgeOfOne c (take i owners) e) → ((e : Edge) → new e ↔ (old e ⊎ IsEdge (c.rows o) e)) → (e : Edge) → new e ↔ IsEdgeOfOne c (take (i + 1) owners) e
drawn_more c owners i o old new lt is before more e = (to, back)
  where
    grown : take (i + 1) owners ≡ take i owners ++ o ∷ []
    grown = take_more owners i o lt ∙ ap (λ p. take i owners ++ p ∷ []) (sym is)

    to : new e → IsEdgeOfOne c (take (i + 1) owners) e
    to drawn = subst (λ os. IsEdgeOfOne c os e) (sym grown) (elim ((more e).0 drawn) [
      | inl was ↦ let r = (before e).0 was in record { owner = r.owner; named = Contains-append_left (take i owners) (o ∷ []) r.owner r.named; edge = r.edge }
      | inr edge ↦ record { owner = o; named = Contains-push (take i owners) o; edge = edge }
    ])

    back : IsEdgeOfOne c (take (i + 1) owners) e → new e
    back edge = (more e).1 (elim (Contains-push_cases (take i owners) o edge.owner (subst (λ os. Contains os edge.owner) grown edge.named)) [
      | inl was ↦ inl ((before e).1 (record { owner = edge.owner; named = was; edge = edge.edge }))
      | inr same ↦ inr (subst (λ p. IsEdge (c.rows p) e) (sym same) edge.edge)
    ])

-- the trace over a graph of what the owners' records draw
pub gives_drawn_trace : {E : Type 0} (c : Content) (owners : List Bytes) (drawn : Edge → Type 0) (graph : Graph) → IsGraph drawn graph → ((e : Edge) → drawn e ↔ IsEdgeOfOne c owners e) → (way : Way) (from : LotId) (reported : Result (Vec Step Global) E) → IfOk reported (λ steps. IsTrace (Leads graph way) from steps.items) → GivesTrace c owners from way reported
gives_drawn_trace c owners drawn graph is same way from (Ok steps) led = trace_same (Leads graph way) (λ a b. IsEdgeOfOne c owners (edge_of way a b)) (λ a b l. (same (edge_of way a b)).0 (is.only way a b l)) (λ a b edge. is.every way a b ((same (edge_of way a b)).1 edge)) from steps.items led
gives_drawn_trace c owners drawn graph is same way from (Err e) led = tt
