-- Traces over several graphs.
use Rattle.std.proofs.Common.{◌≡◌, List, [], ◌∷◌, ◌++◌, map, sym, ap, ap₂, ◌∙◌, subst, inl, inr, Contains}
use Rattle.toll_trace.proofs.Common.{Contains-append_cases, LotId, map_push, EdgeIndex, Part, Step, Way, Leads, LeadAmong, joints_of, is_found, IsTrace, IsWalked, LeadThrough, all_steps}
use Rattle.toll_trace.specs.declared.graph.Graph.{Graph}
use Rattle.toll_trace.specs.Leads.{IsIndexedStep}
use Rattle.toll_trace.proofs.Members.{Contains-none, Contains-here, Contains-cases, Contains-map, Contains-from_map}
use Rattle.toll_trace.proofs.Unique.{trace_same}

-- the lots and the joints of the graph in this direction
abbrev pub among_steps_of : Way → Graph → List LotId × EdgeIndex
among_steps_of way graph = (graph.lots.items, joints_of way graph)

-- The parts are those of the graphs in this direction. None of their joints was walked, and nothing was found.
pub record ArePartsOf (way : Way) (from : LotId) (graphs : List Graph) (parts : List Part) : Type 0 where
  pub all : all_steps parts ≡ map (among_steps_of way) graphs
  pub walked : (part : Part) → Contains parts part → IsWalked (is_found []) (from ∷ []) part

pub one_part_more : (way : Way) (from : LotId) (graphs : List Graph) (parts : List Part) (graph : Graph) (part : Part) → ArePartsOf way from graphs parts → part.lots.now ≡ graph.lots.items → part.joints.now ≡ joints_of way graph → IsWalked (is_found []) (from ∷ []) part → ArePartsOf way from (graphs ++ graph ∷ []) (parts ++ part ∷ [])
one_part_more way from graphs parts graph part old lots joints walked = record {
  all =
      map_push (λ (p : Part). (p.lots.now, p.joints.now)) parts part
      ∙ ap (λ all. all ++ (part.lots.now, part.joints.now) ∷ []) old.all
      ∙ ap (λ one. map (among_steps_of way) graphs ++ one ∷ []) (ap₂ {C = List LotId × EdgeIndex} (λ l j. (l, j)) lots joints)
      ∙ sym (map_push (among_steps_of way) graphs graph);
  walked = λ p i. elim (Contains-append_cases parts (part ∷ []) p i) [
    | inl i ↦ old.walked p i
    | inr i ↦ elim (Contains-cases part [] p i) [
      | inl same ↦ subst (λ p. IsWalked (is_found []) (from ∷ []) p) same walked
      | inr none ↦ absurd (Contains-none p none)
    ]
  ];
}

pub among_trace : (way : Way) (graphs : List Graph) (parts : List Part) (from : LotId) (trace : List Step) → all_steps parts ≡ map (among_steps_of way) graphs → IsTrace (LeadThrough (all_steps parts)) from trace → IsTrace (LeadAmong graphs way) from trace
among_trace way graphs parts from trace same traced = trace_same (LeadThrough (all_steps parts)) (LeadAmong graphs way) to back from trace traced
  where
    to : (a b : LotId) → LeadThrough (all_steps parts) a b → LeadAmong graphs way a b
    to a b leads =
        let g = Contains-from_map (among_steps_of way) graphs leads.0 (subst (λ all. Contains all leads.0) same leads.1) in
        (g.0, g.1, subst (λ (one : List LotId × EdgeIndex). IsIndexedStep one.0 one.1 a b) (sym g.2) leads.2)

    back : (a b : LotId) → LeadAmong graphs way a b → LeadThrough (all_steps parts) a b
    back a b leads = (among_steps_of way leads.0, subst (λ all. Contains all (among_steps_of way leads.0)) (sym same) (Contains-map (among_steps_of way) graphs leads.0 leads.1), leads.2)

-- A trace over one graph alone.
pub alone_trace : (way : Way) (graph : Graph) (from : LotId) (trace : List Step) → IsTrace (LeadAmong (graph ∷ []) way) from trace → IsTrace (Leads graph way) from trace
alone_trace way graph from trace traced = trace_same (LeadAmong (graph ∷ []) way) (Leads graph way) (λ a b leads. elim (Contains-cases graph [] leads.0 leads.1) [ inl same ↦ subst (λ g. Leads g way a b) (sym same) leads.2 | inr none ↦ absurd (Contains-none leads.0 none) ]) (λ a b leads. (graph, Contains-here graph [], leads)) from trace traced
