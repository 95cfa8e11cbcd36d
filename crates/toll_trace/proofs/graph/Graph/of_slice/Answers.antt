use Rattle.std.proofs.Common.{inl, inr}
use Rattle.toll_trace.proofs.Common.{IsEdge, IsGraph}
use Rattle.std.proofs.lemmas.Result.{IfOk-weaker}
use Rattle.toll_trace.specs.Recorded.{Draws}
use Rattle.toll_trace.proofs.Recording.{graph_same}
use Rattle.toll_trace.proofs.graph.Graph.of_slice.Goals as goal

pub returns : goal.returns
returns c =
    IfOk-weaker c.of_recorded.result (IsGraph (Draws c.in_ok-with.field-0)) (IsGraph (IsEdge c.args.slice.now))
    (λ graph is. graph_same (Draws c.in_ok-with.field-0) (IsEdge c.args.slice.now)
    (λ e drawn. elim ((c.in_ok-with.ensures e).0 drawn) [ inl none ↦ absurd (c.new.ensures e none) | inr edge ↦ edge ])
    (λ e edge. (c.in_ok-with.ensures e).1 (inr edge)) graph is)
    c.of_recorded.ensures
