use Rattle.std.proofs.Common.{[], ◌∷◌}
use Rattle.toll_trace.proofs.Common.{Leads, LeadAmong, IsTrace}
use Rattle.std.proofs.lemmas.Result.{IfOk-weaker}
use Rattle.toll_trace.proofs.Among.{alone_trace}
use Rattle.toll_trace.proofs.EdgeIndexLemmas.{trace_of_graph}
use Rattle.toll_trace.proofs.graph.Graph.trace.Goals as goal

pub returns : goal.returns
returns c =
    let led = IfOk-weaker c.trace_among.result (λ trace. IsTrace (LeadAmong (c.args.self.now ∷ []) c.args.way) c.args.from.now trace.items) (λ trace. IsTrace (Leads c.args.self.now c.args.way) c.args.from.now trace.items) (λ trace is. alone_trace c.args.way c.args.self.now c.args.from.now trace.items is) c.trace_among.ensures in
    record {
      led = led;
      edges = IfOk-weaker c.trace_among.result (λ trace. IsTrace (Leads c.args.self.now c.args.way) c.args.from.now trace.items) _ (λ trace is edges of_edges. trace_of_graph edges c.args.self.now of_edges c.args.way c.args.from.now trace.items is) led;
    }
