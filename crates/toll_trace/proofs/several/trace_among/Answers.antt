use Rattle.std.proofs.Common.{◌≡◌, ◌+◌, ◌++◌, ◌∷◌, [], map, take, ap, ◌∙◌, subst}
use Rattle.std.proofs.lemmas.Result.{IfOk-weaker}
use Rattle.toll_trace.proofs.Common.{take_all, map_push, IsTrace, LeadThrough, all_steps}
use Rattle.toll_trace.proofs.Walks.{with_item}
use Rattle.toll_trace.proofs.Among.{ArePartsOf, among_trace, one_part_more}
use Rattle.toll_trace.proofs.several.trace_among.Goals as goal

pub loop-graph-preserved : goal.loop-graph-preserved
loop-graph-preserved c =
    let graphs = c.args.graphs.now in
    let done = take c.loop-graph.graph-index graphs in
    let grown : map (λ graph. graph.now) (take (c.loop-graph.graph-index + 1) graphs) ≡ map (λ graph. graph.now) done ++ c.graph-item.result.now ∷ [] = ap (map (λ graph. graph.now)) (with_item graphs c.loop-graph.graph-index c.graph-item.result c.loop-graph-test.true c.graph-item.is) ∙ map_push (λ graph. graph.now) done c.graph-item.result in
    rw (grown, c.in_ok-push.ensures.items)
    (one_part_more c.args.way c.args.from.now (map (λ graph. graph.now) done) c.loop-graph.parts.items c.graph-item.result.now c.in_ok-of.field-0 c.loop-graph.invariant (c.in_ok-of.ensures.lots ∙ c.deref.ensures.value) (c.in_ok-of.ensures.joints ∙ c.joints.ensures.joints) c.in_ok-of.ensures.walked)

pub of-requires-clause-within : goal.of-requires-clause-within
of-requires-clause-within c = rw c.deref.ensures.value c.joints.ensures.within

pub search-requires : goal.search-requires
search-requires c = λ part i. c.loop-graph.invariant.walked part i

pub returns : goal.returns
returns c =
    let graphs = c.args.graphs.now in
    let all = take_all c.loop-graph.graph-index graphs c.loop-graph-test.false in
    let parts = subst (λ gs. ArePartsOf c.args.way c.args.from.now (map (λ graph. graph.now) gs) c.loop-graph.parts.items) all c.loop-graph.invariant in
    IfOk-weaker c.search.result (λ trace. IsTrace (LeadThrough (all_steps c.loop-graph.parts.items)) c.args.from.now trace.items) _
    (λ trace is. among_trace c.args.way (map (λ graph. graph.now) graphs) c.loop-graph.parts.items c.args.from.now trace.items parts.all is)
    c.search.ensures
