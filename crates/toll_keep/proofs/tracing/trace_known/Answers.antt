use Rattle.std.proofs.Common.{map, ap, subst, ◌∙◌, IfOk}
use Rattle.toll_trace.specs.Graph.{LeadAmong}
use Rattle.toll_trace.specs.Trace.{IsTrace}
use Rattle.toll_keep.proofs.Learning.{gives_trace}
use Rattle.toll_keep.proofs.tracing.trace_known.Goals as goal

pub returns-clause-alone : goal.returns-clause-alone
returns-clause-alone c = λ content are each.
    gives_trace content c.args.owners.now c.args.graphs.now are each c.args.way c.args.from.now c.trace_among.result
    (subst (λ graphs. IfOk c.trace_among.result (λ steps. IsTrace (LeadAmong graphs c.args.way) c.args.from.now steps.items)) (ap (map (λ graph. graph.now)) c.deref.ensures.value ∙ c.in_ok-chosen.ensures) c.trace_among.ensures)

pub returns-clause-all : goal.returns-clause-all
returns-clause-all c = λ content are each.
    gives_trace content c.args.owners.now c.args.graphs.now (λ known there own. are known there) each c.args.way c.args.from.now c.trace_among.result
    (subst (λ graphs. IfOk c.trace_among.result (λ steps. IsTrace (LeadAmong graphs c.args.way) c.args.from.now steps.items)) (ap (map (λ graph. graph.now)) c.deref.ensures.value ∙ c.in_ok-chosen.ensures) c.trace_among.ensures)
