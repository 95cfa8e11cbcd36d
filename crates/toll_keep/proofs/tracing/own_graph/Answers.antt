use Rattle.toll_keep.proofs.Calls.{kept_then, reads_then}
use Rattle.toll_keep.proofs.Common.{meaning_for}
use Rattle.toll_keep.proofs.Learning.{known_of, rows_there}
use Rattle.toll_keep.proofs.tracing.own_graph.Goals as goal

pub returns-in_ok-of-in-Some-clause-reported : goal.returns-in_ok-of-in-Some-clause-reported
returns-in_ok-of-in-Some-clause-reported g c = λ honest content held all only.
    let made = c.in_ok-of-in-Some.ensures in
    known_of content c.in_ok-of-in-Some.field-0 c.args.owner.now c.in-Some.slice.now made.owner (rows_there content c.args.owner.now c.in-Some.slice.now (c.in-Some.ensures.own content all)) made.named made.graph

pub returns-in_ok-of-in-Some-clause-found : goal.returns-in_ok-of-in-Some-clause-found
returns-in_ok-of-in-Some-clause-found g c = λ os own honest content held all only.
    let made = c.in_ok-of-in-Some.ensures in
    known_of content c.in_ok-of-in-Some.field-0 c.args.owner.now c.in-Some.slice.now made.owner (rows_there content c.args.owner.now c.in-Some.slice.now (c.in-Some.ensures.alone os content own all)) made.named made.graph

pub returns-in-None-clause-alone : goal.returns-in-None-clause-alone
returns-in-None-clause-alone g c = λ os own first have.
    reads_then (meaning_for g.K.Keep.meaning g.K.Keep.part os) first c.args.keep.now c.graph_once.new.keep tt c.graph_once.result have (c.graph_once.ensures.alone os own)

pub returns-in-None-clause-others : goal.returns-in-None-clause-others
returns-in-None-clause-others g c = λ os first kept.
    kept_then (meaning_for g.K.Keep.meaning g.K.Keep.part os) first c.args.keep.now c.graph_once.new.keep tt c.graph_once.result kept (c.graph_once.ensures.others os)

pub returns-in-None-clause-stays : goal.returns-in-None-clause-stays
returns-in-None-clause-stays g c = λ os honest. let r = c.graph_once.ensures.others os in (r.goes.honest honest, λ content held. (r.keeps honest).content content held)
