use Rattle.std.proofs.Common.{sym, subst, IfOk}
use Rattle.toll_keep.proofs.Common.{IsEdgeOfSome, AreEdges}
use Rattle.toll_keep.proofs.Around.{of_some, passes_by, telling_stands, tells_by, whole}
use Rattle.toll_keep.proofs.cached_keep.CachedKeepKeep.all_edges.Goals as goal

pub invariant_of-self : goal.invariant_of-self
invariant_of-self g c =
    let met = g.met.K.Keep in
    telling_stands g.K.Keep met.settled met.lives_once c.args.self.now _ c.all_edges-answer.result _ c.or_forget.ensures.forgotten (λ rested. c.all_edges-answer.ensures.reading)

pub returns-clause-reading : goal.returns-clause-reading
returns-clause-reading g c =
    let met = g.met.K.Keep in let answer = c.all_edges-answer.ensures in let after = c.or_forget.ensures in
    tells_by g.K.Keep (whole g.K.Keep) met.settled met.lives_once c.args.self.now _ _ c.all_edges-answer.result _ after.same after.kept after.forgotten
    (λ honest content held of only. of)
    (λ rested. answer.reading)

pub returns-clause-reads : goal.returns-clause-reads
returns-clause-reads g c = λ honest content held.
    subst (λ answer. IfOk answer (λ edges. AreEdges (IsEdgeOfSome content) edges.items)) (sym c.or_forget.ensures.same) (c.all_edges-answer.ensures.reads honest content held.0)

pub returns-clause-others : goal.returns-clause-others
returns-clause-others g c = λ os.
    let met = g.met.K.Keep in let answer = c.all_edges-answer.ensures in let after = c.or_forget.ensures in
    passes_by g.K.Keep (of_some g.K.Keep os) (met.settled_for os) met.lives_once c.args.self.now _ _ c.all_edges-answer.result _ after.same after.kept after.forgotten
    (λ honest content held of only. of)
    (λ rested. answer.others os)
