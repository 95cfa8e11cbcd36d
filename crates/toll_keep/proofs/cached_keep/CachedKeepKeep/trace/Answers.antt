use Rattle.std.proofs.Common.{sym, subst}
use Rattle.toll_keep.proofs.Common.{GivesTrace}
use Rattle.toll_keep.proofs.Around.{of_some, passes_by, telling_stands, tells_by, whole}
use Rattle.toll_keep.proofs.cached_keep.CachedKeepKeep.trace.Goals as goal

pub invariant_of-self : goal.invariant_of-self
invariant_of-self g c =
    let met = g.met.K.Keep in
    telling_stands g.K.Keep met.settled met.lives_once c.args.self.now _ c.read_trace-answer.result _ c.or_forget.ensures.forgotten (λ rested. c.read_trace-answer.ensures.reading rested)

pub returns-clause-reading : goal.returns-clause-reading
returns-clause-reading g c =
    let met = g.met.K.Keep in let answer = c.read_trace-answer.ensures in let after = c.or_forget.ensures in
    tells_by g.K.Keep (whole g.K.Keep) met.settled met.lives_once c.args.self.now _ _ c.read_trace-answer.result _ after.same after.kept after.forgotten
    (λ honest content held of only. answer.own honest content held of only)
    (λ rested. c.read_trace-answer.ensures.reading rested)

pub returns-clause-reads : goal.returns-clause-reads
returns-clause-reads g c = λ honest content held.
    subst (λ answer. GivesTrace content c.args.owners.now c.args.from.now c.args.way answer) (sym c.or_forget.ensures.same) (c.read_trace-answer.ensures.reads honest content held.0 held.1 held.2)

pub returns-clause-alone : goal.returns-clause-alone
returns-clause-alone g c = λ os among.
    let met = g.met.K.Keep in let answer = c.read_trace-answer.ensures in let after = c.or_forget.ensures in
    record {
      reading = tells_by g.K.Keep (of_some g.K.Keep os) (met.settled_for os) met.lives_once c.args.self.now _ _ c.read_trace-answer.result _ after.same after.kept after.forgotten
          (λ honest content held of only. answer.apart os honest content held of only)
          (λ rested. answer.alone os among rested);
      reads = λ honest content held. subst (λ answer. GivesTrace content c.args.owners.now c.args.from.now c.args.way answer) (sym after.same) (answer.found os among honest content held.0 held.1 held.2);
    }

pub returns-clause-others : goal.returns-clause-others
returns-clause-others g c = λ os.
    let met = g.met.K.Keep in let answer = c.read_trace-answer.ensures in let after = c.or_forget.ensures in
    passes_by g.K.Keep (of_some g.K.Keep os) (met.settled_for os) met.lives_once c.args.self.now _ _ c.read_trace-answer.result _ after.same after.kept after.forgotten
    (λ honest content held of only. answer.apart os honest content held of only)
    (λ rested. answer.others os rested)
