use Rattle.std.proofs.Common.{◌≡◌, sym, subst, IfOk}
use Rattle.toll_keep.proofs.Around.{of_some, some_units, telling_stands, tells_by, whole}
use Rattle.toll_keep.proofs.cached_keep.CachedKeepKeep.units.Goals as goal

pub invariant_of-self : goal.invariant_of-self
invariant_of-self g c =
    let met = g.met.K.Keep in
    telling_stands g.K.Keep met.settled met.lives_once c.args.self.now _ c.read_rows-answer.result _ c.or_forget.ensures.forgotten (λ rested. c.read_rows-answer.ensures.reading (λ some. rested (some_units c.args.self.now.cache some)))

pub returns-clause-reading : goal.returns-clause-reading
returns-clause-reading g c =
    let met = g.met.K.Keep in let answer = c.read_rows-answer.ensures in let after = c.or_forget.ensures in
    tells_by g.K.Keep (whole g.K.Keep) met.settled met.lives_once c.args.self.now _ _ c.read_rows-answer.result _ after.same after.kept after.forgotten
    (λ honest content held of only. record { slices = of.slices; owners = of.owners; units = answer.own honest content held of.units; graphs = of.graphs })
    (λ rested. c.read_rows-answer.ensures.reading (λ some. rested (some_units c.args.self.now.cache some)))

pub returns-clause-reads : goal.returns-clause-reads
returns-clause-reads g c = λ honest content held.
    subst (λ answer. IfOk answer (λ rows. rows.items ≡ content.units)) (sym c.or_forget.ensures.same) (c.read_rows-answer.ensures.reads honest content held.0 held.1.units)

pub returns-clause-alone : goal.returns-clause-alone
returns-clause-alone g c = λ os.
    let met = g.met.K.Keep in let answer = c.read_rows-answer.ensures in let after = c.or_forget.ensures in
    record {
      reading = tells_by g.K.Keep (of_some g.K.Keep os) (met.settled_for os) met.lives_once c.args.self.now _ _ c.read_rows-answer.result _ after.same after.kept after.forgotten
          (λ honest content held of only. record { slices = of.slices; owners = of.owners; units = answer.apart os honest content held of.units; graphs = of.graphs })
          (λ rested. answer.alone os (λ some. rested (some_units c.args.self.now.cache some)));
      reads = λ honest content held. subst (λ answer. IfOk answer (λ rows. rows.items ≡ content.units)) (sym after.same) (answer.found os honest content held.0 held.1.units);
    }
