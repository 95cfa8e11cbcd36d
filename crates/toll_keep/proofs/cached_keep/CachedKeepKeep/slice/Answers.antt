use Rattle.std.proofs.Common.{◌≡◌, refl, sym, subst, IfOk, IfSome}
use Rattle.toll_keep.proofs.Common.{slice_of}
use Rattle.toll_keep.proofs.Around.{of_some, passes_by, telling_stands, tells_by, whole}
use Rattle.toll_keep.proofs.cached_keep.CachedKeepKeep.slice.Goals as goal

pub invariant_of-self : goal.invariant_of-self
invariant_of-self g c =
    let met = g.met.K.Keep in
    telling_stands g.K.Keep met.settled met.lives_once c.args.self.now _ c.read_slice-answer.result _ c.or_forget.ensures.forgotten (λ rested. c.read_slice-answer.ensures.reading (λ some. rested (λ none. some none.slices)))

pub returns-clause-reading : goal.returns-clause-reading
returns-clause-reading g c =
    let met = g.met.K.Keep in let answer = c.read_slice-answer.ensures in let after = c.or_forget.ensures in
    tells_by g.K.Keep (whole g.K.Keep) met.settled met.lives_once c.args.self.now _ _ c.read_slice-answer.result _ after.same after.kept after.forgotten
    (λ honest content held of only. record { slices = answer.own honest content held refl of.slices; owners = of.owners; units = of.units; graphs = of.graphs })
    (λ rested. c.read_slice-answer.ensures.reading (λ some. rested (λ none. some none.slices)))

pub returns-clause-reads : goal.returns-clause-reads
returns-clause-reads g c = λ honest content held.
    subst (λ answer. IfOk answer (λ slice. slice ≡ slice_of content c.args.owner.now)) (sym c.or_forget.ensures.same) (c.read_slice-answer.ensures.reads honest content held.0 refl held.1.slices)

pub returns-clause-alone : goal.returns-clause-alone
returns-clause-alone g c = λ os own.
    let met = g.met.K.Keep in let answer = c.read_slice-answer.ensures in let after = c.or_forget.ensures in
    record {
      reading = tells_by g.K.Keep (of_some g.K.Keep os) (met.settled_for os) met.lives_once c.args.self.now _ _ c.read_slice-answer.result _ after.same after.kept after.forgotten
          (λ honest content held of only. record { slices = answer.apart os honest content held refl of.slices; owners = of.owners; units = of.units; graphs = of.graphs })
          (λ rested. answer.alone os own (λ some. rested (λ none. some none.slices)));
      reads = λ honest content held. subst (λ answer. IfOk answer (λ slice. slice ≡ slice_of content c.args.owner.now)) (sym after.same) (answer.found os own honest content held.0 refl held.1.slices);
    }

pub returns-clause-others : goal.returns-clause-others
returns-clause-others g c = λ os.
    let met = g.met.K.Keep in let answer = c.read_slice-answer.ensures in let after = c.or_forget.ensures in
    passes_by g.K.Keep (of_some g.K.Keep os) (met.settled_for os) met.lives_once c.args.self.now _ _ c.read_slice-answer.result _ after.same after.kept after.forgotten
    (λ honest content held of only. record { slices = answer.apart os honest content held refl of.slices; owners = of.owners; units = of.units; graphs = of.graphs })
    (λ rested. answer.others os (λ some. rested (λ none. some none.slices)))

pub returns-clause-named : goal.returns-clause-named
returns-clause-named g c = subst (λ answer. IfOk answer (λ slice. IfSome slice (λ s. s.owner ≡ c.args.owner.now))) (sym c.or_forget.ensures.same) c.read_slice-answer.ensures.named
