use Rattle.std.proofs.Common.{refl, inl, inr, sym, subst}
use Rattle.toll_desk.proofs.KeptRules.{represented_keeps_rules}
use Rattle.toll_desk.proofs.Common.{read_memory}
use Rattle.toll_desk.specs.Questions.{AreSlicesFor, AreLinesOf}
use Rattle.toll_desk.proofs.Going.{reads_as, fault_as}
use Rattle.toll_desk.proofs.RecallLines.{lines_recall, traced_has_line}
use Rattle.toll_desk.proofs.recalls.recall_steps.Goals as goal

pub returns-in-Ok-Some-clause-going : goal.returns-in-Ok-Some-clause-going
returns-in-Ok-Some-clause-going g c first have = inl (reads_as g.K.Keep.meaning first c.slices_of.new.keep _ _ (c.in-Ok.ensures.reads first have))

pub returns-in-Ok-None-clause-going : goal.returns-in-Ok-None-clause-going
returns-in-Ok-None-clause-going g c first have = inr (refl, reads_as g.K.Keep.meaning first c.slices_of.new.keep _ _ (c.in-Ok.ensures.reads first have))

pub returns-in-Ok-clause-going : goal.returns-in-Ok-clause-going
returns-in-Ok-clause-going g c first have =
    let reads = c.in-Ok.ensures.reads first have in
    inl (read_memory g.K.Keep.meaning first c.slices_of.new.keep _ reads.goes reads.keeps)

pub returns-clause-going : goal.returns-clause-going
returns-clause-going g c first have = inl (fault_as g.K.Keep.meaning first c.slices_of.new.keep _ (c.in-Err.ensures.reads first have))

pub returns-clause-whole : goal.returns-clause-whole
returns-clause-whole g c first have honest content H held stands lawful lot rows known traced is =
    (c.in-Err.ensures.reads first have).whole honest content held (represented_keeps_rules H content lawful stands) (cc)

pub returns-in-Ok-Some-clause-over : goal.returns-in-Ok-Some-clause-over
returns-in-Ok-Some-clause-over g c first have honest content H held stands lawful lot rows traced =
    let before = c.slices_of.ensures.kept honest in
    let slices = subst (AreSlicesFor H c.args.steps.now) (sym c.deref.ensures.value) (c.in-Ok.ensures.over honest content H ((have.keeps before.0).content content held) stands lawful rows) in
    lines_recall H lot c.args.steps.now c.in-Ok-Some.lines.items (subst (AreLinesOf H c.args.steps.now) c.in-Ok-Some.field-0-is (c.in-Ok-Some.ensures H lawful slices)) traced

pub returns-in-Ok-None-clause-whole : goal.returns-in-Ok-None-clause-whole
returns-in-Ok-None-clause-whole g c first have honest content H held stands lawful lot rows known traced is =
    let before = c.slices_of.ensures.kept honest in
    let slices = subst (AreSlicesFor H c.args.steps.now) (sym c.deref.ensures.value) (c.in-Ok.ensures.over honest content H ((have.keeps before.0).content content held) stands lawful rows) in
    let none = subst (AreLinesOf H c.args.steps.now) c.in-Ok-None.field-0-is (c.in-Ok-None.ensures H lawful slices) in
    traced_has_line H lot c.args.steps.now none.0 lawful known traced none.1 none.2
