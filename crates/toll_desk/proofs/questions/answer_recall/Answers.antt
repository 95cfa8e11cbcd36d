use Rattle.std.proofs.Common.{inl}
use Rattle.toll_desk.proofs.KeptRules.{represented_keeps_rules}
use Rattle.toll_desk.proofs.Common.{reads_then}
use Rattle.toll_desk.proofs.Going.{going_ok_as}
use Rattle.toll_desk.proofs.questions.answer_recall.Goals as goal

pub returns-in-Ok-None-clause-going : goal.returns-in-Ok-None-clause-going
returns-in-Ok-None-clause-going g c =
    let before = going_ok_as g.K.Keep.meaning c.args.keep.now c.recall.new.keep c.in-Ok-None.field-0 c.in-Ok-None.field-0 c.in-Ok-None.ensures.going in
    inl (reads_then g.K.Keep.meaning c.args.keep.now c.recall.new.keep c.refuse_lot.new.keep c.in-Ok-None.field-0 _ before c.refuse_lot.ensures.reads)

pub returns-in-Ok-None-clause-whole : goal.returns-in-Ok-None-clause-whole
returns-in-Ok-None-clause-whole g c honest content H held stands lawful =
    let before = going_ok_as g.K.Keep.meaning c.args.keep.now c.recall.new.keep c.in-Ok-None.field-0 c.in-Ok-None.field-0 c.in-Ok-None.ensures.going in
    c.refuse_lot.ensures.reads.whole honest content ((before.keeps (c.refuse_lot.ensures.reads.goes.honest honest)).content content held) (represented_keeps_rules H content lawful stands)
