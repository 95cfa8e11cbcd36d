use Rattle.std.proofs.Common.{is_some, ◌&&◌, sym, ap, ◌∙◌}
use Rattle.toll_desk.proofs.Common.{lot_row}
use Rattle.toll_desk.proofs.KeptRules.{represented_keeps_rules}
use Rattle.toll_desk.proofs.Going.{going_then, going_fault_as, going_honest}
use Rattle.toll_desk.proofs.OwnerPlans.{some_read, unread_is_unknown}
use Rattle.toll_desk.proofs.OwnTraces.{rows_read}
use Rattle.toll_desk.proofs.RecallLines.{lot_missing, lot_there}
use Rattle.toll_desk.proofs.recalls.recall.Goals as goal

pub returns-then-is_none-clause-over : goal.returns-then-is_none-clause-over
returns-then-is_none-clause-over g c honest content H held stands lawful =
    let lot = c.args.lot.now in
    let read = rows_read content H lot.owner c.in-Ok-Some.slice stands (sym c.in-Ok-Some.field-0-is ∙ c.in-Ok-Some.ensures.reads honest content held) in
    lot_missing H lot (sym (ap is_some ((λ i. (read.0 i).lot lot.lot) ∙ ap (λ o. lot_row H o lot.lot) read.1)) ∙ sym (ap is_some c.lot.ensures) ∙ c.if-is_none.ensures)

pub returns-in-Ok-None-clause-over : goal.returns-in-Ok-None-clause-over
returns-in-Ok-None-clause-over g c honest content H held stands lawful =
    ap (λ b. b && is_some (lot_row H c.args.lot.now.owner c.args.lot.now.lot)) (unread_is_unknown content H c.args.lot.now.owner stands (sym c.in-Ok-None.field-0-is ∙ c.in-Ok-None.ensures.reads honest content held))

pub returns-in-Err-clause-whole : goal.returns-in-Err-clause-whole
returns-in-Err-clause-whole g c honest content H held stands lawful is =
    c.in-Err.ensures.reading.whole honest content held (represented_keeps_rules H content lawful stands) (cc)

pub returns-in-Ok-clause-over : goal.returns-in-Ok-clause-over
returns-in-Ok-clause-over g c honest content H held stands lawful =
    let lot = c.args.lot.now in
    let before = going_honest g.K.Keep.meaning c.slice.new.self c.recall_known.new.keep _ c.recall_known.ensures.going honest in
    let there = sym c.in-Ok-Some.field-0-is ∙ c.in-Ok-Some.ensures.reads before content held in
    let read = rows_read content H lot.owner c.in-Ok-Some.slice stands there in (
      lot_there H lot (some_read content H lot.owner c.in-Ok-Some.slice stands there) (sym (ap is_some ((λ i. (read.0 i).lot lot.lot) ∙ ap (λ o. lot_row H o lot.lot) read.1)) ∙ sym (ap is_some c.lot.ensures) ∙ c.if-is_none.ensures),
      c.in-Ok.ensures.over honest content H ((c.in-Ok-Some.ensures.reading.keeps before).content content held) stands lawful read.0,
    )

pub returns-in-Err-recall_known-clause-going : goal.returns-in-Err-recall_known-clause-going
returns-in-Err-recall_known-clause-going g c =
    going_fault_as g.K.Keep.meaning c.args.keep.now c.recall_known.new.keep _
    (going_then g.K.Keep.meaning c.slice.new.self c.recall_known.new.keep c.args.keep.now _ _ (record { goes = c.in-Ok-Some.ensures.reading.goes; keeps = c.in-Ok-Some.ensures.reading.keeps; whole = c.in-Ok-Some.ensures.reading.whole }) c.in-Err-recall_known.ensures.going)

pub returns-in-Err-recall_known-clause-whole : goal.returns-in-Err-recall_known-clause-whole
returns-in-Err-recall_known-clause-whole g c honest content H held stands lawful is =
    let lot = c.args.lot.now in
    let before = going_honest g.K.Keep.meaning c.slice.new.self c.recall_known.new.keep _ c.recall_known.ensures.going honest in
    let there = sym c.in-Ok-Some.field-0-is ∙ c.in-Ok-Some.ensures.reads before content held in
    let read = rows_read content H lot.owner c.in-Ok-Some.slice stands there in
    let known = lot_there H lot (some_read content H lot.owner c.in-Ok-Some.slice stands there) (sym (ap is_some ((λ i. (read.0 i).lot lot.lot) ∙ ap (λ o. lot_row H o lot.lot) read.1)) ∙ sym (ap is_some c.lot.ensures) ∙ c.if-is_none.ensures) in
    c.in-Err-recall_known.ensures.whole honest content H ((c.in-Ok-Some.ensures.reading.keeps before).content content held) stands lawful read.0 known (cc)
