use Rattle.toll_answers.specs.declared.plant_cmd.PlantCmd.TheVariants.{Trace}
use Rattle.toll_desk.proofs.PlantQuestions.{question_step, recall_step}
use Rattle.toll_desk.proofs.questions.answer_question.Goals as goal

pub returns-in_default : goal.returns-in_default
returns-in_default g c =
    question_step g.K.Keep.meaning g.met.K.Keep.settled c.args.keep.now c.answer_from_rows.new.keep _ c.args.command.now c.requires c.answer_from_rows.ensures.reads c.answer_from_rows.ensures.over

pub returns-in-Trace : goal.returns-in-Trace
returns-in-Trace g c =
    rw c.in-Trace.is
    (question_step g.K.Keep.meaning g.met.K.Keep.settled c.args.keep.now c.answer_trace.new.keep _ (Trace c.in-Trace.lot c.in-Trace.way) tt c.answer_trace.ensures.reads c.answer_trace.ensures.over)

pub returns-in-Recall : goal.returns-in-Recall
returns-in-Recall g c =
    let recalled = c.answer_recall.ensures in
    rw c.in-Recall.is
    (recall_step g.K.Keep.meaning g.met.K.Keep.settled c.args.keep.now c.answer_recall.new.keep _ c.in-Recall.lot recalled.going recalled.whole recalled.over)
