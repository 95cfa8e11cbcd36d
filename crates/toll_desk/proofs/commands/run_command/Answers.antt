use Rattle.std.proofs.Common.{refl, subst}
use Rattle.toll_answers.proofs.OwnReplies.{lawful-after_plant}
use Rattle.toll_desk.proofs.CommandPlans.{recorded_valid}
use Rattle.toll_desk.proofs.Common.{IsPlantAnswer, IsValidAction, after_plant, recorded_command}
use Rattle.toll_desk.proofs.CommitLemmas.{commit_step}
use Rattle.toll_desk.proofs.PlantQuestions.{calls_read}
use Rattle.toll_desk.specs.OfficeSteps.{PlantCalls}
use Rattle.toll_desk.specs.Subjects.{IsCommandSuchThat}
use Rattle.toll_desk.specs.Translations.{is_answer_accepted, meaning_of_plant_reply}
use Rattle.toll_desk.proofs.commands.run_command.Goals as goal

pub returns : goal.returns
returns g c =
    let K = g.K.Keep in
    let q = c.args.command.now in
    let planned = c.plan-planned in
    let outcome = meaning_of_plant_reply c.finished.result in
    commit_step K.meaning g.met.K.Keep.settled c.args.keep.now planned.new.keep c.commit-made.new.keep (meaning_of_plant_reply planned.result.reply) outcome planned.result.changes.items _ c.commit-made.result
    c.deref.ensures.value c.finished.ensures planned.ensures.reads c.commit-made.ensures.made is_answer_accepted (λ fault. refl) planned.ensures.quiet
    IsPlantAnswer after_plant q (λ H lawful. lawful-after_plant H q lawful (recorded_valid q c.requires)) planned.ensures.plan
    PlantCalls (calls_read q outcome (λ why is. subst (λ q. IsCommandSuchThat IsValidAction (recorded_command q)) is c.requires))
    _ (λ honest content held P stays none. stays)
