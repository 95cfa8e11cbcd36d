-- Questions of the plant are steps that leave the history.
use Rattle.std.proofs.Common.{◌≡◌, None, Result, Ok, Err, IfOk, inl, inr, refl, subst}
use Rattle.std.specs.Prelude.{◌≢◌}
use Rattle.toll_desk.proofs.Common.{History, IsPlantAnswer, IsReading, Judged, KeepFault, LotId, Meaning, PlantAnswer, PlantCmd, Refusal, Refused, after_plant, settles_still}
use Rattle.toll_answers.specs.declared.plant_cmd.PlantCmd.TheVariants as cmd
use Rattle.toll_keep.proofs.Calls.{Rests}
use Rattle.toll_keep.proofs.Outcomes.{on_err_always}
use Rattle.toll_keep.specs.declared.keep_fault.KeepFault.TheVariants.{Damaged}
use Rattle.toll_desk.proofs.KeptRules.{represented_keeps_rules}
use Rattle.toll_desk.proofs.StepLemmas.{read_step, store_of, store_uncalled}
use Rattle.toll_desk.specs.OfficeSteps.{PlantCalls, plant_steps}
use Rattle.toll_desk.specs.Questions.{IsRecallEffect}
use Rattle.toll_desk.specs.Reads.{Over}
use Rattle.toll_desk.specs.Steps.{IsKeepStep, StoreEffect, calls_of}
use Rattle.toll_desk.specs.Subjects.{IsQuestion}

question_stays : (H : History) (q : PlantCmd) → IsQuestion q → after_plant H q ≡ H
question_stays H (cmd.Orders owner) asks = refl
question_stays H (cmd.Stock owner) asks = refl
question_stays H (cmd.Batch owner order number) asks = refl
question_stays H (cmd.Trace lot way) asks = refl
question_stays H (cmd.Recall lot) asks = refl
question_stays H _ asks = absurd asks

-- What was read has the outcome of the calls.
pub calls_read : (q : PlantCmd) (outcome : Result PlantAnswer KeepFault) → ((why : Refusal) → q ≢ cmd.Unread why) → PlantCalls q outcome (calls_of outcome)
calls_read (cmd.Unread why) outcome read = absurd (read why refl)
calls_read (cmd.Recall lot) outcome read = inl refl
calls_read _ outcome read = refl

module _ {K : Type 0} (meaning : Meaning K) (rests : Rests meaning) (old new : K) (outcome : Result PlantAnswer KeepFault) where
  question_by : {X : Type 0} (q : PlantCmd) → IsQuestion q → (read : Result X KeepFault) → IsReading meaning old new read → PlantCalls q outcome (calls_of read)
      → Over meaning old new (λ c H. outcome ≢ Err Damaged) → Over meaning old new (λ c H. IfOk outcome (IsPlantAnswer H q))
      → IsKeepStep meaning plant_steps old q outcome new
  question_by {X} q asks read reads calls undamaged over = record {
    outcome = calls_of read;
    calls = calls;
    store = store;
    still = λ now c held not. (reads.keeps now).content c held;
    over = λ now c H held stands lawful.
        read_step meaning IsPlantAnswer after_plant old new store.settles now c H stands lawful q (question_stays H q asks) (reads.keeps now) held outcome
        (undamaged now c H held stands lawful) (over now c H held stands lawful);
  }
    where
      store : StoreEffect meaning old new (calls_of read)
      store = store_of meaning old new rests read reads.goes (λ now c held. on_err_always read ((reads.keeps now).content c held)) reads.whole

  pub question_step : (q : PlantCmd) → IsQuestion q → IsReading meaning old new outcome → Over meaning old new (λ c H. IfOk outcome (IsPlantAnswer H q))
      → IsKeepStep meaning plant_steps old q outcome new
  question_step q asks reads =
      question_by q asks outcome reads (calls_read q outcome (λ why is. subst IsQuestion is asks))
      (λ now c H held stands lawful. reads.whole now c held (represented_keeps_rules H c lawful stands))

  pub recall_step : (lot : LotId) → IsRecallEffect meaning old new outcome → Over meaning old new (λ c H. outcome ≢ Err Damaged)
      → Over meaning old new (λ c H. IfOk outcome (IsPlantAnswer H (cmd.Recall lot))) → IsKeepStep meaning plant_steps old (cmd.Recall lot) outcome new
  recall_step lot (inl reads) = question_by (cmd.Recall lot) tt outcome reads (inl refl)
  recall_step lot (inr damaged) = question_by (cmd.Recall lot) tt (Ok tt) damaged.1 (inr (damaged.0, refl))

-- A command that couldn't be read is refused without a call.
pub unread_step : {K : Type 0} (meaning : Meaning K) → Rests meaning → (keep : K) (why : Refusal)
    → IsKeepStep meaning plant_steps keep (cmd.Unread why) (Ok (Judged (Refused why))) keep
unread_step meaning rests keep why = record {
  outcome = None;
  calls = (refl, refl);
  store = store_uncalled meaning rests keep keep refl;
  still = λ now c held not. held;
  over = λ now c H held stands lawful.
      read_step meaning IsPlantAnswer after_plant keep keep (settles_still meaning keep rests) now c H stands lawful (cmd.Unread why) refl
      (record { content = λ c held. held; crash = λ live c held. rests keep c now live held }) held (Ok (Judged (Refused why))) (λ is. (cc is)) refl;
}
