-- Commands of which the changes are held back.
use Rattle.std.proofs.Common.{◌≡◌, ◌++◌, false, Option, Some, None, List, [], Result, Ok, Err, IfOk, inl, inr, refl, sym, ap, subst, ◌∙◌}
use Rattle.toll_answers.proofs.OwnReplies.{lawful-after_plant}
use Rattle.toll_answers.specs.declared.plant_cmd.PlantCmd.TheVariants.{Unread}
use Rattle.toll_keep.specs.StagedChanges.{IsOver, OverLaid, ReadsThrough}
use Rattle.toll_keep.specs.declared.keep_fault.KeepFault.TheVariants.{Memory}
use Rattle.toll_keep.specs.declared.staged_changes.StagedChanges.{StagedChanges}
use Rattle.toll_desk.proofs.Common.{append-nil, changes_of, Change, Decision, Refusal, verdict_of, History, Refused as RefusedFor, IsLawful, IsValidAction, Content, content_after, Meaning, OverContent, KeepFault, Command, IsPlantAnswer, IsQuestionAnswer, IsVerdictOr, Judged, PlantAnswer, PlantCmd, after_plant, recorded_command, concerned}
use Rattle.toll_desk.proofs.CommandPlans.{recorded_valid}
use Rattle.toll_desk.proofs.Going.{fault_as}
use Rattle.toll_desk.proofs.SliceToContent.{leads_nowhere}
use Rattle.toll_desk.specs.Clauses.{IsPlantPlanned}
use Rattle.toll_desk.specs.PlantStaged.{AfterReads, IsPlannedOn, IsPlantStaged, IsStagedAs, IsStepWith, IsVerdictOrMemory, StagedCalls, staged_answer}
use Rattle.toll_desk.specs.Plans.{ChangesLeadTo, IsPlantDecision}
use Rattle.toll_desk.specs.Reads.{AreBoth}
use Rattle.toll_desk.specs.Representing.{Represents}
use Rattle.toll_desk.specs.Steps.{calls_of}
use Rattle.toll_desk.specs.Subjects.{IsCommandSuchThat}
use Rattle.toll_desk.specs.Translations.{is_answer_accepted, meaning_of_plant_reply}
use Rattle.toll_desk.specs.declared.deciding.Both.{Both}
use Rattle.toll_desk.specs.declared.plan.Plan.{Plan}
use Rattle.toll_desk.specs.declared.plant_cmd.PlantReply.{PlantReply}
use Rattle.toll_desk.specs.declared.plant_cmd.PlantReply.TheVariants.{Refused}

-- A plan whose reply is a decision, with that decision's changes, is the plan of the command.
pub planned_as : (c : Content) (H : History) (q : PlantCmd) (d : Decision) (plan : Plan PlantReply)
    → meaning_of_plant_reply plan.reply ≡ Ok (Judged (verdict_of d)) → plan.changes.items ≡ changes_of d → IsPlantDecision c H (recorded_command q) d
    → IsPlantPlanned c H q plan
planned_as c H q d plan reported changes decided = rw (reported, changes) (or_else (recorded_command q) decided.answer, decided.leads)
  where
    or_else : (done : Option Command) → IsVerdictOr H done ⊥ (Judged (verdict_of d))
        → IsVerdictOr H done (IsQuestionAnswer H q (Judged (verdict_of d))) (Judged (verdict_of d))
    or_else (Some command) answer = answer
    or_else None answer = absurd answer

-- A planned answer with its changes is a step of the plant; so is a fault without changes.
step_with : (c : Content) (q : PlantCmd) (answer : Result PlantAnswer KeepFault) (changes : List Change) → IsCommandSuchThat IsValidAction (recorded_command q)
    → (is_answer_accepted answer ≡ false → changes ≡ [])
    → ((H : History) → Represents c H → IsLawful H → IfOk answer (λ x. IsPlantAnswer H q x × ChangesLeadTo c changes (after_plant H q)))
    → IsStepWith c q answer changes
step_with c q (Ok x) changes valid still plan H stands lawful =
    let planned = plan H stands lawful in (after_plant H q, (planned.0, refl), lawful-after_plant H q lawful (recorded_valid q valid), planned.1)
step_with c q (Err fault) changes valid still plan H stands lawful =
    (H, refl, lawful, subst (λ changes. ChangesLeadTo c changes H) (sym (still refl)) (leads_nowhere c H stands))

-- What was read has the outcome of the calls.
staged_calls : (q : PlantCmd) (result : Result PlantReply KeepFault) → IsCommandSuchThat IsValidAction (recorded_command q)
    → StagedCalls q result (calls_of result)
staged_calls (Unread why) result valid = absurd valid
staged_calls _ result valid = refl

-- A fault of reading with staged changes is put into other words.
pub through_fault : {K X Y : Type 0} (meaning : Meaning K) (old new : K) (before : StagedChanges) (fault : KeepFault)
    → ReadsThrough {X = X} meaning old new before (Err fault)
    → ReadsThrough {X = Y} meaning old new before (Err fault)
through_fault meaning old new before fault reads =
    record { answered = λ first through. tt; failed = λ first through. fault_as meaning first new fault (reads.failed first through); kept = reads.kept }

module _ {K : Type 0} (meaning : Meaning K) (old new : K) (before mid now : StagedChanges) (q : PlantCmd)
    (valid : IsCommandSuchThat IsValidAction (recorded_command q))
    (over : OverContent meaning old new (λ c. IsOver c before → IsOver c mid)) (same : mid.changes.items ≡ before.changes.items)
    (laid : (c : Content) → IsOver c mid → IsOver c now) where
  abbrev IsStaged : Result PlantReply KeepFault → Type 0
  IsStaged result = IsPlantStaged meaning (old, before) q result (new, now)

  -- The facts of a step that reads the keep.
  staged_by : (result : Result PlantReply KeepFault) → AfterReads meaning (old, before) (new, now) (calls_of result)
      → IfOk result (λ reply. IsVerdictOrMemory (meaning_of_plant_reply reply)) → (own : List Change) → now.changes.items ≡ mid.changes.items ++ own
      → (is_answer_accepted (staged_answer result) ≡ false → own ≡ []) → OverLaid meaning old new before (λ c. IsStepWith c q (staged_answer result) own)
      → IsStaged result
  staged_by result reads judged own held still step = record {
    outcome = calls_of result;
    calls = staged_calls q result valid;
    reads = reads;
    judged = judged;
    own = own;
    held = held ∙ ap (λ changes. changes ++ own) same;
    still = still;
    laid = λ honest c holds was. laid c (over honest c holds was);
    over = step;
  }

  -- Rows that couldn't be read stage nothing.
  pub unheld : {X : Type 0} (fault : KeepFault) → ReadsThrough {X = X} meaning old new before (Err fault) → now.changes.items ≡ mid.changes.items
      → IsStaged (Err fault)
  unheld fault reads none =
      staged_by (Err fault) (through_fault meaning old new before fault reads) tt [] (none ∙ sym (append-nil mid.changes.items)) (λ ungranted. refl)
      (λ honest c holds was. step_with (content_after before.changes.items c) q (Err fault) [] valid (λ ungranted. refl) (λ H stands lawful. tt))

  module _ (both : Option Both) (plan : Plan PlantReply) (reply : PlantReply) (reads : ReadsThrough meaning old new before (Ok both))
      (are : OverLaid meaning old new before (λ c. AreBoth c (concerned q) both)) where
    abbrev IsAnswered : Result PlantAnswer KeepFault → List Change → Type 0
    IsAnswered answer own =
        IsVerdictOrMemory answer × (is_answer_accepted answer ≡ false → own ≡ []) × ((c : Content) → AreBoth c (concerned q) both → IsStepWith c q answer own)

    reply_by : (answer : Result PlantAnswer KeepFault) → meaning_of_plant_reply reply ≡ answer → (own : List Change)
        → now.changes.items ≡ mid.changes.items ++ own → IsAnswered answer own → IsStaged (Ok reply)
    reply_by answer is own held answered =
        let (judged, still, step) = subst (λ a. IsAnswered a own) (sym is) answered in
        staged_by (Ok reply) (record { answered = λ first through. reads.answered first through; failed = λ first through. tt; kept = reads.kept })
        judged own held still (λ honest c holds was. step (content_after before.changes.items c) (are honest c holds was))

    -- The changes of a plan over the rows that were read are staged, or there was no memory for it.
    pub held_now : IsPlannedOn both q plan → (is_answer_accepted (meaning_of_plant_reply plan.reply) ≡ false → plan.changes.items ≡ [])
        → IsVerdictOrMemory (meaning_of_plant_reply plan.reply) → IsStagedAs mid now plan reply → IsStaged (Ok reply)
    held_now planned still judged (inl (is, held)) =
        reply_by (meaning_of_plant_reply plan.reply) is plan.changes.items held
        (judged, still, λ c rows. step_with c q (meaning_of_plant_reply plan.reply) plan.changes.items valid still (λ H. planned c H rows))
    held_now planned still judged (inr (is, held)) =
        reply_by (Err Memory) is [] (held ∙ sym (append-nil mid.changes.items))
        (refl, λ ungranted. refl, λ c rows. step_with c q (Err Memory) [] valid (λ ungranted. refl) (λ H stands lawful. tt))

-- A command that couldn't be read is refused, and no row is read.
pub unread_held : {K : Type 0} (meaning : Meaning K) (state : K × StagedChanges) (why : Refusal)
    → IsPlantStaged meaning state (Unread why) (Ok (Refused why)) state
unread_held meaning state why = record {
  outcome = None;
  calls = (refl, refl);
  reads = refl;
  judged = (RefusedFor why, refl);
  own = [];
  held = sym (append-nil state.1.changes.items);
  still = λ ungranted. refl;
  laid = λ honest c there was. was;
  over = λ honest c there was H stands lawful. (H, (refl, refl), lawful, leads_nowhere (content_after state.1.changes.items c) H stands);
}
