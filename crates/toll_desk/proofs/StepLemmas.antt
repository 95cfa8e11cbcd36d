-- Calls of a keep that are steps of the office, one after another.
use Rattle.std.proofs.Common.{◌≡◌, None, List, [], ◌∷◌, Result, Ok, Err, IfOk, OnErr, ap, sym, subst, refl, inl, inr}
use Rattle.std.specs.Prelude.{◌≢◌}
use Rattle.toll_desk.proofs.Common.{IfOk-weaker, CallEffect, Content, History, IsLawful, KeepFault, Keeps, Meaning, OverContent, goes_as, goes_fault, settles, settles_still, spared}
use Rattle.toll_keep.proofs.Calls.{Rests, answered, failed_call}
use Rattle.toll_keep.proofs.Outcomes.{on_err_always}
use Rattle.toll_keep.specs.CallEffects.{FindsNoDamage, Settles}
use Rattle.toll_keep.specs.declared.keep_fault.KeepFault.TheVariants.{Damaged, Memory}
use Rattle.toll_desk.specs.Outcome.{LeavesOr}
use Rattle.toll_desk.specs.Reads.{Over}
use Rattle.toll_desk.specs.Representing.{Represents}
use Rattle.toll_desk.specs.Steps.{AreStepsFrom, IsAnsweredStep, IsOfficeStep, IsStepFrom, OfficeState, StoreEffect, calls_of, state_at}
use Rattle.toll_history.specs.Runs.{IsRun}
use Rattle.toll_history.proofs.RunLemmas.{run_back}

module _ {K E A : Type 0} (meaning : Meaning K) (Step : History → E → A → History → Type 0) (MayMake : History → E → History → Type 0) where
  abbrev OfficeRun : OfficeState K → List E → List A → OfficeState K → Type 0
  OfficeRun = IsRun (IsOfficeStep meaning Step MayMake)

  -- a lawful history whose rows are held
  pub record StandsLawful (s : OfficeState K) : Type 0 where
    pub held : meaning.holds s.keep s.content
    pub stands : Represents s.content s.history
    pub lawful : IsLawful s.history

  -- steps of the office are a run of its history
  pub history_run : (old new : OfficeState K) (events : List E) (answers : List A) → OfficeRun old events answers new
      → IsRun Step old.history events answers new.history
  history_run old new [] [] run = ap (λ s. s.history) run
  history_run old new (e ∷ events) (a ∷ answers) run = (run.0.history, run.1.step, history_run run.0 new events answers run.2)
  history_run old new [] (a ∷ answers) run = absurd run
  history_run old new (e ∷ events) [] run = absurd run

  -- and lead to a lawful history whose rows are held
  pub stands_after : (old new : OfficeState K) (events : List E) (answers : List A) → OfficeRun old events answers new → StandsLawful old → StandsLawful new
  stands_after old new [] [] run first = subst StandsLawful (sym run) first
  stands_after old new (e ∷ events) (a ∷ answers) run first =
      stands_after run.0 new events answers run.2 (record { held = run.1.held; stands = run.1.stands; lawful = run.1.lawful })
  stands_after old new [] (a ∷ answers) run first = absurd run
  stands_after old new (e ∷ events) [] run first = absurd run

  -- calls that are steps from every lawful history, one after another
  module _ (Served : K → E → A → K → Type 0) (honest : (old new : K) (e : E) (a : A) → Served old e a new → meaning.is_honest new → meaning.is_honest old)
      (steps : (old new : K) (e : E) (a : A) → Served old e a new → Over meaning old new (λ c H. IsStepFrom meaning Step MayMake old c H e a new)) where
    pub steps_from : (old new : K) (events : List E) (answers : List A) → IsRun Served old events answers new
        → Over meaning old new (λ c H. AreStepsFrom meaning Step MayMake old c H events answers new)
    steps_from old new [] [] run now c H held stands lawful = (c, H, ap (λ k. state_at k c H) run)
    steps_from old new (e ∷ events) (a ∷ answers) run now c H held stands lawful =
        let middle = run.0 in
        let then = run_back Served meaning.is_honest honest middle new events answers run.2 now in
        let (b, F, step) = steps old middle e a run.1 then c H held stands lawful in
        let (d, G, rest) = steps_from middle new events answers run.2 now b F step.held step.stands step.lawful in
        (d, G, (state_at middle b F, step, rest))
    steps_from old new [] (a ∷ answers) run now c H held stands lawful = absurd run
    steps_from old new (e ∷ events) [] run now c H held stands lawful = absurd run

-- ---- one step

-- The effect of a call is that of a step, if the content stays after a fault.
pub store_of : {K X : Type 0} (meaning : Meaning K) (old new : K) → Rests meaning → (result : Result X KeepFault) → CallEffect meaning old new result
    → OverContent meaning old new (λ c. OnErr result (meaning.holds new c)) → FindsNoDamage meaning old new result
    → StoreEffect meaning old new (calls_of result)
store_of {X} meaning old new rests (Ok x) goes none whole = record {
  honest = goes.honest;
  goes = goes_as meaning old new x tt goes;
  settles = settles meaning old new (answered x) rests goes;
  spared = λ is. absurd (cc is);
  whole = λ now c held keeps is. (cc is);
}
store_of {X} meaning old new rests (Err fault) goes none whole = record {
  honest = goes.honest;
  goes = goes_fault meaning old new fault goes;
  settles = settles meaning old new (failed_call {X = X} fault) rests goes;
  spared = λ is. let lacks : fault ≡ Memory = (cc is) in spared meaning old new (failed_call {X = X} fault) rests (ap (failed_call {X = X}) lacks) goes none;
  whole = λ now c held keeps is. let damaged : fault ≡ Damaged = (cc is) in whole now c held keeps (ap (failed_call {X = X}) damaged);
}

-- A keep that was not called has the effect of no call.
pub store_uncalled : {K : Type 0} (meaning : Meaning K) → Rests meaning → (old new : K) → new ≡ old → StoreEffect meaning old new None
store_uncalled meaning rests old new same = subst (λ k. StoreEffect meaning old k None) (sym same) (record {
  honest = λ now. now;
  goes = refl;
  settles = settles_still meaning old rests;
  spared = λ is. absurd (cc is);
  whole = λ now c held keeps is. (cc is);
})

-- The rows of the history after the step are held. Once the event is answered, a stop leaves them, as the keep settles.
module _ {K E A : Type 0} (meaning : Meaning K) (Step : History → E → A → History → Type 0) (MayMake : History → E → History → Type 0) where
  pub step_to : (old new : K) → Settles meaning old new → meaning.is_honest new → (c d : Content) (H G : History) (e : E) (a : A)
      → Step H e a G → IsLawful G → meaning.holds new d → Represents d G
      → (meaning.is_store_open old → (F : History) × MayMake H e F × LeavesOr (meaning.leaves new) c F) → IsStepFrom meaning Step MayMake old c H e a new
  step_to old new settles now c d H G e a step lawful held stands crash = (
    d,
    G,
    record {
      step = step;
      lawful = lawful;
      held = held;
      stands = stands;
      crash = crash;
      settled = λ live. elim (settles now live d held) [ inl left ↦ inl left.1 | inr cause ↦ inr cause ];
    },
  )

module _ {K E X : Type 0} (meaning : Meaning K) (Answers : History → E → X → Type 0) (after : History → E → History) (old new : K)
    (settles : Settles meaning old new) (now : meaning.is_honest new) (c : Content) (H : History) (stands : Represents c H) (lawful : IsLawful H) (e : E) where
  abbrev AnsweredFrom : Result X KeepFault → Type 0
  AnsweredFrom outcome = IsStepFrom meaning (λ F f a G. (a ≢ Err Damaged) × IsAnsweredStep Answers after F f a G) (λ F f G. G ≡ after F f) old c H e outcome new

  -- After an answer the keep holds the content d, and after a fault the content from before.
  pub answered_step : IsLawful (after H e) → (outcome : Result X KeepFault) → outcome ≢ Err Damaged → (d : Content)
      → IfOk outcome (λ x. Answers H e x × meaning.holds new d × Represents d (after H e)) → OnErr outcome (meaning.holds new c)
      → (meaning.is_store_open old → LeavesOr (meaning.leaves new) c (after H e)) → AnsweredFrom outcome
  answered_step grown (Ok x) undamaged d (answer, held, represents) failed left =
      step_to meaning _ _ old new settles now c d H (after H e) e (Ok x) (undamaged, (answer, refl)) grown held represents
      (λ live. (after H e, refl, left live))
  answered_step grown (Err fault) undamaged d right failed left =
      step_to meaning _ _ old new settles now c c H H e (Err fault) (undamaged, refl) lawful failed stands (λ live. (after H e, refl, left live))

  -- a reading that leaves the history
  pub read_step : after H e ≡ H → Keeps meaning old new → meaning.holds old c → (outcome : Result X KeepFault) → outcome ≢ Err Damaged
      → IfOk outcome (Answers H e) → AnsweredFrom outcome
  read_step stays keeps held outcome undamaged right =
      let still = keeps.content c held in
      answered_step (subst IsLawful (sym stays) lawful) outcome undamaged c
      (IfOk-weaker outcome _ _ (λ x answer. (answer, still, subst (Represents c) (sym stays) stands)) right)
      (on_err_always outcome still) (λ live. record { others = []; stand = tt; left = keeps.crash live c held })

-- A step is one of other events, if its histories are.
module _ {K E A F B : Type 0} (meaning : Meaning K) (Step : History → E → A → History → Type 0) (MayMake : History → E → History → Type 0)
    (Other : History → F → B → History → Type 0) (OtherMakes : History → F → History → Type 0) where
  pub step_as : (old new : K) (c : Content) (H : History) (e : E) (a : A) (f : F) (b : B) → ((G : History) → Step H e a G → Other H f b G)
      → ((G : History) → MayMake H e G → OtherMakes H f G) → IsStepFrom meaning Step MayMake old c H e a new
      → IsStepFrom meaning Other OtherMakes old c H f b new
  step_as old new c H e a f b steps makes (d, G, step) = (
    d,
    G,
    record {
      step = steps G step.step;
      lawful = step.lawful;
      held = step.held;
      stands = step.stands;
      crash = λ live. let left = step.crash live in (left.0, makes left.0 left.1, left.2);
      settled = step.settled;
    },
  )
