-- The records of a group, one after another, and their outcomes if the group's changes were not made.
use Rattle.std.proofs.Common.{◌≡◌, ◌<◌, ◌≤◌, suc, Bool, true, false, ◌||◌, cond, Option, Some, None, List, [], ◌∷◌, ◌++◌, length, Ok, Err, refl, sym, subst, ap, ◌∙◌, arith}
use Rattle.std.specs.Prelude.{take, IsSome}
use Rattle.std.proofs.lemmas.Bool.{or_from, or_parts}
use Rattle.toll_history.proofs.RunLemmas.{run_one, run_then}
use Rattle.toll_history.specs.Command.{Command}
use Rattle.toll_history.specs.Runs.{IsRun}
use Rattle.toll_plant.proofs.Common.{list_any, false≢true, History, Verdict, Accepted, Repeated, Refused, grown, verdict, KeepFault, IsQuestionAnswer, IsVerdictOr, Judged, recorded_command, grow, option_map_or, PlantCmd}
use Rattle.toll_plant.proofs.FaultEnds.{all_acted, run_ends, up_to_then}
use Rattle.toll_plant.specs.Imports.{Commands, EndsAt, IsAfterFirst, IsImport, IsRecordStep, after_record, after_records, before_accepted, refused_at}
use Rattle.toll_plant.specs.Outcomes.{is_outcome_accepted, is_fault_outcome, outcome_of_verdict}
use Rattle.toll_plant.specs.declared.outcome.Outcome.{Outcome}
use Rattle.toll_plant.specs.declared.outcome.Outcome.TheVariants as came

-- ---- the outcomes before the first accepted record

-- They have no fault if none of these is a fault, and one of these is accepted or the others have none either.
pub calm_before : (xs ys : List Outcome) → list_any is_fault_outcome xs ≡ false
    → (list_any is_outcome_accepted xs ≡ false → list_any is_fault_outcome (before_accepted ys) ≡ false)
    → list_any is_fault_outcome (before_accepted (xs ++ ys)) ≡ false
calm_before [] ys none calm = calm refl
calm_before (o ∷ xs) ys none calm =
    let parts = or_parts (is_fault_outcome o) (list_any is_fault_outcome xs) none in
    elim (is_outcome_accepted o) as (λ b. is_outcome_accepted o ≡ b → list_any is_fault_outcome (cond b [] (o ∷ before_accepted (xs ++ ys))) ≡ false) [
      | true ↦ λ is. refl
      | false ↦ λ is.
          or_from (is_fault_outcome o) (list_any is_fault_outcome (before_accepted (xs ++ ys))) parts.0
          (calm_before xs ys parts.1 (λ other. calm (or_from (is_outcome_accepted o) (list_any is_outcome_accepted xs) is other)))
    ] refl

-- There are no more of them, and fewer if one is accepted.
go_short : (a : Bool) (o : Outcome) (rest xs : List Outcome) → length rest ≤ length xs → length (cond a [] (o ∷ rest)) ≤ suc (length xs)
go_short true o rest xs le = omega arith
go_short false o rest xs le = omega (arith, le)

pub short_before : (xs : List Outcome) → length (before_accepted xs) ≤ length xs
short_before [] = omega arith
short_before (o ∷ xs) = go_short (is_outcome_accepted o) o (before_accepted xs) xs (short_before xs)

go_shorter : (a : Bool) (o : Outcome) (rest xs : List Outcome) → (a || list_any is_outcome_accepted xs) ≡ true
    → (list_any is_outcome_accepted xs ≡ true → length rest < length xs) → length (cond a [] (o ∷ rest)) < suc (length xs)
go_shorter true o rest xs some lt = omega arith
go_shorter false o rest xs some lt = let less = lt some in omega (arith, less)

pub shorter_before : (xs : List Outcome) → list_any is_outcome_accepted xs ≡ true → length (before_accepted xs) < length xs
shorter_before [] some = absurd (cc some)
shorter_before (o ∷ xs) some = go_shorter (is_outcome_accepted o) o (before_accepted xs) xs some (shorter_before xs)

-- ---- one record

-- A verdict is no fault.
pub calm_verdict : (v : Verdict) → is_fault_outcome (outcome_of_verdict v) ≡ false
calm_verdict Accepted = refl
calm_verdict Repeated = refl
calm_verdict (Refused why) = refl

quiet_verdict : (H : History) (done : Option Command) (otherwise : Type 0) (v : Verdict) → is_outcome_accepted (outcome_of_verdict v) ≡ false
    → IsVerdictOr H done otherwise (Judged v) → option_map_or (grow H) done H ≡ H
quiet_verdict H (Some c) otherwise v none answer =
    let same : v ≡ verdict H c = cc answer in
    ap (λ w. grown w H c) (sym same) ∙ go v none
  where
    go : (v : Verdict) → is_outcome_accepted (outcome_of_verdict v) ≡ false → grown v H c ≡ H
    go Accepted none = absurd (cc none)
    go Repeated none = refl
    go (Refused why) none = refl
quiet_verdict H None otherwise v none answer = refl

-- A record that was not accepted changes nothing.
step_quiet : (old new : History) (command : Option PlantCmd) (o : Outcome) → is_outcome_accepted o ≡ false → IsRecordStep old command o new → new ≡ old
step_quiet old new None o none step = step.1
step_quiet old new (Some command) o none (Ok v, (answer, grows), is) =
    grows ∙ quiet_verdict old (recorded_command command) (IsQuestionAnswer old command (Judged v)) v (ap is_outcome_accepted (sym is) ∙ none) answer
step_quiet old new (Some command) o none (Err fault, same, is) = same

-- A record with a fault changes nothing.
fault_step : (old new : History) (command : Option PlantCmd) (o : Outcome) → is_fault_outcome o ≡ true → IsRecordStep old command o new → new ≡ old
fault_step old new None o faulty step = step.1
fault_step old new (Some command) o faulty (Ok v, (answer, grows), is) = absurd (false≢true (sym (calm_verdict v) ∙ ap is_fault_outcome (sym is) ∙ faulty))
fault_step old new (Some command) o faulty (Err fault, same, is) = same

-- A record without a fault changes the history by its command.
calm_step : (old new : History) (command : Option PlantCmd) (o : Outcome) → is_fault_outcome o ≡ false → IsRecordStep old command o new
    → new ≡ after_record old command
calm_step old new None o calm step = step.1
calm_step old new (Some command) o calm (Ok v, (answer, grows), is) = grows
calm_step old new (Some command) o calm (Err fault, same, is) = absurd (false≢true (sym calm ∙ ap is_fault_outcome is))

-- An accepted record has a command.
accepted_some : (old new : History) (command : Option PlantCmd) (o : Outcome) → is_outcome_accepted o ≡ true → IsRecordStep old command o new → IsSome command
accepted_some old new None o some step = absurd (false≢true (ap is_outcome_accepted (sym step.0) ∙ some))
accepted_some old new (Some command) o some step = refl

-- ---- records one after another

-- Each command may meet a fault, after which no record acts.
pub fault_first : (H : History) (command : Option PlantCmd) (left : Commands) (fault : KeepFault) → IsSome command
    → IsImport H (command ∷ left) (came.Fault fault ∷ []) H
fault_first H None left fault some = absurd (cc some)
fault_first H (Some command) left fault some = record {
  acted = Some command ∷ [];
  rest = left;
  all = refl;
  so = run_one IsRecordStep H H (Some command) (came.Fault fault) (Err fault, refl, refl);
  stops = (λ some. refl, tt);
  whole = λ none. absurd (cc none);
}

-- records that follow records without a fault
pub imports_then : (old middle new : History) (commands more : Commands) (reported behind : List Outcome) → list_any is_fault_outcome reported ≡ false
    → IsImport old commands reported middle → IsImport middle more behind new
    → IsImport old (commands ++ more) (reported ++ behind) new
imports_then old middle new commands more reported behind calm =
    up_to_then (λ acted. IsRun IsRecordStep old acted reported middle) (λ later. IsRun IsRecordStep middle later behind new)
    (λ all. IsRun IsRecordStep old all (reported ++ behind) new) commands more reported behind calm
    (λ acted later. run_then IsRecordStep old middle new acted later reported behind)

-- The history that records leave is that after a first part of them without faults.
run_front : (old new : History) (acted rest : Commands) (reported : List Outcome) → IsRun IsRecordStep old acted reported new → EndsAt is_fault_outcome reported
    → IsAfterFirst old (acted ++ rest) new
run_front old new [] rest [] run stops = (0, run)
run_front old new (c ∷ acted) rest (o ∷ reported) run stops =
    elim (is_fault_outcome o) as (λ b. is_fault_outcome o ≡ b → IsAfterFirst old (c ∷ acted ++ rest) new) [
      | true ↦ λ is.
          let ends : IsRun IsRecordStep run.0 acted [] new = subst (λ more. IsRun IsRecordStep run.0 acted more new) (stops.0 is) run.2 in
          (0, run_ends IsRecordStep run.0 new acted ends ∙ fault_step old run.0 c o is run.1)
      | false ↦ λ is.
          let (n, front) = run_front run.0 new acted rest reported run.2 stops.1 in
          (suc n, front ∙ ap (λ H. after_records H (take n (acted ++ rest))) (calm_step old run.0 c o is run.1))
    ] refl
run_front old new acted rest reported run stops = absurd run

pub front_of : (old new : History) (commands : Commands) (reported : List Outcome) → IsImport old commands reported new → IsAfterFirst old commands new
front_of old new commands reported import = subst (λ all. IsAfterFirst old all new) import.all
    (run_front old new import.acted import.rest reported import.so import.stops)

-- If the changes are not made, the first record that would have changed something has the fault instead. If there is none, the next has it.
pub run_refused : (old new : History) (acted left : Commands) (reported : List Outcome) (fault : KeepFault) → IsRun IsRecordStep old acted reported new
    → list_any is_fault_outcome (before_accepted reported) ≡ false
    → (list_any is_outcome_accepted reported ≡ false → IsImport new left (came.Fault fault ∷ []) new)
    → IsImport old (acted ++ left) (refused_at fault reported) old
run_refused old new [] left [] fault run calm next = subst (λ H. IsImport H left (came.Fault fault ∷ []) H) run (next refl)
run_refused old new (c ∷ acted) left (o ∷ reported) fault run calm next =
    elim (is_outcome_accepted o) as (λ b. is_outcome_accepted o ≡ b → list_any is_fault_outcome (cond b [] (o ∷ before_accepted reported)) ≡ false
    → IsImport old (c ∷ acted ++ left) (cond b [] (o ∷ before_accepted reported) ++ came.Fault fault ∷ []) old) [
      | true ↦ λ is calm. fault_first old c (acted ++ left) fault (accepted_some old run.0 c o is run.1)
      | false ↦ λ is calm.
          let parts = or_parts (is_fault_outcome o) (list_any is_fault_outcome (before_accepted reported)) calm in
          let same = step_quiet old run.0 c o is run.1 in
          let rest = run_refused run.0 new acted left reported fault run.2 parts.1 (λ none. next
          (or_from (is_outcome_accepted o) (list_any is_outcome_accepted reported) is none)) in
          imports_then old old old (c ∷ []) (acted ++ left) (o ∷ []) (refused_at fault reported) (or_from (is_fault_outcome o) false parts.0 refl)
          (all_acted (λ acted. IsRun IsRecordStep old acted (o ∷ []) old) (c ∷ []) (o ∷ [])
          (run_one IsRecordStep old old c o (subst (IsRecordStep old c o) same run.1)) (or_from (is_fault_outcome o) false parts.0 refl))
          (subst (λ H. IsImport H (acted ++ left) (refused_at fault reported) H) same rest)
    ] refl calm
run_refused old new acted left reported fault run calm next = absurd run
