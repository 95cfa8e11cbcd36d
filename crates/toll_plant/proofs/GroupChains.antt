-- Groups of records, one after another.
use Rattle.std.proofs.Common.{◌≡◌, ◌++◌, ℕ, drop, take-append-drop, true, false, Some, None, List, [], ◌∷◌, Ok, Err, IfErr, refl, sym, subst, ap, ◌∙◌, append_assoc, inl, inr}
use Rattle.std.specs.Prelude.{◌⊎◌, flat_map, take}
use Rattle.std.proofs.lemmas.Bool.{or_from, or_parts}
use Rattle.toll_plant.proofs.Common.{AllByRecursion, list_any, append-nil, list_any-append, false≢true, History, CallEffect, Meaning, KeepFault, Memory, Disk, Damaged, Closed}
use Rattle.toll_desk.proofs.KeptRules.{represented_keeps_rules}
use Rattle.toll_desk.proofs.StepLemmas.{StandsLawful, history_run, stands_after, steps_from}
use Rattle.toll_desk.specs.Reads.{Over}
use Rattle.toll_desk.specs.Steps.{AfterCalls, Calls, IsKeepStep, StoreEffect, state_at}
use Rattle.toll_history.proofs.RunLemmas.{run_back}
use Rattle.toll_history.specs.Runs.{IsRun}
use Rattle.toll_plant.proofs.FaultEnds.{all_acted, run_ends, up_to_longer}
use Rattle.toll_plant.proofs.GroupRuns.{imports_then}
use Rattle.toll_plant.specs.Imports.{AreRecordSteps, AreRecordsServed, Commands, End, EndWith, EndsAt, IsAfterFirst, IsEndAfter, IsImport, IsImportOf, IsOpenOutcome, IsRecordStep, IsWholeOutcome, group_steps, last_outcome}
use Rattle.toll_plant.specs.Outcomes.{is_fault_outcome}
use Rattle.toll_plant.specs.declared.outcome.Outcome.{Outcome}
use Rattle.toll_plant.specs.declared.outcome.Outcome.TheVariants as came

-- ---- facts of all items

module _ {X : Type 0} (P : X → Type 0) where
  pub all_both : (xs ys : List X) → AllByRecursion P xs → AllByRecursion P ys → AllByRecursion P (xs ++ ys)
  all_both [] ys first more = more
  all_both (x ∷ xs) ys first more = (first.0, all_both xs ys first.1 more)

  pub all_first : (xs ys : List X) → AllByRecursion P (xs ++ ys) → AllByRecursion P xs
  all_first [] ys all = tt
  all_first (x ∷ xs) ys all = (all.0, all_first xs ys all.1)

  pub all_take : (n : ℕ) (xs : List X) → AllByRecursion P xs → AllByRecursion P (take n xs)
  all_take n xs all = all_first (take n xs) (drop n xs) (subst (AllByRecursion P) (sym (take-append-drop n xs)) all)

-- ---- the outcomes of a group

module _ (P : Outcome → Type 0) (each : (o : Outcome) → is_fault_outcome o ≡ false → P o) where
  all_calm : (reported : List Outcome) → list_any is_fault_outcome reported ≡ false → AllByRecursion P reported
  all_calm [] calm = tt
  all_calm (o ∷ reported) calm =
      let parts = or_parts (is_fault_outcome o) (list_any is_fault_outcome reported) calm in (each o parts.0, all_calm reported parts.1)

  all_last : (end : End) → ((fault : KeepFault) → end ≡ Err fault → P (came.Fault fault)) → AllByRecursion P (last_outcome end)
  all_last (Ok done) last = tt
  all_last (Err fault) last = (last fault refl, tt)

  all_ended : (end : End) (reported : List Outcome) → EndWith end reported → ((fault : KeepFault) → end ≡ Err fault → P (came.Fault fault))
      → AllByRecursion P reported
  all_ended end reported ends last = subst (AllByRecursion P) (sym ends.said) (all_both P ends.calm (last_outcome end) (all_calm ends.calm ends.calmly) (all_last end last))

-- An outcome without a fault reports no damage and no fault except Memory.
calm_whole : (o : Outcome) → is_fault_outcome o ≡ false → IsWholeOutcome o
calm_whole o calm is = false≢true (sym calm ∙ ap is_fault_outcome is)

calm_open : (o : Outcome) → is_fault_outcome o ≡ false → IsOpenOutcome o
calm_open o calm fault is = absurd (false≢true (sym calm ∙ ap is_fault_outcome is))

-- The fault at the end of a group is that of its calls, or Memory.
fault_after : (calls : Calls) (end : End) (fault : KeepFault) → IsEndAfter calls end → end ≡ Err fault
    → (fault ≡ Memory) ⊎ (calls ≡ Some (Err fault))
fault_after None end fault ends is = let never : Err fault ≡ Ok tt = sym is ∙ ends in absurd (cc never)
fault_after (Some (Ok done)) end fault ends is = inl (subst (λ e. IfErr e (λ f. f ≡ Memory)) is ends)
fault_after (Some (Err failed)) end fault ends is = inr (ap (λ r. Some r) (sym ends ∙ is))

-- ---- groups over histories

abbrev all_commands : List Commands → Commands
all_commands groups = flat_map (λ group. group) groups

abbrev all_outcomes : List (List Outcome) → List Outcome
all_outcomes reports = flat_map (λ report. report) reports

-- Imports one after another are an import.
imported_all : (H last : History) (groups : List Commands) (reports : List (List Outcome)) (rest : Commands) → IsRun IsImport H groups reports last
    → EndsAt (list_any is_fault_outcome) reports
    → (list_any is_fault_outcome (all_outcomes reports) ≡ false → rest ≡ []) → IsImport H (all_commands groups ++ rest) (all_outcomes reports) last
imported_all H last [] [] rest run stops whole = subst (λ more. IsImport H more [] last) (sym (whole refl)) (all_acted (λ acted. IsRun IsRecordStep H acted [] last) [] [] run refl)
imported_all H last (group ∷ groups) (report ∷ reports) rest run stops whole =
    let more = all_commands groups ++ rest in
    subst (λ commands. IsImport H commands (report ++ all_outcomes reports) last) (sym (append_assoc group (all_commands groups) rest))
    (elim (list_any is_fault_outcome report) as (λ b. list_any is_fault_outcome report ≡ b → IsImport H (group ++ more) (report ++ all_outcomes reports) last) [
      | true ↦ λ is.
          let none = stops.0 is in
          let ends = run_ends IsImport run.0 last groups (subst (λ others. IsRun IsImport run.0 groups others last) none run.2) in
          subst (λ others. IsImport H (group ++ more) (report ++ all_outcomes others) last) (sym none)
          (subst (λ outcomes. IsImport H (group ++ more) outcomes last) (sym (append-nil report))
          (subst (IsImport H (group ++ more) report) (sym ends) (up_to_longer (λ acted. IsRun IsRecordStep H acted report run.0) group more report is run.1)))
      | false ↦ λ is.
          imports_then H run.0 last group more report (all_outcomes reports) is run.1
          (imported_all run.0 last groups reports rest run.2 stops.1 (λ none. whole (list_any-append is_fault_outcome report (all_outcomes reports) ∙ or_from (list_any is_fault_outcome report) (list_any is_fault_outcome (all_outcomes reports)) is none)))
    ] refl)
imported_all H last groups reports rest run stops whole = absurd run

-- ---- groups over a keep

module _ {K : Type 0} (meaning : Meaning K) where
  abbrev GroupStep : K → Commands → List Outcome → K → Type 0
  GroupStep = IsKeepStep meaning group_steps

  -- A keep that is honest now was honest before.
  group_honest : (old new : K) (commands : Commands) (reported : List Outcome) → GroupStep old commands reported new → meaning.is_honest new
      → meaning.is_honest old
  group_honest old new commands reported step = step.store.honest

  pub groups_honest : (old new : K) (groups : List Commands) (reports : List (List Outcome)) → IsRun GroupStep old groups reports new → meaning.is_honest new
      → meaning.is_honest old
  groups_honest = run_back GroupStep meaning.is_honest group_honest

  -- ---- the records of a file

  module _ (old new : K) (commands : Commands) (reported : List Outcome) (served : AreRecordsServed meaning old commands reported new) where
    pub steps_of : Over meaning old new (λ c H. AreRecordSteps meaning old c H commands reported new)
    steps_of now c H held stands lawful = record {
      groups = served.groups;
      reports = served.reports;
      are = steps_from meaning IsImport IsAfterFirst GroupStep group_honest (λ old new commands reported step. step.over) old new
          served.groups served.reports served.are now c H held stands lawful;
      bounded = served.bounded;
      stops = served.stops;
      outcomes_are = served.outcomes_are;
      rest = served.rest;
      commands_are = served.commands_are;
      whole = served.whole;
    }

    pub run_of : Over meaning old new (λ c H. IsImportOf (meaning.holds new) H commands reported)
    run_of now c H held stands lawful =
        let steps = steps_of now c H held stands lawful in
        let (d, G, run) = steps.are in
        let first : StandsLawful meaning IsImport IsAfterFirst (state_at old c H) = record { held = held; stands = stands; lawful = lawful } in
        let after = stands_after meaning IsImport IsAfterFirst (state_at old c H) (state_at new d G) steps.groups steps.reports run first in
        let imports = history_run meaning IsImport IsAfterFirst (state_at old c H) (state_at new d G) steps.groups steps.reports run in
        let all = imported_all H G steps.groups steps.reports steps.rest imports steps.stops
        (λ calm. steps.whole (ap (list_any is_fault_outcome) (sym steps.outcomes_are) ∙ calm)) in
        record {
          last = G;
          imported = subst (λ requested. IsImport H requested reported G) steps.commands_are
              (subst (λ outcomes. IsImport H (all_commands steps.groups ++ steps.rest) outcomes G) steps.outcomes_are all);
          lawful = after.lawful;
          left = record { content = d; held = after.held; stands = after.stands };
        }

  -- ---- a fact of each outcome

  module _ (P : Outcome → Type 0) (each : (o : Outcome) → is_fault_outcome o ≡ false → P o)
      (memory : P (came.Fault Memory)) (last : (old new : K) (calls : Calls) → StoreEffect meaning old new calls
      → Over meaning old new (λ c H. (fault : KeepFault) → calls ≡ Some (Err fault) → P (came.Fault fault))) where
    group_all : (old new : K) (commands : Commands) (reported : List Outcome) → GroupStep old commands reported new
        → Over meaning old new (λ c H. AllByRecursion P reported)
    group_all old new commands reported step now c H held stands lawful =
        let (end, ends, after) = step.calls in
        all_ended P each end reported ends (λ fault is. elim (fault_after step.outcome end fault after is) [
          | inl lacks ↦ subst (λ f. P (came.Fault f)) (sym lacks) memory
          | inr failed ↦ last old new step.outcome step.store now c H held stands lawful fault failed
        ])

    groups_all : (old new : K) (groups : List Commands) (reports : List (List Outcome)) → IsRun GroupStep old groups reports new
        → Over meaning old new (λ c H. AllByRecursion P (all_outcomes reports))
    groups_all old new [] [] run now c H held stands lawful = tt
    groups_all old new (group ∷ groups) (report ∷ reports) run now c H held stands lawful =
        let then = groups_honest run.0 new groups reports run.2 now in
        let (d, G, step) = run.1.over then c H held stands lawful in
        all_both P report (all_outcomes reports) (group_all old run.0 group report run.1 then c H held stands lawful)
        (groups_all run.0 new groups reports run.2 now d G step.held step.stands step.lawful)
    groups_all old new groups reports run now c H held stands lawful = absurd run

    records_all : (old new : K) (commands : Commands) (reported : List Outcome) → AreRecordsServed meaning old commands reported new
        → Over meaning old new (λ c H. AllByRecursion P reported)
    records_all old new commands reported served now c H held stands lawful =
        subst (AllByRecursion P) served.outcomes_are (groups_all old new served.groups served.reports served.are now c H held stands lawful)

  pub all_whole : (old new : K) (commands : Commands) (reported : List Outcome) → AreRecordsServed meaning old commands reported new
      → Over meaning old new (λ c H. AllByRecursion IsWholeOutcome reported)
  all_whole = records_all IsWholeOutcome calm_whole (λ is. (cc is)) (λ old new calls store now c H held stands lawful fault is damaged.
      let same : fault ≡ Damaged = cc damaged in
      store.whole now c held (represented_keeps_rules H c lawful stands) (is ∙ ap (λ f. Some (Err f)) same))

  -- over a keep that never closes
  module _ (never_closes : (k : K) → meaning.is_closed k ≡ false) where
    memory_alone : (old new : K) (fault : KeepFault) → CallEffect {X = Unit {0}} meaning old new (Err fault) → fault ≡ Memory
    memory_alone old new Memory goes = refl
    memory_alone old new Disk goes = absurd (false≢true (sym (never_closes new) ∙ goes.closes))
    memory_alone old new Damaged goes = absurd (false≢true (sym (never_closes new) ∙ goes.closes))
    memory_alone old new Closed goes = absurd (false≢true (sym (never_closes new) ∙ goes.closes))

    pub all_open : (old new : K) (commands : Commands) (reported : List Outcome) → AreRecordsServed meaning old commands reported new
        → Over meaning old new (λ c H. AllByRecursion IsOpenOutcome reported)
    all_open = records_all IsOpenOutcome calm_open (λ fault same. (cc same)) (λ old new calls store now c H held stands lawful fault is other same.
        let e : fault ≡ other = cc same in
        sym e ∙ memory_alone old new fault (subst (AfterCalls meaning old new) is store.goes))
