-- Records that are staged, one by one.
use Rattle.std.proofs.Common.{◌≡◌, ◌+◌, ◌<◌, ℕ, zero, suc, true, false, Option, Some, None, List, [], ◌∷◌, ◌++◌, length, get_or, drop, Result, Ok, Err, refl, sym, subst, ap, ◌∙◌, inl, inr, append_assoc, arith}
use Rattle.std.specs.Prelude.{◌⊎◌, take, IsSome}
use Rattle.std.proofs.lemmas.Bool.{or_from, or_parts}
use Rattle.std.proofs.lemmas.List.Elements.{All-nil}
use Rattle.toll_answers.specs.declared.plant_cmd.PlantCmd.TheVariants.{Unread}
use Rattle.toll_desk.specs.OfficeSteps.{IsPlantStep}
use Rattle.toll_desk.specs.PlantStaged.{AfterReads, IsPlantStaged, IsVerdictOrMemory}
use Rattle.toll_desk.specs.Reads.{Over}
use Rattle.toll_desk.specs.declared.plant_cmd.PlantReply.{PlantReply}
use Rattle.toll_history.proofs.RunLemmas.{run_follows, run_more, run_while}
use Rattle.toll_history.specs.Runs.{IsRun}
use Rattle.toll_keep.proofs.StagedLemmas.{after_behind, fits_behind}
use Rattle.toll_keep.specs.Content.{slice_of}
use Rattle.toll_keep.specs.Reads.{HaveRead, IsContentKept}
use Rattle.toll_keep.specs.Remembered.{AreOf, is_addition}
use Rattle.toll_keep.specs.StagedChanges.{IsOver, ReadsThrough}
use Rattle.toll_keep.specs.declared.staged_changes.StagedChanges.{StagedChanges}
use Rattle.toll_plant.proofs.Common.{AllByRecursion, list_any, append-nil, take_more, false≢true, Verdict, Accepted, Repeated, Refused, History, IsLawful, Content, content_after, Meaning, KeepFault, Memory, Represents, IsPlantAnswer, Judged, PlantAnswer, is_answer_accepted as is_granted, meaning_of_plant_reply, ChangesLeadTo, Change, PlantCmd}
use Rattle.toll_plant.proofs.GroupRuns.{calm_verdict}
use Rattle.toll_plant.proofs.LineLemmas.{item_there}
use Rattle.toll_plant.specs.Imports.{Commands, IsRecordStep, before_accepted}
use Rattle.toll_plant.specs.Outcomes.{is_outcome_accepted, is_fault_outcome, outcome_of_verdict, record_outcome}
use Rattle.toll_plant.specs.StagedRecords.{AreRecordsStaged, IsRecordStaged}
use Rattle.toll_plant.specs.declared.outcome.Outcome.{Outcome}
use Rattle.toll_plant.specs.declared.outcome.Outcome.TheVariants as came

-- A fact of each item holds of the one at a place.
pub so_of_item : {X : Type 0} (P : X → Type 0) (xs : List X) (i : ℕ) (x : X) → i < length xs → x ≡ get_or xs i x → AllByRecursion P xs → P x
so_of_item P [] i x lt is all = absurd (omega (arith, lt))
so_of_item P (y ∷ xs) zero x lt is all = subst P (sym is) all.0
so_of_item P (y ∷ xs) (suc i) x lt is all = so_of_item P xs i x (omega (arith, lt)) is all.1

-- ---- how many records come before the first accepted one

pub front_more : (reported : List Outcome) (i : ℕ) (o : Outcome) → i < length reported → o ≡ get_or reported i o → is_outcome_accepted o ≡ false
    → before_accepted reported ≡ take i reported ++ before_accepted (drop i reported)
    → before_accepted reported ≡ take (i + 1) reported ++ before_accepted (drop (i + 1) reported)
front_more reported i o lt is none so_far =
    let here : drop i reported ≡ o ∷ drop (i + 1) reported = item_there reported i o lt is in
    let first : before_accepted (o ∷ drop (i + 1) reported) ≡ o ∷ before_accepted (drop (i + 1) reported) = (rw none refl) in
    let more : take (i + 1) reported ≡ take i reported ++ o ∷ [] = take_more reported i o lt ∙ ap (λ x. take i reported ++ x ∷ []) (sym is) in
    so_far ∙ ap (λ rest. take i reported ++ rest) (ap before_accepted here ∙ first)
    ∙ sym (append_assoc (take i reported) (o ∷ []) (before_accepted (drop (i + 1) reported)))
    ∙ ap (λ xs. xs ++ before_accepted (drop (i + 1) reported)) (sym more)

pub front_there : (reported : List Outcome) (i : ℕ) (o : Outcome) → i < length reported → o ≡ get_or reported i o → is_outcome_accepted o ≡ true
    → before_accepted reported ≡ take i reported ++ before_accepted (drop i reported) → before_accepted reported ≡ take i reported
front_there reported i o lt is some so_far =
    let here : drop i reported ≡ o ∷ drop (i + 1) reported = item_there reported i o lt is in
    let none : before_accepted (o ∷ drop (i + 1) reported) ≡ [] = (rw some refl) in
    so_far ∙ ap (λ rest. take i reported ++ rest) (ap before_accepted here ∙ none) ∙ append-nil (take i reported)

-- ---- one record

-- a verdict, or a lack of memory, as an outcome
outcome_quiet : (answer : Result PlantAnswer KeepFault) → IsVerdictOrMemory answer → is_outcome_accepted (record_outcome answer) ≡ false
    → is_granted answer ≡ false
outcome_quiet (Err fault) judged none = refl
outcome_quiet (Ok x) judged none = subst (λ t. is_outcome_accepted (record_outcome (Ok t)) ≡ false → is_granted (Ok t) ≡ false) (sym judged.1)
    (go judged.0) none
  where
    go : (v : Verdict) → is_outcome_accepted (outcome_of_verdict v) ≡ false → is_granted (Ok (Judged v)) ≡ false
    go Accepted none = absurd (cc none)
    go Repeated none = refl
    go (Refused why) none = refl

outcome_memory : (answer : Result PlantAnswer KeepFault) → IsVerdictOrMemory answer → is_fault_outcome (record_outcome answer) ≡ true
    → record_outcome answer ≡ came.Fault Memory
outcome_memory (Err fault) memory faulty = ap (λ f. came.Fault f) memory
outcome_memory (Ok x) judged faulty =
    absurd (false≢true (sym (ap (λ t. is_fault_outcome (record_outcome (Ok t))) judged.1 ∙ calm_verdict judged.0) ∙ faulty))

outcome_step : (H G : History) (command : PlantCmd) (answer : Result PlantAnswer KeepFault) → IsVerdictOrMemory answer → IsPlantStep H command answer G
    → IsRecordStep H (Some command) (record_outcome answer) G
outcome_step H G command (Err fault) judged step = (Err fault, step, refl)
outcome_step H G command (Ok x) judged step =
    (Ok judged.0, (subst (IsPlantAnswer H command) judged.1 step.0, step.1), ap (λ t. record_outcome (Ok t)) judged.1)

leads_more : (c : Content) (changes made : List Change) (G next : History) → ChangesLeadTo c changes G → ChangesLeadTo (content_after changes c) made next
    → ChangesLeadTo c (changes ++ made) next
leads_more c changes made G next first then = record {
  stands = subst (λ content. Represents content next) (sym (after_behind changes made c)) then.stands;
  fits = fits_behind changes made c first.fits then.fits;
}

-- What is staged behind no other changes is over any content.
over_first : (c : Content) (o : StagedChanges) → o.changes.items ≡ [] → o.slices.items ≡ [] → IsOver c o
over_first c o no_changes no_slices = record {
  slices = subst (AreOf (content_after o.changes.items c)) (sym no_slices) (All-nil (λ s. slice_of (content_after o.changes.items c) s.owner ≡ Some s));
  puts = ap (list_any is_addition) no_changes;
}

module _ {K : Type 0} (meaning : Meaning K) where
  abbrev IsRecord : K × StagedChanges → Option PlantCmd → Outcome → K × StagedChanges → Type 0
  IsRecord was command o is = IsRecordStaged meaning was command (Ok o) is

  -- The record met no fault and used nothing; or its reading calls were answered.
  record_read : (was is : K × StagedChanges) (command : Option PlantCmd) (o : Outcome) → IsRecord was command o is
      → ((is ≡ was) × (is_fault_outcome o ≡ false)) ⊎ ReadsThrough {X = Unit {0}} meaning was.0 is.0 was.1 (Ok tt)
  record_read was is None o staged = inl (staged.1, ap is_fault_outcome staged.0)
  record_read was is (Some command) o staged = by_command command staged.0 staged.1 staged.2
    where
      by_command : (q : PlantCmd) (reply : PlantReply) → IsPlantStaged meaning was q (Ok reply) is → o ≡ record_outcome (meaning_of_plant_reply reply)
          → ((is ≡ was) × (is_fault_outcome o ≡ false)) ⊎ ReadsThrough {X = Unit {0}} meaning was.0 is.0 was.1 (Ok tt)
      by_command (Unread why) reply one same =
          inl (subst (AfterReads meaning was is) one.calls.1 one.reads, ap is_fault_outcome (same ∙ ap record_outcome one.calls.0))
      by_command _ reply one same = inr (subst (AfterReads meaning was is) one.calls one.reads)

  -- If the rows of a record couldn't be read, it has a command.
  pub record_unread : (was is : K × StagedChanges) (command : Option PlantCmd) (fault : KeepFault) → IsRecordStaged meaning was command (Err fault) is
      → IsSome command × ReadsThrough {X = Unit {0}} meaning was.0 is.0 was.1 (Err fault)
  record_unread was is None fault staged = absurd staged
  record_unread was is (Some command) fault staged = (refl, by_command command staged)
    where
      by_command : (q : PlantCmd) → IsPlantStaged meaning was q (Err fault) is → ReadsThrough {X = Unit {0}} meaning was.0 is.0 was.1 (Err fault)
      by_command (Unread why) one = absurd (cc one.calls.0)
      by_command _ one = subst (AfterReads meaning was is) one.calls one.reads

  record_kept : (was is : K × StagedChanges) (command : Option PlantCmd) (o : Outcome) → IsRecord was command o is → IsContentKept meaning was.0 is.0
  record_kept was is command o staged = elim (record_read was is command o staged) [
    | inl none ↦ subst (λ s. IsContentKept meaning was.0 s.0) (sym none.0) (λ honest. (honest, λ c held. held))
    | inr reads ↦ reads.kept
  ]

  record_quiet : (was is : K × StagedChanges) (command : Option PlantCmd) (o : Outcome) → IsRecord was command o is → is_outcome_accepted o ≡ false
      → is.1.changes.items ≡ was.1.changes.items
  record_quiet was is None o staged none = ap (λ s. s.1.changes.items) staged.1
  record_quiet was is (Some command) o (reply, one, same) none =
      one.held
      ∙ ap (λ own. was.1.changes.items ++ own) (one.still (outcome_quiet (meaning_of_plant_reply reply) one.judged (ap is_outcome_accepted (sym same) ∙ none)))
      ∙ append-nil was.1.changes.items

  -- A fault of a record whose rows were read is Memory.
  pub record_memory : (was is : K × StagedChanges) (command : Option PlantCmd) (o : Outcome) → IsRecord was command o is → is_fault_outcome o ≡ true
      → o ≡ came.Fault Memory
  record_memory was is None o staged faulty = absurd (false≢true (sym (ap is_fault_outcome staged.0) ∙ faulty))
  record_memory was is (Some command) o (reply, one, same) faulty =
      same ∙ outcome_memory (meaning_of_plant_reply reply) one.judged (ap is_fault_outcome (sym same) ∙ faulty)

  -- The keep holds the content, and the staged changes lead from there to this lawful history.
  pub record StandsStaged (c : Content) (s : K × StagedChanges) (H : History) : Type 0 where
    pub held : meaning.holds s.0 c
    pub over : IsOver c s.1
    pub leads : ChangesLeadTo c s.1.changes.items H
    pub lawful : IsLawful H

  record_follows : (c : Content) (was is : K × StagedChanges) (command : Option PlantCmd) (o : Outcome) (H : History)
      → IsRecord was command o is × meaning.is_honest is.0 → StandsStaged c was H → (G : History) × IsRecordStep H command o G × StandsStaged c is G
  record_follows c was is None o H staged stands = (H, (staged.0.0, refl), subst (λ s. StandsStaged c s H) (sym staged.0.1) stands)
  record_follows c was is (Some command) o H (staged, honest) stands =
      let (reply, one, same) = staged in
      let kept = record_kept was is (Some command) o staged honest in
      let (G, step, lawful, leads) = one.over honest c stands.held stands.over H stands.leads.stands stands.lawful in (
        G,
        subst (λ o. IsRecordStep H (Some command) o G) (sym same) (outcome_step H G command (meaning_of_plant_reply reply) one.judged step),
        record {
          held = kept.1 c stands.held;
          over = one.laid honest c stands.held stands.over;
          leads = subst (λ changes. ChangesLeadTo c changes G) (sym one.held) (leads_more c was.1.changes.items one.own H G stands.leads leads);
          lawful = lawful;
        },
      )

  -- ---- records one after another

  read_on : (first : K) (old new : K × StagedChanges) (commands : Commands) (reported : List Outcome) → IsRun IsRecord old commands reported new
      → HaveRead meaning first old.0 → HaveRead meaning first new.0
  read_on first old new [] [] run have = subst (λ s. HaveRead meaning first s.0) (sym run) have
  read_on first old new (command ∷ commands) (o ∷ reported) run have =
      read_on first run.0 new commands reported run.2 (elim (record_read old run.0 command o run.1) [
        | inl none ↦ subst (λ s. HaveRead meaning first s.0) (sym none.0) have
        | inr reads ↦ reads.answered first (inr have)
      ])
  read_on first old new commands reported run have = absurd run

  abbrev IsUnused : (first : K) → K × StagedChanges → Type 0
  IsUnused first s = (s.0 ≡ first) × (s.1.slices.items ≡ [])

  unused_on : (first : K) (old new : K × StagedChanges) (commands : Commands) (reported : List Outcome) → IsRun IsRecord old commands reported new
      → IsUnused first old → (IsUnused first new × (list_any is_fault_outcome reported ≡ false)) ⊎ HaveRead meaning first new.0
  unused_on first old new [] [] run unused = inl (subst (IsUnused first) (sym run) unused, refl)
  unused_on first old new (command ∷ commands) (o ∷ reported) run unused = elim (record_read old run.0 command o run.1) [
    | inl none ↦
        elim (unused_on first run.0 new commands reported run.2 (subst (IsUnused first) (sym none.0) unused)) [
          | inl all ↦ inl (all.0, or_from (is_fault_outcome o) (list_any is_fault_outcome reported) none.1 all.1)
          | inr have ↦ inr have
        ]
    | inr reads ↦ inr (read_on first run.0 new commands reported run.2 (reads.answered first (inl unused)))
  ]
  unused_on first old new commands reported run unused = absurd run

  quiet_on : (old new : K × StagedChanges) (commands : Commands) (reported : List Outcome) → IsRun IsRecord old commands reported new
      → list_any is_outcome_accepted reported ≡ false → new.1.changes.items ≡ old.1.changes.items
  quiet_on old new [] [] run none = ap (λ s. s.1.changes.items) run
  quiet_on old new (command ∷ commands) (o ∷ reported) run none =
      let parts = or_parts (is_outcome_accepted o) (list_any is_outcome_accepted reported) none in
      quiet_on run.0 new commands reported run.2 parts.1 ∙ record_quiet old run.0 command o run.1 parts.0
  quiet_on old new commands reported run none = absurd run

  -- The record at this place is staged behind those before it.
  pub records_next : (old : K) (was is : K × StagedChanges) (commands : Commands) (i : ℕ) (command : Option PlantCmd) → i < length commands
      → command ≡ get_or commands i command
      → (reported now : List Outcome) (o : Outcome) → now ≡ reported ++ o ∷ [] → AreRecordsStaged meaning old (take i commands) reported was
      → IsRecord was command o is
      → AreRecordsStaged meaning old (take (i + 1) commands) now is
  records_next old was is commands i command lt placed reported now o all records one = record {
    first = records.first;
    no_changes = records.no_changes;
    no_slices = records.no_slices;
    run = subst (λ outcomes. IsRun IsRecord (old, records.first) (take (i + 1) commands) outcomes is) (sym all)
        (subst (λ acted. IsRun IsRecord (old, records.first) acted (reported ++ o ∷ []) is)
        (sym (take_more commands i command lt ∙ ap (λ x. take i commands ++ x ∷ []) (sym placed)))
        (run_more IsRecord (old, records.first) was is (take i commands) reported command o records.run one));
  }

  module _ (old : K) (commands : Commands) (reported : List Outcome) (new : K × StagedChanges)
      (records : AreRecordsStaged meaning old commands reported new) where
    -- The keep was not used, and no record met a fault; or each reading call was answered.
    pub records_read : (IsUnused old new × (list_any is_fault_outcome reported ≡ false)) ⊎ HaveRead meaning old new.0
    records_read = unused_on old (old, records.first) new commands reported records.run (refl, records.no_slices)

    -- If no record was accepted, nothing is staged.
    pub records_quiet : list_any is_outcome_accepted reported ≡ false → new.1.changes.items ≡ []
    records_quiet none = quiet_on (old, records.first) new commands reported records.run none ∙ records.no_changes

    -- From each lawful history that is held, the records have these outcomes, and the staged changes lead to the history after them.
    pub records_run : Over meaning old new.0 (λ c H. (G : History) × IsRun IsRecordStep H commands reported G × StandsStaged c new G)
    records_run now c H held stands lawful =
        run_follows (λ was command o is. IsRecord was command o is × meaning.is_honest is.0) IsRecordStep (StandsStaged c) (record_follows c)
        (old, records.first) new commands reported H
        (run_while IsRecord (λ s. meaning.is_honest s.0) (λ was is command o staged honest. (record_kept was is command o staged honest).0)
        (old, records.first) new commands reported records.run now)
        (record {
          held = held;
          over = over_first c records.first records.no_changes records.no_slices;
          leads = subst (λ changes. ChangesLeadTo c changes H) (sym records.no_changes) (record { stands = stands; fits = tt });
          lawful = lawful;
        })
