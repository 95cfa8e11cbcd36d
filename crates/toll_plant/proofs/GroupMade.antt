-- A group of records over a keep: read, staged, and made in one call or not at all.
use Rattle.std.proofs.Common.{◌≡◌, Bool, true, false, Some, None, List, [], ◌∷◌, Ok, Err, refl, sym, subst, ap, ◌∙◌, inl, inr}
use Rattle.std.specs.Prelude.{◌⊎◌, IsSome}
use Rattle.std.proofs.lemmas.Bool.{or_from}
use Rattle.toll_desk.proofs.StepLemmas.{step_to, store_of, store_uncalled}
use Rattle.toll_desk.specs.Outcome.{CommitEffect, LeavesOr}
use Rattle.toll_desk.specs.Reads.{Over}
use Rattle.toll_desk.specs.Steps.{Calls, IsKeepStep, StoreEffect}
use Rattle.toll_keep.proofs.Calls.{Rests, goes_then}
use Rattle.toll_keep.specs.CallEffects.{FindsNoDamage, IsReading}
use Rattle.toll_keep.specs.Reads.{HaveRead, IsContentKept}
use Rattle.toll_keep.specs.StagedChanges.{ReadsThrough}
use Rattle.toll_plant.proofs.Common.{list_any, append-nil, list_any-append, false≢true, Change, History, IsLawful, Content, content_after, CallEffect, Meaning, KeepFault, OverContent, ChangesLeadTo}
use Rattle.toll_plant.proofs.FaultEnds.{none_in}
use Rattle.toll_plant.proofs.GroupRuns.{calm_before, fault_first, front_of, run_refused}
use Rattle.toll_plant.proofs.Holding.{record_unread, records_quiet, records_read, records_run}
use Rattle.toll_plant.specs.Imports.{Commands, End, EndWith, IsAfterFirst, IsEndAfter, IsImport, before_accepted, group_steps, last_outcome, refused_at}
use Rattle.toll_plant.specs.Outcomes.{is_outcome_accepted, is_fault_outcome}
use Rattle.toll_plant.specs.StagedRecords.{IsCommitted, IsGroupStaged, IsGroupUnread, ReportsCommit}
use Rattle.toll_plant.specs.declared.grouping.Staged.{Staged}
use Rattle.toll_plant.specs.declared.outcome.Outcome.{Outcome}

-- A fault at the end of a group accepts nothing.
last_quiet : (end : End) → list_any is_outcome_accepted (last_outcome end) ≡ false
last_quiet (Ok done) = refl
last_quiet (Err fault) = refl

-- No fault is among the outcomes before the first accepted one.
calm_of : (reported : List Outcome) (end : End) → EndWith end reported → list_any is_outcome_accepted reported ≡ true
    → list_any is_fault_outcome (before_accepted reported) ≡ false
calm_of reported end ends accepted =
    subst (λ xs. list_any is_fault_outcome (before_accepted xs) ≡ false) (sym ends.said)
    (calm_before ends.calm (last_outcome end) ends.calmly (λ none.
    let never = or_from (list_any is_outcome_accepted ends.calm) (list_any is_outcome_accepted (last_outcome end)) none (last_quiet end) in
    absurd (false≢true (sym never ∙ sym (list_any-append is_outcome_accepted ends.calm (last_outcome end))
    ∙ ap (list_any is_outcome_accepted) (sym ends.said) ∙ accepted))))

-- If no record was accepted, no change is made and there is no fault. So if there is a fault, a record was accepted.
pub accepted_if_fault : {A : Type 0} (reported : List Outcome) (made : List Change) (r : End) (fault : KeepFault)
    → (list_any is_outcome_accepted reported ≡ false → made ≡ []) → (made ≡ [] → A × (r ≡ Ok tt)) → r ≡ Err fault → list_any is_outcome_accepted reported ≡ true
accepted_if_fault reported made r fault quiet idle is = go (list_any is_outcome_accepted reported) refl
  where
    go : (b : Bool) → list_any is_outcome_accepted reported ≡ b → b ≡ true
    go true some = refl
    go false none = absurd (cc (sym is ∙ (idle (quiet none)).1))

-- A group without a fault ended without one.
calm_end : (end : End) (reported : List Outcome) → EndWith end reported → list_any is_fault_outcome reported ≡ false → end ≡ Ok tt
calm_end (Ok done) reported ends calm = refl
calm_end (Err fault) reported ends calm =
    absurd (cc (none_in is_fault_outcome ends.calm (last_outcome (Err fault)) (ap (list_any is_fault_outcome) (sym ends.said) ∙ calm)).1)

module _ {K : Type 0} (meaning : Meaning K) (rests : Rests meaning) where
  abbrev IsStepWithEnd : K → Commands → K → List Outcome → End → Type 0
  IsStepWithEnd old commands new reported end = IsKeepStep meaning group_steps old commands reported new × EndWith end reported

  -- Nothing of a group was made, because of this fault.
  refused_step : (old new : K) (commands : Commands) (reported : List Outcome) (fault : KeepFault) → CallEffect {X = Unit {0}} meaning old new (Err fault)
      → OverContent meaning old new (meaning.holds new) → FindsNoDamage {X = Unit {0}} meaning old new (Err fault)
      → list_any is_fault_outcome (before_accepted reported) ≡ false
      → Over meaning old new (λ c H. IsImport H commands (refused_at fault reported) H
      × (meaning.is_store_open old → (F : History) × IsAfterFirst H commands F × LeavesOr (meaning.leaves new) c F))
      → IsStepWithEnd old commands new (refused_at fault reported) (Err fault)
  refused_step old new commands reported fault goes holds whole calm refused = (
    record {
      outcome = Some (Err fault);
      calls = (Err fault, ends, refl);
      store = store;
      still = λ honest c there none. holds honest c there;
      over = λ honest c H there stands lawful.
          let (imported, left) = refused honest c H there stands lawful in
          step_to meaning IsImport IsAfterFirst old new store.settles honest c c H H commands (refused_at fault reported) imported lawful
          (holds honest c there) stands left;
    },
    ends,
  )
    where
      ends : EndWith (Err fault) (refused_at fault reported)
      ends = record { calm = before_accepted reported; calmly = calm; said = refl }

      store : StoreEffect meaning old new (Some (Err fault))
      store = store_of {X = Unit {0}} meaning old new rests (Err fault) goes holds whole

  -- ---- the changes of a group are made, or not

  module _ (old middle new : K) (commands : Commands) (reported : List Outcome) (held : Staged)
      (are : IsGroupStaged meaning old middle commands reported held) where
    abbrev group_changes : List Change
    group_changes = held.changes.items

    -- If no record was accepted, there are no changes.
    pub group_quiet : list_any is_outcome_accepted reported ≡ false → group_changes ≡ []
    group_quiet none = are.changes ∙ records_quiet meaning old are.records.acted reported (middle, are.staged) are.records.so none

    -- The keep was not used, and no record met a fault; or each reading call was answered.
    group_read : ((middle ≡ old) × (held.end ≡ Ok tt)) ⊎ HaveRead meaning old middle
    group_read = elim (records_read meaning old are.records.acted reported (middle, are.staged) are.records.so) [
      | inl none ↦ inl (none.0.0, calm_end held.end reported are.ends none.1)
      | inr have ↦ inr have
    ]

    group_kept : IsContentKept meaning old middle
    group_kept = elim group_read [
      | inl none ↦ subst (IsContentKept meaning old) (sym none.0) (λ honest. (honest, λ c held. held))
      | inr have ↦ λ honest. (have.goes.honest honest, (have.keeps honest).content)
    ]

    -- From each lawful history that was held, the records are an import, and the changes lead to the history after it.
    group_run : Over meaning old middle (λ c H. (G : History) × IsImport H commands reported G × IsLawful G × ChangesLeadTo c group_changes G)
    group_run now c H there stands lawful =
        let records = are.records in
        let (G, run, after) = records_run meaning old records.acted reported (middle, are.staged) records.so now c H there stands lawful in (
          G,
          record { acted = records.acted; rest = records.rest; all = records.all; so = run; stops = records.stops; whole = records.whole },
          after.lawful,
          subst (λ changes. ChangesLeadTo c changes G) (sym are.changes) after.leads,
        )

    -- There was no call; or there were reading calls, and the changes were made after them.
    group_goes : (made : List Change) (r : End) → CommitEffect meaning middle new made r
        → ((new ≡ old) × (held.end ≡ Ok tt) × (r ≡ Ok tt)) ⊎ CallEffect meaning old new r
    group_goes [] r commit =
        let idle = commit.idle refl in
        elim group_read [
          | inl none ↦ inl (idle.0 ∙ none.0, none.1, idle.1)
          | inr have ↦ inr (subst (λ k. CallEffect meaning old k r) (sym idle.0) (subst (λ r. CallEffect meaning old middle r) (sym idle.1) have.goes))
        ]
    group_goes (change ∷ made) r commit =
        let goes = commit.goes (λ e. (cc e)) in
        elim group_read [
          | inl none ↦ inr (subst (λ k. CallEffect meaning k new r) none.0 goes)
          | inr have ↦ inr (goes_then meaning old middle new tt r have.goes goes)
        ]

    lives : meaning.is_honest middle → meaning.is_store_open old → meaning.is_store_open middle
    lives honest live = elim group_read [ inl none ↦ subst meaning.is_store_open (sym none.0) live | inr have ↦ have.goes.shown honest ]

    -- A stop leaves the rows from before, or those after a first part of the group.
    group_stopped : (r : End) → CommitEffect meaning middle new group_changes r → meaning.is_honest new → (c : Content) (H G : History)
        → meaning.holds old c → IsImport H commands reported G → ChangesLeadTo c group_changes G → meaning.is_store_open old
        → (F : History) × IsAfterFirst H commands F × LeavesOr (meaning.leaves new) c F
    group_stopped r commit honest c H G there imported leads live =
        let before = commit.honest honest in (
          G,
          front_of H G commands reported imported,
          record {
            others = content_after group_changes c ∷ [];
            stand = (leads.stands, tt);
            left = commit.crash honest (lives before live) c ((group_kept before).1 c there) leads.fits;
          },
        )

    module _ (commit : CommitEffect meaning middle new group_changes (Ok tt)) where
      made_with : (calls : Calls) → IsEndAfter calls held.end → StoreEffect meaning old new calls → IsKeepStep meaning group_steps old commands reported new
      made_with calls ends store = record {
        outcome = calls;
        calls = (held.end, are.ends, ends);
        store = store;
        still = λ honest c there none. subst (λ k. meaning.holds k c) (sym (commit.idle (group_quiet none)).0) ((group_kept (commit.honest honest)).1 c there);
        over = λ honest c H there stands lawful.
            let before = commit.honest honest in
            let (G, imported, grown, leads) = group_run before c H there stands lawful in
            step_to meaning IsImport IsAfterFirst old new store.settles honest c (content_after group_changes c) H G commands reported imported grown
            (commit.all honest c ((group_kept before).1 c there) leads.fits) leads.stands
            (group_stopped (Ok tt) commit honest c H G there imported leads);
      }

      made_step : IsKeepStep meaning group_steps old commands reported new
      made_step = elim (group_goes group_changes (Ok tt) commit) [
        | inl none ↦ made_with None none.1 (store_uncalled meaning rests old new none.0)
        | inr goes ↦
            made_with (Some (Ok tt)) are.memory
            (store_of meaning old new rests (Ok tt) goes (λ now c held. tt) (λ now c held keeps is. (cc is)))
      ]

    unmade_step : (fault : KeepFault) → CommitEffect meaning middle new group_changes (Err fault)
        → IsStepWithEnd old commands new (refused_at fault reported) (Err fault)
    unmade_step fault commit =
        refused_step old new commands reported fault (elim (group_goes group_changes (Err fault) commit) [ inl none ↦ absurd (cc none.2) | inr goes ↦ goes ])
        (λ honest c there. commit.none honest c ((group_kept (commit.honest honest)).1 c there))
        (λ honest c there. commit.whole honest c ((group_kept (commit.honest honest)).1 c there)) calm
        (λ honest c H there stands lawful.
        let (G, run, grown, leads) = group_run (commit.honest honest) c H there stands lawful in
        let refused = run_refused H G run.acted run.rest reported fault run.so calm (λ none. absurd (false≢true (sym none ∙ accepted))) in
        (subst (λ all. IsImport H all (refused_at fault reported) H) run.all refused, group_stopped (Err fault) commit honest c H G there run leads))
      where
        accepted : list_any is_outcome_accepted reported ≡ true
        accepted = accepted_if_fault reported group_changes (Err fault) fault group_quiet commit.idle refl

        calm : list_any is_fault_outcome (before_accepted reported) ≡ false
        calm = calm_of reported held.end are.ends accepted

    pub step_by : (now : List Outcome) (result : End) → IsCommitted meaning middle new held reported now result → IsStepWithEnd old commands new now result
    step_by now result made = by_answer made.answer made.carried made.tells
      where
        by_answer : (answer : End) → CommitEffect meaning middle new group_changes answer → ReportsCommit answer reported held.end now result
            → IsStepWithEnd old commands new now result
        by_answer (Ok done) commit tells =
            subst (λ outcomes. IsStepWithEnd old commands new outcomes result) (sym tells.0)
            (subst (IsStepWithEnd old commands new reported) (sym tells.1) (made_step commit, are.ends))
        by_answer (Err fault) commit tells =
            subst (λ outcomes. IsStepWithEnd old commands new outcomes result) (sym tells.0)
            (subst (IsStepWithEnd old commands new (refused_at fault reported)) (sym tells.1) (unmade_step fault commit))

  -- Rows couldn't be read, and no change was made.
  pub unread_step : (old new : K) (commands : Commands) (reported : List Outcome) (fault : KeepFault) → IsGroupUnread meaning old new commands reported fault
      → IsStepWithEnd old commands new (refused_at fault reported) (Err fault)
  unread_step old new commands reported fault are =
      refused_step old new commands reported fault reading.goes (λ honest. (reading.keeps honest).content) reading.whole calm
      (λ honest c H there stands lawful.
      let (G, run, after) = records_run meaning old are.acted reported are.middle are.records (unread.1.kept honest).0 c H there stands lawful in
      let refused = run_refused H G are.acted (are.command ∷ are.rest) reported fault run calm
      (λ none. fault_first G are.command are.rest fault unread.0) in (
        subst (λ all. IsImport H all (refused_at fault reported) H) are.all refused,
        λ live. (H, (0, refl), record { others = []; stand = tt; left = (reading.keeps honest).crash live c there }),
      ))
    where
      unread : IsSome are.command × ReadsThrough {X = Unit {0}} meaning are.middle.0 new are.middle.1 (Err fault)
      unread = record_unread meaning are.middle (new, are.staged) are.command fault are.unread

      reading : IsReading {X = Unit {0}} meaning old new (Err fault)
      reading = unread.1.failed old (elim (records_read meaning old are.acted reported are.middle are.records) [ inl none ↦ inl none.0 | inr have ↦ inr have ])

      calm : list_any is_fault_outcome (before_accepted reported) ≡ false
      calm = subst (λ xs. list_any is_fault_outcome (before_accepted xs) ≡ false) (append-nil reported) (calm_before reported [] are.calm (λ none. refl))
