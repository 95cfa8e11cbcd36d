-- A key acts once.
use Rattle.std.proofs.Common.{◌≡◌, ◌+◌, ◌≤◌, ℕ, Bool, true, false, ◌&&◌, cond, Option, Some, None, is_some, List, [], ◌∷◌, ◌++◌, refl, sym, ap, subst, ◌∙◌, Ok, Err, arith}
use Rattle.toll_plant.proofs.Common.{Bytes, same_bytes, Command, History, acts, movement_of, Verdict, Accepted, Repeated, Refused, IsLawful, IsPlantAnswer, grown, verdict, count_acts, found_once, Judged, IsQuestionAnswer, IsVerdictOr, after_plant, recorded_command, grow, is_some_where, option_map_or, PlantCmd}
use Rattle.toll_history.specs.Laws.{has_this_key}
use Rattle.toll_history.specs.Runs.{IsRun}
use Rattle.toll_plant.specs.Imports.{Commands, IsImport, IsRecordStep, commands_in}
use Rattle.toll_plant.specs.Outcomes.{is_outcome_accepted, outcome_of_verdict}
use Rattle.toll_plant.specs.ImportLaws.{AreImports, Imported, accepted_in_imports, count_accepted, count_keyed, is_keyed}
use Rattle.toll_plant.specs.declared.outcome.Outcome.{Outcome}

-- ---- a history keeps its movements

module _ (o key : Bytes) where
  abbrev keyed : History → ℕ
  keyed H = count_keyed o key H

  key_one_more : (c : Command) (H : History) → keyed (c ∷ H) ≡ cond (same_bytes c.owner o && has_this_key key c.action) 1 0 + keyed H
  key_one_more c H = count_acts (has_this_key key) o c H

  no_fewer : (others H : History) → keyed H ≤ keyed (others ++ H)
  no_fewer [] H = omega arith
  no_fewer (c ∷ others) H = omega (arith, key_one_more c (others ++ H), no_fewer others H)

  kept_grown : (v : Verdict) (H : History) (c : Command) → keyed H ≤ keyed (grown v H c)
  kept_grown Accepted H c = omega (arith, key_one_more c H)
  kept_grown Repeated H c = omega arith
  kept_grown (Refused why) H c = omega arith

  kept_after : (done : Option Command) (H : History) → keyed H ≤ keyed (option_map_or (grow H) done H)
  kept_after (Some c) H = kept_grown (verdict H c) H c
  kept_after None H = omega arith

  -- ---- one record

  -- An accepted record adds one movement with its key.
  accepted_adds : (done : Option Command) (otherwise : Type 0) (H : History) (v : Verdict) → IsVerdictOr H done otherwise (Judged v) → v ≡ Accepted
      → cond (is_some_where (λ (c : Command). same_bytes c.owner o && has_this_key key c.action) done) 1 0 + keyed H ≤ keyed (option_map_or (grow H) done H)
  accepted_adds (Some c) otherwise H v answer accepted =
      let reported : v ≡ verdict H c = cc answer in
      let so : verdict H c ≡ Accepted = sym reported ∙ accepted in
      subst (λ w. cond (same_bytes c.owner o && has_this_key key c.action) 1 0 + keyed H ≤ keyed (grown w H c)) (sym so) (omega (arith, key_one_more c H))
  accepted_adds None otherwise H v answer accepted = omega arith

  abbrev key_counted : Option PlantCmd → Outcome → ℕ
  key_counted command outcome = cond (is_outcome_accepted outcome && is_keyed o key command) 1 0

  judged_counted : (H : History) (command : PlantCmd) (v : Verdict) → IsPlantAnswer H command (Judged v)
      → key_counted (Some command) (outcome_of_verdict v) + keyed H ≤ keyed (after_plant H command)
  judged_counted H command Accepted answer = accepted_adds (recorded_command command) (IsQuestionAnswer H command (Judged Accepted)) H Accepted answer refl
  judged_counted H command Repeated answer = omega (arith, kept_after (recorded_command command) H)
  judged_counted H command (Refused why) answer = omega (arith, kept_after (recorded_command command) H)

  -- A record that changed nothing was not accepted.
  uncounted : (old new : History) (command : Option PlantCmd) (outcome : Outcome) → is_outcome_accepted outcome ≡ false → new ≡ old → key_counted command outcome + keyed old ≤ keyed new
  uncounted old new command outcome none same =
      subst (λ H. key_counted command outcome + keyed old ≤ keyed H) (sym same)
      (let zero : key_counted command outcome ≡ 0 = ap (λ b. cond (b && is_keyed o key command) 1 0) none in omega (arith, zero))

  step_counted : (old new : History) (command : Option PlantCmd) (outcome : Outcome) → IsRecordStep old command outcome new → key_counted command outcome + keyed old ≤ keyed new
  step_counted old new None outcome (bad, same) = uncounted old new None outcome (ap is_outcome_accepted bad) same
  step_counted old new (Some command) outcome (Ok v, (answer, grows), is) =
      subst (λ H. key_counted (Some command) outcome + keyed old ≤ keyed H) (sym grows)
      (subst (λ x. key_counted (Some command) x + keyed old ≤ keyed (after_plant old command)) (sym is) (judged_counted old command v answer))
  step_counted old new (Some command) outcome (Err fault, same, is) = uncounted old new (Some command) outcome (ap is_outcome_accepted is) same

  -- ---- records in order

  none_counted : (commands : Commands) → count_accepted o key commands [] ≡ 0
  none_counted [] = refl
  none_counted (c ∷ commands) = refl

  run_counted : (old new : History) (acted rest : Commands) (outcomes : List Outcome) → IsRun IsRecordStep old acted outcomes new
      → count_accepted o key (acted ++ rest) outcomes + keyed old ≤ keyed new
  run_counted old new [] rest [] run = let same : keyed new ≡ keyed old = ap keyed run in omega (arith, none_counted rest)
  run_counted old new (c ∷ acted) rest (outcome ∷ outcomes) run =
      omega (arith, step_counted old run.0 c outcome run.1, run_counted run.0 new acted rest outcomes run.2)
  run_counted old new acted rest outcomes run = absurd run

  import_counted : (old new : History) (commands : Commands) (outcomes : List Outcome) → IsImport old commands outcomes new
      → count_accepted o key commands outcomes + keyed old ≤ keyed new
  import_counted old new commands outcomes import =
      subst (λ all. count_accepted o key all outcomes + keyed old ≤ keyed new) import.all (run_counted old new import.acted import.rest outcomes import.so)

  -- ---- imports in order

  imports_counted : (old new : History) (imports : List Imported) → AreImports old imports new → accepted_in_imports o key imports + keyed old ≤ keyed new
  imports_counted old new [] run = let same : keyed new ≡ keyed (run.0 ++ old) = ap keyed run.1 in omega (arith, no_fewer run.0 old)
  imports_counted old new (i ∷ imports) run =
      let first = import_counted (run.0 ++ old) run.1 (commands_in i.records) i.outcomes run.2 in
      let rest = imports_counted run.1 new imports run.3 in
      omega (arith, no_fewer run.0 old, first, rest)

  key_at_most_one : (b : Bool) (n : ℕ) → n ≡ cond b 1 0 → n ≤ 1
  key_at_most_one true n is = omega (arith, is)
  key_at_most_one false n is = omega (arith, is)

  pub imported_once : (old new : History) (imports : List Imported) → IsLawful new → AreImports old imports new → keyed old + accepted_in_imports o key imports ≤ 1
  imported_once old new imports lawful run =
      let most = key_at_most_one (is_some (movement_of (acts o new) key)) (keyed new) (found_once o key new lawful) in
      omega (arith, imports_counted old new imports run, most)
