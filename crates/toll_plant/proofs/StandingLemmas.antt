-- A standing record is repeated, and a record that was accepted or repeated stands.
use Rattle.std.proofs.Common.{◌≡◌, ℕ, Bool, true, false, ◌&&◌, ◌||◌, not, cond, Option, Some, None, is_some, List, [], ◌∷◌, refl, sym, ap, subst, ◌∙◌, Ok, Err, inl, inr, arith}
use Rattle.std.specs.Prelude.{◌==◌, option_and_then}
use Rattle.toll_plant.proofs.Common.{nat_tests, AllByRecursion, list_any, not-false, false≢true, Bytes, same_bytes, house_name, is_some_where, MoveRow, Refusal, UnknownOwner, KeyConflict, Voided, Record, Command, by, History, acts, adds_owner, owner_known, has_move_key, movement_of, movements, voided_in, voids_key, any_acts, void_of_actual, grow, IsQuestionAnswer, IsVerdictOr, Judged, IsPlantAnswer, after_plant, recorded_command, option_map_or, PlantCmd}
use Rattle.toll_base.specs.Moves.{same_movement, same_what}
use Rattle.toll_base.specs.declared.movement.Move.{Move}
use Rattle.toll_base.specs.declared.movement.Move.TheVariants.{Receive, Split, Ship, Scrap, Actual}
use Rattle.toll_base.specs.declared.role.Role.TheVariants.{Consumed, Produced}
use Rattle.toll_base.proofs.Bools.{and_is, both}
use Rattle.toll_base.proofs.Texts.{same_bytes-exact, same_bytes-refl}
use Rattle.toll_trace.proofs.Drawn.{same_role-refl}
use Rattle.toll_history.specs.OwnerFacts.{OwnerFacts, facts_given}
use Rattle.toll_history.specs.Verdict.{Verdict, Accepted, Repeated, Refused, Checks, IsLawful, checks, verdict_of_checks, grown, is_actual, movement_checks, verdict}
use Rattle.toll_history.proofs.Accepted.{none_applies}
use Rattle.toll_history.proofs.EachMove.{each_move, of_found}
use Rattle.toll_history.proofs.Found.{key_is_new, movement_of-recorded}
use Rattle.std.proofs.lemmas.Bool.{or_from}
use Rattle.toll_history.proofs.RunLemmas.{run_back}
use Rattle.toll_history.specs.Runs.{IsRun}
use Rattle.toll_plant.specs.Outcomes.{outcome_of_verdict, is_fault_outcome}
use Rattle.toll_plant.specs.Imports.{Commands, IsImport, IsRecordStep}
use Rattle.toll_plant.specs.ImportLaws.{IsAcceptedOrRepeated, IsRepeatedOrFault, IsRecordStanding}
use Rattle.toll_plant.specs.declared.outcome.Outcome.{Outcome}
use Rattle.toll_plant.specs.declared.outcome.Outcome.TheVariants as came
use Rattle.toll_plant.proofs.ActualLemmas.{IsDeed, IsDeedOrNone}
use Rattle.toll_plant.proofs.FaultEnds.{acted_all}
use Rattle.toll_plant.proofs.GroupChains.{all_first}

this_number : (n : ℕ) → (n == n) ≡ true
this_number n = grind (arith, nat_tests)

-- ---- the owners of movements are known

still_or : (a b x : Bool) → (a || x) ≡ true → (a || (b || x)) ≡ true
still_or true b x h = refl
still_or false true x h = refl
still_or false false x h = h

known_still : (H : History) (c : Command) (o : Bytes) → owner_known H o ≡ true → owner_known (c ∷ H) o ≡ true
known_still H c o known =
    ap (λ b. same_bytes o house_name || b) (any_acts adds_owner o c H) ∙ still_or (same_bytes o house_name) (same_bytes c.owner o && adds_owner c.action) (list_any adds_owner (acts o H)) known

known_at_first : (H : History) (o : Bytes) (row : MoveRow) → verdict H (by o (Record row)) ≡ Accepted → owner_known H o ≡ true
unfolding checks
known_at_first H o row accepted = not-false (owner_known H o) (none_applies (checks H (by o (Record row))) accepted 0)

all_known : (H : History) → IsLawful H → AllByRecursion (λ m. owner_known H m.0 ≡ true) (movements H)
all_known = each_move (λ H m. owner_known H m.0 ≡ true) (λ H o row lawful valid accepted. known_still H (by o (Record row)) o (known_at_first H o row accepted)) (λ H o a accepted m known. known_still H (by o a) m.0 known)

-- ---- a movement equals itself

same_what-refl : (what : Move) → same_what what what ≡ true
same_what-refl (Receive m l s) = rw (same_bytes-refl m, same_bytes-refl l, same_bytes-refl s) refl
same_what-refl (Split l s t) = rw (same_bytes-refl l, same_bytes-refl s, same_bytes-refl t) refl
same_what-refl (Ship l s) = rw (same_bytes-refl l, same_bytes-refl s) refl
same_what-refl (Scrap l s) = rw (same_bytes-refl l, same_bytes-refl s) refl
same_what-refl (Actual o n g r m l s) = rw (same_bytes-refl o, this_number n, this_number g, same_role-refl r, same_bytes-refl m, same_bytes-refl l.owner, same_bytes-refl l.lot, same_bytes-refl s) refl

same_movement-refl : (row : MoveRow) → same_movement row row ≡ true
same_movement-refl row = rw (same_bytes-refl row.key, same_what-refl row.what, this_number row.amount, this_number row.day) refl

-- ---- a standing record is repeated

key_repeats : (known there void : Bool) (unknown taken_back : Refusal) (more : Checks) → known ≡ true → there ≡ true → void ≡ false
    → verdict_of_checks ((true && not known, Some unknown) ∷ (there && void, Some taken_back) ∷ (there, None) ∷ more) ≡ Repeated
key_repeats known there void unknown taken_back more k t v = rw (k, t, v) refl

-- The owner of a movement that the history has is known.
known_found : (H : History) → IsLawful H → (o key : Bytes) (p : MoveRow → Bool) → is_some_where p (movement_of (acts o H) key) ≡ true → owner_known H o ≡ true
known_found H lawful o key p there = by_found (movement_of (acts o H) key) refl there
  where
    by_found : (found : Option MoveRow) → movement_of (acts o H) key ≡ found → is_some_where p found ≡ true → owner_known H o ≡ true
    by_found None is there = absurd (false≢true there)
    by_found (Some row) is there = of_found (λ m. owner_known H m.0 ≡ true) o key row H (all_known H lawful) is

standing_repeats : (H : History) → IsLawful H → (command : Option PlantCmd) (s : IsRecordStanding H command) → verdict H (by s.owner (Record s.row)) ≡ Repeated
unfolding checks
standing_repeats H lawful command s =
    key_repeats (owner_known H s.owner) (is_some_where (same_movement s.row) (movement_of (acts s.owner H) s.row.key)) (voided_in (acts s.owner H) s.row.key) UnknownOwner Voided
    ((is_some (movement_of (acts s.owner H) s.row.key), Some KeyConflict) ∷ movement_checks s.owner (facts_given H s.owner) (facts_given H house_name) s.row.what s.row.amount)
    (known_found H lawful s.owner s.row.key (same_movement s.row) s.equal) s.equal s.unvoided

-- The answer to a command that records this is the verdict on it, and the history grows by it.
answer_is : (H : History) (c : Command) (command : PlantCmd) (v : Verdict) → recorded_command command ≡ Some c → IsPlantAnswer H command (Judged v) → v ≡ verdict H c
answer_is H c command v is answer =
    let reported : Judged v ≡ Judged (verdict H c) = subst (λ done. IsVerdictOr H done (IsQuestionAnswer H command (Judged v)) (Judged v)) is answer in
    cc reported

after_is : (H : History) (c : Command) (command : PlantCmd) → recorded_command command ≡ Some c → after_plant H command ≡ grow H c
after_is H c command is = ap (λ done. option_map_or (grow H) done H) is

repeated_alone : (H : History) (c : Command) (command : PlantCmd) (v : Verdict) → recorded_command command ≡ Some c → verdict H c ≡ Repeated
    → IsPlantAnswer H command (Judged v) → (v ≡ Repeated) × (after_plant H command ≡ H)
repeated_alone H c command v is repeats answer = (answer_is H c command v is answer ∙ repeats, after_is H c command is ∙ ap (λ w. grown w H c) repeats)

step_repeated : (old new : History) → IsLawful old → (command : Option PlantCmd) (outcome : Outcome) → IsRecordStanding old command
    → IsRecordStep old command outcome new → (new ≡ old) × IsRepeatedOrFault outcome
step_repeated old new lawful None outcome s step = absurd (cc s.requested)
step_repeated old new lawful (Some command) outcome s (Ok v, (answer, grows), is) =
    let alone = repeated_alone old (by s.owner (Record s.row)) command v s.requested (standing_repeats old lawful (Some command) s) answer in
    (grows ∙ alone.1, inl (is ∙ ap outcome_of_verdict alone.0))
step_repeated old new lawful (Some command) outcome s (Err fault, same, is) = (same, inr (ap is_fault_outcome is))

run_repeated : (old new : History) → IsLawful old → (acted : Commands) (outcomes : List Outcome) → AllByRecursion (IsRecordStanding old) acted
    → IsRun IsRecordStep old acted outcomes new → (new ≡ old) × AllByRecursion IsRepeatedOrFault outcomes
run_repeated old new lawful [] [] standing run = (run, tt)
run_repeated old new lawful (c ∷ acted) (outcome ∷ outcomes) standing run =
    let first = step_repeated old run.0 lawful c outcome standing.0 run.1 in
    let rest = run_repeated old new lawful acted outcomes standing.1 (subst (λ H. IsRun IsRecordStep H acted outcomes new) first.0 run.2) in
    (rest.0, (first.1, rest.1))
run_repeated old new lawful acted outcomes standing run = absurd run

pub all_repeated : (old new : History) → IsLawful old → (commands : Commands) (outcomes : List Outcome) → AllByRecursion (IsRecordStanding old) commands
    → IsImport old commands outcomes new → (new ≡ old) × AllByRecursion IsRepeatedOrFault outcomes
all_repeated old new lawful commands outcomes standing import =
    run_repeated old new lawful import.acted outcomes (all_first (IsRecordStanding old) import.acted import.rest (subst (AllByRecursion (IsRecordStanding old)) (sym import.all) standing)) import.so

-- ---- a record that was accepted or repeated stands

-- None of the checks says that a movement is repeated.
abbrev AllRefuse : Checks → Type 0
AllRefuse [] = Unit {0}
AllRefuse ((b, Some why) ∷ more) = AllRefuse more
AllRefuse ((b, None) ∷ more) = ⊥

never_repeats : (all : Checks) → AllRefuse all → verdict_of_checks all ≡ Repeated → ⊥
never_repeats [] refuse is = cc is
never_repeats ((true, Some why) ∷ more) refuse is = cc is
never_repeats ((false, Some why) ∷ more) refuse is = never_repeats more refuse is
never_repeats ((b, None) ∷ more) refuse is = refuse

movements_refuse : (o : Bytes) (t house : OwnerFacts) (what : Move) (amount : ℕ) → AllRefuse (movement_checks o t house what amount)
movements_refuse o t house (Receive material lot sublot) amount = tt
movements_refuse o t house (Split lot sublot target) amount = tt
movements_refuse o t house (Ship lot sublot) amount = tt
movements_refuse o t house (Scrap lot sublot) amount = tt
movements_refuse o t house (Actual order number segment Consumed material lot sublot) amount = tt
movements_refuse o t house (Actual order number segment Produced material lot sublot) amount = tt

-- If the verdict is repeated, the movement is there and not voided.
repeat_means : (unknown there void taken : Bool) (more : Checks) → AllRefuse more
    → verdict_of_checks ((unknown, Some UnknownOwner) ∷ (there && void, Some Voided) ∷ (there, None) ∷ (taken, Some KeyConflict) ∷ more) ≡ Repeated
    → (there ≡ true) × (void ≡ false)
repeat_means true there void taken more refuse is = absurd (cc is)
repeat_means false true true taken more refuse is = absurd (cc is)
repeat_means false true false taken more refuse is = (refl, refl)
repeat_means false false void true more refuse is = absurd (cc is)
repeat_means false false void false more refuse is = absurd (never_repeats more refuse is)

repeated_stands : (H : History) (command : Option PlantCmd) (o : Bytes) (row : MoveRow) → option_and_then recorded_command command ≡ Some (by o (Record row))
    → verdict H (by o (Record row)) ≡ Repeated → IsRecordStanding H command
unfolding checks
repeated_stands H command o row requested repeated =
    let so = repeat_means (not (owner_known H o)) (is_some_where (same_movement row) (movement_of (acts o H) row.key)) (voided_in (acts o H) row.key) (is_some (movement_of (acts o H) row.key))
    (movement_checks o (facts_given H o) (facts_given H house_name) row.what row.amount) (movements_refuse o (facts_given H o) (facts_given H house_name) row.what row.amount) repeated in
    record { owner = o; row = row; requested = requested; equal = so.0; unvoided = so.1 }

-- One more movement is not voided, and voids none.
unvoided_still : (H : History) (w o : Bytes) (row : MoveRow) (key : Bytes) → voided_in (acts o H) key ≡ false → voided_in (acts o (by w (Record row) ∷ H)) key ≡ false
unvoided_still H w o row key none = any_acts (voids_key key) o (by w (Record row)) H ∙ neither (same_bytes w o)
  where
    neither : (b : Bool) → ((b && false) || voided_in (acts o H) key) ≡ false
    neither true = none
    neither false = none

new_is_unvoided : (H : History) → IsLawful H → (o : Bytes) (row : MoveRow) → verdict H (by o (Record row)) ≡ Accepted → voided_in (acts o H) row.key ≡ false
new_is_unvoided H lawful o row accepted = by_voided (voided_in (acts o H) row.key) refl
  where
    by_voided : (b : Bool) → voided_in (acts o H) row.key ≡ b → b ≡ false
    by_voided false is = refl
    by_voided true is = absurd (false≢true (sym (ap (is_some_where (λ r. is_actual r.what)) (key_is_new H o row accepted)) ∙ void_of_actual o row.key H lawful is))

accepted_stands : (H : History) → IsLawful H → (command : Option PlantCmd) (o : Bytes) (row : MoveRow)
    → option_and_then recorded_command command ≡ Some (by o (Record row)) → verdict H (by o (Record row)) ≡ Accepted
    → IsRecordStanding (by o (Record row) ∷ H) command
accepted_stands H lawful command o row requested accepted =
    let found : movement_of (acts o (by o (Record row) ∷ H)) row.key ≡ Some row =
    movement_of-recorded H o row o row.key ∙ ap (λ b. cond b (Some row) (movement_of (acts o H) row.key)) (and_is _ _ (same_bytes-refl o) (same_bytes-refl row.key)) in
    record {
      owner = o;
      row = row;
      requested = requested;
      equal = ap (is_some_where (same_movement row)) found ∙ same_movement-refl row;
      unvoided = unvoided_still H o o row row.key (new_is_unvoided H lawful o row accepted);
    }

-- A standing record still stands after one more accepted movement.
equal_still : (H : History) (w : Bytes) (other : MoveRow) → verdict H (by w (Record other)) ≡ Accepted → (o key : Bytes) (p : MoveRow → Bool)
    → is_some_where p (movement_of (acts o H) key) ≡ true → is_some_where p (movement_of (acts o (by w (Record other) ∷ H)) key) ≡ true
equal_still H w other accepted o key p there =
    ap (is_some_where p) (movement_of-recorded H w other o key)
    ∙ elim (has_move_key o key (w, other)) as (λ b. has_move_key o key (w, other) ≡ b → is_some_where p (cond b (Some other) (movement_of (acts o H) key)) ≡ true) [
      | true ↦ λ hit.
          let parts = both (same_bytes o w) (same_bytes key other.key) hit in
          let none : movement_of (acts o H) key ≡ None = (λ i. movement_of (acts (same_bytes-exact o w parts.0 i) H) (same_bytes-exact key other.key parts.1 i)) ∙ key_is_new H w other accepted in
          absurd (false≢true (sym (ap (is_some_where p) none) ∙ there))
      | false ↦ λ miss. there
    ] refl

still_stands : (H : History) (w : Bytes) (other : MoveRow) → verdict H (by w (Record other)) ≡ Accepted → (command : Option PlantCmd)
    → IsRecordStanding H command → IsRecordStanding (by w (Record other) ∷ H) command
still_stands H w other accepted command s = record {
  owner = s.owner;
  row = s.row;
  requested = s.requested;
  equal = equal_still H w other accepted s.owner s.row.key (same_movement s.row) s.equal;
  unvoided = unvoided_still H w s.owner other s.row.key s.unvoided;
}

-- The record stands afterwards, and so does each that stood before.
abbrev LeavesStanding : History → History → Option PlantCmd → Type 0
LeavesStanding old new command = IsRecordStanding new command × ((c : Option PlantCmd) → IsRecordStanding old c → IsRecordStanding new c)

refused_kept : (why : Refusal) → IsAcceptedOrRepeated (came.Refused why) → ⊥
refused_kept why (inl is) = cc is
refused_kept why (inr is) = cc is

deed_leaves : (H : History) → IsLawful H → (command : PlantCmd) (o : Bytes) (row : MoveRow) → recorded_command command ≡ Some (by o (Record row))
    → (v : Verdict) → verdict H (by o (Record row)) ≡ v → IsAcceptedOrRepeated (outcome_of_verdict v) → LeavesStanding H (grown v H (by o (Record row))) (Some command)
deed_leaves H lawful command o row requested Accepted is kept = (accepted_stands H lawful (Some command) o row requested is, still_stands H o row is)
deed_leaves H lawful command o row requested Repeated is kept = (repeated_stands H (Some command) o row requested is, λ c s. s)
deed_leaves H lawful command o row requested (Refused why) is kept = absurd (refused_kept why kept)

judged_leaves : (H : History) → IsLawful H → (command : PlantCmd) → IsDeed command → (v : Verdict) → IsPlantAnswer H command (Judged v)
    → IsAcceptedOrRepeated (outcome_of_verdict v) → LeavesStanding H (after_plant H command) (Some command)
judged_leaves H lawful command (inl (o, row, requested)) v answer kept =
    let c = by o (Record row) in
    let is = answer_is H c command v requested answer in
    let grows : after_plant H command ≡ grown v H c = after_is H c command requested ∙ ap (λ w. grown w H c) (sym is) in
    subst (λ G. LeavesStanding H G (Some command)) (sym grows) (deed_leaves H lawful command o row requested v (sym is) kept)
judged_leaves H lawful command (inr (why, unread)) v answer kept =
    let reported : Judged v ≡ Judged (Refused why) = subst (λ a. IsPlantAnswer H a (Judged v)) unread answer in
    let so : v ≡ Refused why = cc reported in
    absurd (refused_kept why (subst (λ w. IsAcceptedOrRepeated (outcome_of_verdict w)) so kept))

fault_kept : (outcome : Outcome) → IsAcceptedOrRepeated outcome → is_fault_outcome outcome ≡ false
fault_kept outcome (inl is) = ap is_fault_outcome is
fault_kept outcome (inr is) = ap is_fault_outcome is

step_leaves : (old new : History) → IsLawful old → (command : Option PlantCmd) → IsDeedOrNone command → (outcome : Outcome) → IsAcceptedOrRepeated outcome
    → IsRecordStep old command outcome new → LeavesStanding old new command
step_leaves old new lawful None deed outcome (inl is) step = let never : came.BadRecord ≡ came.Accepted = sym step.0 ∙ is in absurd (cc never)
step_leaves old new lawful None deed outcome (inr is) step = let never : came.BadRecord ≡ came.Repeated = sym step.0 ∙ is in absurd (cc never)
step_leaves old new lawful (Some command) deed outcome kept (Ok v, (answer, grows), is) =
    subst (λ H. LeavesStanding old H (Some command)) (sym grows) (judged_leaves old lawful command deed v answer (subst IsAcceptedOrRepeated is kept))
step_leaves old new lawful (Some command) deed outcome kept (Err fault, same, is) = absurd (false≢true (sym (fault_kept outcome kept) ∙ ap is_fault_outcome is))

-- ---- an earlier part of a lawful history is lawful

before_grown : (v : Verdict) (H : History) (c : Command) → IsLawful (grown v H c) → IsLawful H
before_grown Accepted H c lawful = lawful.0
before_grown Repeated H c lawful = lawful
before_grown (Refused why) H c lawful = lawful

before_plant : (done : Option Command) (H : History) → IsLawful (option_map_or (grow H) done H) → IsLawful H
before_plant (Some c) H lawful = before_grown (verdict H c) H c lawful
before_plant None H lawful = lawful

before_record : (old new : History) (command : Option PlantCmd) (outcome : Outcome) → IsRecordStep old command outcome new → IsLawful new → IsLawful old
before_record old new None outcome step lawful = subst IsLawful step.1 lawful
before_record old new (Some command) outcome (Ok v, (answer, grows), is) lawful = before_plant (recorded_command command) old (subst IsLawful grows lawful)
before_record old new (Some command) outcome (Err fault, same, is) lawful = subst IsLawful same lawful

-- ---- what an import accepted or found repeated stands

-- All of the records stand afterwards, and so does each that stood before.
abbrev LeavesAll : History → History → List (Option PlantCmd) → Type 0
LeavesAll old new commands = AllByRecursion (IsRecordStanding new) commands × ((c : Option PlantCmd) → IsRecordStanding old c → IsRecordStanding new c)

run_stands : (old new : History) → IsLawful new → (acted : Commands) → AllByRecursion IsDeedOrNone acted → (outcomes : List Outcome)
    → AllByRecursion IsAcceptedOrRepeated outcomes → IsRun IsRecordStep old acted outcomes new → LeavesAll old new acted
run_stands old new lawful [] deeds [] kept run = (tt, λ c s. subst (λ H. IsRecordStanding H c) (sym run) s)
run_stands old new lawful (c ∷ acted) deeds (outcome ∷ outcomes) kept run =
    let before = run_back IsRecordStep IsLawful before_record old new (c ∷ acted) (outcome ∷ outcomes) run lawful in
    let first = step_leaves old run.0 before c deeds.0 outcome kept.0 run.1 in
    let rest = run_stands run.0 new lawful acted deeds.1 outcomes kept.1 run.2 in
    ((rest.1 c first.0, rest.0), λ d s. rest.1 d (first.1 d s))
run_stands old new lawful acted deeds outcomes kept run = absurd run

all_kept : (outcomes : List Outcome) → AllByRecursion IsAcceptedOrRepeated outcomes → list_any is_fault_outcome outcomes ≡ false
all_kept [] kept = refl
all_kept (outcome ∷ outcomes) kept = or_from (is_fault_outcome outcome) (list_any is_fault_outcome outcomes) (fault_kept outcome kept.0) (all_kept outcomes kept.1)

pub all_stand : (old new : History) → IsLawful new → (commands : Commands) → AllByRecursion IsDeedOrNone commands → (outcomes : List Outcome)
    → AllByRecursion IsAcceptedOrRepeated outcomes → IsImport old commands outcomes new
    → AllByRecursion (IsRecordStanding new) commands
all_stand old new lawful commands deeds outcomes kept import =
    let acted = acted_all (λ acted. IsRun IsRecordStep old acted outcomes new) commands outcomes import (all_kept outcomes kept) in
    (run_stands old new lawful commands deeds outcomes kept (subst (λ acted. IsRun IsRecordStep old acted outcomes new) acted import.so)).0
