-- The groups of an import, one after another.
use Rattle.std.proofs.Common.{◌≡◌, ℕ, ◌+◌, ◌-◌, ◌<◌, ◌≤◌, ◌++◌, drop, Bool, true, false, cond, List, [], ◌∷◌, length, Ok, Err, refl, sym, subst, ap, ◌∙◌, append_assoc, take-append-drop, inl, inr, arith}
use Rattle.std.specs.Prelude.{◌==◌, ◌||◌, flat_map, min, take}
use Rattle.std.proofs.lemmas.Bool.{or_from}
use Rattle.std.proofs.lemmas.List.{flat_map_more}
use Rattle.toll_desk.specs.Steps.{IsKeepStep}
use Rattle.toll_history.proofs.RunLemmas.{run_more}
use Rattle.toll_history.specs.Runs.{IsRun}
use Rattle.toll_plant.proofs.Common.{AllByRecursion, list_any, append-nil, list_any-append, false≢true, drop-append-add, drop_all, drop_min, length-drop, length-take, length-take-le, take_min, take_rest, Meaning}
use Rattle.toll_plant.proofs.FaultEnds.{ends_then, none_in}
use Rattle.toll_plant.proofs.GroupChains.{all_both}
use Rattle.toll_plant.specs.Imports.{AreRecordsServed, Commands, End, EndWith, HasValidValues, InGroups, group_steps, outcomes_in}
use Rattle.toll_plant.specs.ImportStates.{HasActed, ImportState, IsResumed}
use Rattle.toll_plant.specs.Outcomes.{is_fault_outcome}
use Rattle.toll_plant.specs.declared.grouping.TheConstants.{GROUP_RECORDS}
use Rattle.toll_plant.specs.declared.outcome.Outcome.{Outcome}
use Rattle.toll_plant.specs.declared.outcome.Outcome.TheVariants.{Fault}

-- A group is as many of the records that are left as a group may have.
group_size : (k n : ℕ) (left : Commands) → k ≡ min (length left) n → k ≡ min n (length left)
group_size k n left is = omega (arith, is)

pub behind_is : (n k at next : ℕ) (commands piece : Commands) → next ≤ length commands → piece ≡ drop next commands → k ≡ min (length piece) n → at ≡ next + k
    → drop at commands ≡ drop n (drop next commands)
behind_is n k at next commands piece within is count place =
    ap (λ m. drop m commands) place ∙ ap (drop (next + k)) (sym (take-append-drop next commands))
    ∙ ap (λ m. drop (m + k) (take next commands ++ drop next commands)) (sym (length-take-le next commands within))
    ∙ drop-append-add (take next commands) (drop next commands) k
    ∙ ap (λ m. drop m (drop next commands)) (group_size k n (drop next commands) (count ∙ ap (λ left. min (length left) n) is)) ∙ drop_min n (drop next commands)

-- the records from a place on
pub rest_is : (next : ℕ) (slice commands : Commands) → slice ≡ commands → take (length slice - next) (drop next slice) ≡ drop next commands
rest_is next slice commands same = take_rest slice next ∙ ap (drop next) same

some_left : (empty : Bool) (piece left : Commands) → piece ≡ left → empty ≡ (length piece == 0) → empty ≡ false → left ≡ [] → ⊥
some_left empty piece left is result not none =
    let never : true ≡ false = sym (result ∙ ap (λ commands. length commands == 0) (is ∙ none)) ∙ not in cc never

-- the records that are left after a group: none if one met a fault
abbrev pub left_behind : End → Commands → Commands
left_behind (Ok done) commands = commands
left_behind (Err fault) commands = []

left_of : (end : End) (reported : List Outcome) (commands : Commands) → EndWith end reported
    → left_behind end commands ≡ cond (list_any is_fault_outcome reported) [] commands
left_of (Ok done) reported commands ends =
    let calm : list_any is_fault_outcome reported ≡ false = ap (list_any is_fault_outcome) (ends.said ∙ append-nil ends.calm) ∙ ends.calmly in rw calm refl
left_of (Err fault) reported commands ends =
    let faulty : list_any is_fault_outcome reported ≡ true = ap (list_any is_fault_outcome) ends.said ∙ list_any-append is_fault_outcome ends.calm (Fault fault ∷ []) ∙ ap (λ b. b || true) ends.calmly in
    rw faulty refl

module _ {K : Type 0} (meaning : Meaning K) (old new : K) (was now : ImportState) (commands piece group : Commands) (next k : ℕ) (empty : Bool) (reported : List Outcome) (end : End) where
  -- A group has acted.
  pub group_acted : piece ≡ drop next commands → drop next commands ≡ was.left → AllByRecursion HasValidValues (drop next commands)
      → empty ≡ (length piece == 0) → empty ≡ false
      → k ≡ min (length piece) GROUP_RECORDS → group ≡ take k piece → IsKeepStep meaning group_steps old group reported new → EndWith end reported → outcomes_in now.lines ≡ outcomes_in was.lines ++ reported
      → now.left ≡ left_behind end (drop GROUP_RECORDS (drop next commands)) → IsResumed meaning old new was now
  group_acted is before valid tests not count front step ends said left =
      let all : piece ≡ was.left = is ∙ before in
      let group_is : group ≡ take GROUP_RECORDS was.left =
      front ∙ ap (λ m. take m piece) (group_size k GROUP_RECORDS piece count) ∙ take_min GROUP_RECORDS piece ∙ ap (take GROUP_RECORDS) all in
      inl (record {
        some = some_left empty piece was.left all tests not;
        valid = subst (AllByRecursion HasValidValues) before valid;
        reported = reported;
        served = subst (λ acting. IsKeepStep meaning group_steps old acting reported new) group_is step;
        said = said;
        left = left ∙ left_of end reported (drop GROUP_RECORDS (drop next commands)) ends
            ∙ ap (λ rest. cond (list_any is_fault_outcome reported) [] (drop GROUP_RECORDS rest)) before;
      })

-- No record is left at the end, and some are left at each place before it.
pub over_from : (next : ℕ) (commands : Commands) → next ≡ length commands → drop next commands ≡ []
over_from next commands is = drop_all next commands (omega (arith, is))

pub over_at : (next : ℕ) (commands : Commands) → next ≤ length commands → drop next commands ≡ [] → next ≡ length commands
over_at next commands within none =
    let rest : length (drop next commands) ≡ length commands - next = length-drop next commands in
    let empty : length (drop next commands) ≡ 0 = ap length none in
    omega (arith, rest, empty, within)

-- A group takes at least one of the records that are left.
fewer_behind : (n : ℕ) (left : Commands) (b : Bool) → 0 < n → (left ≡ [] → ⊥) → length (cond b [] (drop n left)) < length left
fewer_behind n [] b some have = absurd (have refl)
fewer_behind n (command ∷ left) false some have = omega (arith, some, length-drop n (command ∷ left))
fewer_behind n (command ∷ left) true some have = omega arith

-- Fewer records are left.
pub fewer_left : {K : Type 0} (meaning : Meaning K) (keep next : K) (was now : ImportState) → (was.left ≡ [] → ⊥) → IsResumed meaning keep next was now
    → length now.left < length was.left
fewer_left meaning keep next was now have (inl acted) =
    subst (λ left. length left < length was.left) (sym acted.left) (fewer_behind GROUP_RECORDS was.left (list_any is_fault_outcome acted.reported) (omega arith) have)
fewer_left meaning keep next was now have (inr over) = absurd (have over.0)

-- If no outcome is a fault, no report has one.
no_report : (reports : List (List Outcome)) → list_any is_fault_outcome (flat_map (λ report. report) reports) ≡ false
    → list_any (list_any is_fault_outcome) reports ≡ false
no_report [] calm = refl
no_report (report ∷ reports) calm =
    let parts = none_in is_fault_outcome report (flat_map (λ report. report) reports) calm in
    or_from (list_any is_fault_outcome report) (list_any (list_any is_fault_outcome) reports) parts.0 (no_report reports parts.1)

module _ {K : Type 0} (meaning : Meaning K) (first : K) (commands : Commands) where
  -- The records so far had outcomes in groups. After a fault none is left.
  pub record IsImportedSoFar (keep : K) (import : ImportState) : Type 0 where
    pub groups : InGroups (λ groups reports. IsRun (IsKeepStep meaning group_steps) first groups reports keep) commands (outcomes_in import.lines) import.left
    pub over : list_any is_fault_outcome (outcomes_in import.lines) ≡ true → import.left ≡ []

  pub so_begun : (import : ImportState) → import.left ≡ commands → import.lines ≡ [] → IsImportedSoFar first import
  so_begun import all none = record {
    groups = record { groups = []; reports = []; are = refl; bounded = tt; stops = tt; outcomes_are = ap outcomes_in (sym none); rest = commands; commands_are = refl; whole = λ calm. sym all };
    over = λ faulty. absurd (false≢true (sym (ap (λ lines. list_any is_fault_outcome (outcomes_in lines)) none) ∙ faulty));
  }

  module _ (keep next : K) (was now : ImportState) (have : was.left ≡ [] → ⊥) (so : IsImportedSoFar keep was) (acted : HasActed meaning keep next was now) where
    abbrev group : Commands
    group = take GROUP_RECORDS was.left

    abbrev behind : Commands
    behind = drop GROUP_RECORDS was.left

    was_calm : list_any is_fault_outcome (outcomes_in was.lines) ≡ false
    was_calm = elim (list_any is_fault_outcome (outcomes_in was.lines)) as (λ b. list_any is_fault_outcome (outcomes_in was.lines) ≡ b → b ≡ false) [
      | true ↦ λ faulty. absurd (have (so.over faulty))
      | false ↦ λ calm. refl
    ] refl

    -- After the group there is a fault if it met one.
    faulty_now : list_any is_fault_outcome (outcomes_in now.lines) ≡ list_any is_fault_outcome acted.reported
    faulty_now =
        ap (list_any is_fault_outcome) acted.said ∙ list_any-append is_fault_outcome (outcomes_in was.lines) acted.reported
        ∙ ap (λ b. b || list_any is_fault_outcome acted.reported) was_calm

    left_if : (b : Bool) → list_any is_fault_outcome (outcomes_in now.lines) ≡ b → now.left ≡ cond b [] behind
    left_if b is = acted.left ∙ ap (λ faulty. cond faulty [] behind) (sym faulty_now ∙ is)

    within : length group ≤ GROUP_RECORDS
    within = let short : length (take GROUP_RECORDS was.left) ≡ min GROUP_RECORDS (length was.left) = length-take GROUP_RECORDS was.left in omega (arith, short)

    so_acted : IsImportedSoFar next now
    so_acted =
        let earlier = so.groups in
        let all_groups = flat_map (λ group. group) earlier.groups in
        record {
          groups = record {
            groups = earlier.groups ++ group ∷ [];
            reports = earlier.reports ++ acted.reported ∷ [];
            are = run_more (IsKeepStep meaning group_steps) first keep next earlier.groups earlier.reports group acted.reported earlier.are acted.served;
            bounded = all_both (λ group. length group ≤ GROUP_RECORDS) earlier.groups (group ∷ []) earlier.bounded (within, tt);
            stops = ends_then (list_any is_fault_outcome) earlier.reports (acted.reported ∷ []) (no_report earlier.reports (ap (list_any is_fault_outcome) earlier.outcomes_are ∙ was_calm)) (λ faulty. refl, tt);
            outcomes_are = sym (flat_map_more (λ report. report) [] earlier.reports acted.reported) ∙ ap (λ before. before ++ acted.reported) earlier.outcomes_are ∙ sym acted.said;
            rest = behind;
            commands_are =
                ap (λ before. before ++ behind) (sym (flat_map_more (λ group. group) [] earlier.groups group)) ∙ append_assoc all_groups group behind
                ∙ ap (λ left. all_groups ++ left) (take-append-drop GROUP_RECORDS was.left ∙ sym (earlier.whole was_calm)) ∙ earlier.commands_are;
            whole = λ calm. sym (left_if false calm);
          };
          over = left_if true;
        }

  pub so_on : (keep next : K) (was now : ImportState) → (was.left ≡ [] → ⊥) → IsImportedSoFar keep was → IsResumed meaning keep next was now
      → IsImportedSoFar next now
  so_on keep next was now have so (inl acted) = so_acted keep next was now have so acted
  so_on keep next was now have so (inr over) = absurd (have over.0)

  -- All records were served, or those up to a fault.
  pub so_over : (keep : K) (import : ImportState) → import.left ≡ [] → IsImportedSoFar keep import
      → AreRecordsServed meaning first commands (outcomes_in import.lines) keep
  so_over keep import none so = subst (InGroups (λ groups reports. IsRun (IsKeepStep meaning group_steps) first groups reports keep) commands (outcomes_in import.lines)) none so.groups
