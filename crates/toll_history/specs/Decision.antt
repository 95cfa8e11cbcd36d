-- What a decision is, and what it owes: it is the verdict, and its changes make the rows of the grown history.
use Rattle.std.specs.Prelude.{◌≡◌, true, List, [], ◌∷◌, Result, Ok, Err}
use Rattle.toll_history.specs.Common.{house_name, Slice, KeepsRules, Refusal, Change}
use Rattle.toll_history.specs.Command.{Command}
use Rattle.toll_history.specs.History.{History, owner_known}
use Rattle.toll_base.specs.Changes.{after_change, after_changes, changes_of}
use Rattle.toll_history.specs.OwnerFacts.{IsRowsOf}
use Rattle.toll_history.specs.Verdict.{Verdict, Checks, verdict_of_checks, Accepted, Repeated as WasRepeated, Refused, verdict, grow, IsLawful, IsValidAction}
use Rattle.toll_base.specs.declared.decision.Decision.{Decision}
use Rattle.toll_base.specs.declared.decision.Decision.TheVariants.{Accept, Repeated, Refuse}

-- what a decision says
abbrev pub verdict_of : Decision → Verdict
verdict_of (Accept changes) = Accepted
verdict_of Repeated = WasRepeated
verdict_of (Refuse why) = Refused why

-- what a check says: nothing, or why it refuses
abbrev pub verdict_of_result : {X : Type 0} → Result X Refusal → Verdict
verdict_of_result (Ok x) = Accepted
verdict_of_result (Err why) = Refused why

-- the changes of an accepted command; another has none
abbrev pub changes_if : Verdict → List Change → List Change
changes_if Accepted changes = changes
changes_if _ changes = []

-- The decision says what the first check that applies says, and makes these changes if none does.
pub record IsDecided (checks : Checks) (changes : List Change) (d : Decision) : Type 0 where
  pub says : verdict_of d ≡ verdict_of_checks checks
  pub makes : changes_of d ≡ changes_if (verdict_of_checks checks) changes

-- After each of these changes, in order, the slice keeps its rules.
abbrev pub ChangesKeepRules : List Change → Slice → Type 0
ChangesKeepRules [] s = Unit {0}
ChangesKeepRules (change ∷ changes) s = KeepsRules (after_change change s) × ChangesKeepRules changes (after_change change s)

-- Over this history the decision is right for the command, whatever slice of it the changes are put into.
pub record IsRightOver (H : History) (c : Command) (d : Decision) : Type 0 where
  pub verdict_is : verdict_of d ≡ verdict H c
  pub rows_are : (s : Slice) → IsRowsOf H s → IsRowsOf (grow H c) (after_changes (changes_of d) s)

-- Over every lawful history whose rows the owner's slice has, the decision is right for the command.
unfoldable pub Decides : Command → Slice → Decision → Type 0
Decides c own d = (H : History) → IsLawful H → IsValidAction c.action → owner_known H own.owner ≡ true → IsRowsOf H own → IsRightOver H c d

-- The same for a decision that also sees HOUSE's rows.
unfoldable pub DecidesWith : Command → (own house : Slice) → Decision → Type 0
DecidesWith c own house d = (H : History) → IsLawful H → IsValidAction c.action → owner_known H own.owner ≡ true → IsRowsOf H own → IsRowsOf H house → house.owner ≡ house_name → IsRightOver H c d

-- The decision's changes, in order, keep the slice's rules, whatever history it has the rows of, or none.
unfoldable pub DecisionKeepsRules : Slice → Decision → Type 0
DecisionKeepsRules s d = ChangesKeepRules (changes_of d) s
