-- What the answer owes of a call whose plan is decided over the rows of one owner.
use Rattle.std.specs.Prelude.{List, Result, IfOk}
use Rattle.std.proofs.lemmas.Result.{IfOk-weaker}
use Rattle.toll_history.proofs.Common.{changes_of, Slice, KeepsRules, Change, Decision, Command, IsDecided, Decides, DecisionKeepsRules, Checks}
use Rattle.toll_history.specs.OwnChanges.{PutsOnly}
use Rattle.toll_history.proofs.PutsOwn.{each_decided}

-- If there is a decision, it is right, keeps the rules and puts only rows of this owner.
pub record Owed {E : Type 0} (c : Command) (s : Slice) (r : Result Decision E) : Type 0 where
  pub decides : IfOk r (Decides c s)
  pub rules : IfOk r (DecisionKeepsRules s)
  pub own : IfOk r (λ d. PutsOnly s.owner (changes_of d))

pub owed : {E : Type 0} {c : Command} {s : Slice} {checks : Checks} {changes : List Change} {r : Result Decision E} →
    IfOk r (IsDecided checks changes) →
    ((d : Decision) → IsDecided checks changes d → Decides c s d) →
    ((d : Decision) → IsDecided checks changes d → DecisionKeepsRules s d) →
    PutsOnly s.owner changes →
    Owed c s r
owed {r = r} plan decided keeps puts = record {
  decides = IfOk-weaker r _ _ decided plan;
  rules = IfOk-weaker r _ _ keeps plan;
  own = IfOk-weaker r _ _ (λ d. each_decided _ _ _ d puts) plan;
}

-- The same from a law that has both at once, over rows that keep the rules.
pub owed_by : {E : Type 0} {c : Command} {s : Slice} {checks : Checks} {changes : List Change} {r : Result Decision E} →
    IfOk r (IsDecided checks changes) →
    ((d : Decision) → IsDecided checks changes d → Decides c s d × (KeepsRules s → DecisionKeepsRules s d)) →
    KeepsRules s →
    PutsOnly s.owner changes →
    Owed c s r
owed_by plan law keeps puts = owed plan (λ d decided. (law d decided).0) (λ d decided. (law d decided).1 keeps) puts
