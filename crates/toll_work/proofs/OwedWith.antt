-- What a decision owes that looks at HOUSE's rows too, and may put a sublot of HOUSE.
use Rattle.std.specs.Prelude.{◌≡◌, false, Result, IfOk}
use Rattle.toll_work.proofs.Common.{IfOk-weaker, Bytes, same_bytes, Action, by, Slice, KeepsRules, changes_of, DecidesWith, DecisionKeepsRules, PutsOnlyWith, Decision}

-- What a decision owes for this action, which names this lot and sublot.
pub record Owes (a : Action) (named : Bytes × Bytes) (own house : Slice) (d : Decision) : Type 0 where
  pub decides : DecidesWith (by own.owner a) own house d
  pub rules : KeepsRules own → DecisionKeepsRules own d
  pub house_rules : same_bytes own.owner house.owner ≡ false → KeepsRules house → DecisionKeepsRules house d
  pub puts : PutsOnlyWith own.owner named (changes_of d)

-- If there is a decision, this is what it owes, over rows that keep the rules.
pub record OwedWithHouse {E : Type 0} (a : Action) (named : Bytes × Bytes) (s house : Slice) (r : Result Decision E) : Type 0 where
  pub decides : IfOk r (DecidesWith (by s.owner a) s house)
  pub rules : IfOk r (DecisionKeepsRules s)
  pub house_rules : same_bytes s.owner house.owner ≡ false → IfOk r (DecisionKeepsRules house)
  pub own : IfOk r (λ d. PutsOnlyWith s.owner named (changes_of d))

pub owed_with : {E : Type 0} {a : Action} {named : Bytes × Bytes} {s house : Slice} {P : Decision → Type 0} {r : Result Decision E} → IfOk r P → ((d : Decision) → P d → Owes a named s house d) → KeepsRules s → KeepsRules house → OwedWithHouse a named s house r
owed_with {r = r} plan owes kept house_kept = record {
  decides = IfOk-weaker r _ _ (λ d p. (owes d p).decides) plan;
  rules = IfOk-weaker r _ _ (λ d p. (owes d p).rules kept) plan;
  house_rules = λ other. IfOk-weaker r _ _ (λ d p. (owes d p).house_rules other house_kept) plan;
  own = IfOk-weaker r _ _ (λ d p. (owes d p).puts) plan;
}
