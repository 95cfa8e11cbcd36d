-- Checks that give the verdict still give it with bounds after them that no lawful history meets.
use Rattle.std.proofs.Common.{◌≡◌, List, ◌++◌, map, refl, sym, ap, ◌∙◌}
use Rattle.toll_history.proofs.Common.{Bytes, Slice, KeepsRules, house_name, Put, Decision, Row, Action, by, IsDecided, Decides, DecisionKeepsRules, History, OwnerFacts, facts_of, facts_given, IsRowsOf, Checks, Accepted, verdict_of_checks, plant_facts_given, action_checks, verdict, IsLawful, IsValidAction}
use Rattle.toll_history.proofs.Decided.{verdict_is, Grows, LeavesOthers, RowsFit, decides, keeps_rules}
use Rattle.toll_history.proofs.Room.{unbounded}

-- Over a lawful history there is room for what is accepted.
module _ (a : Action) (bounds : OwnerFacts → Checks) (has_room : (H : History) (o : Bytes) → IsLawful H → IsValidAction a → verdict H (by o a) ≡ Accepted → verdict_of_checks (bounds (facts_given H o)) ≡ Accepted) where
  pub within_bounds : (H : History) (own : Slice) (checks : Checks) → IsLawful H → IsValidAction a → IsRowsOf H own → verdict_of_checks checks ≡ verdict H (by own.owner a) → verdict_of_checks (checks ++ bounds (facts_of own)) ≡ verdict H (by own.owner a)
  within_bounds H own checks lawful valid there is =
      unbounded checks (bounds (facts_of own)) (λ passed. ap (λ t. verdict_of_checks (bounds t)) there ∙ has_room H own.owner lawful valid (sym is ∙ passed)) ∙ is

  -- What the decision owes if its rows are put after checks that give the verdict and these bounds.
  module _ (rows : OwnerFacts → List Row) (grows : Grows a rows) (leaves : LeavesOthers a) (checks : OwnerFacts → Checks)
      (say : (H : History) (o : Bytes) (t house : OwnerFacts) → verdict_of_checks (checks t) ≡ verdict_of_checks (action_checks (plant_facts_given H) o t house a)) where
    pub bounded_owes : (own : Slice) (d : Decision) → IsDecided (checks (facts_of own) ++ bounds (facts_of own)) (map (Put own.owner) (rows (facts_of own))) d →
        (KeepsRules own → verdict_of_checks (checks (facts_of own) ++ bounds (facts_of own)) ≡ Accepted → RowsFit (rows (facts_of own)) own) →
        Decides (by own.owner a) own d × (KeepsRules own → DecisionKeepsRules own d)
    bounded_owes own d decided fit = (
      decides a rows grows leaves own d _ decided
          (λ H lawful valid known there.
          within_bounds H own (checks (facts_of own)) lawful valid there
          (say H own.owner (facts_of own) (facts_given H house_name) ∙ verdict_is H own.owner a (facts_of own) (facts_given H house_name) known there refl)),
      λ keeps. keeps_rules own (rows (facts_of own)) d _ decided keeps (fit keeps),
    )
