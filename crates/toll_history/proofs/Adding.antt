-- What the decision owes on a command that adds one row, with a key that isn't known, to the tables of its owner.
use Rattle.std.proofs.Common.{◌≡◌, Bool, true, false, [], ◌∷◌, refl, sym, ap, ◌∙◌}
use Rattle.toll_history.proofs.Common.{Bytes, Slice, with_row, KeepsRules, row_fits, house_name, Put, Decision, Row, Action, by, IsDecided, Decides, DecidesWith, DecisionKeepsRules, History, records_or_voids, OwnerFacts, facts_of, facts_given, Checks, Accepted, verdict_of_checks, plant_facts_given, action_checks, verdict, IsLawful}
use Rattle.toll_history.proofs.Decided.{verdict_is, Grows, LeavesOthers, decides, decides_with, keeps_rules}
use Rattle.toll_history.proofs.Grown.{tables-others}

-- These become the tables of a slice and those of the history, if the key wasn't known.
module _ (a : Action) (row : Row) (unmoved : records_or_voids a ≡ false) (more : OwnerFacts → OwnerFacts) (is_known : OwnerFacts → Bool)
    (in_slice : (s : Slice) → is_known (facts_of s) ≡ false → facts_of (with_row s row) ≡ more (facts_of s))
    (in_history : (H : History) (o : Bytes) → IsLawful H → verdict H (by o a) ≡ Accepted → facts_given (by o a ∷ H) o ≡ more (facts_given H o))
    (is_new : (H : History) (o : Bytes) → verdict H (by o a) ≡ Accepted → is_known (facts_given H o) ≡ false) where
  adding_grows : Grows a (λ t. row ∷ [])
  adding_grows H s lawful valid accepted there =
      in_slice s (ap is_known there ∙ is_new H s.owner accepted) ∙ ap more there ∙ sym (in_history H s.owner lawful accepted)

  adding_leaves : LeavesOthers a
  adding_leaves H o p lawful valid accepted other = tables-others H o a unmoved p other

  module _ (own : Slice) (d : Decision) (checks : Checks) (decided : IsDecided checks (Put own.owner row ∷ []) d) where
    pub adding_decided : ((H : History) → verdict_of_checks checks ≡ verdict_of_checks (action_checks (plant_facts_given H) own.owner (facts_of own) (facts_given H house_name) a)) → Decides (by own.owner a) own d
    adding_decided says =
        decides a (λ t. row ∷ []) adding_grows adding_leaves own d checks decided
        (λ H lawful valid known there. says H ∙ verdict_is H own.owner a (facts_of own) (facts_given H house_name) known there refl)

    -- The same for a decision that also sees HOUSE's rows.
    pub adding_decided_with : (house : Slice) → ((H : History) → verdict_of_checks checks ≡ verdict_of_checks (action_checks (plant_facts_given H) own.owner (facts_of own) (facts_of house) a)) → DecidesWith (by own.owner a) own house d
    adding_decided_with house says =
        decides_with a (λ t. row ∷ []) adding_grows adding_leaves own house d checks decided
        (λ H lawful valid known there houses. says H ∙ verdict_is H own.owner a (facts_of own) (facts_of house) known there houses)

-- The rules are kept, because the row fits if its checks accept.
pub adding_keeps : (own : Slice) (row : Row) (d : Decision) (checks : Checks) → IsDecided checks (Put own.owner row ∷ []) d → (verdict_of_checks checks ≡ Accepted → row_fits own row ≡ true) → KeepsRules own → DecisionKeepsRules own d
adding_keeps own row d checks decided fits keeps = keeps_rules own (row ∷ []) d checks decided keeps (λ accepted. (fits accepted, tt))
