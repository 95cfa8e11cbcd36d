-- What a command owes that adds one row, known by its name, of which an owner has so many at most.
use Rattle.std.proofs.Common.{◌≡◌, ℕ, suc, cond, true, false, Option, Some, is_some, List, [], ◌∷◌, length, sym, ap, ◌∙◌}
use Rattle.toll_history.proofs.Common.{nat_list_cmp_total, Bytes, same_bytes, bytes_cmp, Slice, with_row, KeepsRules, row_fits, row_at, put_row, house_name, or_else, where_so, Put, Decision, Row, row_at-put_row, length-new, Action, by, IsDecided, Decides, DecisionKeepsRules, History, records_or_voids, OwnerFacts, facts_of, facts_given, Checks, Accepted, verdict_of_checks, plant_facts_given, action_checks, verdict}
use Rattle.toll_history.proofs.Adding.{adding_decided, adding_keeps}
use Rattle.toll_history.proofs.Grown.{put_first}

-- a kind of rows: their names, the list of them in a slice, and their part of the tables
pub record Kind (R : Type 0) : Type 0 where
  pub name : R → Bytes
  pub rows : Slice → List R
  pub row : OwnerFacts → Bytes → Option R
  pub count : OwnerFacts → ℕ
  pub with : (Bytes → Option R) → ℕ → OwnerFacts → OwnerFacts

module _ {R : Type 0} (kind : Kind R) (new : R) (a : Action) (row : Row) (unmoved : records_or_voids a ≡ false) where
  -- tables with one row more
  abbrev named_more : OwnerFacts → OwnerFacts
  named_more t = kind.with (λ k. cond (same_bytes k (kind.name new)) (Some new) (kind.row t k)) (suc (kind.count t)) t

  -- The row that was put makes the tables that the accepted command makes.
  pub record IsNamedRowAdded : Type 0 where
    pub known : (s : Slice) → kind.row (facts_of s) ≡ row_at bytes_cmp kind.name (kind.rows s)
    pub counted : (s : Slice) → kind.count (facts_of s) ≡ length (kind.rows s)
    pub in_slice : (s : Slice) → facts_of (with_row s row) ≡ kind.with (row_at bytes_cmp kind.name (put_row bytes_cmp kind.name (kind.rows s) new)) (length (put_row bytes_cmp kind.name (kind.rows s) new)) (facts_of s)
    pub in_history : (H : History) (o : Bytes) → facts_given (by o a ∷ H) o ≡ kind.with (λ k. or_else (where_so (same_bytes k (kind.name new)) new) (kind.row (facts_given H o) k)) (suc (kind.count (facts_given H o))) (facts_given H o)
    pub is_new : (H : History) (o : Bytes) → verdict H (by o a) ≡ Accepted → is_some (kind.row (facts_given H o) (kind.name new)) ≡ false

  module _ (added : IsNamedRowAdded) where
    slice_grows : (s : Slice) → is_some (kind.row (facts_of s) (kind.name new)) ≡ false → facts_of (with_row s row) ≡ named_more (facts_of s)
    slice_grows s absent =
        added.in_slice s
        ∙ (λ i. kind.with (λ k. row_at-put_row bytes_cmp nat_list_cmp_total kind.name (kind.rows s) new k i)
        (length-new bytes_cmp nat_list_cmp_total kind.name (kind.rows s) new (ap (λ f. is_some (f (kind.name new))) (sym (added.known s)) ∙ absent) i) (facts_of s))
        ∙ (λ i. kind.with (λ k. cond (same_bytes k (kind.name new)) (Some new) (sym (added.known s) i k)) (suc (sym (added.counted s) i)) (facts_of s))

    history_grows : (H : History) (o : Bytes) → facts_given (by o a ∷ H) o ≡ named_more (facts_given H o)
    history_grows H o =
        added.in_history H o
        ∙ (λ i. kind.with (λ k. put_first (same_bytes k (kind.name new)) new (kind.row (facts_given H o) k) i) (suc (kind.count (facts_given H o))) (facts_given H o))

    pub naming_owes : (own : Slice) (checks : Checks) (d : Decision) → IsDecided checks (Put own.owner row ∷ []) d →
        ((H : History) → verdict_of_checks checks ≡ verdict_of_checks (action_checks (plant_facts_given H) own.owner (facts_of own) (facts_given H house_name) a)) →
        (verdict_of_checks checks ≡ Accepted → row_fits own row ≡ true) →
        Decides (by own.owner a) own d × (KeepsRules own → DecisionKeepsRules own d)
    naming_owes own checks d decided says fits = (
      adding_decided a row unmoved named_more (λ t. is_some (kind.row t (kind.name new))) slice_grows (λ H o lawful accepted. history_grows H o) added.is_new own d checks decided says,
      adding_keeps own row d checks decided fits,
    )
