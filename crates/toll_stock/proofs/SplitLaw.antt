-- What a split owes.
use Rattle.std.proofs.Common.{◌≡◌, ℕ, ◌+◌, ◌-◌, ◌&&◌, is_some, List, [], ◌∷◌, ◌++◌, false, refl, sym, ap, ◌∙◌}
use Rattle.toll_stock.proofs.Common.{sublot_bounds, Bytes, same_bytes, Record, by, History, Slice, KeepsRules, OwnerFacts, facts_of, facts_given, IsDecided, Decides, DecisionKeepsRules, Accepted, Checks, verdict_of_checks, key_checks, split_checks, amount_in, verdict, IsLawful, IsValidAction, Put, Decision, MoveRow, Split, SublotRow, Row, Sublot, Move, none_applies, Grows, LeavesOthers, accepted_passes, move_fits, with_move, with_sublot, put_went_over, went_over, tables-untaken, sublot_room, went_over_fit, bounded_owes, same_bytes-refl, same_bytes-symm, and_right, gained, less_in_sublot}

module _ (key lot sublot target : Bytes) (amount day : ℕ) where
  abbrev parting : MoveRow
  parting = record { key = key; what = Split lot sublot target; amount = amount; day = day }

  abbrev target_with_more : OwnerFacts → SublotRow
  target_with_more = gained lot target amount

  abbrev less : OwnerFacts → SublotRow
  less = less_in_sublot lot sublot amount

  abbrev split_rows : OwnerFacts → List Row
  split_rows t = Move parting ∷ Sublot (target_with_more t) ∷ Sublot (less t) ∷ []

  split_grows : Grows (Record parting) split_rows
  split_grows H s lawful valid accepted there =
      put_went_over s parting (target_with_more (facts_of s)) (less (facts_of s))
      (ap (λ (t : OwnerFacts). is_some (t.movement key)) there ∙ accepted_passes H s.owner (Record parting) accepted 2)
      ∙ (λ i. with_sublot (less (there i)) (with_sublot (target_with_more (there i)) (with_move parting (there i))))
      ∙ sym (went_over H s.owner parting lawful valid accepted lot sublot target
      ((λ l. refl), refl, refl) refl
      (move_fits H s.owner parting accepted 0)
      (move_fits H s.owner parting accepted 2)
      (λ k. ap (λ b. (b && same_bytes k.0 lot) && same_bytes k.1 target) (same_bytes-refl s.owner))
      (λ k. ap (λ b. (b && same_bytes k.0 lot) && same_bytes k.1 sublot) (same_bytes-refl s.owner)))

  split_leaves : LeavesOthers (Record parting)
  split_leaves H o p lawful valid accepted other =
      tables-untaken H o parting lawful valid accepted p other
      (λ k. ap (λ b. (b && same_bytes k.0 lot) && same_bytes k.1 sublot) (same_bytes-symm p o ∙ other))

  abbrev all_split_checks : OwnerFacts → Checks
  all_split_checks t = key_checks t parting ++ split_checks t lot sublot target amount

  -- Over a lawful history there is room for what is accepted.
  split_has_room : (H : History) (o : Bytes) → IsLawful H → IsValidAction (Record parting) → verdict H (by o (Record parting)) ≡ Accepted → verdict_of_checks (sublot_bounds (facts_given H o) lot target amount) ≡ Accepted
  split_has_room H o lawful valid accepted =
      sublot_room H o parting lawful valid accepted (move_fits H o parting accepted 4) lot target
      (λ i. (same_bytes-refl o i && same_bytes-refl lot i) && same_bytes-refl target i)
      (ap (λ b. (same_bytes o o && same_bytes lot lot) && b) (same_bytes-symm target sublot ∙ move_fits H o parting accepted 0) ∙ and_right (same_bytes o o && same_bytes lot lot) false refl)

  module _ (own : Slice) (d : Decision) (decided : IsDecided (all_split_checks (facts_of own) ++ sublot_bounds (facts_of own) lot target amount) (Put own.owner (Move parting) ∷ Put own.owner (Sublot (target_with_more (facts_of own))) ∷ Put own.owner (Sublot (less (facts_of own))) ∷ []) d) where
    pub split_owes : Decides (by own.owner (Record parting)) own d × (KeepsRules own → DecisionKeepsRules own d)
    split_owes =
        bounded_owes (Record parting) (λ t. sublot_bounds t lot target amount) split_has_room split_rows split_grows split_leaves all_split_checks (λ H o t house. refl) own d decided
        (λ keeps accepted.
        let pass = none_applies (all_split_checks (facts_of own) ++ sublot_bounds (facts_of own) lot target amount) accepted in
        went_over_fit own parting lot sublot target (amount_in (facts_of own) lot target + amount) amount keeps (pass 7) refl (pass 4) (pass 5) (pass 8) (pass 9))
