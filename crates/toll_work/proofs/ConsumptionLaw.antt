-- What a consumption owes, of a lot of the batch's owner or of HOUSE.
use Rattle.std.proofs.Common.{◌≡◌, ℕ, true, false, ◌&&◌, is_some, is_none, List, [], ◌∷◌, ◌++◌, refl, sym, ap, subst, ◌∙◌}
use Rattle.toll_work.proofs.Common.{or_parts, or_left, Bytes, same_bytes, house_name, Record, by, History, lot_id, takes_from, Slice, with_row, KeepsRules, row_fits, count_actuals, OwnerFacts, facts_of, facts_given, sublot_row, IsRowsOf, after_changes, changes_of, IsDecided, DecidesWith, DecisionKeepsRules, PutsOnlyWith, Accepted, Checks, verdict_of_checks, key_checks, actual_checks, consumed_checks, tables_for, verdict, IsLawful, IsValidAction, Change, Put, Decision, LotId, Role, Consumed, MoveRow, Actual, SublotRow, Sublot, Move, applies, none_applies, verdict_is, right_over, below_limit, tables_for_are, accepted_passes, move_fits, with_move, with_sublot, is_sublot_key, put_move, put_sublot, put_went, went_out, moved_elsewhere, taken_from_other, tables-untaken, move_room, less_fit, same_bytes-exact, same_bytes-refl, same_bytes-symm, sublot_named}
use Rattle.toll_history.specs.Puts.{less_in_sublot}
use Rattle.toll_work.specs.ActualPlans.{IsConsumptionPlan}
use Rattle.toll_work.specs.declared.actuals.ActualUse.{ActualUse}
use Rattle.toll_work.proofs.MadeChanges.{each_accepted, puts_consumed}
use Rattle.toll_work.proofs.OwedWith.{Owes}
use Rattle.toll_work.proofs.TwoPuts.{after_both, both_keep, second_keeps}
use Rattle.toll_base.specs.declared.capacity.TheConstants.{MOST_ACTUALS}

module _ (key order : Bytes) (number segment : ℕ) (material : Bytes) (lot : LotId) (sublot : Bytes) (amount day : ℕ) where
  abbrev consumption : MoveRow
  consumption = record { key = key; what = Actual order number segment Consumed material lot sublot; amount = amount; day = day }

  -- over the tables of the lot's owner
  abbrev consumed_left : OwnerFacts → SublotRow
  consumed_left = less_in_sublot lot.lot sublot amount

  abbrev consumption_changes : Bytes → OwnerFacts → List Change
  consumption_changes o u = Put o (Move consumption) ∷ Put lot.owner (Sublot (consumed_left u)) ∷ []

  abbrev all_consumption_checks : Bytes → OwnerFacts → OwnerFacts → Checks
  all_consumption_checks o t house = key_checks t consumption ++ actual_checks o t order number segment Consumed material lot ++ consumed_checks t (tables_for o t house lot.owner) order number material lot.lot sublot amount

  takes : (o p : Bytes) (k : Bytes × Bytes) → same_bytes p lot.owner ≡ true → takes_from (lot_id p k.0) k.1 o consumption.what ≡ is_sublot_key lot.lot sublot k
  takes o p k its = ap (λ b. (b && same_bytes k.0 lot.lot) && same_bytes k.1 sublot) its

  takes_none : (o p : Bytes) (k : Bytes × Bytes) → same_bytes p lot.owner ≡ false → takes_from (lot_id p k.0) k.1 o consumption.what ≡ false
  takes_none o p k its = ap (λ b. (b && same_bytes k.0 lot.lot) && same_bytes k.1 sublot) its

  -- ---- over a lawful history

  module _ (H : History) (o : Bytes) (lawful : IsLawful H) (valid : IsValidAction (Record consumption)) (accepted : verdict H (by o (Record consumption)) ≡ Accepted) where
    consumption_its_tables : tables_for o (facts_given H o) (facts_given H house_name) lot.owner ≡ facts_given H lot.owner
    consumption_its_tables = tables_for_are H o lot.owner (move_fits H o consumption accepted 5)

    consumption_sublot_there : is_none (sublot_row H lot.owner (lot.lot, sublot)) ≡ false
    consumption_sublot_there = ap (λ (u : OwnerFacts). is_none (u.sublot (lot.lot, sublot))) (sym consumption_its_tables) ∙ move_fits H o consumption accepted 10

    key_new : (s : Slice) → s.owner ≡ o → IsRowsOf H s → is_some ((facts_of s).movement key) ≡ false
    key_new s e there = ap (λ (t : OwnerFacts). is_some (t.movement key)) (there ∙ ap (facts_given H) e) ∙ accepted_passes H o (Record consumption) accepted 2

    -- the amount left in the sublot, over tables that equal the history's
    module _ (u : OwnerFacts) (is : u ≡ facts_given H lot.owner) (s : Slice) (there : IsRowsOf H s) where
      abbrev IsConsumptionDone : Slice → Type 0
      IsConsumptionDone = IsRowsOf (by o (Record consumption) ∷ H)

      consumption_own_and_its : same_bytes o s.owner ≡ true → same_bytes lot.owner s.owner ≡ true → IsConsumptionDone (with_row (with_row s (Move consumption)) (Sublot (consumed_left u)))
      consumption_own_and_its own its =
          let e = same_bytes-exact o s.owner own in
          let mine : lot.owner ≡ o = same_bytes-exact lot.owner s.owner its ∙ sym e in
          put_went s consumption (consumed_left u) (key_new s (sym e) there)
          ∙ (λ i. with_sublot (consumed_left ((is ∙ ap (facts_given H) mine) i)) (with_move consumption ((there ∙ ap (facts_given H) (sym e)) i)))
          ∙ sym (went_out H o consumption lawful valid accepted lot.lot sublot ((λ l. refl), refl, refl) refl
          (ap (λ w. is_none (sublot_row H w (lot.lot, sublot))) (sym mine) ∙ consumption_sublot_there)
          (λ k. refl) (λ k. takes o o k (ap (same_bytes o) mine ∙ same_bytes-refl o)))
          ∙ ap (facts_given (by o (Record consumption) ∷ H)) e

      consumption_own_alone : same_bytes o s.owner ≡ true → same_bytes lot.owner s.owner ≡ false → IsConsumptionDone (with_row s (Move consumption))
      consumption_own_alone own its =
          let e = same_bytes-exact o s.owner own in
          put_move s consumption (key_new s (sym e) there)
          ∙ (λ i. with_move consumption ((there ∙ ap (facts_given H) (sym e)) i))
          ∙ sym (moved_elsewhere H o consumption lawful valid accepted ((λ l. refl), refl, refl) refl (λ k. refl) (λ k. takes_none o o k (same_bytes-symm o lot.owner ∙ ap (same_bytes lot.owner) e ∙ its)))
          ∙ ap (facts_given (by o (Record consumption) ∷ H)) e

      consumption_its_alone : same_bytes o s.owner ≡ false → same_bytes lot.owner s.owner ≡ true → IsConsumptionDone (with_row s (Sublot (consumed_left u)))
      consumption_its_alone other its =
          let mine = same_bytes-exact lot.owner s.owner its in
          put_sublot s (consumed_left u)
          ∙ (λ i. with_sublot (consumed_left ((is ∙ ap (facts_given H) mine) i)) (there i))
          ∙ sym (taken_from_other H o consumption lawful valid accepted s.owner lot.lot sublot other
          (ap (λ w. is_none (sublot_row H w (lot.lot, sublot))) (sym mine) ∙ consumption_sublot_there)
          (λ k. refl) (λ k. takes o s.owner k (same_bytes-symm s.owner lot.owner ∙ its)))

      consumption_neither : same_bytes o s.owner ≡ false → same_bytes lot.owner s.owner ≡ false → IsConsumptionDone s
      consumption_neither other its = there ∙ sym (tables-untaken H o consumption lawful valid accepted s.owner other (λ k. takes_none o s.owner k (same_bytes-symm s.owner lot.owner ∙ its)))

      consumption_rows_after : IsConsumptionDone (after_changes (consumption_changes o u) s)
      consumption_rows_after = after_both o lot.owner (Move consumption) (Sublot (consumed_left u)) IsConsumptionDone s consumption_own_and_its consumption_own_alone consumption_its_alone consumption_neither

  -- ---- the decision

  module _ (own house : Slice) (d : Decision) where
    abbrev source_tables : OwnerFacts
    source_tables = tables_for own.owner (facts_of own) (facts_of house) lot.owner

    module _ (decided : IsDecided (all_consumption_checks own.owner (facts_of own) (facts_of house)) (consumption_changes own.owner source_tables) d) where
      consumption_decided : DecidesWith (by own.owner (Record consumption)) own house d
      unfolding DecidesWith
      consumption_decided H lawful valid known there house_there is_house =
          let houses : facts_of house ≡ facts_given H house_name = house_there ∙ ap (facts_given H) is_house in
          right_over H (by own.owner (Record consumption)) d _ (consumption_changes own.owner source_tables) decided.says decided.makes
          (verdict_is H own.owner (Record consumption) (facts_of own) (facts_of house) known there houses)
          (λ accepted s s_there. consumption_rows_after H own.owner lawful valid accepted source_tables ((λ i. tables_for own.owner (there i) (houses i) lot.owner) ∙ consumption_its_tables H own.owner lawful valid accepted) s s_there)

      -- the checks that an accepted consumption passed
      module _ (accepted : verdict_of_checks (all_consumption_checks own.owner (facts_of own) (facts_of house)) ≡ Accepted) where
        consumption_passed : (n : ℕ) → applies (all_consumption_checks own.owner (facts_of own) (facts_of house)) n ≡ false
        consumption_passed n = none_applies (all_consumption_checks own.owner (facts_of own) (facts_of house)) accepted n

        move_fits_own : row_fits own (Move consumption) ≡ true
        move_fits_own =
            let full = or_parts _ _ (consumption_passed 15) in
            move_room own consumption full.0 (or_left _ _ (below_limit MOST_ACTUALS (count_actuals order number own.moves) full.1))

        -- in a slice with the tables of the lot's owner
        left_fits : (s : Slice) → KeepsRules s → source_tables ≡ facts_of s → row_fits s (Sublot (consumed_left source_tables)) ≡ true
        left_fits s keeps e =
            ap (λ u. row_fits s (Sublot (consumed_left u))) e
            ∙ less_fit s lot.lot sublot amount keeps
            (ap (λ (u : OwnerFacts). is_none (u.lot lot.lot)) (sym e) ∙ consumption_passed 10)
            (ap (λ (u : OwnerFacts). is_none (u.sublot (lot.lot, sublot))) (sym e) ∙ consumption_passed 13)

      consumption_keeps : KeepsRules own → DecisionKeepsRules own d
      consumption_keeps = both_keep own house lot.owner (Move consumption) (Sublot (consumed_left source_tables)) _ d decided move_fits_own (λ accepted. left_fits accepted own)

      -- Its changes put rows of the owner, or the sublot of HOUSE that it names.
      consumption_puts : PutsOnlyWith own.owner (lot.lot, sublot) (changes_of d)
      consumption_puts =
          each_accepted _ _ (consumption_changes own.owner source_tables) d
          (λ accepted. (or_left _ _ (same_bytes-refl own.owner), puts_consumed own.owner lot sublot (consumed_left source_tables).amount (consumption_passed accepted 8)))
          decided

      consumption_keeps_house : same_bytes own.owner house.owner ≡ false → KeepsRules house → DecisionKeepsRules house d
      consumption_keeps_house = second_keeps own house lot.owner (Move consumption) (Sublot (consumed_left source_tables)) _ d decided (λ accepted. left_fits accepted house)

      consumption_owes : Owes (Record consumption) (lot.lot, sublot) own house d
      consumption_owes = record { decides = consumption_decided; rules = consumption_keeps; house_rules = consumption_keeps_house; puts = consumption_puts }

-- a movement that is a consumption, with its fields
module _ (row : MoveRow) (used : ActualUse) (role : Role) (is : row.what ≡ Actual used.order used.number used.segment role used.material used.lot used.sublot) (consumes : role ≡ Consumed) where
  as_consumption : row ≡ consumption row.key used.order used.number used.segment used.material used.lot used.sublot row.amount row.day
  as_consumption i = record { key = row.key; what = (is ∙ ap (λ r. Actual used.order used.number used.segment r used.material used.lot used.sublot) consumes) i; amount = row.amount; day = row.day }

  -- What its decision owes.
  pub consuming_owes : (own house : Slice) (d : Decision) → IsConsumptionPlan own house row used d → Owes (Record row) (sublot_named row.what) own house d
  consuming_owes own house d =
      subst (λ (r : MoveRow). IsConsumptionPlan own house r used d → Owes (Record r) (sublot_named r.what) own house d) (sym as_consumption)
      (consumption_owes row.key used.order used.number used.segment used.material used.lot used.sublot row.amount row.day own house d)
