-- What a production owes.
use Rattle.std.proofs.Common.{◌≡◌, ℕ, Bool, true, false, not, ◌&&◌, cond, nat_le, nat_lt, length, Some, None, is_some, is_none, List, [], ◌∷◌, ◌++◌, map, refl, sym, ap, subst, ◌∙◌}
use Rattle.toll_work.proofs.Common.{lot_row_of, bytes_cmp, option_map, acts-own, lot_made, with_row, sublot_at, RowsFit, put_rows, puts_rows, sublot_room_in, or_parts, or_left, not-false, lot_bounds, sublot_bounds, Bytes, same_bytes, Record, by, History, acts, lot_id, first_made, sublot_in, movements, Slice, lot_at, KeepsRules, count_actuals, where_so, is_some_where, material_of, OwnerFacts, facts_of, facts_given, changes_of, PutsOnlyWith, IsDecided, DecidesWith, DecisionKeepsRules, Accepted, Checks, verdict_of_checks, verdict_of_check, key_checks, actual_checks, produced_checks, recipe_of_order, verdict, IsLawful, IsValidAction, Put, Decision, LotId, LimitReached, Role, Produced, MoveRow, Actual, SublotRow, Row, Lot, Sublot, Move, none_applies, verdict_is, Grows, LeavesOthers, decides_with, keeps_rules, below_limit, some_if_not_none, known_passes, accepted_passes, move_fits, with_move, with_lot, with_sublot, put_came, recorded_came_in, tables-untaken, each_decided, sublot_room, came_fit, same_bytes-exact, same_bytes-refl, same_bytes-symm, sublot_named}
use Rattle.toll_history.specs.Puts.{gained}
use Rattle.toll_base.specs.declared.lot.Disposition.TheVariants.{Quarantined}
use Rattle.toll_base.specs.declared.lot.Origin.TheVariants.{Batch}
use Rattle.toll_base.specs.declared.rows.LotRow.{LotRow}
use Rattle.toll_history.specs.OwnerFacts.{lot_row, lot_row_made}
use Rattle.toll_history.proofs.CameIn.{came_in}
use Rattle.toll_history.proofs.LotMaterials.{source_material}
use Rattle.toll_history.proofs.Lots.{made_stays}
use Rattle.toll_history.proofs.Within.{within_bounds}
use Rattle.toll_work.specs.ActualPlans.{IsProductionPlan}
use Rattle.toll_work.specs.declared.actuals.ActualUse.{ActualUse}
use Rattle.toll_work.proofs.FoundRow.{known_not_none, put_again}
use Rattle.toll_work.proofs.MadeChanges.{puts_with, others_keep}
use Rattle.toll_work.proofs.OwedWith.{Owes}
use Rattle.toll_base.specs.declared.capacity.TheConstants.{MOST_ACTUALS, MOST_STOCK, MOST_SUBLOTS}

module _ (key order : Bytes) (number segment : ℕ) (material : Bytes) (lot : LotId) (sublot : Bytes) (amount day : ℕ) where
  abbrev production : MoveRow
  production = record { key = key; what = Actual order number segment Produced material lot sublot; amount = amount; day = day }

  abbrev produced : LotRow
  produced = lot_row_of lot.lot material (Batch order number) Quarantined

  abbrev production_holding : OwnerFacts → SublotRow
  production_holding = gained lot.lot sublot amount

  -- the rows, without the lot if it is known
  abbrev rows_with : (lot_is_known : Bool) → OwnerFacts → List Row
  rows_with lot_is_known t = Move production ∷ cond lot_is_known [] (Lot produced ∷ []) ++ Sublot (production_holding t) ∷ []

  abbrev production_rows : OwnerFacts → List Row
  production_rows t = rows_with (is_some (t.lot lot.lot)) t

  -- The lot is the batch's owner's.
  production_its : (H : History) (o : Bytes) → verdict H (by o (Record production)) ≡ Accepted → same_bytes o lot.owner ≡ true
  production_its H o accepted = same_bytes-symm o lot.owner ∙ not-false (same_bytes lot.owner o) (move_fits H o production accepted 5)

  its_id : (o : Bytes) → same_bytes o lot.owner ≡ true → lot ≡ lot_id o lot.lot
  its_id o mine = λ i. record { owner = sym (same_bytes-exact o lot.owner mine) i; lot = lot.lot }

  -- A known lot has the row of a new one.
  known_as_new : (H : History) (o : Bytes) → IsLawful H → verdict H (by o (Record production)) ≡ Accepted → (old : LotRow) → lot_row H o lot.lot ≡ Some old → lot_row H o lot.lot ≡ Some produced
  known_as_new H o lawful accepted old =
      elim (lot_made H (lot_id o lot.lot)) as (λ x. lot_made H (lot_id o lot.lot) ≡ x → option_map (lot_row_made (acts o H) lot.lot) x ≡ Some old → option_map (lot_row_made (acts o H) lot.lot) x ≡ Some produced) [
        | None ↦ λ none known. (cc)
        | Some made ↦ λ is known.
            sym (λ i. option_map (lot_row_made (acts-own o (by o (Record production)) H (same_bytes-refl o) i) lot.lot) (made_stays H o (Record production) (lot_id o lot.lot) made is i))
            ∙ came_in H o production lot.lot (record { material = material; origin = Batch order number }) lawful accepted
            (λ i. where_so (production_its H o accepted i && same_bytes-refl lot.lot i) (record { material = material; origin = Batch order number }))
      ] refl

  -- So the rows after it are the same whether or not it is put again.
  rows_put : (s : Slice) → ((old : LotRow) → lot_at s lot.lot ≡ Some old → lot_at s lot.lot ≡ Some produced) → put_rows (production_rows (facts_of s)) s ≡ put_rows (rows_with false (facts_of s)) s
  rows_put s as_new =
      elim (lot_at s lot.lot) as (λ x. lot_at s lot.lot ≡ x → put_rows (rows_with (is_some x) (facts_of s)) s ≡ put_rows (rows_with false (facts_of s)) s) [
        | None ↦ λ none. refl
        | Some old ↦ λ found. ap (λ lots. with_row (record (with_row s (Move production)) { lots = lots }) (Sublot (production_holding (facts_of s)))) (sym (put_again bytes_cmp (λ (r : LotRow). r.lot) s.lots produced (as_new old found)))
      ] refl

  production_grows : Grows (Record production) production_rows
  production_grows H s lawful valid accepted there =
      let mine = production_its H s.owner accepted in
      let lots : lot_at s lot.lot ≡ lot_row H s.owner lot.lot = ap (λ (t : OwnerFacts). t.lot lot.lot) there in
      ap facts_of (rows_put s (λ old found. lots ∙ known_as_new H s.owner lawful accepted old (sym lots ∙ found)))
      ∙ put_came s production produced (production_holding (facts_of s))
      (ap (λ (t : OwnerFacts). is_some (t.movement key)) there ∙ accepted_passes H s.owner (Record production) accepted 2)
      (λ old found. same_bytes-exact old.material material
      (known_passes (λ (row : LotRow). same_bytes row.material material) (lot_at s lot.lot) (ap (λ (t : OwnerFacts). is_some_where (λ row. not (same_bytes row.material material)) (t.lot lot.lot)) there ∙ move_fits H s.owner production accepted 8) old found))
      ∙ (λ i. with_sublot (production_holding (there i)) (with_lot produced (with_move production (there i))))
      ∙ sym (recorded_came_in H s.owner production lawful valid accepted lot.lot material (Batch order number) sublot
      (λ l. ap (λ b. where_so (b && same_bytes l lot.lot) (record { material = material; origin = Batch order number })) mine)
      (ap (λ id. is_none (first_made id (movements H))) (its_id s.owner mine))
      (ap (λ id. not (sublot_in id sublot (movements H))) (its_id s.owner mine))
      (λ k. ap (λ b. (b && same_bytes k.0 lot.lot) && same_bytes k.1 sublot) mine)
      (λ k. refl))

  production_leaves : LeavesOthers (Record production)
  production_leaves H o p lawful valid accepted other = tables-untaken H o production lawful valid accepted p other (λ k. refl)

  abbrev all_production_checks : Bytes → OwnerFacts → Checks
  all_production_checks o t = key_checks t production ++ actual_checks o t order number segment Produced material lot ++ produced_checks t order number material lot.lot

  -- Over a lawful history there is room for what is accepted, and the material is there.
  production_has_room : (H : History) (o : Bytes) → IsLawful H → IsValidAction (Record production) → verdict H (by o (Record production)) ≡ Accepted → verdict_of_checks (lot_bounds (facts_given H o) material lot.lot sublot amount) ≡ Accepted
  production_has_room H o lawful valid accepted =
      let mine = production_its H o accepted in
      ap (λ b. cond b (verdict_of_check (Some LimitReached)) (verdict_of_checks (sublot_bounds (facts_given H o) lot.lot sublot amount))) (there mine)
      ∙ sublot_room H o production lawful valid accepted (or_parts _ _ (or_parts _ _ (move_fits H o production accepted 10)).0).0 lot.lot sublot
      (λ i. (mine i && same_bytes-refl lot.lot i) && same_bytes-refl sublot i) refl
    where
      there : same_bytes o lot.owner ≡ true → is_none (material_of (acts o H) material) ≡ false
      there mine = known_not_none _ (ap (λ w. is_some (material_of (acts w H) material)) (same_bytes-exact o lot.owner mine)
          ∙ source_material H o (recipe_of_order (facts_given H o) order, segment, Produced, lot.owner, material) lawful (some_if_not_none _ (move_fits H o production accepted 6)))

  -- The rows fit if they do with the lot put in any case, and the sublot has room.
  rows_fit : (s : Slice) → RowsFit (rows_with false (facts_of s)) s → (is_none (sublot_at s (lot.lot, sublot)) && nat_le MOST_SUBLOTS (length s.sublots)) ≡ false → nat_lt MOST_STOCK (production_holding (facts_of s)).amount ≡ false → RowsFit (production_rows (facts_of s)) s
  rows_fit s fit room small =
      elim (lot_at s lot.lot) as (λ x. lot_at s lot.lot ≡ x → RowsFit (rows_with (is_some x) (facts_of s)) s) [
        | None ↦ λ none. fit
        | Some old ↦ λ found. (fit.0, (sublot_room_in (with_row s (Move production)) (production_holding (facts_of s)) room small (ap is_some found), tt))
      ] refl

  module _ (own house : Slice) (d : Decision) (decided : IsDecided (all_production_checks own.owner (facts_of own) ++ lot_bounds (facts_of own) material lot.lot sublot amount) (map (Put own.owner) (production_rows (facts_of own))) d) where
    production_decided : DecidesWith (by own.owner (Record production)) own house d
    production_decided =
        decides_with (Record production) production_rows production_grows production_leaves own house d _ decided
        (λ H lawful valid known there houses.
        within_bounds (Record production) (λ t. lot_bounds t material lot.lot sublot amount) production_has_room H own (all_production_checks own.owner (facts_of own)) lawful valid there (verdict_is H own.owner (Record production) (facts_of own) (facts_of house) known there houses))

    production_keeps : KeepsRules own → DecisionKeepsRules own d
    production_keeps keeps =
        keeps_rules own (production_rows (facts_of own)) d _ decided keeps
        (λ accepted.
        let pass = none_applies (all_production_checks own.owner (facts_of own) ++ lot_bounds (facts_of own) material lot.lot sublot amount) accepted in
        let full = or_parts _ _ (pass 13) in
        let moves = or_parts _ _ full.0 in
        rows_fit own
        (came_fit own production produced (production_holding (facts_of own)) refl moves.0 (or_left _ _ (below_limit MOST_ACTUALS (count_actuals order number own.moves) moves.1)) full.1 (pass 14) (pass 15) (pass 16))
        (pass 15) (pass 16))

    production_puts : PutsOnlyWith own.owner (lot.lot, sublot) (changes_of d)
    production_puts = puts_with own.owner _ (changes_of d) (each_decided _ _ _ d (puts_rows own.owner (production_rows (facts_of own))) decided)

    production_keeps_house : same_bytes own.owner house.owner ≡ false → KeepsRules house → DecisionKeepsRules house d
    production_keeps_house = others_keep own.owner (production_rows (facts_of own)) house d _ decided

    production_owes : Owes (Record production) (lot.lot, sublot) own house d
    production_owes = record { decides = production_decided; rules = production_keeps; house_rules = production_keeps_house; puts = production_puts }

-- a movement that is a production, with its fields
module _ (row : MoveRow) (used : ActualUse) (role : Role) (is : row.what ≡ Actual used.order used.number used.segment role used.material used.lot used.sublot) (produces : role ≡ Produced) where
  as_production : row ≡ production row.key used.order used.number used.segment used.material used.lot used.sublot row.amount row.day
  as_production i = record { key = row.key; what = (is ∙ ap (λ r. Actual used.order used.number used.segment r used.material used.lot used.sublot) produces) i; amount = row.amount; day = row.day }

  -- What its decision owes.
  pub producing_owes : (own house : Slice) (d : Decision) → IsProductionPlan own row used d → Owes (Record row) (sublot_named row.what) own house d
  producing_owes own house d =
      subst (λ (r : MoveRow). IsProductionPlan own r used d → Owes (Record r) (sublot_named r.what) own house d) (sym as_production)
      (production_owes row.key used.order used.number used.segment used.material used.lot used.sublot row.amount row.day own house d)
