-- The rows that a lawful history gives keep the rules of a slice.
use Rattle.std.proofs.Common.{◌≡◌, ℕ, ◌≤◌, Bool, true, false, Option, Some, None, is_some, nat_le, refl, sym, subst, ◌∙◌, arith}
use Rattle.toll_desk.proofs.Common.{option_map, nat_tests, Bytes, none_or, where_so, Slice, KeepsRules, History, acts, owner_known, material_of, lot_made, sublot_known, stock, OwnerFacts, lot_row, sublot_row, IsRowsOf, IsLawful, some_mapped, Content, ContentKeepsRules}
use Rattle.toll_base.specs.Lots.{lot_id}
use Rattle.toll_base.specs.declared.rows.LotRow.{LotRow}
use Rattle.toll_base.specs.declared.rows.SublotRow.{SublotRow}
use Rattle.toll_history.proofs.LimitsKept.{limits_kept}
use Rattle.toll_history.proofs.LotMaterials.{lot_material}
use Rattle.toll_history.proofs.Lots.{sublot_lot}
use Rattle.toll_history.proofs.Stock.{stock_bounded}
use Rattle.toll_base.proofs.SliceFits.{empty_keeps}
use Rattle.toll_desk.specs.Representing.{Represents}
use Rattle.toll_base.specs.declared.capacity.TheConstants.{MOST_ACTUALS, MOST_LOTS, MOST_MATERIALS, MOST_MOVEMENTS, MOST_ORDERS, MOST_RECIPES, MOST_REQUIREMENTS, MOST_RESULTS, MOST_STOCK, MOST_SUBLOTS, MOST_TESTS}

le_true : (n most : ℕ) → n ≤ most → nat_le n most ≡ true
le_true n most le = grind (arith, nat_tests)

each_made : {X Y : Type 0} (f : X → Y) (p : Y → Bool) (made : Option X) → ((x : X) → made ≡ Some x → p (f x) ≡ true) → none_or p (option_map f made) ≡ true
each_made f p None each = refl
each_made f p (Some x) each = each x refl

each_where : {X : Type 0} (p : X → Bool) (known : Bool) (x : X) → (known ≡ true → p x ≡ true) → none_or p (where_so known x) ≡ true
each_where p true x each = each refl
each_where p false x each = refl

module _ (H : History) (lawful : IsLawful H) (o : Bytes) where
  lot_materials_given : (k : Bytes) → none_or (λ row. is_some (material_of (acts o H) row.material)) (lot_row H o k) ≡ true
  lot_materials_given k = each_made _ _ (lot_made H (lot_id o k)) (λ made is. lot_material H lawful (lot_id o k) made is)

  amounts_given : (k : Bytes × Bytes) → none_or (λ row. nat_le row.amount MOST_STOCK) (sublot_row H o k) ≡ true
  amounts_given k = each_where _ (sublot_known H (lot_id o k.0) k.1) _ (λ known. le_true (stock H (lot_id o k.0) k.1) MOST_STOCK (stock_bounded H (lot_id o k.0) k.1 lawful))

  sublot_lots_given : (k : Bytes × Bytes) → none_or (λ row. is_some (lot_row H o row.lot)) (sublot_row H o k) ≡ true
  sublot_lots_given k = each_where _ (sublot_known H (lot_id o k.0) k.1) _ (λ known. some_mapped _ (lot_made H (lot_id o k.0)) ∙ sublot_lot H (lot_id o k.0) k.1 lawful known)

pub rows_keep_rules : (H : History) (s : Slice) → IsLawful H → IsRowsOf H s → KeepsRules s
rows_keep_rules H s lawful rows =
    let limits = limits_kept H s.owner lawful in
    record {
      materials = subst (λ (t : OwnerFacts). t.materials ≤ MOST_MATERIALS) (sym rows) limits.materials;
      tests = subst (λ (t : OwnerFacts). t.tests ≤ MOST_TESTS) (sym rows) limits.tests;
      recipes = subst (λ (t : OwnerFacts). t.recipes ≤ MOST_RECIPES) (sym rows) limits.recipes;
      requirements = subst (λ (t : OwnerFacts). t.requirements ≤ MOST_REQUIREMENTS) (sym rows) limits.requirements;
      orders = subst (λ (t : OwnerFacts). t.orders ≤ MOST_ORDERS) (sym rows) limits.orders;
      lots = subst (λ (t : OwnerFacts). t.lots ≤ MOST_LOTS) (sym rows) limits.lots;
      sublots = subst (λ (t : OwnerFacts). t.sublots ≤ MOST_SUBLOTS) (sym rows) limits.sublots;
      moves = subst (λ (t : OwnerFacts). t.movements ≤ MOST_MOVEMENTS) (sym rows) limits.movements;
      results = subst (λ (t : OwnerFacts). t.results ≤ MOST_RESULTS) (sym rows) limits.results;
      actuals = λ order number. subst (λ (t : OwnerFacts). t.actuals order number ≤ MOST_ACTUALS) (sym rows) (limits.actuals order number);
      lot_materials = λ k. subst (λ (t : OwnerFacts). none_or (λ (row : LotRow). is_some (t.material row.material)) (t.lot k) ≡ true) (sym rows) (lot_materials_given H lawful s.owner k);
      amounts = λ k. subst (λ (t : OwnerFacts). none_or (λ (row : SublotRow). nat_le row.amount MOST_STOCK) (t.sublot k) ≡ true) (sym rows) (amounts_given H lawful s.owner k);
      sublot_lots = λ k. subst (λ (t : OwnerFacts). none_or (λ (row : SublotRow). is_some (t.lot row.lot)) (t.sublot k) ≡ true) (sym rows) (sublot_lots_given H lawful s.owner k);
    }

pub represented_keeps_rules : (H : History) (c : Content) → IsLawful H → Represents c H → ContentKeepsRules c
represented_keeps_rules H c lawful stands o =
    elim (owner_known H o) as (λ b. owner_known H o ≡ b → KeepsRules (c.rows o)) [
      | true ↦ λ known. rows_keep_rules H (c.rows o) lawful (stands.known o known)
      | false ↦ λ unknown. subst KeepsRules (sym (stands.unknown o unknown)) (empty_keeps o)
    ] refl
