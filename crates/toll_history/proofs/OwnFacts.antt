-- What belongs to an owner is the same over the whole history as over the owner's part of it.
use Rattle.std.proofs.Common.{◌≡◌, ℕ, ◌+◌, ◌-◌, Bool, true, false, not, ◌&&◌, ◌||◌, cond, Option, None, is_none, List, [], ◌∷◌, filter, refl, sym, ap, subst, ◌∙◌, zero-add}
use Rattle.toll_history.proofs.Options.{or_else_none}
use Rattle.toll_history.proofs.Common.{sublot_row_of, list_any, option_map, Bytes, same_bytes, house_name, total, or_else, where_so, is_some_where, lot_id, SublotRow, same_role, LotId, Move, Receive, Split, Ship, Scrap, Actual, Consumed, Produced, same_bytes-symm, same_bytes-refl, Command, History, part, Movement, movements, standing, brings_into, takes_from, made_by, first_made, lot_made, sublot_known, stock, brought, taken, makes_lot, makes_sublot, sublot_in, count_making, count_lots, count_sublots, lot_brought, material_used, movement_of, count_movements, voided_in, count_actuals_of, material_of, count_materials, test_added, test_of, count_tests, recipe_of, count_recipes, recipe_used, requirement_of, count_requirements, order_of, count_orders, batch_of, count_opened, result_of, latest_value, count_results, count_results_of, facts_given, lot_row, sublot_row, without_amount, without_amounts, lot_row_made, IsLawful}
use Rattle.toll_history.proofs.Own.{is_own_movement, other_than, acts-part, part-other, movements-part, standing-part}
use Rattle.toll_history.proofs.Crossing.{crosses_by, NoneCrosses, movements_not_crossing, standing_not_crossing, brings_not, takes_none_of, makes_not, produced_by, is_the_owner}

-- ---- sums and tests over movements, of which those of others count nothing

module _ (o : Bytes) where
  -- The function has this value for each movement of another owner that doesn't cross.
  abbrev pub IsConstantOfOthers : {X : Type 0} → (Movement → X) → X → Type 0
  IsConstantOfOthers f idle = (m : Movement) → is_own_movement o m ≡ false → crosses_by m.0 m.1.what ≡ false → f m ≡ idle

  pub total-own : (f : Movement → ℕ) → IsConstantOfOthers f 0 → (ms : List Movement) → NoneCrosses ms → total f ms ≡ total f (filter (is_own_movement o) ms)
  total-own f idle [] all = refl
  total-own f idle (m ∷ ms) all =
      elim (is_own_movement o m) as (λ b. is_own_movement o m ≡ b → f m + total f ms ≡ total f (cond b (m ∷ filter (is_own_movement o) ms) (filter (is_own_movement o) ms))) [
        | true ↦ λ own. ap (λ n. f m + n) (total-own f idle ms all.1)
        | false ↦ λ other. ap (λ n. n + total f ms) (idle m other all.0) ∙ zero-add (total f ms) ∙ total-own f idle ms all.1
      ] refl

  pub any-own : (p : Movement → Bool) → IsConstantOfOthers p false → (ms : List Movement) → NoneCrosses ms → list_any p ms ≡ list_any p (filter (is_own_movement o) ms)
  any-own p idle [] all = refl
  any-own p idle (m ∷ ms) all =
      elim (is_own_movement o m) as (λ b. is_own_movement o m ≡ b → (p m || list_any p ms) ≡ list_any p (cond b (m ∷ filter (is_own_movement o) ms) (filter (is_own_movement o) ms))) [
        | true ↦ λ own. ap (λ b. p m || b) (any-own p idle ms all.1)
        | false ↦ λ other. rw (idle m other all.0) (any-own p idle ms all.1)
      ] refl

  -- ---- a lot of the owner's

  module _ (id : LotId) (mine : same_bytes id.owner o ≡ true) where
    -- Another owner's movement is not by the lot's owner.
    not_by : (m : Movement) → is_own_movement o m ≡ false → same_bytes id.owner m.0 ≡ false
    not_by m other = same_bytes-symm id.owner m.0 ∙ other_than m.0 o id.owner other mine

    pub first_made-own : (ms : List Movement) → NoneCrosses ms → first_made id ms ≡ first_made id (filter (is_own_movement o) ms)
    first_made-own [] all = refl
    first_made-own (m ∷ ms) all =
        elim (is_own_movement o m) as (λ b. is_own_movement o m ≡ b → or_else (first_made id ms) (made_by id m.0 m.1.what) ≡ first_made id (cond b (m ∷ filter (is_own_movement o) ms) (filter (is_own_movement o) ms))) [
          | true ↦ λ own. ap (λ made. or_else made (made_by id m.0 m.1.what)) (first_made-own ms all.1)
          | false ↦ λ other. ap (or_else (first_made id ms)) (makes_not id m.0 m.1.what all.0 (not_by m other)) ∙ or_else_none (first_made id ms) ∙ first_made-own ms all.1
        ] refl

    pub sublot_in-own : (sub : Bytes) (ms : List Movement) → NoneCrosses ms → sublot_in id sub ms ≡ sublot_in id sub (filter (is_own_movement o) ms)
    sublot_in-own sub ms all = any-own (λ m. brings_into id sub m.0 m.1.what) (λ m other h. brings_not id sub m.0 m.1.what h (not_by m other)) ms all

    brought-idle : (sub : Bytes) → IsConstantOfOthers (λ m. cond (brings_into id sub m.0 m.1.what) m.1.amount 0) 0
    brought-idle sub m other h = ap (λ b. cond b m.1.amount 0) (brings_not id sub m.0 m.1.what h (not_by m other))

    taken-idle : (sub : Bytes) → same_bytes id.owner house_name ≡ false → IsConstantOfOthers (λ m. cond (takes_from id sub m.0 m.1.what) m.1.amount 0) 0
    taken-idle sub not_house m other h = ap (λ b. cond b m.1.amount 0) (takes_none_of id sub m.0 m.1.what h (not_by m other) not_house)

    module _ (H : History) (lawful : IsLawful H) where
      pub lot_made-part : lot_made (part o H) id ≡ lot_made H id
      unfolding lot_made
      lot_made-part = ap (first_made id) (sym (movements-part o H)) ∙ sym (first_made-own (movements H) (movements_not_crossing H lawful))

      pub sublot_known-part : (sub : Bytes) → sublot_known (part o H) id sub ≡ sublot_known H id sub
      unfolding sublot_known
      sublot_known-part sub = ap (sublot_in id sub) (sym (movements-part o H)) ∙ sym (sublot_in-own sub (movements H) (movements_not_crossing H lawful))

      pub stock-part : (sub : Bytes) → same_bytes id.owner house_name ≡ false → stock (part o H) id sub ≡ stock H id sub
      unfolding stock
      stock-part sub not_house =
          let came : brought (part o H) id sub ≡ brought H id sub = ap (total (λ m. cond (brings_into id sub m.0 m.1.what) m.1.amount 0)) (sym (standing-part o H)) ∙ sym (total-own (λ m. cond (brings_into id sub m.0 m.1.what) m.1.amount 0) (brought-idle sub) (standing H) (standing_not_crossing H lawful)) in
          let went : taken (part o H) id sub ≡ taken H id sub = ap (total (λ m. cond (takes_from id sub m.0 m.1.what) m.1.amount 0)) (sym (standing-part o H)) ∙ sym (total-own (λ m. cond (takes_from id sub m.0 m.1.what) m.1.amount 0) (taken-idle sub not_house) (standing H) (standing_not_crossing H lawful)) in
          λ i. came i - went i

  -- ---- how many lots and sublots the owner has

  makes_lot-own : (p : Bytes) (what : Move) (ms : List Movement) → same_bytes p o ≡ true → crosses_by p what ≡ false → NoneCrosses ms → makes_lot p what ms ≡ makes_lot p what (filter (is_own_movement o) ms)
  makes_lot-own p (Receive material lot sublot) ms own h all = ap is_none (first_made-own (lot_id p lot) own ms all)
  makes_lot-own p (Actual order number segment Produced material lot sublot) ms own h all = ap is_none (first_made-own lot (produced_by p o lot h own) ms all)
  makes_lot-own p (Actual order number segment Consumed material lot sublot) ms own h all = refl
  makes_lot-own p (Split lot sublot target) ms own h all = refl
  makes_lot-own p (Ship lot sublot) ms own h all = refl
  makes_lot-own p (Scrap lot sublot) ms own h all = refl

  makes_sublot-own : (p : Bytes) (what : Move) (ms : List Movement) → same_bytes p o ≡ true → crosses_by p what ≡ false → NoneCrosses ms → makes_sublot p what ms ≡ makes_sublot p what (filter (is_own_movement o) ms)
  makes_sublot-own p (Receive material lot sublot) ms own h all = ap not (sublot_in-own (lot_id p lot) own sublot ms all)
  makes_sublot-own p (Split lot sublot target) ms own h all = ap not (sublot_in-own (lot_id p lot) own target ms all)
  makes_sublot-own p (Actual order number segment Produced material lot sublot) ms own h all = ap not (sublot_in-own lot (produced_by p o lot h own) sublot ms all)
  makes_sublot-own p (Actual order number segment Consumed material lot sublot) ms own h all = refl
  makes_sublot-own p (Ship lot sublot) ms own h all = refl
  makes_sublot-own p (Scrap lot sublot) ms own h all = refl

  -- Whether a movement makes a row depends only on the owner's movements.
  abbrev AsksOwn : (Bytes → Move → List Movement → Bool) → Type 0
  AsksOwn makes = (p : Bytes) (what : Move) (ms : List Movement) → same_bytes p o ≡ true → crosses_by p what ≡ false → NoneCrosses ms → makes p what ms ≡ makes p what (filter (is_own_movement o) ms)

  count_making-own : (makes : Bytes → Move → List Movement → Bool) → AsksOwn makes → (ms : List Movement) → NoneCrosses ms → count_making makes o ms ≡ count_making makes o (filter (is_own_movement o) ms)
  count_making-own makes asks [] all = refl
  count_making-own makes asks (m ∷ ms) all =
      elim (is_own_movement o m) as (λ b. is_own_movement o m ≡ b → cond (same_bytes o m.0 && makes m.0 m.1.what ms) 1 0 + count_making makes o ms ≡ count_making makes o (cond b (m ∷ filter (is_own_movement o) ms) (filter (is_own_movement o) ms))) [
        | true ↦ λ own. λ i. cond (same_bytes o m.0 && asks m.0 m.1.what ms own all.0 all.1 i) 1 0 + count_making-own makes asks ms all.1 i
        | false ↦ λ other. ap (λ b. cond (b && makes m.0 m.1.what ms) 1 0 + count_making makes o ms) (same_bytes-symm o m.0 ∙ other) ∙ zero-add (count_making makes o ms) ∙ count_making-own makes asks ms all.1
      ] refl

  module _ (H : History) (lawful : IsLawful H) where
    pub count_lots-part : count_lots (part o H) o ≡ count_lots H o
    unfolding count_lots
    count_lots-part = ap (count_making makes_lot o) (sym (movements-part o H)) ∙ sym (count_making-own makes_lot makes_lot-own (movements H) (movements_not_crossing H lawful))

    pub count_sublots-part : count_sublots (part o H) o ≡ count_sublots H o
    unfolding count_sublots
    count_sublots-part = ap (count_making makes_sublot o) (sym (movements-part o H)) ∙ sym (count_making-own makes_sublot makes_sublot-own (movements H) (movements_not_crossing H lawful))

  -- ---- which materials have lots

  -- the lot of the owner that p's movement brings into
  abbrev brought_by : Bytes → Move → Option Bytes
  brought_by p what = elim what [ Receive material lot sublot ↦ where_so (same_bytes o p) lot | Actual order number segment role material lot sublot ↦ where_so (same_role role Produced && same_bytes o lot.owner) lot.lot | _ ↦ None ]

  no_lot : (p : Bytes) (what : Move) → same_bytes p o ≡ false → crosses_by p what ≡ false → brought_by p what ≡ None
  no_lot p (Receive material lot sublot) other h = ap (λ b. where_so b lot) (same_bytes-symm o p ∙ other)
  no_lot p (Actual order number segment Produced material lot sublot) other h = ap (λ b. where_so b lot.lot) (not_produced p lot h other)
    where
      not_produced : (p : Bytes) (lot : LotId) → not (same_bytes lot.owner p) ≡ false → same_bytes p o ≡ false → same_bytes o lot.owner ≡ false
      not_produced p lot h other = same_bytes-symm o lot.owner ∙ subst (λ q. same_bytes q o ≡ false) (sym (is_the_owner lot.owner p h)) other
  no_lot p (Actual order number segment Consumed material lot sublot) other h = refl
  no_lot p (Split lot sublot target) other h = refl
  no_lot p (Ship lot sublot) other h = refl
  no_lot p (Scrap lot sublot) other h = refl

  -- A sublot without its amount depends only on whether it is known.
  emptied_by : (b : Bool) (row : SublotRow) → without_amount (where_so b row) ≡ where_so b (record row { amount = 0 })
  emptied_by true row = refl
  emptied_by false row = refl

  emptied : (L H : History) (k : Bytes × Bytes) → sublot_known L (lot_id o k.0) k.1 ≡ sublot_known H (lot_id o k.0) k.1 → without_amount (sublot_row L o k) ≡ without_amount (sublot_row H o k)
  emptied L H k same =
      emptied_by (sublot_known L (lot_id o k.0) k.1) (sublot_row_of k.0 k.1 (stock L (lot_id o k.0) k.1))
      ∙ ap (λ b. where_so b (sublot_row_of k.0 k.1 0)) same
      ∙ sym (emptied_by (sublot_known H (lot_id o k.0) k.1) (sublot_row_of k.0 k.1 (stock H (lot_id o k.0) k.1)))

  module _ (H : History) (lawful : IsLawful H) where
    -- whether the movement brings into a lot of the material
    abbrev brings_material : History → Bytes → Movement → Bool
    brings_material L material m = is_some_where (λ lot. is_some_where (λ made. same_bytes made.material material) (lot_made L (lot_id o lot))) (lot_brought o m)

    brings_no_material : (material : Bytes) → IsConstantOfOthers (brings_material H material) false
    brings_no_material material m other h = ap (is_some_where (λ lot. is_some_where (λ made. same_bytes made.material material) (lot_made H (lot_id o lot)))) (no_lot m.0 m.1.what other h)

    pub material_used-part : (material : Bytes) → material_used (part o H) o material ≡ material_used H o material
    unfolding material_used
    material_used-part material =
        let back = sym (movements-part o H) in
        let same : material_used (part o H) o material ≡ list_any (brings_material H material) (filter (is_own_movement o) (movements H)) = λ i. list_any (λ m. is_some_where (λ lot. is_some_where (λ made. same_bytes made.material material) (lot_made-part (lot_id o lot) (same_bytes-refl o) H lawful i)) (lot_brought o m)) (back i) in
        same ∙ sym (any-own (brings_material H material) (brings_no_material material) (movements H) (movements_not_crossing H lawful))

    -- ---- the owner's tables

    pub lot_row-part : (l : Bytes) → lot_row (part o H) o l ≡ lot_row H o l
    lot_row-part l i = option_map (lot_row_made (acts-part o H i) l) (lot_made-part (lot_id o l) (same_bytes-refl o) H lawful i)

    pub sublot_row-part : same_bytes o house_name ≡ false → (k : Bytes × Bytes) → sublot_row (part o H) o k ≡ sublot_row H o k
    sublot_row-part not_house k i = where_so (sublot_known-part (lot_id o k.0) (same_bytes-refl o) H lawful k.1 i) (sublot_row_of k.0 k.1 (stock-part (lot_id o k.0) (same_bytes-refl o) H lawful k.1 not_house i))

    -- the tables with these sublots
    tables_with : (sublot sublot' : Bytes × Bytes → Option SublotRow) → sublot ≡ sublot' → record (facts_given (part o H) o) { sublot = sublot } ≡ record (facts_given H o) { sublot = sublot' }
    tables_with sublot sublot' same i = record {
      material = material_of (acts-part o H i);
      materials = count_materials (acts-part o H i);
      test = test_of (acts-part o H i);
      tests = count_tests (acts-part o H i);
      recipe = recipe_of (acts-part o H i);
      recipes = count_recipes (acts-part o H i);
      requirement = requirement_of (acts-part o H i);
      requirements = count_requirements (acts-part o H i);
      order = order_of (acts-part o H i);
      orders = count_orders (acts-part o H i);
      batch = batch_of (acts-part o H i);
      lot = λ k. lot_row-part k i;
      lots = count_lots-part H lawful i;
      sublot = same i;
      sublots = count_sublots-part H lawful i;
      movement = movement_of (acts-part o H i);
      movements = count_movements (acts-part o H i);
      result = result_of (acts-part o H i);
      results = count_results (acts-part o H i);
      voided = voided_in (acts-part o H i);
      opened = count_opened (acts-part o H i);
      actuals = count_actuals_of (acts-part o H i);
      results_of = count_results_of (acts-part o H i);
      latest = latest_value (acts-part o H i);
      recipe_used = recipe_used (acts-part o H i);
      material_used = λ material. material_used-part material i;
      any_test = λ such. list_any (λ a. is_some_where such (test_added a)) (acts-part o H i);
    }

    -- An owner's tables are those of its part.
    pub tables-part : same_bytes o house_name ≡ false → facts_given (part o H) o ≡ facts_given H o
    tables-part not_house = tables_with (sublot_row (part o H) o) (sublot_row H o) (λ i k. sublot_row-part not_house k i)

    -- The tables of HOUSE, without the amounts in sublots, are those of its part.
    pub tables_but_amounts-part : without_amounts (facts_given (part o H) o) ≡ without_amounts (facts_given H o)
    tables_but_amounts-part =
        tables_with (λ k. without_amount (sublot_row (part o H) o k)) (λ k. without_amount (sublot_row H o k))
        (λ i k. emptied (part o H) H k (sublot_known-part (lot_id o k.0) (same_bytes-refl o) H lawful k.1) i)

  -- ---- commands of others

  module _ (H : History) (c : Command) (lawful : IsLawful (c ∷ H)) (other : same_bytes c.owner o ≡ false) where
    pub tables-other : same_bytes o house_name ≡ false → facts_given (c ∷ H) o ≡ facts_given H o
    tables-other not_house =
        sym (tables-part (c ∷ H) lawful not_house) ∙ ap (λ L. facts_given L o) (part-other o c H other) ∙ tables-part H lawful.0 not_house

    pub tables_but_amounts-other : without_amounts (facts_given (c ∷ H) o) ≡ without_amounts (facts_given H o)
    tables_but_amounts-other =
        sym (tables_but_amounts-part (c ∷ H) lawful) ∙ ap (λ L. without_amounts (facts_given L o)) (part-other o c H other) ∙ tables_but_amounts-part H lawful.0
