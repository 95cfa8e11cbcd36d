-- Rows of each kind: determined by their cells, and added to a slice when they are read.
use Rattle.std.proofs.Common.{◌≡◌, ℕ, ◌+◌, ◌<◌, ℤ, Bool, true, false, List, [], ◌∷◌, length, map, take, get_or, refl, sym, ap, ap₂, subst, ◌∙◌, IsTrue, Ordering, T}
use Rattle.toll_sql.proofs.Common.{false≢true, IsTotalOrder, nat_list_cmp_total, Row, column, Bytes, bytes_cmp, pair_cmp, batch_cmp, result_cmp, requirement_cmp, role_number, put_row, Slice, with_row, is_name, MoveRow, Role, Consumed, Produced, BatchRow, LotRow, MaterialRow, OrderRow, RecipeRow, RequirementRow, ResultRow, SublotRow, TestRow, VoidRow, pair_cmp_total, batch_cmp_total, result_cmp_total, requirement_cmp_total, Rises, key_order, rows_for, flag, disposition_number, state_number, origin_order, origin_number, material_cells, test_cells, recipe_cells, requirement_cells, order_cells, batch_cells, lot_cells, sublot_cells, move_cells, result_cells, void_cells, front_slice, AreStoredOfOwner, AreStoredOfPlant, RowKind, owner_kind, unit_kind, material_kind, test_kind, recipe_kind, requirement_kind, order_kind, batch_kind, lot_kind, sublot_kind, move_kind, result_kind, void_kind, IsOrigin, TableKind, Materials, Tests, Recipes, Requirements, Orders, Batches, Lots, Sublots, Moves, Results, Voids}
use Rattle.std.specs.Int.Signed.{le_z}
use Rattle.std.proofs.Math.Dec.{T_prop}
use Rattle.toll_base.specs.declared.limits.Limits.{Limits}
use Rattle.toll_base.specs.declared.lot.Disposition.{Disposition}
use Rattle.toll_base.specs.declared.lot.Disposition.TheVariants.{Quarantined, Released, Rejected}
use Rattle.toll_base.specs.declared.lot.Origin.{Origin}
use Rattle.toll_base.specs.declared.lot.Origin.TheVariants.{Receipts, Batch as OfBatch}
use Rattle.toll_base.specs.declared.state.State.{State}
use Rattle.toll_base.specs.declared.state.State.TheVariants.{Idle, Running, Pausing, Paused, Holding, Held, Restarting, Stopping, Stopped, Aborting, Aborted, Complete}
use Rattle.toll_sql.proofs.Appending.{put_next}
use Rattle.toll_sql.proofs.MoveKinds.{int_of, move_read_back, nat_of, of_row, value_text}
use Rattle.toll_sql.proofs.Orders.{materials_order, tests_order, recipes_order, requirements_order, orders_order, batches_order, lots_order, sublots_order, moves_order, results_order, voids_order}
use Rattle.toll_sql.proofs.Placing.{in_key_order}

-- ---- rows with the same cells are equal

module _ {a b : Row} (at : ℕ) (h : a ≡ b) where
  text : value_text (column a at) ≡ value_text (column b at)
  text = ap (λ row. value_text (column row at)) h

  int : int_of (column a at) ≡ int_of (column b at)
  int = ap (λ row. int_of (column row at)) h

  nat : nat_of (column a at) ≡ nat_of (column b at)
  nat = ap (λ row. nat_of (column row at)) h

-- A number determines its item if a list has each item at its number.
same_by_number : {X : Type 0} (all : List X) (first : X) (number : X → ℕ) → ((x : X) → get_or all (number x) first ≡ x) → (a b : X) → number a ≡ number b → a ≡ b
same_by_number all first number at a b h = sym (at a) ∙ ap (λ n. get_or all n first) h ∙ at b

same_flag : (a b : Bool) → flag a ≡ flag b → a ≡ b
same_flag = same_by_number (false ∷ true ∷ []) false flag (λ x. elim x as (λ v. get_or (false ∷ true ∷ []) (flag v) false ≡ v) [ false ↦ refl | true ↦ refl ])

same_role_by_rank : (a b : Role) → role_number a ≡ role_number b → a ≡ b
same_role_by_rank = same_by_number (Consumed ∷ Produced ∷ []) Consumed role_number (λ x. elim x as (λ v. get_or (Consumed ∷ Produced ∷ []) (role_number v) Consumed ≡ v) [ Consumed ↦ refl | Produced ↦ refl ])

dispositions : List Disposition
dispositions = Quarantined ∷ Released ∷ Rejected ∷ []

disposition_read_back : (d : Disposition) → get_or dispositions (disposition_number d) Quarantined ≡ d
unfolding dispositions
disposition_read_back Quarantined = refl
disposition_read_back _ = refl

stored_same_disposition : (a b : Disposition) → disposition_number a ≡ disposition_number b → a ≡ b
stored_same_disposition = same_by_number dispositions Quarantined disposition_number disposition_read_back

every_state : List State
every_state = Idle ∷ Running ∷ Pausing ∷ Paused ∷ Holding ∷ Held ∷ Restarting ∷ Stopping ∷ Stopped ∷ Aborting ∷ Aborted ∷ Complete ∷ []

state_read_back : (s : State) → get_or every_state (state_number s) Idle ≡ s
unfolding every_state
state_read_back Idle = refl
state_read_back _ = refl

stored_same_state : (a b : State) → state_number a ≡ state_number b → a ≡ b
stored_same_state = same_by_number every_state Idle state_number state_read_back

limits_made : (low high : ℤ) → T (le_z low high) → Limits
limits_made low high t = record { low = low; high = high; ordered = record { le = t } }

same_made : (a b c d : ℤ) → a ≡ c → b ≡ d → (t : T (le_z a b)) (u : T (le_z c d)) → limits_made a b t ≡ limits_made c d u
same_made a b c d p q t u =
    subst (λ x. (u : T (le_z x d)) → limits_made a b t ≡ limits_made x d u) p
    (subst (λ y. (u : T (le_z a y)) → limits_made a b t ≡ limits_made a y u) q (λ u. ap (limits_made a b) (T_prop (le_z a b) t u))) u

same_limits : (a b : Limits) → a.low ≡ b.low → a.high ≡ b.high → a ≡ b
unfolding limits_made
same_limits a b p q = same_made a.low a.high b.low b.high p q a.ordered.le b.ordered.le

unnamed : IsTrue (is_name []) → ⊥
unnamed h = false≢true h

same_origin : (a b : Origin) → IsOrigin a → IsOrigin b → origin_order a ≡ origin_order b → origin_number a ≡ origin_number b → a ≡ b
same_origin Receipts Receipts p q h k = refl
same_origin Receipts (OfBatch order number) p q h k = absurd (unnamed (subst (λ t. IsTrue (is_name t)) (sym h) q.0))
same_origin (OfBatch order number) Receipts p q h k = absurd (unnamed (subst (λ t. IsTrue (is_name t)) h p.0))
same_origin (OfBatch a m) (OfBatch b n) p q h k = ap₂ (λ o n. OfBatch o n) h k

same_move : (o : Bytes) (a b : MoveRow) → move_cells o a ≡ move_cells o b → a.what ≡ b.what
same_move o a b h = sym (move_read_back o a.what) ∙ ap of_row h ∙ move_read_back o b.what

-- ---- the next row is added at the end

module _ {K R : Type 0} (cmp : K → K → Ordering) (total : IsTotalOrder cmp) (key : R → K) (k : TableKind) (cells : R → Row) (same : (a b : R) → key_order k (cells a) (cells b) ≡ cmp (key a) (key b)) where
  stored_added : (rows : List R) (i : ℕ) (d : R) → Rises (key_order k) (map cells rows) → i < length rows → put_row cmp key (take i rows) (get_or rows i d) ≡ take (i + 1) rows
  stored_added rows i d rising lt = put_next cmp total key rows i d (in_key_order cmp total key cells (key_order k) same rows rising) lt

-- ---- the rows of their tables

abbrev IsReadBack : {X : Type 0} → RowKind X → Type 0
IsReadBack {X} kind = (o : Bytes) (x y : X) → kind.is_valid x → kind.is_valid y → kind.cells o x ≡ kind.cells o y → x ≡ y

abbrev Next : {X : Type 0} → RowKind X → Type 0
Next {X} kind = (s : Slice) (i : ℕ) (d : X) → Rises (key_order kind.table) (rows_for kind.table s) → i < length (kind.listed s) → with_row (front_slice kind.table i s) (kind.any_row (get_or (kind.listed s) i d)) ≡ front_slice kind.table (i + 1) s

pub materials_stored : AreStoredOfOwner material_kind
materials_stored =
    let reported : IsReadBack material_kind = λ o a b p q h. λ i. record { material = text 1 h i; measure = text 2 h i } in
    let next : Next material_kind = λ s i d rising lt. ap (λ l. record (front_slice Materials 0 s) { materials = l }) (stored_added bytes_cmp nat_list_cmp_total (λ (row : MaterialRow). row.material) Materials (material_cells s.owner) (materials_order s.owner) s.materials i d rising lt) in
    assumption (reported, next)

pub tests_stored : AreStoredOfOwner test_kind
tests_stored =
    let reported : IsReadBack test_kind = λ o a b p q h. λ i. record { material = text 1 h i; test = text 2 h i; limits = same_limits a.limits b.limits (int 3 h) (int 4 h) i } in
    let next : Next test_kind = λ s i d rising lt. ap (λ l. record (front_slice Tests 0 s) { tests = l }) (stored_added pair_cmp pair_cmp_total (λ (row : TestRow). (row.material, row.test)) Tests (test_cells s.owner) (tests_order s.owner) s.tests i d rising lt) in
    assumption (reported, next)

pub recipes_stored : AreStoredOfOwner recipe_kind
recipes_stored =
    let reported : IsReadBack recipe_kind = λ o a b p q h. λ i. record { recipe = text 1 h i; segments = nat 2 h i } in
    let next : Next recipe_kind = λ s i d rising lt. ap (λ l. record (front_slice Recipes 0 s) { recipes = l }) (stored_added bytes_cmp nat_list_cmp_total (λ (row : RecipeRow). row.recipe) Recipes (recipe_cells s.owner) (recipes_order s.owner) s.recipes i d rising lt) in
    assumption (reported, next)

pub requirements_stored : AreStoredOfOwner requirement_kind
requirements_stored =
    let reported : IsReadBack requirement_kind = λ o a b p q h. λ i. record { recipe = text 1 h i; segment = nat 2 h i; role = same_role_by_rank a.role b.role (nat 3 h) i; source = text 4 h i; material = text 5 h i; amount = nat 6 h i } in
    let next : Next requirement_kind = λ s i d rising lt. ap (λ l. record (front_slice Requirements 0 s) { requirements = l }) (stored_added requirement_cmp requirement_cmp_total (λ (row : RequirementRow). (row.recipe, row.segment, row.role, row.source, row.material)) Requirements (requirement_cells s.owner) (requirements_order s.owner) s.requirements i d rising lt) in
    assumption (reported, next)

pub orders_stored : AreStoredOfOwner order_kind
orders_stored =
    let reported : IsReadBack order_kind = λ o a b p q h. λ i. record { order = text 1 h i; recipe = text 2 h i; batches = nat 3 h i; cancelled = same_flag a.cancelled b.cancelled (nat 4 h) i } in
    let next : Next order_kind = λ s i d rising lt. ap (λ l. record (front_slice Orders 0 s) { orders = l }) (stored_added bytes_cmp nat_list_cmp_total (λ (row : OrderRow). row.order) Orders (order_cells s.owner) (orders_order s.owner) s.orders i d rising lt) in
    assumption (reported, next)

pub batches_stored : AreStoredOfOwner batch_kind
batches_stored =
    let reported : IsReadBack batch_kind = λ o a b p q h. λ i. record { order = text 1 h i; number = nat 2 h i; unit = text 3 h i; state = stored_same_state a.state b.state (nat 4 h) i; closed = same_flag a.closed b.closed (nat 5 h) i } in
    let next : Next batch_kind = λ s i d rising lt. ap (λ l. record (front_slice Batches 0 s) { batches = l }) (stored_added batch_cmp batch_cmp_total (λ (row : BatchRow). (row.order, row.number)) Batches (batch_cells s.owner) (batches_order s.owner) s.batches i d rising lt) in
    assumption (reported, next)

pub lots_stored : AreStoredOfOwner lot_kind
lots_stored =
    let reported : IsReadBack lot_kind = λ o a b p q h. λ i. record { lot = text 1 h i; material = text 2 h i; origin = same_origin a.origin b.origin p.origin q.origin (text 3 h) (nat 4 h) i; disposition = stored_same_disposition a.disposition b.disposition (nat 5 h) i } in
    let next : Next lot_kind = λ s i d rising lt. ap (λ l. record (front_slice Lots 0 s) { lots = l }) (stored_added bytes_cmp nat_list_cmp_total (λ (row : LotRow). row.lot) Lots (lot_cells s.owner) (lots_order s.owner) s.lots i d rising lt) in
    assumption (reported, next)

pub sublots_stored : AreStoredOfOwner sublot_kind
sublots_stored =
    let reported : IsReadBack sublot_kind = λ o a b p q h. λ i. record { lot = text 1 h i; sublot = text 2 h i; amount = nat 3 h i } in
    let next : Next sublot_kind = λ s i d rising lt. ap (λ l. record (front_slice Sublots 0 s) { sublots = l }) (stored_added pair_cmp pair_cmp_total (λ (row : SublotRow). (row.lot, row.sublot)) Sublots (sublot_cells s.owner) (sublots_order s.owner) s.sublots i d rising lt) in
    assumption (reported, next)

pub moves_stored : AreStoredOfOwner move_kind
moves_stored =
    let reported : IsReadBack move_kind = λ o a b p q h. λ i. record { key = text 1 h i; what = same_move o a b h i; amount = nat 11 h i; day = nat 12 h i } in
    let next : Next move_kind = λ s i d rising lt. ap (λ l. record (front_slice Moves 0 s) { moves = l }) (stored_added bytes_cmp nat_list_cmp_total (λ (row : MoveRow). row.key) Moves (move_cells s.owner) (moves_order s.owner) s.moves i d rising lt) in
    assumption (reported, next)

pub results_stored : AreStoredOfOwner result_kind
results_stored =
    let reported : IsReadBack result_kind = λ o a b p q h. λ i. record { lot = text 1 h i; test = text 2 h i; number = nat 3 h i; value = int 4 h i; day = nat 5 h i } in
    let next : Next result_kind = λ s i d rising lt. ap (λ l. record (front_slice Results 0 s) { results = l }) (stored_added result_cmp result_cmp_total (λ (row : ResultRow). (row.lot, row.test, row.number)) Results (result_cells s.owner) (results_order s.owner) s.results i d rising lt) in
    assumption (reported, next)

pub voids_stored : AreStoredOfOwner void_kind
voids_stored =
    let reported : IsReadBack void_kind = λ o a b p q h. λ i. record { key = text 1 h i } in
    let next : Next void_kind = λ s i d rising lt. ap (λ l. record (front_slice Voids 0 s) { voids = l }) (stored_added bytes_cmp nat_list_cmp_total (λ (row : VoidRow). row.key) Voids (void_cells s.owner) (voids_order s.owner) s.voids i d rising lt) in
    assumption (reported, next)

-- ---- owners and units

pub owners_alone : AreStoredOfPlant owner_kind
owners_alone = record { unowned = refl; fills = λ x. refl; reported = λ a b p q h. λ i. record { owner = text 0 h i; key = text 1 h i } }

pub units_alone : AreStoredOfPlant unit_kind
units_alone = record { unowned = refl; fills = λ x. refl; reported = λ a b p q h. λ i. record { unit = text 0 h i } }
