-- What the shipments of a slice took of a lot is what its standing shipments took.
use Rattle.std.proofs.Common.{◌≡◌, ℕ, Bool, true, false, ◌&&◌, cond, Some, refl, sym, ap, ◌∙◌, arith}
use Rattle.toll_stock.proofs.Common.{false≢true, nat_list_cmp_total, option_map_or, false_from_ne_true, Bytes, same_bytes, bytes_cmp, IsInKeyOrder, total, is_some_where, History, acts, lot_id, Movement, has_move_key, movement_of, standing, voided_in, Slice, move_at, OwnerFacts, IsRowsOf, IsLawful, is_actual, Receive, Split, Ship, Scrap, Actual, MoveRow, same_bytes-exact, same_bytes-refl, same_bytes-symm, ships_from, shipped, total-alike, is_shipment_of, shipped_by, shipped_in, all_weaker}
use Rattle.toll_base.specs.declared.movement.Move.{Move}
use Rattle.toll_history.proofs.KeysOnce.{every_key_found, void_of_actual}
use Rattle.toll_history.proofs.StandsOnce.{stands_once}
use Rattle.toll_stock.proofs.Sums.{total-along, total-zero, total-swapped, cond-total, cond_zero, each_found, total_at}
use Rattle.toll_stock.proofs.OnHandTotals.{each_standing}

-- An actual is no shipment, so a shipment is never voided.
not_actual : (lot : Bytes) (what : Move) → is_shipment_of lot what ≡ true → is_actual what ≡ false
not_actual lot (Ship l sublot) is = refl
not_actual lot (Receive material l sublot) is = absurd (false≢true is)
not_actual lot (Split l sublot target) is = absurd (false≢true is)
not_actual lot (Scrap l sublot) is = absurd (false≢true is)
not_actual lot (Actual order number segment role material l sublot) is = absurd (false≢true is)

false_is_and : (b : Bool) → false ≡ (b && false)
false_is_and true = refl
false_is_and false = refl

-- A shipment of an owner's lot is the owner's.
ships_own : (o lot w : Bytes) (what : Move) → ships_from (lot_id o lot) w what ≡ (same_bytes o w && is_shipment_of lot what)
ships_own o lot w (Ship l sublot) = ap (λ b. same_bytes o w && b) (same_bytes-symm lot l)
ships_own o lot w _ = false_is_and (same_bytes o w)

module _ (H : History) (lawful : IsLawful H) (s : Slice) (there : IsRowsOf H s) (ordered : IsInKeyOrder bytes_cmp (λ row. row.key) s.moves) (lot : Bytes) where
  shipped_given : (key : Bytes) → move_at s key ≡ movement_of (acts s.owner H) key
  shipped_given key = ap (λ (t : OwnerFacts). t.movement key) there

  -- A shipment is not voided.
  shipment_stays : (row : MoveRow) → movement_of (acts s.owner H) row.key ≡ Some row → is_shipment_of lot row.what ≡ true → voided_in (acts s.owner H) row.key ≡ false
  shipment_stays row found is = false_from_ne_true _ (λ voided. false≢true (
      sym (not_actual lot row.what is)
      ∙ sym (ap (is_some_where (λ (r : MoveRow). is_actual r.what)) found)
      ∙ void_of_actual s.owner row.key H lawful voided))

  -- A shipment stands once.
  shipped_twice : (b : Bool) (n : ℕ) → cond b 0 (cond b n 0) ≡ 0
  shipped_twice true n = refl
  shipped_twice false n = refl

  shipped_stands : (row : MoveRow) → move_at s row.key ≡ Some row → shipped_by lot row ≡ total (λ m. cond (has_move_key s.owner row.key m) (shipped_by lot row) 0) (standing H)
  shipped_stands row found =
      elim (is_shipment_of lot row.what) as (λ b. is_shipment_of lot row.what ≡ b → cond b row.amount 0 ≡ total (λ m. cond (has_move_key s.owner row.key m) (cond b row.amount 0) 0) (standing H)) [
        | true ↦ λ is.
            let known : movement_of (acts s.owner H) row.key ≡ Some row = sym (shipped_given row.key) ∙ found in
            let once = (stands_once H s.owner row.key lawful).once row known (shipment_stays row known is) (λ m. cond (has_move_key s.owner row.key m) row.amount 0) in
            let rest : total (λ x. cond (has_move_key s.owner row.key x) 0 (cond (has_move_key s.owner row.key x) row.amount 0)) (standing H) ≡ 0 = total-alike _ (λ x. 0) (standing H) (λ x. shipped_twice (has_move_key s.owner row.key x) row.amount) ∙ total-zero (standing H) in
            let own : cond (has_move_key s.owner row.key (s.owner, row)) row.amount 0 ≡ row.amount = λ i. cond (same_bytes-refl s.owner i && same_bytes-refl row.key i) row.amount 0 in
            omega (arith, once, rest, own)
        | false ↦ λ other. sym (total-alike _ (λ m. 0) (standing H) (λ m. cond_zero (has_move_key s.owner row.key m)) ∙ total-zero (standing H))
      ] refl

  -- A standing movement takes of the lot what the row with its key takes.
  both_ways : (a b : Bool) (n : ℕ) → cond (a && b) n 0 ≡ cond a (cond b n 0) 0
  both_ways true b n = refl
  both_ways false b n = refl

  taken_by : (m : Movement) → movement_of (acts m.0 H) m.1.key ≡ Some m.1 → total (λ row. cond (has_move_key s.owner row.key m) (shipped_by lot row) 0) s.moves ≡ cond (ships_from (lot_id s.owner lot) m.0 m.1.what) m.1.amount 0
  taken_by m found =
      total-alike _ (λ row. cond (same_bytes s.owner m.0) (cond (same_bytes m.1.key row.key) (shipped_by lot row) 0) 0) s.moves
      (λ row. ap (λ b. cond (same_bytes s.owner m.0 && b) (shipped_by lot row) 0) (same_bytes-symm row.key m.1.key) ∙ both_ways (same_bytes s.owner m.0) (same_bytes m.1.key row.key) (shipped_by lot row))
      ∙ sym (cond-total (same_bytes s.owner m.0) (λ row. cond (same_bytes m.1.key row.key) (shipped_by lot row) 0) s.moves)
      ∙ ap (λ n. cond (same_bytes s.owner m.0) n 0) (total_at bytes_cmp nat_list_cmp_total (λ row. row.key) (shipped_by lot) s.moves m.1.key ordered)
      ∙ elim (same_bytes s.owner m.0) as (λ b. same_bytes s.owner m.0 ≡ b → cond b (option_map_or (shipped_by lot) (move_at s m.1.key) 0) 0 ≡ cond (b && is_shipment_of lot m.1.what) m.1.amount 0) [
        | true ↦ λ own. ap (λ x. option_map_or (shipped_by lot) x 0) (shipped_given m.1.key ∙ ap (λ w. movement_of (acts w H) m.1.key) (same_bytes-exact s.owner m.0 own) ∙ found)
        | false ↦ λ other. refl
      ] refl
      ∙ sym (ap (λ b. cond b m.1.amount 0) (ships_own s.owner lot m.0 m.1.what))

  pub shipped_is : shipped_in s lot ≡ shipped H (lot_id s.owner lot)
  unfolding shipped
  shipped_is =
      total-along _ (λ row. total (λ m. cond (has_move_key s.owner row.key m) (shipped_by lot row) 0) (standing H)) s.moves (all_weaker _ _ shipped_stands s.moves (each_found bytes_cmp nat_list_cmp_total (λ row. row.key) s.moves ordered))
      ∙ total-swapped (λ row m. cond (has_move_key s.owner row.key m) (shipped_by lot row) 0) s.moves (standing H)
      ∙ total-along _ (λ m. cond (ships_from (lot_id s.owner lot) m.0 m.1.what) m.1.amount 0) (standing H)
      (all_weaker _ _ taken_by (standing H) (each_standing (λ m. movement_of (acts m.0 H) m.1.key ≡ Some m.1) H (every_key_found H lawful)))
