-- A slice has room for what is put, and no lawful history leads to a slice without room.
use Rattle.std.proofs.Common.{◌≡◌, ℕ, ◌+◌, ◌-◌, ◌≤◌, Bool, true, false, ◌&&◌, ◌||◌, cond, nat_le, nat_lt, length, Option, Some, None, is_some, is_none, [], ◌∷◌, ◌++◌, refl, ap, ◌∙◌, arith}
use Rattle.toll_history.proofs.Common.{sublot_row_of, nat_list_cmp_total, or_left, or_right, option_map_or, nat_tests, Bytes, bytes_cmp, pair_cmp, lot_id, Slice, with_row, material_at, lot_at, sublot_at, move_at, KeepsRules, row_fits, batch_has_room, Refusal, LimitReached, LotRow, MoveRow, SublotRow, and_is, amount_bound, pair_cmp_total, Record, by, History, acts, count_movements, count_sublots, stock, brings_into, takes_from, facts_of, facts_given, sublot_row, Accepted, Checks, verdict_of_checks, verdict_of_check, amount_in, verdict, IsLawful, IsValidAction}
use Rattle.toll_history.specs.Bounds.{sublot_bounds}
use Rattle.toll_base.specs.declared.rows.Row.TheVariants.{Lot, Sublot, Move}
use Rattle.toll_history.proofs.Options.{some_if_not_none}
use Rattle.toll_history.proofs.Decided.{below_limit, RowsFit}
use Rattle.toll_history.proofs.LimitsKept.{sublots_of_moves}
use Rattle.toll_history.proofs.Moving.{held_is}
use Rattle.toll_base.proofs.PutRules.{put_there, still_there}
use Rattle.toll_history.proofs.Stock.{stock_bounded}
use Rattle.toll_history.proofs.StockChanges.{stock-recorded}
use Rattle.toll_base.specs.declared.capacity.TheConstants.{MOST_LOTS, MOST_MOVEMENTS, MOST_STOCK, MOST_SUBLOTS}

-- ---- checks

-- Bounds that never apply if the checks accept don't change the verdict.
pub unbounded : (checks bounds : Checks) → (verdict_of_checks checks ≡ Accepted → verdict_of_checks bounds ≡ Accepted) → verdict_of_checks (checks ++ bounds) ≡ verdict_of_checks checks
unbounded [] bounds none = none refl
unbounded (check ∷ checks) bounds none =
    elim check.0 as (λ b. (cond b (verdict_of_check check.1) (verdict_of_checks checks) ≡ Accepted → verdict_of_checks bounds ≡ Accepted) → cond b (verdict_of_check check.1) (verdict_of_checks (checks ++ bounds)) ≡ cond b (verdict_of_check check.1) (verdict_of_checks checks)) [
      | true ↦ λ none. refl
      | false ↦ λ none. unbounded checks bounds none
    ] none

two_pass : (a b : Bool) (x y : Option Refusal) → a ≡ false → b ≡ false → verdict_of_checks ((a, x) ∷ (b, y) ∷ []) ≡ Accepted
two_pass a b x y ha hb = (λ i. cond (ha i) (verdict_of_check x) (cond (hb i) (verdict_of_check y) Accepted))

not_full : (unknown : Bool) (n m : ℕ) → n ≤ m → nat_le MOST_SUBLOTS m ≡ false → (unknown && nat_le MOST_SUBLOTS n) ≡ false
not_full true n m le room = grind (arith, nat_tests)
not_full false n m le room = refl

not_over : (n most : ℕ) → n ≤ most → nat_lt most n ≡ false
not_over n most le = grind (arith, nat_tests)

room_for_amount : (n m amount after : ℕ) → n ≡ m → after ≡ m + amount - 0 → after ≤ MOST_STOCK → n + amount ≤ MOST_STOCK
room_for_amount n m amount after e is le = omega arith

-- After an accepted movement into a sublot of the owner, there was room for it.
module _ (H : History) (o : Bytes) (row : MoveRow) (lawful : IsLawful H) (valid : IsValidAction (Record row)) (accepted : verdict H (by o (Record row)) ≡ Accepted) (room : nat_le MOST_MOVEMENTS (count_movements (acts o H)) ≡ false) (lot sub : Bytes) (brings : brings_into (lot_id o lot) sub o row.what ≡ true) (takes : takes_from (lot_id o lot) sub o row.what ≡ false) where
  after_stock : stock (by o (Record row) ∷ H) (lot_id o lot) sub ≡ stock H (lot_id o lot) sub + row.amount - 0
  after_stock = stock-recorded H o row (lot_id o lot) sub lawful ∙ (λ i. stock H (lot_id o lot) sub + cond (brings i) row.amount 0 - cond (takes i) row.amount 0)

  pub sublot_room : verdict_of_checks (sublot_bounds (facts_given H o) lot sub row.amount) ≡ Accepted
  sublot_room =
      two_pass _ _ (Some LimitReached) (Some LimitReached)
      (not_full (is_none (sublot_row H o (lot, sub))) (count_sublots H o) (count_movements (acts o H)) (sublots_of_moves H o) room)
      (not_over (amount_in (facts_given H o) lot sub + row.amount) MOST_STOCK
      (room_for_amount (amount_in (facts_given H o) lot sub) (stock H (lot_id o lot) sub) row.amount (stock (by o (Record row) ∷ H) (lot_id o lot) sub)
      (held_is H o lot sub) after_stock (stock_bounded (by o (Record row) ∷ H) (lot_id o lot) sub (lawful, valid, accepted))))

-- ---- slices

-- A row that is there fits, and a new row fits if there is room.
pub room_of : {X : Type 0} (known : Option X) (most n : ℕ) → (is_none known && nat_le most n) ≡ false → (is_some known || nat_lt n most) ≡ true
room_of None most n h = below_limit most n h
room_of (Some x) most n h = refl

at_most_if_not_less : (n most : ℕ) → nat_lt most n ≡ false → nat_le n most ≡ true
at_most_if_not_less n most h = grind (arith, nat_tests)

module _ (s : Slice) where
  pub move_room : (row : MoveRow) → nat_le MOST_MOVEMENTS (length s.moves) ≡ false → batch_has_room s row.key row.what ≡ true → row_fits s (Move row) ≡ true
  move_room row room batch = and_is _ _ (or_right (is_some (move_at s row.key)) _ (below_limit MOST_MOVEMENTS (length s.moves) room)) batch

  pub sublot_room_in : (row : SublotRow) → (is_none (sublot_at s (row.lot, row.sublot)) && nat_le MOST_SUBLOTS (length s.sublots)) ≡ false → nat_lt MOST_STOCK row.amount ≡ false → is_some (lot_at s row.lot) ≡ true → row_fits s (Sublot row) ≡ true
  sublot_room_in row room amount lot = and_is _ _ (and_is _ _ (room_of (sublot_at s (row.lot, row.sublot)) MOST_SUBLOTS (length s.sublots) room) (at_most_if_not_less row.amount MOST_STOCK amount)) lot

  -- The rows of a movement into a sublot fit.
  pub came_fit : (row : MoveRow) (lot : LotRow) (sublot : SublotRow) → sublot.lot ≡ lot.lot →
      nat_le MOST_MOVEMENTS (length s.moves) ≡ false → batch_has_room s row.key row.what ≡ true →
      (is_none (lot_at s lot.lot) && nat_le MOST_LOTS (length s.lots)) ≡ false → is_none (material_at s lot.material) ≡ false →
      (is_none (sublot_at s (sublot.lot, sublot.sublot)) && nat_le MOST_SUBLOTS (length s.sublots)) ≡ false → nat_lt MOST_STOCK sublot.amount ≡ false →
      RowsFit (Move row ∷ Lot lot ∷ Sublot sublot ∷ []) s
  came_fit row lot sublot same moves batch lots material sublots amount =
      (move_room row moves batch, (lot_room_after, (sublot_room_after, tt)))
    where
      lot_room_after : row_fits (with_row s (Move row)) (Lot lot) ≡ true
      lot_room_after = and_is _ _ (room_of (lot_at s lot.lot) MOST_LOTS (length s.lots) lots) (some_if_not_none (material_at s lot.material) material)

      sublot_room_after : row_fits (with_row (with_row s (Move row)) (Lot lot)) (Sublot sublot) ≡ true
      sublot_room_after =
          and_is _ _ (and_is _ _ (room_of (sublot_at s (sublot.lot, sublot.sublot)) MOST_SUBLOTS (length s.sublots) sublots) (at_most_if_not_less sublot.amount MOST_STOCK amount))
          (ap (λ k. is_some (lot_at (with_row (with_row s (Move row)) (Lot lot)) k)) same ∙ ap is_some (put_there bytes_cmp nat_list_cmp_total (λ r. r.lot) s.lots lot))

  less_over : (n amount : ℕ) → n ≤ MOST_STOCK → nat_lt MOST_STOCK (n - amount) ≡ false
  less_over n amount le = not_over (n - amount) MOST_STOCK (let l = le in omega arith)

  held_bound : KeepsRules s → (lot sub : Bytes) → amount_in (facts_of s) lot sub ≤ MOST_STOCK
  held_bound keeps lot sub =
      elim (sublot_at s (lot, sub)) as (λ x. sublot_at s (lot, sub) ≡ x → option_map_or (λ (row : SublotRow). row.amount) x 0 ≤ MOST_STOCK) [
        | None ↦ λ none. omega arith
        | Some row ↦ λ found. amount_bound s keeps (lot, sub) row found
      ] refl

  -- The rows of a movement from a known sublot fit.
  pub went_fit : (row : MoveRow) (lot sub : Bytes) (amount : ℕ) → KeepsRules s →
      nat_le MOST_MOVEMENTS (length s.moves) ≡ false → batch_has_room s row.key row.what ≡ true →
      is_none (lot_at s lot) ≡ false → is_none (sublot_at s (lot, sub)) ≡ false →
      RowsFit (Move row ∷ Sublot (sublot_row_of lot sub (amount_in (facts_of s) lot sub - amount)) ∷ []) s
  went_fit row lot sub amount keeps moves batch lot_there sub_there =
      (move_room row moves batch, (and_is _ _ (and_is _ _ (or_left _ _ (some_if_not_none (sublot_at s (lot, sub)) sub_there)) (at_most_if_not_less _ MOST_STOCK (less_over (amount_in (facts_of s) lot sub) amount (held_bound keeps lot sub)))) (some_if_not_none (lot_at s lot) lot_there), tt))

  -- The rows of a movement from a known sublot to another of its lot fit.
  pub went_over_fit : (row : MoveRow) (lot sub target : Bytes) (more less : ℕ) → KeepsRules s →
      nat_le MOST_MOVEMENTS (length s.moves) ≡ false → batch_has_room s row.key row.what ≡ true →
      is_none (lot_at s lot) ≡ false → is_none (sublot_at s (lot, sub)) ≡ false →
      (is_none (sublot_at s (lot, target)) && nat_le MOST_SUBLOTS (length s.sublots)) ≡ false → nat_lt MOST_STOCK more ≡ false →
      RowsFit (Move row ∷ Sublot (sublot_row_of lot target more) ∷ Sublot (sublot_row_of lot sub (amount_in (facts_of s) lot sub - less)) ∷ []) s
  went_over_fit row lot sub target more less keeps moves batch lot_there sub_there room small = (
    move_room row moves batch,
    (
      and_is _ _ (and_is _ _ (room_of (sublot_at s (lot, target)) MOST_SUBLOTS (length s.sublots) room) (at_most_if_not_less more MOST_STOCK small)) (some_if_not_none (lot_at s lot) lot_there),
      (
        and_is _ _
            (and_is _ _ (or_left _ _ (still_there pair_cmp pair_cmp_total (λ r. (r.lot, r.sublot)) s.sublots (sublot_row_of lot target more) (lot, sub) (some_if_not_none (sublot_at s (lot, sub)) sub_there)))
            (at_most_if_not_less _ MOST_STOCK (less_over (amount_in (facts_of s) lot sub) less (held_bound keeps lot sub))))
            (some_if_not_none (lot_at s lot) lot_there),
        tt,
      ),
    ),
  )

  -- A known sublot with less in it fits.
  pub less_fit : (lot sub : Bytes) (amount : ℕ) → KeepsRules s → is_none (lot_at s lot) ≡ false → is_none (sublot_at s (lot, sub)) ≡ false → row_fits s (Sublot (sublot_row_of lot sub (amount_in (facts_of s) lot sub - amount))) ≡ true
  less_fit lot sub amount keeps lot_there sub_there =
      and_is _ _ (and_is _ _ (or_left _ _ (some_if_not_none (sublot_at s (lot, sub)) sub_there)) (at_most_if_not_less _ MOST_STOCK (less_over (amount_in (facts_of s) lot sub) amount (held_bound keeps lot sub)))) (some_if_not_none (lot_at s lot) lot_there)
