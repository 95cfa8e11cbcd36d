-- The tables of a slice after a movement, a lot, a sublot or a void was put.
use Rattle.std.proofs.Common.{◌≡◌, ℕ, suc, ◌+◌, Bool, true, false, ◌&&◌, ◌||◌, cond, Option, Some, None, is_some, is_none, List, [], ◌∷◌, length, refl, ap, ◌∙◌, arith}
use Rattle.toll_history.proofs.Common.{nat_list_cmp_total, list_any, is_eq, or_left, or_right, Bytes, same_bytes, bytes_cmp, pair_cmp, row_at, put_row, Slice, with_row, lot_at, move_at, is_actual_of, LotRow, MoveRow, SublotRow, row_at-put_row, length-put_row, length-new, count-new, any-new, any-known, pair_cmp_total, is_eq-then, same_bytes-symm, OwnerFacts, facts_of}
use Rattle.std.specs.Cmp.{IsTotalOrder}
use Rattle.std.specs.declared.cmp.Ordering.{Ordering}
use Rattle.toll_base.specs.declared.rows.VoidRow.{VoidRow}
use Rattle.toll_base.specs.declared.rows.Row.TheVariants.{Lot, Sublot, Move, Void}
use Rattle.toll_history.proofs.Decided.{put_rows}
use Rattle.toll_history.proofs.Grown.{more}

-- tables with one more movement
abbrev pub with_move : MoveRow → OwnerFacts → OwnerFacts
with_move row t = record t {
  movement = λ k. cond (same_bytes k row.key) (Some row) (t.movement k);
  movements = suc t.movements;
  actuals = λ order number. more (is_actual_of order number row.what) (t.actuals order number);
}

-- tables with this lot, new or replacing the one with its name
abbrev pub with_lot : LotRow → OwnerFacts → OwnerFacts
with_lot row t = record t {
  lot = λ k. cond (same_bytes k row.lot) (Some row) (t.lot k);
  lots = more (is_none (t.lot row.lot)) t.lots;
  material_used = λ m. same_bytes row.material m || t.material_used m;
}

-- whether the sublot has this key
abbrev pub is_sublot_key : (lot sublot : Bytes) → Bytes × Bytes → Bool
is_sublot_key lot sublot k = same_bytes k.0 lot && same_bytes k.1 sublot

-- tables with this sublot, new or replacing the one with its key
abbrev pub with_sublot : SublotRow → OwnerFacts → OwnerFacts
with_sublot row t = record t {
  sublot = λ k. cond (is_sublot_key row.lot row.sublot k) (Some row) (t.sublot k);
  sublots = more (is_none (t.sublot (row.lot, row.sublot))) t.sublots;
}

-- tables in which the movement with this key is voided
abbrev pub with_void : Bytes → OwnerFacts → OwnerFacts
with_void key t = record t { voided = λ k. same_bytes key k || t.voided k }

-- ---- lists

more_if_new : {X : Type 0} (x : Option X) (n : ℕ) → cond (is_some x) 0 1 + n ≡ more (is_none x) n
more_if_new None n = omega arith
more_if_new (Some x) n = omega arith

any_found : {K R : Type 0} (cmp : K → K → Ordering) (key : R → K) (p : R → Bool) (rows : List R) (k : K) (row : R) → row_at cmp key rows k ≡ Some row → p row ≡ true → list_any p rows ≡ true
unfolding row_at
any_found cmp key p [] k row found passes = (cc)
any_found cmp key p (x ∷ xs) k row found passes =
    elim (is_eq (cmp k (key x))) as (λ b. cond b (Some x) (row_at cmp key xs k) ≡ Some row → (p x || list_any p xs) ≡ true) [
      | true ↦ λ is. let e : x ≡ row = (cc) in or_left (p x) _ (ap p e ∙ passes)
      | false ↦ λ is. or_right (p x) _ (any_found cmp key p xs k row is passes)
    ] found

either_found : (passes any : Bool) → (passes ≡ true → any ≡ true) → any ≡ (passes || any)
either_found true any there = there refl
either_found false any there = refl

module _ {K R : Type 0} (cmp : K → K → Ordering) (o : IsTotalOrder cmp) (key : R → K) (rows : List R) (row : R) where
  -- There is one more row if there was none with its key.
  pub length-put : length (put_row cmp key rows row) ≡ more (is_none (row_at cmp key rows (key row))) (length rows)
  length-put = length-put_row cmp o key rows row ∙ more_if_new (row_at cmp key rows (key row)) (length rows)

  -- Some row passes if this one does or one did before, provided that a row it replaces passes as it does.
  pub any-put : (p : R → Bool) → ((old : R) → row_at cmp key rows (key row) ≡ Some old → p old ≡ p row) → list_any p (put_row cmp key rows row) ≡ (p row || list_any p rows)
  any-put p same =
      elim (row_at cmp key rows (key row)) as (λ x. row_at cmp key rows (key row) ≡ x → list_any p (put_row cmp key rows row) ≡ (p row || list_any p rows)) [
        | None ↦ λ none. any-new cmp key p rows row (ap is_some none)
        | Some old ↦ λ found. any-known cmp key p rows row old found (same old found) ∙ either_found (p row) (list_any p rows) (λ h. any_found cmp key p rows (key row) old found (same old found ∙ h))
      ] refl

-- ---- slices

pub put_move : (s : Slice) (row : MoveRow) → is_some (move_at s row.key) ≡ false → facts_of (with_row s (Move row)) ≡ with_move row (facts_of s)
put_move s row absent i = record (facts_of s) {
  movement = λ k. row_at-put_row bytes_cmp nat_list_cmp_total (λ r. r.key) s.moves row k i;
  movements = length-new bytes_cmp nat_list_cmp_total (λ r. r.key) s.moves row absent i;
  actuals = λ order number. count-new bytes_cmp nat_list_cmp_total (λ r. r.key) s.moves row (λ r. is_actual_of order number r.what) absent i;
}

pub put_lot : (s : Slice) (row : LotRow) → ((old : LotRow) → lot_at s row.lot ≡ Some old → old.material ≡ row.material) → facts_of (with_row s (Lot row)) ≡ with_lot row (facts_of s)
put_lot s row same i = record (facts_of s) {
  lot = λ k. row_at-put_row bytes_cmp nat_list_cmp_total (λ r. r.lot) s.lots row k i;
  lots = length-put bytes_cmp nat_list_cmp_total (λ r. r.lot) s.lots row i;
  material_used = λ m. any-put bytes_cmp nat_list_cmp_total (λ r. r.lot) s.lots row (λ r. same_bytes r.material m) (λ old found. ap (λ x. same_bytes x m) (same old found)) i;
}

pub put_sublot : (s : Slice) (row : SublotRow) → facts_of (with_row s (Sublot row)) ≡ with_sublot row (facts_of s)
put_sublot s row i = record (facts_of s) {
  sublot = λ k. (row_at-put_row pair_cmp pair_cmp_total (λ r. (r.lot, r.sublot)) s.sublots row k
      ∙ ap (λ b. cond b (Some row) (row_at pair_cmp (λ r. (r.lot, r.sublot)) s.sublots k)) (is_eq-then (bytes_cmp k.0 row.lot) (bytes_cmp k.1 row.sublot))) i;
  sublots = length-put pair_cmp pair_cmp_total (λ r. (r.lot, r.sublot)) s.sublots row i;
}

-- ---- the rows of a movement, in order

pub put_came : (s : Slice) (row : MoveRow) (lot : LotRow) (sublot : SublotRow) → is_some (move_at s row.key) ≡ false → ((old : LotRow) → lot_at s lot.lot ≡ Some old → old.material ≡ lot.material) →
    facts_of (put_rows (Move row ∷ Lot lot ∷ Sublot sublot ∷ []) s) ≡ with_sublot sublot (with_lot lot (with_move row (facts_of s)))
put_came s row lot sublot absent same =
    put_sublot (with_row (with_row s (Move row)) (Lot lot)) sublot
    ∙ ap (with_sublot sublot) (put_lot (with_row s (Move row)) lot same ∙ ap (with_lot lot) (put_move s row absent))

pub put_went : (s : Slice) (row : MoveRow) (sublot : SublotRow) → is_some (move_at s row.key) ≡ false → facts_of (put_rows (Move row ∷ Sublot sublot ∷ []) s) ≡ with_sublot sublot (with_move row (facts_of s))
put_went s row sublot absent = put_sublot (with_row s (Move row)) sublot ∙ ap (with_sublot sublot) (put_move s row absent)

pub put_went_over : (s : Slice) (row : MoveRow) (target source : SublotRow) → is_some (move_at s row.key) ≡ false →
    facts_of (put_rows (Move row ∷ Sublot target ∷ Sublot source ∷ []) s) ≡ with_sublot source (with_sublot target (with_move row (facts_of s)))
put_went_over s row target source absent = put_sublot (with_row (with_row s (Move row)) (Sublot target)) source ∙ ap (with_sublot source) (put_went s row target absent)

is_some_cond : {X : Type 0} (b : Bool) (new : X) (old : Option X) → is_some (cond b (Some new) old) ≡ (b || is_some old)
is_some_cond true new old = refl
is_some_cond false new old = refl

pub put_void : (s : Slice) (row : VoidRow) → facts_of (with_row s (Void row)) ≡ with_void row.key (facts_of s)
put_void s row i = record (facts_of s) {
  voided = λ k. (ap is_some (row_at-put_row bytes_cmp nat_list_cmp_total (λ r. r.key) s.voids row k)
      ∙ is_some_cond (same_bytes k row.key) row (row_at bytes_cmp (λ r. r.key) s.voids k)
      ∙ ap (λ b. b || is_some (row_at bytes_cmp (λ r. r.key) s.voids k)) (same_bytes-symm k row.key)) i;
}
