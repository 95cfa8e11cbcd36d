-- The tables that a history gives after a void.
use Rattle.std.proofs.Common.{◌≡◌, ℕ, ◌+◌, ◌-◌, Bool, true, false, cond, Some, is_none, ◌∷◌, refl, sym, ap, ◌∙◌, arith}
use Rattle.toll_work.proofs.Common.{sublot_row_of, Bytes, same_bytes, where_so, History, acts, lot_id, movement_of, voided_in, sublot_known, stock, brings_into, takes_from, lot_made, count_lots, count_sublots, material_used, facts_given, sublot_row, Accepted, IsLawful, IsValidAction, verdict, amount_in, MoveRow, both, same_bytes-exact, same_bytes-refl, true_where, acts-own, held_is, tables_from, after_is, with_void, is_sublot_key}
use Rattle.toll_history.specs.Command.{Void, by}
use Rattle.toll_history.proofs.OwnFacts.{tables_but_amounts-other}
use Rattle.toll_history.proofs.CameIn.{sublot_row-voided}

module _ (H : History) (o key : Bytes) (row : MoveRow) (lawful : IsLawful H) (valid : IsValidAction (Void key)) (accepted : verdict H (by o (Void key)) ≡ Accepted) (found : movement_of (acts o H) key ≡ Some row) (stays : voided_in (acts o H) key ≡ false) where
  -- ---- all but sublots

  -- The tables of others differ in sublots alone.
  pub others_but_sublots : (p : Bytes) → same_bytes o p ≡ false → facts_given (by o (Void key) ∷ H) p ≡ record (facts_given H p) { sublot = sublot_row (by o (Void key) ∷ H) p }
  others_but_sublots p other i = record (tables_but_amounts-other p H (by o (Void key)) (lawful, valid, accepted) other i) { sublot = sublot_row (by o (Void key) ∷ H) p }

  -- The owner's tables, with the key voided, differ only in sublots.
  pub own_but_sublots : facts_given (by o (Void key) ∷ H) o ≡ record (with_void key (facts_given H o)) { sublot = sublot_row (by o (Void key) ∷ H) o }
  unfolding lot_made count_lots count_sublots material_used
  own_but_sublots =
      (λ i. record (tables_from (acts-own o (by o (Void key)) H (same_bytes-refl o) i) o H) { sublot = sublot_row (by o (Void key) ∷ H) o })
      ∙ (λ i. record (after_is (Void key) (acts o H) o H i) { sublot = sublot_row (by o (Void key) ∷ H) o })

  -- ---- sublots, of any owner

  module _ (p : Bytes) where
    abbrev voided_stock_held : (lot sub : Bytes) → ℕ
    voided_stock_held lot sub = amount_in (facts_given H p) lot sub

    voided_moved_at : (k : Bytes × Bytes) (came went : Bool) → brings_into (lot_id p k.0) k.1 o row.what ≡ came → takes_from (lot_id p k.0) k.1 o row.what ≡ went →
        sublot_row (by o (Void key) ∷ H) p k ≡ where_so (sublot_known H (lot_id p k.0) k.1) (sublot_row_of k.0 k.1 (stock H (lot_id p k.0) k.1 + cond went row.amount 0 - cond came row.amount 0))
    voided_moved_at k came went brings takes =
        sublot_row-voided H o p key row k lawful found stays
        ∙ (λ i. where_so (sublot_known H (lot_id p k.0) k.1) (sublot_row_of k.0 k.1 (stock H (lot_id p k.0) k.1 + cond (takes i) row.amount 0 - cond (brings i) row.amount 0)))

    voided_held_at : (lot sub : Bytes) (k : Bytes × Bytes) → is_sublot_key lot sub k ≡ true → stock H (lot_id p k.0) k.1 ≡ voided_stock_held lot sub
    voided_held_at lot sub k same =
        let parts = both (same_bytes k.0 lot) (same_bytes k.1 sub) same in
        (λ i. stock H (lot_id p (same_bytes-exact k.0 lot parts.0 i)) (same_bytes-exact k.1 sub parts.1 i)) ∙ sym (held_is H p lot sub)

    voided_known_at : (lot sub : Bytes) (k : Bytes × Bytes) → is_none (sublot_row H p (lot, sub)) ≡ false → is_sublot_key lot sub k ≡ true → sublot_known H (lot_id p k.0) k.1 ≡ true
    voided_known_at lot sub k there same =
        let parts = both (same_bytes k.0 lot) (same_bytes k.1 sub) same in
        (λ i. sublot_known H (lot_id p (same_bytes-exact k.0 lot parts.0 i)) (same_bytes-exact k.1 sub parts.1 i)) ∙ true_where (sublot_known H (lot_id p lot) sub) _ there

    -- A known sublot with this key has the amount that is left of what it held.
    left_at : (lot sub : Bytes) (k : Bytes × Bytes) (n : ℕ) → is_none (sublot_row H p (lot, sub)) ≡ false → is_sublot_key lot sub k ≡ true → where_so (sublot_known H (lot_id p k.0) k.1) (sublot_row_of k.0 k.1 n) ≡ Some (sublot_row_of lot sub n)
    left_at lot sub k n there same =
        let parts = both (same_bytes k.0 lot) (same_bytes k.1 sub) same in
        ap (λ b. where_so b (sublot_row_of k.0 k.1 n)) (voided_known_at lot sub k there same)
        ∙ (λ i. Some (sublot_row_of (same_bytes-exact k.0 lot parts.0 i) (same_bytes-exact k.1 sub parts.1 i) n))

    voided_more_at : (n m amount : ℕ) → n ≡ m → n + amount - 0 ≡ m + amount
    voided_more_at n m amount is = omega arith

    voided_less_at : (n m amount : ℕ) → n ≡ m → n + 0 - amount ≡ m - amount
    voided_less_at n m amount is = omega arith

    voided_plain : (n : ℕ) → n + 0 - 0 ≡ n
    voided_plain n = omega arith

    pub stayed_at : (k : Bytes × Bytes) → brings_into (lot_id p k.0) k.1 o row.what ≡ false → takes_from (lot_id p k.0) k.1 o row.what ≡ false → sublot_row (by o (Void key) ∷ H) p k ≡ sublot_row H p k
    stayed_at k brings takes =
        voided_moved_at k false false brings takes
        ∙ ap (λ n. where_so (sublot_known H (lot_id p k.0) k.1) (sublot_row_of k.0 k.1 n)) (voided_plain (stock H (lot_id p k.0) k.1))

    -- What was taken from one sublot is given back.
    pub given_back : (lot sub : Bytes) → is_none (sublot_row H p (lot, sub)) ≡ false → ((k : Bytes × Bytes) → brings_into (lot_id p k.0) k.1 o row.what ≡ false) → ((k : Bytes × Bytes) → takes_from (lot_id p k.0) k.1 o row.what ≡ is_sublot_key lot sub k) →
        (k : Bytes × Bytes) → sublot_row (by o (Void key) ∷ H) p k ≡ cond (is_sublot_key lot sub k) (Some (sublot_row_of lot sub (voided_stock_held lot sub + row.amount))) (sublot_row H p k)
    given_back lot sub there brings takes k =
        elim (is_sublot_key lot sub k) as (λ b. is_sublot_key lot sub k ≡ b → sublot_row (by o (Void key) ∷ H) p k ≡ cond b (Some (sublot_row_of lot sub (voided_stock_held lot sub + row.amount))) (sublot_row H p k)) [
          | true ↦ λ same.
              voided_moved_at k false true (brings k) (takes k ∙ same)
              ∙ left_at lot sub k (stock H (lot_id p k.0) k.1 + row.amount - 0) there same
              ∙ ap (λ n. Some (sublot_row_of lot sub n)) (voided_more_at (stock H (lot_id p k.0) k.1) (voided_stock_held lot sub) row.amount (voided_held_at lot sub k same))
          | false ↦ λ other. stayed_at k (brings k) (takes k ∙ other)
        ] refl

    -- What was brought into one sublot is taken out.
    pub taken_out : (lot sub : Bytes) → is_none (sublot_row H p (lot, sub)) ≡ false → ((k : Bytes × Bytes) → brings_into (lot_id p k.0) k.1 o row.what ≡ is_sublot_key lot sub k) → ((k : Bytes × Bytes) → takes_from (lot_id p k.0) k.1 o row.what ≡ false) →
        (k : Bytes × Bytes) → sublot_row (by o (Void key) ∷ H) p k ≡ cond (is_sublot_key lot sub k) (Some (sublot_row_of lot sub (voided_stock_held lot sub - row.amount))) (sublot_row H p k)
    taken_out lot sub there brings takes k =
        elim (is_sublot_key lot sub k) as (λ b. is_sublot_key lot sub k ≡ b → sublot_row (by o (Void key) ∷ H) p k ≡ cond b (Some (sublot_row_of lot sub (voided_stock_held lot sub - row.amount))) (sublot_row H p k)) [
          | true ↦ λ same.
              voided_moved_at k true false (brings k ∙ same) (takes k)
              ∙ left_at lot sub k (stock H (lot_id p k.0) k.1 + 0 - row.amount) there same
              ∙ ap (λ n. Some (sublot_row_of lot sub n)) (voided_less_at (stock H (lot_id p k.0) k.1) (voided_stock_held lot sub) row.amount (voided_held_at lot sub k same))
          | false ↦ λ other. stayed_at k (brings k ∙ other) (takes k)
        ] refl
