-- A sum over an owner's standing movements is one over its movements without those whose keys are voided.
use Rattle.std.proofs.Common.{◌≡◌, ℕ, ◌+◌, Bool, true, false, not, ◌&&◌, ◌||◌, cond, Some, None, List, [], ◌∷◌, filter, refl, sym, ap, ◌∙◌, arith}
use Rattle.toll_work.proofs.Common.{false≢true, nat_list_cmp_total, Bytes, same_bytes, bytes_cmp, row_at, IsInKeyOrder, total, is_some_where, or_else, where_so, History, acts, Movement, has_move_key, movement_of, standing_after, standing, voided_in, Accepted, IsLawful, IsValidAction, verdict, is_actual, MoveRow, acts-cons, along_acts, other_than, same_bytes-exact, same_bytes-refl, same_bytes-symm, total-filtered, total-alike}
use Rattle.toll_history.specs.Command.{Action, Record, Void, by}
use Rattle.toll_history.proofs.Found.{key_is_new}
use Rattle.toll_history.proofs.KeysOnce.{void_of_actual}
use Rattle.toll_work.proofs.KeyedRows.{row_at-filter, filter_ordered, keyed_head_found, total_taken}

-- of an owner's actions, the movements that no later one voids
abbrev pub own_standing : List Action → List MoveRow
own_standing [] = []
own_standing (Record row ∷ own) = row ∷ own_standing own
own_standing (Void key ∷ own) = filter (λ row. not (same_bytes key row.key)) (own_standing own)
own_standing (_ ∷ own) = own_standing own

conds_swapped : (a k : Bool) (n : ℕ) → cond (a && k) 0 (cond a n 0) ≡ cond a (cond k 0 n) 0
conds_swapped true true n = refl
conds_swapped true false n = refl
conds_swapped false k n = refl

zero_either_way : (b : Bool) → ◌≡◌ {A = ℕ} (cond b 0 0) 0
zero_either_way true = refl
zero_either_way false = refl

cond_or_swapped : (a b : Bool) (n : ℕ) → cond (a || b) 0 n ≡ cond b 0 (cond a 0 n)
cond_or_swapped true true n = refl
cond_or_swapped true false n = refl
cond_or_swapped false b n = refl

-- ---- the owner's among all

module _ (o : Bytes) where
  abbrev pub of_owner : (MoveRow → ℕ) → Movement → ℕ
  of_owner g m = cond (same_bytes m.0 o) (g m.1) 0

  abbrev SumsAs : List Movement → List Action → Type 0
  SumsAs moves own = (g : MoveRow → ℕ) → total (of_owner g) moves ≡ total g (own_standing own)

  standing_own_step : (p : Bytes) (a : Action) (moves : List Movement) (own : List Action) → same_bytes p o ≡ true → SumsAs moves own → SumsAs (standing_after p a moves) (a ∷ own)
  standing_own_step p (Record row) moves own mine before g = λ i. cond (mine i) (g row) 0 + before g i
  standing_own_step p (Void key) moves own mine before g =
      total-filtered (has_move_key p key) (of_owner g) moves
      ∙ total-alike _ (of_owner (λ row. cond (same_bytes key row.key) 0 (g row))) moves
      (λ m. ap (λ b. cond (b && same_bytes key m.1.key) 0 (of_owner g m)) (ap (λ w. same_bytes w m.0) (same_bytes-exact p o mine) ∙ same_bytes-symm o m.0) ∙ conds_swapped (same_bytes m.0 o) (same_bytes key m.1.key) (g m.1))
      ∙ before (λ row. cond (same_bytes key row.key) 0 (g row))
      ∙ sym (total-filtered (λ row. same_bytes key row.key) g (own_standing own))
  standing_own_step p _ moves own mine before g = before g

  other_step : (p : Bytes) (a : Action) (moves : List Movement) (g : MoveRow → ℕ) → same_bytes p o ≡ false → total (of_owner g) (standing_after p a moves) ≡ total (of_owner g) moves
  other_step p (Record row) moves g other = rw other (omega arith)
  other_step p (Void key) moves g other =
      total-filtered (has_move_key p key) (of_owner g) moves
      ∙ total-alike _ (of_owner g) moves (λ m. elim (same_bytes m.0 o) as (λ b. same_bytes m.0 o ≡ b → cond (same_bytes p m.0 && same_bytes key m.1.key) 0 (cond b (g m.1) 0) ≡ cond b (g m.1) 0) [
        | true ↦ λ mine. ap (λ b. cond (b && same_bytes key m.1.key) 0 (g m.1)) (other_than p o m.0 other mine)
        | false ↦ λ not_mine. zero_either_way (same_bytes p m.0 && same_bytes key m.1.key)
      ] refl)
  other_step p _ moves g other = refl

  own_sum : (H : History) → SumsAs (standing H) (acts o H)
  unfolding acts
  own_sum [] g = refl
  own_sum (c ∷ H) g =
      elim (same_bytes c.owner o) as (λ b. same_bytes c.owner o ≡ b → total (of_owner g) (standing (c ∷ H)) ≡ total g (own_standing (cond b (c.action ∷ acts o H) (acts o H)))) [
        | true ↦ λ mine. standing_own_step c.owner c.action (standing H) (acts o H) mine (own_sum H) g
        | false ↦ λ other. other_step c.owner c.action (standing H) g other ∙ own_sum H g
      ] refl
      ∙ ap (λ own. total g (own_standing own)) (sym (acts-cons o c H))

  -- ---- by keys

  abbrev move_key : MoveRow → Bytes
  move_key row = row.key

  -- If the rows have each movement at its key, the sum over them, without voided keys, is that over the standing movements.
  abbrev IsSum : List Action → Type 0
  IsSum own = (g : MoveRow → ℕ) (rows : List MoveRow) → IsInKeyOrder bytes_cmp move_key rows → ((k : Bytes) → row_at bytes_cmp move_key rows k ≡ movement_of own k) →
      total (λ row. cond (voided_in own row.key) 0 (g row)) rows ≡ total g (own_standing own)

  no_rows_sum : IsSum []
  no_rows_sum g [] ordered at = refl
  no_rows_sum g (row ∷ rows) ordered at = let none : None ≡ Some row = sym (at row.key) ∙ keyed_head_found bytes_cmp move_key nat_list_cmp_total row rows in (cc)

  recorded : (H : History) (row : MoveRow) → IsLawful H → movement_of (acts o H) row.key ≡ None → IsSum (acts o H) → IsSum (Record row ∷ acts o H)
  recorded H row lawful new before g rows ordered at =
      let found : row_at bytes_cmp move_key rows row.key ≡ Some row = at row.key ∙ ap (λ b. or_else (where_so b row) (movement_of (acts o H) row.key)) (same_bytes-refl row.key) in
      let others : (k : Bytes) → row_at bytes_cmp move_key rest k ≡ movement_of (acts o H) k = λ k. row_at-filter bytes_cmp move_key other alike rows k ∙ without k in
      total_taken bytes_cmp move_key nat_list_cmp_total (λ r. cond (voided_in (acts o H) r.key) 0 (g r)) rows row.key row ordered found
      ∙ (λ i. cond (stays i) 0 (g row) + before g rest (filter_ordered bytes_cmp move_key other alike rows ordered) others i)
    where
      other : Bytes → Bool
      other k = not (same_bytes row.key k)

      alike : (k l : Bytes) → same_bytes k l ≡ true → other k ≡ other l
      alike k l same = ap other (same_bytes-exact k l same)

      rest : List MoveRow
      rest = filter (λ r. other r.key) rows

      stays : voided_in (acts o H) row.key ≡ false
      stays =
          elim (voided_in (acts o H) row.key) as (λ b. voided_in (acts o H) row.key ≡ b → b ≡ false) [
            | true ↦ λ is. absurd (false≢true (ap (is_some_where (λ (r : MoveRow). is_actual r.what)) (sym new) ∙ void_of_actual o row.key H lawful is))
            | false ↦ λ is. refl
          ] refl

      without : (k : Bytes) → cond (other k) (row_at bytes_cmp move_key rows k) None ≡ movement_of (acts o H) k
      without k =
          elim (same_bytes row.key k) as (λ b. same_bytes row.key k ≡ b → cond (not b) (row_at bytes_cmp move_key rows k) None ≡ movement_of (acts o H) k) [
            | true ↦ λ same. sym new ∙ ap (movement_of (acts o H)) (same_bytes-exact row.key k same)
            | false ↦ λ apart. at k ∙ ap (λ b. or_else (where_so b row) (movement_of (acts o H) k)) (same_bytes-symm k row.key ∙ apart)
          ] refl

  sum_more : (H : History) (a : Action) → IsLawful H → IsValidAction a → verdict H (by o a) ≡ Accepted → IsSum (acts o H) → IsSum (a ∷ acts o H)
  sum_more H (Record row) lawful valid accepted before g rows ordered at = recorded H row lawful (key_is_new H o row accepted) before g rows ordered at
  sum_more H (Void key) lawful valid accepted before g rows ordered at =
      total-alike _ _ rows (λ row. cond_or_swapped (same_bytes key row.key) (voided_in (acts o H) row.key) (g row))
      ∙ before (λ row. cond (same_bytes key row.key) 0 (g row)) rows ordered at
      ∙ sym (total-filtered (λ row. same_bytes key row.key) g (own_standing (acts o H)))
  sum_more H _ lawful valid accepted before g rows ordered at = before g rows ordered at

  -- over the rows of a lawful history
  pub sum_of_rows : (H : History) → IsLawful H → (g : MoveRow → ℕ) (rows : List MoveRow) → IsInKeyOrder bytes_cmp move_key rows → ((k : Bytes) → row_at bytes_cmp move_key rows k ≡ movement_of (acts o H) k) →
      total (λ row. cond (voided_in (acts o H) row.key) 0 (g row)) rows ≡ total (of_owner g) (standing H)
  sum_of_rows H lawful g rows ordered at = along_acts IsSum o no_rows_sum sum_more H lawful g rows ordered at ∙ sym (own_sum H g)
