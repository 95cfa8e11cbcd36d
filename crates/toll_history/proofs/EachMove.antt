-- A fact of each movement of a lawful history, proved for a new movement when it is accepted, and kept for earlier ones.
use Rattle.std.proofs.Common.{◌≡◌, true, false, cond, Some, List, [], ◌∷◌, refl, sym, subst, ◌∙◌}
use Rattle.toll_history.proofs.Common.{AllByRecursion, Bytes, same_bytes, MoveRow, both, same_bytes-exact, Action, Record, by, History, acts, Movement, has_move_key, movement_of, movements, Accepted, IsLawful, IsValidAction, verdict}
use Rattle.toll_history.proofs.Found.{movement_of-recorded, movement_of-kept}

pub all_weaker : {X : Type 0} (P R : X → Type 0) → ((x : X) → P x → R x) → (xs : List X) → AllByRecursion P xs → AllByRecursion R xs
all_weaker P R f [] h = tt
all_weaker P R f (x ∷ xs) h = (f x h.0, all_weaker P R f xs h.1)

module _ (Q : History → Movement → Type 0)
    (new : (H : History) (o : Bytes) (row : MoveRow) → IsLawful H → IsValidAction (Record row) → verdict H (by o (Record row)) ≡ Accepted → Q (by o (Record row) ∷ H) (o, row))
    (still : (H : History) (o : Bytes) (a : Action) → verdict H (by o a) ≡ Accepted → (m : Movement) → Q H m → Q (by o a ∷ H) m) where
  each_step : (H : History) (o : Bytes) (a : Action) → IsLawful H → IsValidAction a → verdict H (by o a) ≡ Accepted → AllByRecursion (Q H) (movements H) → AllByRecursion (Q (by o a ∷ H)) (movements (by o a ∷ H))
  each_step H o (Record row) lawful valid accepted each = (new H o row lawful valid accepted, all_weaker _ _ (still H o (Record row) accepted) (movements H) each)
  each_step H o a lawful valid accepted each = all_weaker _ _ (still H o a accepted) (movements H) each

  pub each_move : (H : History) → IsLawful H → AllByRecursion (Q H) (movements H)
  each_move [] lawful = tt
  each_move (c ∷ H) lawful = each_step H c.owner c.action lawful.0 lawful.1 lawful.2 (each_move H lawful.0)

-- A fact of each movement holds of the one with a key.
module _ (P : Movement → Type 0) (o key : Bytes) (row : MoveRow) where
  found_step : (H : History) (w : Bytes) (a : Action) → (AllByRecursion P (movements H) → movement_of (acts o H) key ≡ Some row → P (o, row)) → AllByRecursion P (movements (by w a ∷ H)) → movement_of (acts o (by w a ∷ H)) key ≡ Some row → P (o, row)
  found_step H w (Record other) before each is =
      elim (has_move_key o key (w, other)) as (λ b. has_move_key o key (w, other) ≡ b → cond b (Some other) (movement_of (acts o H) key) ≡ Some row → P (o, row)) [
        | true ↦ λ hit is.
            let e = same_bytes-exact o w (both (same_bytes o w) _ hit).0 in
            let r : other ≡ row = (cc) in
            subst P (λ i. (sym e i, r i)) each.0
        | false ↦ λ miss is. before each.1 is
      ] refl (sym (movement_of-recorded H w other o key) ∙ is)
  found_step H w a before each is = before each (sym (movement_of-kept H w a o key refl) ∙ is)

  pub of_found : (H : History) → AllByRecursion P (movements H) → movement_of (acts o H) key ≡ Some row → P (o, row)
  unfolding acts
  of_found [] each is = (cc)
  of_found (c ∷ H) each is = found_step H c.owner c.action (of_found H) each is
