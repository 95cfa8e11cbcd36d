-- In a lawful history, at most one standing movement has a given key, and a void removes exactly that one.
use Rattle.std.proofs.Common.{◌≡◌, ℕ, ◌+◌, Bool, true, false, not, ◌&&◌, cond, Some, None, List, [], ◌∷◌, filter, refl, sym, ap, subst, ◌∙◌, arith}
use Rattle.toll_history.proofs.Common.{or_parts, Bytes, same_bytes, total, MoveRow, both, same_bytes-exact, Action, Record, Void, by, History, acts, Movement, has_move_key, movement_of, movement_recorded, standing, voided_in, voids_key, Accepted, IsLawful, verdict}
use Rattle.toll_history.proofs.Acts.{any_acts}
use Rattle.toll_history.proofs.Found.{movement_of-recorded, movement_of-kept, key_found, key_is_new}
use Rattle.toll_history.proofs.Sums.{total-alike, total-filtered}

-- No movement of the list passes the test, as far as sums are concerned.
abbrev pub Never : (Movement → Bool) → List Movement → Type 0
Never p ms = (f : Movement → ℕ) → total f ms ≡ total (λ x. cond (p x) 0 (f x)) ms

-- This movement passes the test, and no other does.
abbrev pub Once : (Movement → Bool) → Movement → List Movement → Type 0
Once p m ms = (f : Movement → ℕ) → total f ms ≡ f m + total (λ x. cond (p x) 0 (f x)) ms

cond_swapped : (a b : Bool) (n : ℕ) → cond a 0 (cond b 0 n) ≡ cond b 0 (cond a 0 n)
cond_swapped true true n = refl
cond_swapped true false n = refl
cond_swapped false b n = refl

cons_once : (p : Movement → Bool) (m : Movement) (ms : List Movement) → p m ≡ true → Never p ms → Once p m (m ∷ ms)
cons_once p m ms hit never f = rw hit (omega (arith, never f))

cons_other : (p : Movement → Bool) (x m : Movement) (ms : List Movement) → p x ≡ false → Once p m ms → Once p m (x ∷ ms)
cons_other p x m ms miss once f = rw miss (omega (arith, once f))

cons_never : (p : Movement → Bool) (x : Movement) (ms : List Movement) → p x ≡ false → Never p ms → Never p (x ∷ ms)
cons_never p x ms miss never f = rw miss (omega (arith, never f))

filter_never : (p q : Movement → Bool) (ms : List Movement) → Never p ms → Never p (filter (λ x. not (q x)) ms)
filter_never p q ms never f =
    total-filtered q f ms
    ∙ never (λ x. cond (q x) 0 (f x))
    ∙ total-alike (λ x. cond (p x) 0 (cond (q x) 0 (f x))) (λ x. cond (q x) 0 (cond (p x) 0 (f x))) ms (λ x. cond_swapped (p x) (q x) (f x))
    ∙ sym (total-filtered q (λ x. cond (p x) 0 (f x)) ms)

filter_once : (p q : Movement → Bool) (m : Movement) (ms : List Movement) → q m ≡ false → Once p m ms → Once p m (filter (λ x. not (q x)) ms)
filter_once p q m ms miss once f =
    let rest = total-alike (λ x. cond (p x) 0 (cond (q x) 0 (f x))) (λ x. cond (q x) 0 (cond (p x) 0 (f x))) ms (λ x. cond_swapped (p x) (q x) (f x)) ∙ sym (total-filtered q (λ x. cond (p x) 0 (f x)) ms) in
    let here : cond (q m) 0 (f m) ≡ f m = rw miss in
    total-filtered q f ms ∙ once (λ x. cond (q x) 0 (f x)) ∙ (λ i. here i + rest i)

-- ---- lawful histories

pub record StandsOnce (H : History) (o key : Bytes) : Type 0 where
  -- No standing movement has a key that no movement has.
  pub never : movement_of (acts o H) key ≡ None → Never (has_move_key o key) (standing H)
  -- Exactly one has the key of a movement that is not voided.
  pub once : (row : MoveRow) → movement_of (acts o H) key ≡ Some row → voided_in (acts o H) key ≡ false → Once (has_move_key o key) (o, row) (standing H)

once_if_recorded : (H : History) (owner o key : Bytes) (row : MoveRow) → StandsOnce H o key → movement_of (acts owner H) row.key ≡ None → StandsOnce (by owner (Record row) ∷ H) o key
once_if_recorded H owner o key row stands new = record {
  never = λ is. elim (has_move_key o key (owner, row)) as (λ b. has_move_key o key (owner, row) ≡ b → cond b (Some row) (movement_of (acts o H) key) ≡ None → Never (has_move_key o key) ((owner, row) ∷ standing H)) [
    | true ↦ λ hit is. (cc)
    | false ↦ λ miss is. cons_never (has_move_key o key) (owner, row) (standing H) miss (stands.never is)
  ] refl (sym (movement_of-recorded H owner row o key) ∙ is);
  once = λ other is stays.
      let stays' : voided_in (acts o H) key ≡ false = (or_parts _ (voided_in (acts o H) key) (sym (any_acts (voids_key key) o (by owner (Record row)) H) ∙ stays)).1 in
      elim (has_move_key o key (owner, row)) as (λ b. has_move_key o key (owner, row) ≡ b → cond b (Some row) (movement_of (acts o H) key) ≡ Some other → Once (has_move_key o key) (o, other) ((owner, row) ∷ standing H)) [
        | true ↦ λ hit is.
            let parts = both (same_bytes o owner) (same_bytes key row.key) hit in
            let e = same_bytes-exact o owner parts.0 in
            let k = same_bytes-exact key row.key parts.1 in
            let r : row ≡ other = (cc) in
            let none : movement_of (acts o H) key ≡ None = (λ i. movement_of (acts (e i) H) (k i)) ∙ new in
            subst (λ m. Once (has_move_key o key) m ((owner, row) ∷ standing H)) (λ i. (sym e i, r i)) (cons_once (has_move_key o key) (owner, row) (standing H) hit (stands.never none))
        | false ↦ λ miss is. cons_other (has_move_key o key) (owner, row) (o, other) (standing H) miss (stands.once other is stays')
      ] refl (sym (movement_of-recorded H owner row o key) ∙ is);
}

once_if_voided : (H : History) (owner o key k : Bytes) → StandsOnce H o key → StandsOnce (by owner (Void k) ∷ H) o key
once_if_voided H owner o key k stands =
    let kept = movement_of-kept H owner (Void k) o key refl in
    record {
      never = λ is. filter_never (has_move_key o key) (has_move_key owner k) (standing H) (stands.never (sym kept ∙ is));
      once = λ row is stays.
          let parts = or_parts (same_bytes owner o && same_bytes k key) (voided_in (acts o H) key) (sym (any_acts (voids_key key) o (by owner (Void k)) H) ∙ stays) in
          let found = sym kept ∙ is in
          let same = same_bytes-exact key row.key (key_found (acts o H) key row found) in
          let miss : has_move_key owner k (o, row) ≡ false = ap (λ x. same_bytes owner o && same_bytes k x) (sym same) ∙ parts.0 in
          filter_once (has_move_key o key) (has_move_key owner k) (o, row) (standing H) miss (stands.once row found parts.1);
    }

-- An action that neither records nor voids leaves the standing movements, their keys, and which are voided.
once_if_unmoved : (H : History) (owner : Bytes) (a : Action) (o key : Bytes) → movement_recorded a ≡ None → voids_key key a ≡ false → standing (by owner a ∷ H) ≡ standing H → StandsOnce H o key → StandsOnce (by owner a ∷ H) o key
once_if_unmoved H owner a o key none keeps same stands =
    let kept = movement_of-kept H owner a o key none in
    record {
      never = λ is. subst (Never (has_move_key o key)) (sym same) (stands.never (sym kept ∙ is));
      once = λ row is stays.
          let stays' : voided_in (acts o H) key ≡ false = (or_parts _ (voided_in (acts o H) key) (sym (any_acts (voids_key key) o (by owner a) H) ∙ stays)).1 in
          subst (Once (has_move_key o key) (o, row)) (sym same) (stands.once row (sym kept ∙ is) stays');
    }

standing_once_step : (H : History) (owner : Bytes) (a : Action) (o key : Bytes) → StandsOnce H o key → verdict H (by owner a) ≡ Accepted → StandsOnce (by owner a ∷ H) o key
standing_once_step H owner (Record row) o key stands accepted = once_if_recorded H owner o key row stands (key_is_new H owner row accepted)
standing_once_step H owner (Void k) o key stands accepted = once_if_voided H owner o key k stands
standing_once_step H owner a o key stands accepted = once_if_unmoved H owner a o key refl refl refl stands

pub stands_once : (H : History) (o key : Bytes) → IsLawful H → StandsOnce H o key
unfolding acts
stands_once [] o key lawful = record { never = λ is f. refl; once = λ row is stays. (cc) }
stands_once (c ∷ H) o key lawful = standing_once_step H c.owner c.action o key (stands_once H o key lawful.0) lawful.2

-- the sum over the standing movements after a void
pub total_voided : (H : History) (o key : Bytes) (row : MoveRow) → IsLawful H → movement_of (acts o H) key ≡ Some row → voided_in (acts o H) key ≡ false → (f : Movement → ℕ) → total f (standing H) ≡ f (o, row) + total f (standing (by o (Void key) ∷ H))
total_voided H o key row lawful is stays f = (stands_once H o key lawful).once row is stays f ∙ ap (λ n. f (o, row) + n) (sym (total-filtered (has_move_key o key) f (standing H)))
