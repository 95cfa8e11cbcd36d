-- Which movements stand: those that were recorded, and whose keys aren't voided.
use Rattle.std.proofs.Common.{◌≡◌, Bool, true, false, not, ◌&&◌, ◌||◌, None, [], ◌∷◌, refl, sym, ap, subst, ◌∙◌, inl, inr, Contains}
use mathlib.Core.Bool.{false≢true, and-false}
use Rattle.toll_answers.proofs.Common.{or_parts, Bytes, same_bytes, is_some_where, Action, Record, Void, by, History, acts, Movement, has_move_key, movements, standing, movement_of, voided_in, voids_key, Accepted, IsLawful, is_actual, verdict, MoveRow, same_bytes-exact, same_bytes-refl, void_of_actual, acts-own, acts-other, Contains-none, Contains-here, Contains-later, Contains-cases, Contains-filter, Contains-from_filter, WasDone}
use Rattle.toll_history.proofs.Acts.{any_acts}
use Rattle.toll_history.proofs.Found.{key_is_new}

-- ---- what an owner did, after one command more

-- it is that command, or was done before
data IsNewOrBefore (H : History) (w : Bytes) (a : Action) (o : Bytes) (b : Action) : Type 0 where
  now : w ≡ o → a ≡ b → IsNewOrBefore H w a o b
  before : Contains (acts o H) b → IsNewOrBefore H w a o b

done_cases : (H : History) (w : Bytes) (a : Action) (o : Bytes) (b : Action) → Contains (acts o (by w a ∷ H)) b → IsNewOrBefore H w a o b
done_cases H w a o b there =
    elim (same_bytes w o) as (λ t. same_bytes w o ≡ t → IsNewOrBefore H w a o b) [
      | true ↦ λ own. elim (Contains-cases a (acts o H) b (subst (λ own_acts. Contains own_acts b) (acts-own o (by w a) H own) there)) [
        | inl is ↦ now (same_bytes-exact w o own) is
        | inr earlier ↦ before earlier
      ]
      | false ↦ λ other. before (subst (λ own_acts. Contains own_acts b) (acts-other o (by w a) H other) there)
    ] refl

done_now : (H : History) (o : Bytes) (a : Action) → Contains (acts o (by o a ∷ H)) a
done_now H o a = subst (λ own_acts. Contains own_acts a) (sym (acts-own o (by o a) H (same_bytes-refl o))) (Contains-here a (acts o H))

done_later : (H : History) (w : Bytes) (a : Action) (o : Bytes) (b : Action) → Contains (acts o H) b → Contains (acts o (by w a ∷ H)) b
done_later H w a o b there =
    elim (same_bytes w o) as (λ t. same_bytes w o ≡ t → Contains (acts o (by w a ∷ H)) b) [
      | true ↦ λ own. subst (λ own_acts. Contains own_acts b) (sym (acts-own o (by w a) H own)) (Contains-later a (acts o H) b there)
      | false ↦ λ other. subst (λ own_acts. Contains own_acts b) (sym (acts-other o (by w a) H other)) there
    ] refl

-- a movement that an owner recorded is among the movements
pub recorded_moved : (H : History) (o : Bytes) (row : MoveRow) → Contains (acts o H) (Record row) → Contains (movements H) (o, row)
unfolding acts
recorded_moved [] o row there = absurd (Contains-none (Record row) there)
recorded_moved (c ∷ H) o row there = step H c.owner c.action (done_cases H c.owner c.action o (Record row) there) (recorded_moved H o row)
  where
    step : (H : History) (w : Bytes) (a : Action) → IsNewOrBefore H w a o (Record row) → (Contains (acts o H) (Record row) → Contains (movements H) (o, row)) → Contains (movements (by w a ∷ H)) (o, row)
    step H w (Record new) (now own is) ih =
        let r : new ≡ row = (cc) in
        subst (Contains ((w, new) ∷ movements H)) (λ i. (own i, r i)) (Contains-here (w, new) (movements H))
    step H w (Record new) (before there) ih = Contains-later (w, new) (movements H) (o, row) (ih there)
    step H w a (now own is) ih = absurd (cc)
    step H w a (before there) ih = ih there

-- ---- voids

-- no key is voided before it is known
unknown_not_voided : (H : History) (o key : Bytes) → IsLawful H → movement_of (acts o H) key ≡ None → voided_in (acts o H) key ≡ false
unknown_not_voided H o key lawful unknown =
    elim (voided_in (acts o H) key) as (λ b. voided_in (acts o H) key ≡ b → b ≡ false) [
      | true ↦ λ voided. absurd (false≢true (ap (is_some_where (λ (row : MoveRow). is_actual row.what)) (sym unknown) ∙ void_of_actual o key H lawful voided))
      | false ↦ λ not_voided. refl
    ] refl

voided_more : (H : History) (w : Bytes) (a : Action) (o key : Bytes) → (same_bytes w o && voids_key key a) ≡ false → voided_in (acts o H) key ≡ false → voided_in (acts o (by w a ∷ H)) key ≡ false
voided_more H w a o key misses was = any_acts (voids_key key) o (by w a) H ∙ (λ i. misses i || was i)

-- ---- what stands was done, and not voided

stands_step : (H : History) (w : Bytes) (a : Action) (m : Movement) → IsLawful H → verdict H (by w a) ≡ Accepted → (Contains (standing H) m → WasDone (acts m.0 H) m.1) → Contains (standing (by w a ∷ H)) m → WasDone (acts m.0 (by w a ∷ H)) m.1
stands_step H w (Record row) m lawful accepted ih there = elim (Contains-cases (w, row) (standing H) m there) [
  | inl is ↦ subst (λ (m : Movement). WasDone (acts m.0 (by w (Record row) ∷ H)) m.1) is (record {
    recorded = done_now H w (Record row);
    not_voided = voided_more H w (Record row) w row.key (and-false (same_bytes w w)) (unknown_not_voided H w row.key lawful (key_is_new H w row accepted));
  })
  | inr earlier ↦ let was = ih earlier in record {
    recorded = done_later H w (Record row) m.0 (Record m.1) was.recorded;
    not_voided = voided_more H w (Record row) m.0 m.1.key (and-false (same_bytes w m.0)) was.not_voided;
  }
]
stands_step H w (Void key) m lawful accepted ih there =
    let left = Contains-from_filter (λ (m : Movement). not (has_move_key w key m)) (standing H) m there in
    let was = ih left.0 in
    record {
      recorded = done_later H w (Void key) m.0 (Record m.1) was.recorded;
      not_voided = voided_more H w (Void key) m.0 m.1.key (not_it (has_move_key w key m) left.1) was.not_voided;
    }
  where
    not_it : (b : Bool) → not b ≡ true → b ≡ false
    not_it true h = sym h
    not_it false h = refl
stands_step H w a m lawful accepted ih there =
    let was = ih there in
    record {
      recorded = done_later H w a m.0 (Record m.1) was.recorded;
      not_voided = voided_more H w a m.0 m.1.key (and-false (same_bytes w m.0)) was.not_voided;
    }

pub standing_done : (H : History) → IsLawful H → (m : Movement) → Contains (standing H) m → WasDone (acts m.0 H) m.1
standing_done [] lawful m there = absurd (Contains-none m there)
standing_done (c ∷ H) lawful m there = stands_step H c.owner c.action m lawful.0 lawful.2 (standing_done H lawful.0 m) there

-- ---- and what was done and not voided stands

done_step : (H : History) (w : Bytes) (a : Action) (o : Bytes) (row : MoveRow) → IsNewOrBefore H w a o (Record row) → (same_bytes w o && voids_key row.key a) ≡ false → (Contains (acts o H) (Record row) → Contains (standing H) (o, row)) → Contains (standing (by w a ∷ H)) (o, row)
done_step H w (Record new) o row (now own is) misses ih =
    let r : new ≡ row = (cc) in
    subst (Contains ((w, new) ∷ standing H)) (λ i. (own i, r i)) (Contains-here (w, new) (standing H))
done_step H w (Record new) o row (before there) misses ih = Contains-later (w, new) (standing H) (o, row) (ih there)
done_step H w (Void key) o row (now own is) misses ih = absurd (cc)
done_step H w (Void key) o row (before there) misses ih = Contains-filter (λ (m : Movement). not (has_move_key w key m)) (standing H) (o, row) (ih there) (ap not misses)
done_step H w a o row (now own is) misses ih = absurd (cc)
done_step H w a o row (before there) misses ih = ih there

pub done_standing : (H : History) (o : Bytes) (row : MoveRow) → WasDone (acts o H) row → Contains (standing H) (o, row)
unfolding acts
done_standing [] o row done = absurd (Contains-none (Record row) done.recorded)
done_standing (c ∷ H) o row done =
    let parts = or_parts (same_bytes c.owner o && voids_key row.key c.action) (voided_in (acts o H) row.key) (sym (any_acts (voids_key row.key) o c H) ∙ done.not_voided) in
    done_step H c.owner c.action o row (done_cases H c.owner c.action o (Record row) done.recorded) parts.0
    (λ there. done_standing H o row (record { recorded = there; not_voided = parts.1 }))
