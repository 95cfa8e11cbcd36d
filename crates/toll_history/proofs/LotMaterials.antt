-- A requirement names a material of its source, and a lot is of a material of its owner.
use Rattle.std.proofs.Common.{◌≡◌, ℕ, Bool, true, false, not, ◌||◌, cond, Option, Some, None, is_some, is_none, [], ◌∷◌, refl, sym, ap, ◌∙◌}
use Rattle.toll_history.proofs.Common.{false≢true, is_eq, ordering_then, nat_cmp, cond_some, Bytes, same_bytes, bytes_cmp, or_else, where_so, RequirementKey, role_cmp, lot_id, same_lot, LotId, Role, Consumed, Produced, RequirementRow, MoveRow, Move, Receive, Actual, both, same_bytes-exact, is_eq-then, Action, Require, Record, Command, by, History, acts, material_of, requirement_of, required, same_requirement, Made, made_by, lot_made, OwnerFacts, facts_given, Accepted, IsLawful, verdict, crosses, recipe_of_order, requirement_key}
use Rattle.toll_history.proofs.Options.{some_if_not_none, some_second, or_none}
use Rattle.toll_history.proofs.Passed.{accepted_passes, MoveFits, move_fits}
use Rattle.toll_history.proofs.Acts.{first_acts}
use Rattle.toll_history.proofs.Moving.{same_lot-exact, tables_for_are}
use Rattle.toll_history.proofs.Lots.{made_in, lot_made-cons}

-- ---- requirements

-- A material stays known.
pub material_stays : (H : History) (c : Command) (o m : Bytes) → is_some (material_of (acts o H) m) ≡ true → is_some (material_of (acts o (c ∷ H)) m) ≡ true
material_stays H c o m known = ap is_some (first_acts _ o c H) ∙ some_second _ _ known

-- Requirements with the same key have the same source and material.
same_source : (k l : RequirementKey) → same_requirement k l ≡ true → (k.3 ≡ l.3) × (k.4 ≡ l.4)
same_source k l h =
    let front = ordering_then (ordering_then (bytes_cmp k.0 l.0) (nat_cmp k.1 l.1)) (role_cmp k.2 l.2) in
    let parts = both (is_eq (ordering_then front (bytes_cmp k.3 l.3))) (same_bytes k.4 l.4) (sym (is_eq-then (ordering_then front (bytes_cmp k.3 l.3)) (bytes_cmp k.4 l.4)) ∙ h) in
    let sources = both (is_eq front) (same_bytes k.3 l.3) (sym (is_eq-then front (bytes_cmp k.3 l.3)) ∙ parts.0) in
    (same_bytes-exact k.3 l.3 sources.1, same_bytes-exact k.4 l.4 parts.1)

or_of : (a b : Bool) → not a ≡ false → not (a || b) ≡ false
or_of true b h = refl
or_of false b h = absurd (false≢true (sym h))

consumes : (o : Bytes) (role : Role) (source : Bytes) → crosses o role source ≡ false → crosses o Consumed source ≡ false
consumes o Consumed source h = h
consumes o Produced source h = or_of (same_bytes source o) _ h

-- The material of an accepted requirement is its source's.
required_material : (H : History) (o : Bytes) (row : RequirementRow) → verdict H (by o (Require row)) ≡ Accepted → is_some (material_of (acts row.source H) row.material) ≡ true
required_material H o row accepted =
    let pass = accepted_passes H o (Require row) accepted in
    some_if_not_none _ (ap (λ (t : OwnerFacts). is_none (t.material row.material)) (sym (tables_for_are H o row.source (consumes o row.role row.source (pass 3)))) ∙ (pass 4))

-- the requirement with this key that an action adds
abbrev added_at : RequirementKey → Action → Option RequirementRow
added_at k a = elim (required a) [ Some row ↦ where_so (same_requirement k (requirement_key row)) row | None ↦ None ]

source_step : (H : History) (w : Bytes) (a : Action) → verdict H (by w a) ≡ Accepted → (o : Bytes) (k : RequirementKey) → (is_some (requirement_of (acts o H) k) ≡ true → is_some (material_of (acts k.3 H) k.4) ≡ true) → is_some (or_else (cond (same_bytes w o) (added_at k a) None) (requirement_of (acts o H) k)) ≡ true → is_some (material_of (acts k.3 (by w a ∷ H)) k.4) ≡ true
source_step H w (Require row) accepted o k before known = material_stays H (by w (Require row)) k.3 k.4
    (elim (same_requirement k (requirement_key row)) as (λ b. same_requirement k (requirement_key row) ≡ b → is_some (or_else (cond (same_bytes w o) (cond b (Some row) None) None) (requirement_of (acts o H) k)) ≡ true → is_some (material_of (acts k.3 H) k.4) ≡ true) [
      | true ↦ λ same known. let e = same_source k (requirement_key row) same in
          ap (λ (x : Bytes × Bytes). is_some (material_of (acts x.0 H) x.1)) (λ i. (e.0 i, e.1 i)) ∙ required_material H w row accepted
      | false ↦ λ other known. before (ap is_some (sym (or_none (same_bytes w o) (requirement_of (acts o H) k))) ∙ known)
    ] refl known)
source_step H w a accepted o k before known = material_stays H (by w a) k.3 k.4 (before (ap is_some (sym (or_none (same_bytes w o) (requirement_of (acts o H) k))) ∙ known))

pub source_material : (H : History) (o : Bytes) (k : RequirementKey) → IsLawful H → is_some (requirement_of (acts o H) k) ≡ true → is_some (material_of (acts k.3 H) k.4) ≡ true
unfolding acts
source_material [] o k lawful known = absurd (false≢true known)
source_material (c ∷ H) o k lawful known = source_step H c.owner c.action lawful.2 o k (λ there. source_material H o k lawful.0 there) (ap is_some (sym (first_acts _ o c H)) ∙ known)

-- ---- lots

-- a law of lots that are made, by induction: of a lot that a movement makes, and of a lot that stays
module _ (Q : History → LotId → Made → Type 0)
    (new : (H : History) (o : Bytes) (row : MoveRow) → IsLawful H → verdict H (by o (Record row)) ≡ Accepted → (id : LotId) (made : Made) → made_by id o row.what ≡ Some made → Q (by o (Record row) ∷ H) id made)
    (still : (H : History) (o : Bytes) (a : Action) → verdict H (by o a) ≡ Accepted → (id : LotId) (made : Made) → lot_made H id ≡ Some made → Q H id made → Q (by o a ∷ H) id made) where
  new_of : (H : History) (o : Bytes) (a : Action) → IsLawful H → verdict H (by o a) ≡ Accepted → (id : LotId) (made : Made) → made_in id o a ≡ Some made → Q (by o a ∷ H) id made
  new_of H o (Record row) lawful accepted id made is = new H o row lawful accepted id made is
  new_of H o _ lawful accepted id made is = (cc)

  material_lot_step : (H : History) (o : Bytes) (a : Action) → IsLawful H → verdict H (by o a) ≡ Accepted → (id : LotId) (made : Made) → (lot_made H id ≡ Some made → Q H id made) → or_else (lot_made H id) (made_in id o a) ≡ Some made → Q (by o a ∷ H) id made
  material_lot_step H o a lawful accepted id made before is =
      elim (lot_made H id) as (λ x. lot_made H id ≡ x → or_else x (made_in id o a) ≡ Some made → Q (by o a ∷ H) id made) [
        | Some old ↦ λ there is. still H o a accepted id made (there ∙ is) (before (there ∙ is))
        | None ↦ λ none is. new_of H o a lawful accepted id made is
      ] refl is

  pub each_lot : (H : History) → IsLawful H → (id : LotId) (made : Made) → lot_made H id ≡ Some made → Q H id made
  unfolding lot_made
  each_lot [] lawful id made is = (cc)
  each_lot (c ∷ H) lawful id made is = material_lot_step H c.owner c.action lawful.0 lawful.2 id made (each_lot H lawful.0 id made) (sym (lot_made-cons H c.owner c.action id) ∙ is)

-- A lot is made of a material that is there.
made_material : (H : History) (o : Bytes) (what : Move) (amount : ℕ) → IsLawful H → MoveFits H o what amount → (id : LotId) (made : Made) → made_by id o what ≡ Some made → is_some (material_of (acts id.owner H) made.material) ≡ true
made_material H o (Receive material lot sublot) amount lawful fits id made is =
    let parts = cond_some (same_lot id (lot_id o lot)) _ made is in
    let e = same_lot-exact id (lot_id o lot) parts.0 in
    ap (λ (x : LotId × Made). is_some (material_of (acts x.0.owner H) x.1.material)) (λ i. (e i, sym parts.1 i)) ∙ some_if_not_none _ (fits 0)
made_material H o (Actual order number segment Produced material lot sublot) amount lawful fits id made is =
    let parts = cond_some (same_lot id lot) _ made is in
    let e = same_lot-exact id lot parts.0 in
    ap (λ (x : LotId × Made). is_some (material_of (acts x.0.owner H) x.1.material)) (λ i. (e i, sym parts.1 i))
    ∙ source_material H o (recipe_of_order (facts_given H o) order, segment, Produced, lot.owner, material) lawful (some_if_not_none _ (fits 6))
made_material H o _ amount lawful fits id made is = (cc)

pub lot_material : (H : History) → IsLawful H → (id : LotId) (made : Made) → lot_made H id ≡ Some made → is_some (material_of (acts id.owner H) made.material) ≡ true
lot_material = each_lot (λ H id made. is_some (material_of (acts id.owner H) made.material) ≡ true)
    (λ H o row lawful accepted id made is. material_stays H (by o (Record row)) id.owner made.material (made_material H o row.what row.amount lawful (move_fits H o row accepted) id made is))
    (λ H o a accepted id made there known. material_stays H (by o a) id.owner made.material known)
