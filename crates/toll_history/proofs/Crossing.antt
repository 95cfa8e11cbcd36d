-- In a lawful history nothing is brought into another owner's lot, and nothing is taken from another owner's lot except HOUSE's.
use Rattle.std.proofs.Common.{◌≡◌, Bool, true, false, not, ◌&&◌, ◌||◌, cond, Some, None, List, [], ◌∷◌, ◌++◌, filter, refl, sym, ap, subst}
use Rattle.std.proofs.lemmas.Bool.{and_left}
use Rattle.toll_history.proofs.Common.{false≢true, AllByRecursion, Bytes, same_bytes, house_name, lot_id, same_lot, UnknownOwner, MoveRow, where_so, LotId, Receipts, Batch, Consumed, Produced, Move, Receive, Split, Ship, Scrap, Actual, same_bytes-exact, Action, Record, Void, Command, History, owner_known, Movement, moved_by, movements, standing_after, standing, has_move_key, brings_into, takes_from, made_by, OwnerFacts, facts_given, Accepted, PlantFacts, plant_facts_given, verdict_of_checks, checks, verdict, crosses, action_checks, movement_checks, key_checks, needs_owner, IsLawful}
use Rattle.toll_history.proofs.Accepted.{none_applies, rest_accepts}

-- whether the actual is of a lot that its owner may not use in this role
abbrev pub crosses_by : Bytes → Move → Bool
crosses_by p (Actual order number segment role material lot sublot) = crosses p role lot.owner
crosses_by p _ = false

-- whether the action's owner may not use the lot in it
abbrev pub is_crossing : Bytes → Action → Bool
is_crossing p (Record row) = crosses_by p row.what
is_crossing p _ = false

move_not_crossing : (plant : PlantFacts) (p : Bytes) (t house : OwnerFacts) (row : MoveRow) (what : Move) → row.what ≡ what → verdict_of_checks (action_checks plant p t house (Record row)) ≡ Accepted → crosses_by p what ≡ false
move_not_crossing plant p t house row (Actual order number segment Consumed material lot sublot) is h =
    let h' : verdict_of_checks (key_checks t row ++ movement_checks p t house (Actual order number segment Consumed material lot sublot) row.amount) ≡ Accepted = subst (λ w. verdict_of_checks (key_checks t row ++ movement_checks p t house w row.amount) ≡ Accepted) is h in
    none_applies (key_checks t row ++ movement_checks p t house (Actual order number segment Consumed material lot sublot) row.amount) h' 8
move_not_crossing plant p t house row (Actual order number segment Produced material lot sublot) is h =
    let h' : verdict_of_checks (key_checks t row ++ movement_checks p t house (Actual order number segment Produced material lot sublot) row.amount) ≡ Accepted = subst (λ w. verdict_of_checks (key_checks t row ++ movement_checks p t house w row.amount) ≡ Accepted) is h in
    none_applies (key_checks t row ++ movement_checks p t house (Actual order number segment Produced material lot sublot) row.amount) h' 8
move_not_crossing plant p t house row _ is h = refl

-- The checks of the action itself accept.
pub action_accepted : (H : History) (c : Command) → verdict H c ≡ Accepted → verdict_of_checks (action_checks (plant_facts_given H) c.owner (facts_given H c.owner) (facts_given H house_name) c.action) ≡ Accepted
unfolding checks
action_accepted H c h = rest_accepts (needs_owner c.action && not (owner_known H c.owner)) (Some UnknownOwner) (action_checks (plant_facts_given H) c.owner (facts_given H c.owner) (facts_given H house_name) c.action) h

action_not_crossing : (plant : PlantFacts) (p : Bytes) (t house : OwnerFacts) (a : Action) → verdict_of_checks (action_checks plant p t house a) ≡ Accepted → is_crossing p a ≡ false
action_not_crossing plant p t house (Record row) h = move_not_crossing plant p t house row row.what refl h
action_not_crossing plant p t house _ h = refl

-- An accepted action does not cross.
pub accepted_not_crossing : (H : History) (c : Command) → verdict H c ≡ Accepted → is_crossing c.owner c.action ≡ false
accepted_not_crossing H c h = action_not_crossing (plant_facts_given H) c.owner (facts_given H c.owner) (facts_given H house_name) c.action (action_accepted H c h)

-- ---- no movement of a lawful history crosses

abbrev pub NoneCrosses : List Movement → Type 0
NoneCrosses ms = AllByRecursion (λ m. crosses_by m.0 m.1.what ≡ false) ms

moved_not_crossing : (p : Bytes) (a : Action) (ms : List Movement) → is_crossing p a ≡ false → NoneCrosses ms → NoneCrosses (moved_by p a ++ ms)
moved_not_crossing p (Record row) ms h all = (h, all)
moved_not_crossing p _ ms h all = all

pub movements_not_crossing : (H : History) → IsLawful H → NoneCrosses (movements H)
movements_not_crossing [] lawful = tt
movements_not_crossing (c ∷ H) lawful = moved_not_crossing c.owner c.action (movements H) (accepted_not_crossing H c lawful.2) (movements_not_crossing H lawful.0)

-- A fact of each item holds of those that a filter keeps.
pub all_filtered : {X : Type 0} (P : X → Type 0) (q : X → Bool) (xs : List X) → AllByRecursion P xs → AllByRecursion P (filter q xs)
all_filtered P q [] all = tt
all_filtered P q (x ∷ xs) all =
    elim (q x) as (λ b. AllByRecursion P (cond b (x ∷ filter q xs) (filter q xs))) [
      | true ↦ (all.0, all_filtered P q xs all.1)
      | false ↦ all_filtered P q xs all.1
    ]

stands_not_crossing : (p : Bytes) (a : Action) (ms : List Movement) → is_crossing p a ≡ false → NoneCrosses ms → NoneCrosses (standing_after p a ms)
stands_not_crossing p (Record row) ms h all = (h, all)
stands_not_crossing p (Void key) ms h all = all_filtered (λ m. crosses_by m.0 m.1.what ≡ false) (λ m. not (has_move_key p key m)) ms all
stands_not_crossing p _ ms h all = all

pub standing_not_crossing : (H : History) → IsLawful H → NoneCrosses (standing H)
standing_not_crossing [] lawful = tt
standing_not_crossing (c ∷ H) lawful = stands_not_crossing c.owner c.action (standing H) (accepted_not_crossing H c lawful.2) (standing_not_crossing H lawful.0)

-- ---- the effect of another owner's movement on a lot

pub is_the_owner : (a b : Bytes) → not (same_bytes a b) ≡ false → a ≡ b
is_the_owner a b h = same_bytes-exact a b (not_false (same_bytes a b) h)
  where
    not_false : (x : Bool) → not x ≡ false → x ≡ true
    not_false true h = refl
    not_false false h = absurd (false≢true (sym h))

-- A lot of another owner is not the same lot.
pub not_same_lot : (id : LotId) (o l : Bytes) → same_bytes id.owner o ≡ false → same_lot id (lot_id o l) ≡ false
not_same_lot id o l other = and_left (same_bytes id.owner o) (same_bytes id.lot l) other

pub brings_not : (id : LotId) (sub p : Bytes) (what : Move) → crosses_by p what ≡ false → same_bytes id.owner p ≡ false → brings_into id sub p what ≡ false
brings_not id sub p (Receive material lot sublot) h other = and_left _ _ (not_same_lot id p lot other)
brings_not id sub p (Split lot sublot target) h other = and_left _ _ (not_same_lot id p lot other)
brings_not id sub p (Actual order number segment Produced material lot sublot) h other =
    and_left _ _ (and_left (same_bytes id.owner lot.owner) (same_bytes id.lot lot.lot) (subst (λ q. same_bytes id.owner q ≡ false) (sym (is_the_owner lot.owner p h)) other))
brings_not id sub p (Actual order number segment Consumed material lot sublot) h other = refl
brings_not id sub p (Ship lot sublot) h other = refl
brings_not id sub p (Scrap lot sublot) h other = refl

-- If a name is neither of two, and another name is one of them, the two names differ.
pub neither_name : (a b c x : Bytes) → not (same_bytes x b || same_bytes x c) ≡ false → same_bytes a b ≡ false → same_bytes a c ≡ false → same_bytes a x ≡ false
neither_name a b c x h not_b not_c =
    elim (same_bytes x b) as (λ r. same_bytes x b ≡ r → not (r || same_bytes x c) ≡ false → same_bytes a x ≡ false) [
      | true ↦ λ is h. subst (λ q. same_bytes a q ≡ false) (sym (same_bytes-exact x b is)) not_b
      | false ↦ λ is h. subst (λ q. same_bytes a q ≡ false) (sym (is_the_owner_by (same_bytes x c) x c refl h)) not_c
    ] refl h
  where
    is_the_owner_by : (r : Bool) (x c : Bytes) → r ≡ same_bytes x c → not r ≡ false → x ≡ c
    is_the_owner_by true x c is h = same_bytes-exact x c (sym is)
    is_the_owner_by false x c is h = absurd (false≢true (sym h))

pub takes_none_of : (id : LotId) (sub p : Bytes) (what : Move) → crosses_by p what ≡ false → same_bytes id.owner p ≡ false → same_bytes id.owner house_name ≡ false → takes_from id sub p what ≡ false
takes_none_of id sub p (Split lot sublot target) h other not_house = and_left _ _ (not_same_lot id p lot other)
takes_none_of id sub p (Ship lot sublot) h other not_house = and_left _ _ (not_same_lot id p lot other)
takes_none_of id sub p (Scrap lot sublot) h other not_house = and_left _ _ (not_same_lot id p lot other)
takes_none_of id sub p (Actual order number segment Consumed material lot sublot) h other not_house =
    and_left _ _ (and_left (same_bytes id.owner lot.owner) (same_bytes id.lot lot.lot) (neither_name id.owner p house_name lot.owner h other not_house))
takes_none_of id sub p (Actual order number segment Produced material lot sublot) h other not_house = refl
takes_none_of id sub p (Receive material lot sublot) h other not_house = refl

pub makes_not : (id : LotId) (p : Bytes) (what : Move) → crosses_by p what ≡ false → same_bytes id.owner p ≡ false → made_by id p what ≡ None
makes_not id p (Receive material lot sublot) h other = ap (λ b. where_so b (record { material = material; origin = Receipts })) (not_same_lot id p lot other)
makes_not id p (Actual order number segment Produced material lot sublot) h other =
    ap (λ b. where_so b (record { material = material; origin = Batch order number })) (and_left (same_bytes id.owner lot.owner) (same_bytes id.lot lot.lot) (subst (λ q. same_bytes id.owner q ≡ false) (sym (is_the_owner lot.owner p h)) other))
makes_not id p (Actual order number segment Consumed material lot sublot) h other = refl
makes_not id p (Split lot sublot target) h other = refl
makes_not id p (Ship lot sublot) h other = refl
makes_not id p (Scrap lot sublot) h other = refl

-- A produced lot belongs to the owner of the batch.
pub produced_by : (p o : Bytes) (lot : LotId) → not (same_bytes lot.owner p) ≡ false → same_bytes p o ≡ true → same_bytes lot.owner o ≡ true
produced_by p o lot h own = subst (λ q. same_bytes q o ≡ true) (sym (is_the_owner lot.owner p h)) own
