-- What an accepted movement brings, and what it takes.
use Rattle.std.proofs.Common.{◌≡◌, ℕ, ◌+◌, ◌≤◌, Bool, true, false, not, ◌&&◌, ◌||◌, cond, nat_lt, Option, Some, None, is_none, [], ◌∷◌, refl, sym, ap, subst, ◌∙◌, arith}
use Rattle.std.proofs.lemmas.Bool.{ltb-false}
use Rattle.toll_history.proofs.Common.{sublot_row_of, false≢true, option_map_or, not-false, or_left, Bytes, same_bytes, house_name, where_so, is_some_where, lot_id, same_lot, LotId, Role, Consumed, Produced, MoveRow, SublotRow, Move, Receive, Split, Ship, Scrap, Actual, both, same_bytes-exact, Action, Record, Void, by, History, acts, has_move_key, movement_of, standing, brings_into, takes_from, brought, stock, sublot_known, lot_made, voided_in, OwnerFacts, facts_given, lot_row, sublot_row, Accepted, verdict, amount_in, crosses, tables_for, is_actual, takes_too_much}
use Rattle.toll_history.proofs.Options.{is_none_map, true_where}
use Rattle.toll_history.proofs.Passed.{MoveFits, accepted_passes}
use Rattle.toll_history.proofs.Sums.{total-filter_le}

pub same_lot-exact : (a b : LotId) → same_lot a b ≡ true → a ≡ b
same_lot-exact a b h = let parts = both (same_bytes a.owner b.owner) (same_bytes a.lot b.lot) h in
    λ i. record { owner = same_bytes-exact a.owner b.owner parts.0 i; lot = same_bytes-exact a.lot b.lot parts.1 i }

-- ---- owners

-- The checks of an actual let it cross to no other owner.
pub crosses_not : (H : History) (o order : Bytes) (number segment : ℕ) (role : Role) (material : Bytes) (lot : LotId) (sublot : Bytes) (amount : ℕ) → MoveFits H o (Actual order number segment role material lot sublot) amount → crosses o role lot.owner ≡ false
crosses_not H o order number segment Consumed material lot sublot amount fits = fits 5
crosses_not H o order number segment Produced material lot sublot amount fits = fits 5

-- A movement that fits brings material into a lot of its owner.
pub brings_own : (H : History) (o : Bytes) (what : Move) (amount : ℕ) → MoveFits H o what amount → (id : LotId) (sub : Bytes) → brings_into id sub o what ≡ true → id.owner ≡ o
brings_own H o (Receive material lot sublot) amount fits id sub brings = ap (λ (i : LotId). i.owner) (same_lot-exact id (lot_id o lot) (both _ (same_bytes sub sublot) brings).0)
brings_own H o (Split lot sublot target) amount fits id sub brings = ap (λ (i : LotId). i.owner) (same_lot-exact id (lot_id o lot) (both _ (same_bytes sub target) brings).0)
brings_own H o (Ship lot sublot) amount fits id sub brings = absurd (false≢true brings)
brings_own H o (Scrap lot sublot) amount fits id sub brings = absurd (false≢true brings)
brings_own H o (Actual order number segment Consumed material lot sublot) amount fits id sub brings = absurd (false≢true brings)
brings_own H o (Actual order number segment Produced material lot sublot) amount fits id sub brings =
    ap (λ (i : LotId). i.owner) (same_lot-exact id lot (both _ (same_bytes sub sublot) brings).0)
    ∙ same_bytes-exact lot.owner o (not-false _ (crosses_not H o order number segment Produced material lot sublot amount fits))

-- The tables of the owner of a consumed lot are those that the history gives.
pub tables_for_are : (H : History) (o source : Bytes) → crosses o Consumed source ≡ false → tables_for o (facts_given H o) (facts_given H house_name) source ≡ facts_given H source
tables_for_are H o source crossed =
    elim (same_bytes source o) as (λ b. same_bytes source o ≡ b → not (b || same_bytes source house_name) ≡ false → cond b (facts_given H o) (facts_given H house_name) ≡ facts_given H source) [
      | true ↦ λ same h. ap (facts_given H) (sym (same_bytes-exact source o same))
      | false ↦ λ other h. ap (facts_given H) (sym (same_bytes-exact source house_name (not-false _ h)))
    ] refl crossed

-- ---- amounts

-- A void brings nothing into a sublot.
pub brought-voided : (H : History) (o key : Bytes) (id : LotId) (sub : Bytes) → brought (by o (Void key) ∷ H) id sub ≤ brought H id sub
brought-voided H o key id sub = total-filter_le _ (λ m. not (has_move_key o key m)) (standing H)

nothing_came : (b known : Bool) (amount came : ℕ) → (b || known) ≡ false → (known ≡ false → came ≡ 0) → cond b amount 0 + came ≡ 0
nothing_came true known amount came h none = absurd (false≢true (sym h))
nothing_came false known amount came h none = let e = none h in omega arith

unbrought_step : (H : History) (o : Bytes) (a : Action) (id : LotId) (sub : Bytes) → (sublot_known H id sub ≡ false → brought H id sub ≡ 0) → sublot_known (by o a ∷ H) id sub ≡ false → brought (by o a ∷ H) id sub ≡ 0
unfolding sublot_known
unbrought_step H o (Record row) id sub none unknown = nothing_came (brings_into id sub o row.what) (sublot_known H id sub) row.amount (brought H id sub) unknown none
unbrought_step H o (Void key) id sub none unknown = let e = none unknown in let le = brought-voided H o key id sub in omega arith
unbrought_step H o a id sub none unknown = none unknown

-- Nothing was brought into an unknown sublot.
pub unbrought : (H : History) (id : LotId) (sub : Bytes) → sublot_known H id sub ≡ false → brought H id sub ≡ 0
unbrought [] id sub unknown = refl
unbrought (c ∷ H) id sub unknown = unbrought_step H c.owner c.action id sub (unbrought H id sub) unknown

held_by : (known : Bool) (k sub : Bytes) (amount : ℕ) → (known ≡ false → amount ≡ 0) → option_map_or (λ (row : SublotRow). row.amount) (where_so known (sublot_row_of k sub amount)) 0 ≡ amount
held_by true k sub amount none = refl
held_by false k sub amount none = sym (none refl)

no_stock : (H : History) (id : LotId) (sub : Bytes) → sublot_known H id sub ≡ false → stock H id sub ≡ 0
unfolding stock
no_stock H id sub unknown = let none = unbrought H id sub unknown in omega arith

-- The amount that the tables have of a sublot is its stock.
pub held_is : (H : History) (o lot sub : Bytes) → amount_in (facts_given H o) lot sub ≡ stock H (lot_id o lot) sub
held_is H o lot sub = held_by (sublot_known H (lot_id o lot) sub) lot sub (stock H (lot_id o lot) sub) (no_stock H (lot_id o lot) sub)

-- The tables have a lot if and only if the history made it.
pub lot_row_none : (H : History) (o l : Bytes) → is_none (lot_row H o l) ≡ is_none (lot_made H (lot_id o l))
lot_row_none H o l = is_none_map _ (lot_made H (lot_id o l))

-- The amount in the sublot is enough for what is taken from it.
enough_at : (H : History) (o lot sublot : Bytes) (amount : ℕ) → nat_lt (amount_in (facts_given H o) lot sublot) amount ≡ false → (id : LotId) (sub : Bytes) → (same_lot id (lot_id o lot) && same_bytes sub sublot) ≡ true → amount ≤ stock H id sub
enough_at H o lot sublot amount enough id sub same =
    let parts = both (same_lot id (lot_id o lot)) (same_bytes sub sublot) same in
    let e = same_lot-exact id (lot_id o lot) parts.0 in
    let s = same_bytes-exact sub sublot parts.1 in
    let here : amount ≤ stock H (lot_id o lot) sublot = ltb-false _ amount (ap (λ n. nat_lt n amount) (sym (held_is H o lot sublot)) ∙ enough) in
    subst (λ (x : LotId × Bytes). amount ≤ stock H x.0 x.1) (λ i. (sym e i, sym s i)) here

-- A movement that fits takes no more than is there.
pub takes_enough : (H : History) (o : Bytes) (what : Move) (amount : ℕ) → MoveFits H o what amount → (id : LotId) (sub : Bytes) → takes_from id sub o what ≡ true → amount ≤ stock H id sub
takes_enough H o (Receive material lot sublot) amount fits id sub takes = absurd (false≢true takes)
takes_enough H o (Split lot sublot target) amount fits id sub takes = enough_at H o lot sublot amount (fits 3) id sub takes
takes_enough H o (Ship lot sublot) amount fits id sub takes = enough_at H o lot sublot amount (fits 3) id sub takes
takes_enough H o (Scrap lot sublot) amount fits id sub takes = enough_at H o lot sublot amount (fits 2) id sub takes
takes_enough H o (Actual order number segment Consumed material lot sublot) amount fits id sub takes =
    let there = tables_for_are H o lot.owner (crosses_not H o order number segment Consumed material lot sublot amount fits) in
    enough_at H lot.owner lot.lot sublot amount (ap (λ t. nat_lt (amount_in t lot.lot sublot) amount) (sym there) ∙ (fits 11)) id sub takes
takes_enough H o (Actual order number segment Produced material lot sublot) amount fits id sub takes = absurd (false≢true takes)

-- A lot of the owner belongs to the owner or to HOUSE.
own_lot : (o lot : Bytes) (id : LotId) → same_lot id (lot_id o lot) ≡ true → (same_bytes id.owner o || same_bytes id.owner house_name) ≡ true
own_lot o lot id same = or_left _ _ (both (same_bytes id.owner o) (same_bytes id.lot lot) same).0

-- The sublot that the tables have is known.
move_known_at : (H : History) (o lot sublot : Bytes) → is_none (sublot_row H o (lot, sublot)) ≡ false → (id : LotId) (sub : Bytes) → (same_lot id (lot_id o lot) && same_bytes sub sublot) ≡ true → sublot_known H id sub ≡ true
move_known_at H o lot sublot there id sub same =
    let parts = both (same_lot id (lot_id o lot)) (same_bytes sub sublot) same in
    let here : sublot_known H (lot_id o lot) sublot ≡ true = true_where (sublot_known H (lot_id o lot) sublot) _ there in
    ap (λ (x : LotId × Bytes). sublot_known H x.0 x.1) (λ i. (same_lot-exact id (lot_id o lot) parts.0 i, same_bytes-exact sub sublot parts.1 i)) ∙ here

-- A movement that fits takes from a sublot that is known.
pub takes_known : (H : History) (o : Bytes) (what : Move) (amount : ℕ) → MoveFits H o what amount → (id : LotId) (sub : Bytes) → takes_from id sub o what ≡ true → sublot_known H id sub ≡ true
takes_known H o (Receive material lot sublot) amount fits id sub takes = absurd (false≢true takes)
takes_known H o (Split lot sublot target) amount fits id sub takes = move_known_at H o lot sublot (fits 2) id sub takes
takes_known H o (Ship lot sublot) amount fits id sub takes = move_known_at H o lot sublot (fits 1) id sub takes
takes_known H o (Scrap lot sublot) amount fits id sub takes = move_known_at H o lot sublot (fits 1) id sub takes
takes_known H o (Actual order number segment Consumed material lot sublot) amount fits id sub takes =
    let there = tables_for_are H o lot.owner (crosses_not H o order number segment Consumed material lot sublot amount fits) in
    move_known_at H lot.owner lot.lot sublot (ap (λ (t : OwnerFacts). is_none (t.sublot (lot.lot, sublot))) (sym there) ∙ (fits 10)) id sub takes
takes_known H o (Actual order number segment Produced material lot sublot) amount fits id sub takes = absurd (false≢true takes)

-- A sublot that a movement takes from belongs to its owner or to HOUSE.
pub takes_own : (H : History) (o : Bytes) (what : Move) (amount : ℕ) → MoveFits H o what amount → (id : LotId) (sub : Bytes) → takes_from id sub o what ≡ true → (same_bytes id.owner o || same_bytes id.owner house_name) ≡ true
takes_own H o (Receive material lot sublot) amount fits id sub takes = absurd (false≢true takes)
takes_own H o (Split lot sublot target) amount fits id sub takes = own_lot o lot id (both (same_lot id (lot_id o lot)) _ takes).0
takes_own H o (Ship lot sublot) amount fits id sub takes = own_lot o lot id (both (same_lot id (lot_id o lot)) _ takes).0
takes_own H o (Scrap lot sublot) amount fits id sub takes = own_lot o lot id (both (same_lot id (lot_id o lot)) _ takes).0
takes_own H o (Actual order number segment Consumed material lot sublot) amount fits id sub takes =
    ap (λ (x : LotId). same_bytes x.owner o || same_bytes x.owner house_name) (same_lot-exact id lot (both (same_lot id lot) _ takes).0)
    ∙ not-false _ (crosses_not H o order number segment Consumed material lot sublot amount fits)
takes_own H o (Actual order number segment Produced material lot sublot) amount fits id sub takes = absurd (false≢true takes)

-- ---- voids

-- the actual that an accepted void takes back
pub record Voidable (H : History) (o key : Bytes) : Type 0 where
  pub row : MoveRow
  pub found : movement_of (acts o H) key ≡ Some row
  pub actual : is_actual row.what ≡ true
  pub stays : voided_in (acts o H) key ≡ false
  pub left : takes_too_much (facts_given H o) row.amount row.what ≡ false

voidable_of : (H : History) (o key : Bytes) (found : Option MoveRow) → movement_of (acts o H) key ≡ found → not (is_some_where (λ row. is_actual row.what) found) ≡ false → voided_in (acts o H) key ≡ false → is_some_where (λ row. takes_too_much (facts_given H o) row.amount row.what) found ≡ false → Voidable H o key
voidable_of H o key None is actual stays left = absurd (false≢true (sym actual))
voidable_of H o key (Some row) is actual stays left = record { row = row; found = is; actual = not-false _ actual; stays = stays; left = left }

pub void_passes : (H : History) (o key : Bytes) → verdict H (by o (Void key)) ≡ Accepted → Voidable H o key
void_passes H o key accepted = let pass = accepted_passes H o (Void key) accepted in voidable_of H o key (movement_of (acts o H) key) refl (pass 0) (pass 1) (pass 3)

-- What the void of an actual takes back from a sublot is there, and the actual took nothing from that sublot.
pub void_leaves : (H : History) (o : Bytes) (what : Move) (amount : ℕ) → is_actual what ≡ true → takes_too_much (facts_given H o) amount what ≡ false → ((id : LotId) (sub : Bytes) → brings_into id sub o what ≡ true → id.owner ≡ o) →
    (id : LotId) (sub : Bytes) → brings_into id sub o what ≡ true → (takes_from id sub o what ≡ false) × (amount ≤ stock H id sub)
void_leaves H o (Actual order number segment Consumed material lot sublot) amount actual left own id sub brings = absurd (false≢true brings)
void_leaves H o (Actual order number segment Produced material lot sublot) amount actual left own id sub brings =
    let parts = both (same_lot id lot) (same_bytes sub sublot) brings in
    let mine : lot ≡ lot_id o lot.lot = let e = sym (same_lot-exact id lot parts.0) in λ i. record { owner = (ap (λ (x : LotId). x.owner) e ∙ own id sub brings) i; lot = lot.lot } in
    (refl, enough_at H o lot.lot sublot amount left id sub (ap (λ x. same_lot id x && same_bytes sub sublot) (sym mine) ∙ brings))
void_leaves H o _ amount actual left own id sub brings = absurd (false≢true actual)
