-- What an accepted movement needs of its lot, and the rows that it leaves.
use Rattle.std.proofs.Common.{◌≡◌, ℕ, ◌+◌, ◌-◌, Bool, true, false, not, ◌||◌, Option, Some, None, is_some, is_none, List, [], ◌∷◌, refl, sym, ap, subst, ◌∙◌}
use Rattle.toll_history.proofs.Common.{lot_row_of, sublot_row_of, false≢true, list_any, AllByRecursion, option_map, cond_some, Bytes, same_bytes, where_so, is_some_where, lot_id, same_lot, LotId, Disposition, Quarantined, Released, Rejected, Receipts, Batch, Consumed, Produced, MoveRow, Move, Receive, Ship, Actual, both, and_is, same_bytes-exact, same_bytes-refl, Action, Record, Void, by, History, acts, Movement, movement_of, movements, brings_into, stock, sublot_known, voided_in, Made, made_by, lot_made, lot_brought, material_used, disposition_of, OwnerFacts, lot_row, sublot_row, lot_row_made, Accepted, IsLawful, verdict, is_quarantined, is_released, Agrees, IsCleared, gives_from, coming, going}
use Rattle.toll_history.proofs.Passed.{MoveFits, move_fits}
use Rattle.toll_history.proofs.Own.{acts-own}
use Rattle.toll_history.proofs.Moving.{same_lot-exact, crosses_not, tables_for_are, lot_row_none}
use Rattle.toll_history.proofs.Untouched.{lot_undisposed, still_quarantined}
use Rattle.toll_history.proofs.Lots.{made_stays}
use Rattle.toll_history.proofs.OneOrigin.{at_made, agrees, new_agrees, one_origin}
use Rattle.toll_history.proofs.OpenTests.{released_tested, brings_lot}
use Rattle.toll_history.proofs.StockChanges.{stock-recorded, stock-voided}

-- ---- material comes into quarantined lots

quarantined_exact : (d : Disposition) → is_quarantined d ≡ true → d ≡ Quarantined
quarantined_exact Quarantined h = refl
quarantined_exact Released h = absurd (false≢true h)
quarantined_exact Rejected h = absurd (false≢true h)

released_exact : (d : Disposition) → is_released d ≡ true → d ≡ Released
released_exact Quarantined h = absurd (false≢true h)
released_exact Released h = refl
released_exact Rejected h = absurd (false≢true h)

-- A known lot that a movement makes is quarantined.
still_takes : (H : History) (o : Bytes) (what : Move) (amount : ℕ) → MoveFits H o what amount → (l : Bytes) (old made : Made) → lot_made H (lot_id o l) ≡ Some old → made_by (lot_id o l) o what ≡ Some made → disposition_of (acts o H) old.material l ≡ Quarantined
still_takes H o (Receive material lot sublot) amount fits l old made there is =
    let e = same_bytes-exact l lot (both (same_bytes o o) (same_bytes l lot) (cond_some (same_lot (lot_id o l) (lot_id o lot)) _ made is).0).1 in
    ap (disposition_of (acts o H) old.material) e
    ∙ quarantined_exact _ (at_made H o lot old (ap (λ x. lot_made H (lot_id o x)) (sym e) ∙ there) (λ row. is_quarantined row.disposition) (fits 3))
still_takes H o (Actual order number segment Produced material lot sublot) amount fits l old made there is =
    let e = same_bytes-exact l lot.lot (both (same_bytes o lot.owner) (same_bytes l lot.lot) (cond_some (same_lot (lot_id o l) lot) _ made is).0).1 in
    ap (disposition_of (acts o H) old.material) e
    ∙ quarantined_exact _ (at_made H o lot.lot old (ap (λ x. lot_made H (lot_id o x)) (sym e) ∙ there) (λ row. is_quarantined row.disposition) (fits 9))
still_takes H o _ amount fits l old made there is = (cc)

takes_in : (H : History) (o : Bytes) (row : MoveRow) → IsLawful H → verdict H (by o (Record row)) ≡ Accepted → (l : Bytes) (made : Made) → made_by (lot_id o l) o row.what ≡ Some made → disposition_of (acts o H) made.material l ≡ Quarantined
takes_in H o row lawful accepted l made is =
    elim (lot_made H (lot_id o l)) as (λ x. lot_made H (lot_id o l) ≡ x → disposition_of (acts o H) made.material l ≡ Quarantined) [
      | None ↦ λ none. still_quarantined (acts o H) made.material l (lot_undisposed H o l lawful none)
      | Some old ↦ λ there.
          let fits = move_fits H o row accepted in
          ap (λ (x : Made). disposition_of (acts o H) x.material l) (sym (agrees H o row.what row.amount fits (lot_id o l) old made there is))
          ∙ still_takes H o row.what row.amount fits l old made there is
    ] refl

-- After a movement that makes a lot, new or known, the lot's row has the movement's material and origin and is quarantined.
pub came_in : (H : History) (o : Bytes) (row : MoveRow) (l : Bytes) (made : Made) → IsLawful H → verdict H (by o (Record row)) ≡ Accepted → made_by (lot_id o l) o row.what ≡ Some made →
    lot_row (by o (Record row) ∷ H) o l ≡ Some (lot_row_of l made.material made.origin Quarantined)
came_in H o row l made lawful accepted is =
    ap (option_map (lot_row_made (acts o (by o (Record row) ∷ H)) l)) (new_agrees H o row accepted (lot_id o l) made is)
    ∙ ap (λ (d : Disposition). Some (lot_row_of l made.material made.origin d))
    (ap (λ own. disposition_of own made.material l) (acts-own o (by o (Record row)) H (same_bytes-refl o)) ∙ takes_in H o row lawful accepted l made is)

-- ---- material goes out of released lots

cleared_of : (H : History) (id : LotId) (made : Option Made) → IsLawful H → lot_made H id ≡ made → is_none (lot_row H id.owner id.lot) ≡ false → is_some_where (λ row. not (is_released row.disposition)) (lot_row H id.owner id.lot) ≡ false → IsCleared H id
cleared_of H id None lawful is there released = absurd (false≢true (sym there ∙ lot_row_none H id.owner id.lot ∙ ap is_none is))
cleared_of H id (Some made) lawful is there released =
    let free = released_exact _ (at_made H id.owner id.lot made is (λ row. is_released row.disposition) released) in
    record { made = made; known = is; released = free; tested = released_tested H id.owner id.lot made lawful is free }

pub gives_cleared : (H : History) (o : Bytes) (what : Move) (amount : ℕ) → IsLawful H → MoveFits H o what amount → (id : LotId) → gives_from id o what ≡ true → IsCleared H id
gives_cleared H o (Ship lot sublot) amount lawful fits id gives =
    subst (IsCleared H) (sym (same_lot-exact id (lot_id o lot) gives)) (cleared_of H (lot_id o lot) (lot_made H (lot_id o lot)) lawful refl (fits 0) (fits 2))
gives_cleared H o (Actual order number segment Consumed material lot sublot) amount lawful fits id gives =
    let there = tables_for_are H o lot.owner (crosses_not H o order number segment Consumed material lot sublot amount fits) in
    subst (IsCleared H) (sym (same_lot-exact id lot gives))
    (cleared_of H lot (lot_made H lot) lawful refl
    (ap (λ (t : OwnerFacts). is_none (t.lot lot.lot)) (sym there) ∙ (fits 7))
    (ap (λ (t : OwnerFacts). is_some_where (λ row. not (is_released row.disposition)) (t.lot lot.lot)) (sym there) ∙ (fits 9)))
gives_cleared H o _ amount lawful fits id gives = absurd (false≢true gives)

-- ---- the rows of sublots, and the materials in use

pub sublot_row-recorded : (H : History) (w o : Bytes) (row : MoveRow) (k : Bytes × Bytes) → IsLawful H →
    sublot_row (by w (Record row) ∷ H) o k ≡ where_so (brings_into (lot_id o k.0) k.1 w row.what || sublot_known H (lot_id o k.0) k.1) (sublot_row_of k.0 k.1 (stock H (lot_id o k.0) k.1 + coming (lot_id o k.0) k.1 w row - going (lot_id o k.0) k.1 w row))
unfolding sublot_known
sublot_row-recorded H w o row k lawful i = where_so (brings_into (lot_id o k.0) k.1 w row.what || sublot_known H (lot_id o k.0) k.1) (sublot_row_of k.0 k.1 (stock-recorded H w row (lot_id o k.0) k.1 lawful i))

pub sublot_row-voided : (H : History) (w o key : Bytes) (row : MoveRow) (k : Bytes × Bytes) → IsLawful H → movement_of (acts w H) key ≡ Some row → voided_in (acts w H) key ≡ false →
    sublot_row (by w (Void key) ∷ H) o k ≡ where_so (sublot_known H (lot_id o k.0) k.1) (sublot_row_of k.0 k.1 (stock H (lot_id o k.0) k.1 + going (lot_id o k.0) k.1 w row - coming (lot_id o k.0) k.1 w row))
unfolding sublot_known
sublot_row-voided H w o key row k lawful found stays i = where_so (sublot_known H (lot_id o k.0) k.1) (sublot_row_of k.0 k.1 (stock-voided H w key row (lot_id o k.0) k.1 lawful found stays i))

-- whether the lot has this material
abbrev is_of_material : Bytes → Option Made → Bool
is_of_material material made = is_some_where (λ (x : Made). same_bytes x.material material) made

-- A movement that names a lot of the owner makes it.
makes_named : (H : History) (o w : Bytes) (what : Move) → ((id : LotId) (made : Made) → made_by id w what ≡ Some made → lot_made H id ≡ Some made) → (key : Bytes) (amount day : ℕ) (l : Bytes) → lot_brought o (w, record { key = key; what = what; amount = amount; day = day }) ≡ Some l → is_some (lot_made H (lot_id o l)) ≡ true
makes_named H o w (Receive material lot sublot) agreed key amount day l names =
    let parts = cond_some (same_bytes o w) lot l names in
    ap is_some (agreed (lot_id o l) _ (ap (λ b. where_so b (let x : Made = record { material = material; origin = Receipts } in x)) (and_is (same_bytes o w) (same_bytes l lot) parts.0 (ap (same_bytes l) parts.1 ∙ same_bytes-refl l))))
makes_named H o w (Actual order number segment Produced material lot sublot) agreed key amount day l names =
    let parts = cond_some (same_bytes o lot.owner) lot.lot l names in
    ap is_some (agreed (lot_id o l) _ (ap (λ b. where_so b (let x : Made = record { material = material; origin = Batch order number } in x)) (and_is (same_bytes o lot.owner) (same_bytes l lot.lot) parts.0 (ap (same_bytes l) parts.1 ∙ same_bytes-refl l))))
makes_named H o w _ agreed key amount day l names = (cc)

stays_made : (H : History) (w : Bytes) (a : Action) (id : LotId) → is_some (lot_made H id) ≡ true → lot_made (by w a ∷ H) id ≡ lot_made H id
stays_made H w a id known = elim (lot_made H id) as (λ x. lot_made H id ≡ x → is_some x ≡ true → lot_made (by w a ∷ H) id ≡ x) [
  | Some made ↦ λ is known. made_stays H w a id made is
  | None ↦ λ is known. absurd (false≢true known)
] refl known

named_alike : (H : History) (w : Bytes) (a : Action) (o material : Bytes) (named : Option Bytes) → ((l : Bytes) → named ≡ Some l → is_some (lot_made H (lot_id o l)) ≡ true) → is_some_where (λ l. is_of_material material (lot_made (by w a ∷ H) (lot_id o l))) named ≡ is_some_where (λ l. is_of_material material (lot_made H (lot_id o l))) named
named_alike H w a o material None known = refl
named_alike H w a o material (Some l) known = ap (is_of_material material) (stays_made H w a (lot_id o l) (known l refl))

-- Earlier movements name lots of the same materials.
earlier_used : (H : History) (w : Bytes) (a : Action) (o material : Bytes) (ms : List Movement) → AllByRecursion (Agrees H) ms →
    list_any (λ m. is_some_where (λ l. is_of_material material (lot_made (by w a ∷ H) (lot_id o l))) (lot_brought o m)) ms ≡ list_any (λ m. is_some_where (λ l. is_of_material material (lot_made H (lot_id o l))) (lot_brought o m)) ms
earlier_used H w a o material [] agreed = refl
earlier_used H w a o material (m ∷ ms) agreed = λ i.
    named_alike H w a o material (lot_brought o m) (λ l. makes_named H o m.0 m.1.what agreed.0 m.1.key m.1.amount m.1.day l) i
    || earlier_used H w a o material ms agreed.1 i

pub material_used-recorded : (H : History) (w o : Bytes) (row : MoveRow) (material : Bytes) → IsLawful H →
    material_used (by w (Record row) ∷ H) o material ≡ (is_some_where (λ l. is_of_material material (lot_made (by w (Record row) ∷ H) (lot_id o l))) (lot_brought o (w, row)) || material_used H o material)
unfolding material_used
material_used-recorded H w o row material lawful i = is_some_where (λ l. is_of_material material (lot_made (by w (Record row) ∷ H) (lot_id o l))) (lot_brought o (w, row)) || earlier_used H w (Record row) o material (movements H) (one_origin H lawful) i

-- After a movement that makes a lot, the material is in use.
pub came_in_use : (H : History) (o : Bytes) (row : MoveRow) (l : Bytes) (made : Made) (material : Bytes) → IsLawful H → verdict H (by o (Record row)) ≡ Accepted → made_by (lot_id o l) o row.what ≡ Some made →
    material_used (by o (Record row) ∷ H) o material ≡ (same_bytes made.material material || material_used H o material)
came_in_use H o row l made material lawful accepted is =
    material_used-recorded H o o row material lawful
    ∙ ap (λ b. b || material_used H o material)
    (ap (is_some_where (λ l. is_of_material material (lot_made (by o (Record row) ∷ H) (lot_id o l)))) (brings_lot (lot_id o l) o row.key row.what row.amount row.day made is)
    ∙ ap (is_of_material material) (new_agrees H o row accepted (lot_id o l) made is))
