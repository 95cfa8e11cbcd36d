-- A standing consumption that a slice has is one of every lawful history of which it has the rows.
use Rattle.std.proofs.Common.{◌≡◌, Bool, true, false, not, ◌&&◌, ◌||◌, cond, Option, Some, None, List, [], ◌∷◌, refl, sym, ap, ◌∙◌}
use Rattle.toll_trace.proofs.Parts.{same_test}
use Rattle.toll_answers.proofs.Common.{false≢true, nat_list_cmp_total, AllByRecursion, list_any, Bytes, same_bytes, bytes_cmp, Slice, IsInKeyOrder, row_at, is_some_where, or_else, where_so, same_bytes-exact, same_bytes-refl, History, acts, OwnerFacts, IsRowsOf, Accepted, IsLawful, IsValidAction, verdict, each_found, has_consumed_in, consumes_lot, has_consumed}
use Rattle.std.proofs.lemmas.Bool.{or_left, or_right}
use Rattle.toll_base.specs.declared.lot.LotId.{LotId}
use Rattle.toll_base.specs.declared.movement.MoveRow.{MoveRow}
use Rattle.toll_history.specs.Command.{Action, Record, by}
use Rattle.toll_history.specs.Movements.{movement_of, movement_recorded, voided_in}
use Rattle.toll_history.proofs.Acts.{along_acts}
use Rattle.toll_history.proofs.Found.{key_is_new}
use Rattle.toll_history.proofs.Options.{not_both}

or_cases : (a b : Bool) {C : Type 0} → (a || b) ≡ true → (a ≡ true → C) → (b ≡ true → C) → C
or_cases true b is first second = first refl
or_cases false b is first second = second is

-- a movement that passes the test, and is found by its key
abbrev IsFoundIn : (MoveRow → Bool) → (Bytes → Option MoveRow) → Type 0
IsFoundIn p at = (row : MoveRow) × (at row.key ≡ Some row) × (p row ≡ true)

module _ (p : MoveRow → Bool) where
  -- ---- among the rows of a slice

  found_any : (rows : List MoveRow) (k : Bytes) (row : MoveRow) → row_at bytes_cmp (λ r. r.key) rows k ≡ Some row → p row ≡ true → list_any p rows ≡ true
  unfolding row_at
  found_any [] k row found passes = (cc)
  found_any (x ∷ xs) k row found passes =
      elim (same_bytes k x.key) as (λ b. cond b (Some x) (row_at bytes_cmp (λ (r : MoveRow). r.key) xs k) ≡ Some row → (p x || list_any p xs) ≡ true) [
        | true ↦ λ is. let same : x ≡ row = (cc) in or_left (p x) (list_any p xs) (ap p same ∙ passes)
        | false ↦ λ is. or_right (p x) (list_any p xs) (found_any xs k row is passes)
      ] found

  consumed_any_of : (at : Bytes → Option MoveRow) (rows : List MoveRow) → AllByRecursion (λ r. at r.key ≡ Some r) rows → list_any p rows ≡ true → IsFoundIn p at
  consumed_any_of at [] each any = absurd (false≢true any)
  consumed_any_of at (x ∷ xs) each any = or_cases (p x) (list_any p xs) any (λ passes. (x, each.0, passes)) (consumed_any_of at xs each.1)

  -- ---- among an owner's actions

  abbrev is_recorded : Action → Bool
  is_recorded a = is_some_where p (movement_recorded a)

  consumed_found_recorded : (own : List Action) (k : Bytes) (row : MoveRow) → movement_of own k ≡ Some row → p row ≡ true → list_any is_recorded own ≡ true
  consumed_found_recorded [] k row found passes = (cc)
  consumed_found_recorded (Record x ∷ own) k row found passes =
      elim (same_bytes k x.key) as (λ b. or_else (cond b (Some x) None) (movement_of own k) ≡ Some row → (p x || list_any is_recorded own) ≡ true) [
        | true ↦ λ is. let same : x ≡ row = (cc) in or_left (p x) (list_any is_recorded own) (ap p same ∙ passes)
        | false ↦ λ is. or_right (p x) (list_any is_recorded own) (consumed_found_recorded own k row is passes)
      ] found
  consumed_found_recorded (_ ∷ own) k row found passes = consumed_found_recorded own k row found passes

  abbrev AnyIsFound : List Action → Type 0
  AnyIsFound own = list_any is_recorded own ≡ true → IsFoundIn p (movement_of own)

  -- a movement that was found is found after a new one, which has another key
  consumed_still : (own : List Action) (x : MoveRow) → movement_of own x.key ≡ None → IsFoundIn p (movement_of own) → IsFoundIn p (movement_of (Record x ∷ own))
  consumed_still own x new found = (
    found.0,
    elim (same_bytes found.0.key x.key) as (λ b. same_bytes found.0.key x.key ≡ b → or_else (cond b (Some x) None) (movement_of own found.0.key) ≡ Some found.0) [
      | true ↦ λ same. not_both (movement_of own x.key) found.0 new (ap (movement_of own) (sym (same_bytes-exact found.0.key x.key same)) ∙ found.1)
      | false ↦ λ other. found.1
    ] refl,
    found.2,
  )

  found_more : (o : Bytes) (H : History) (a : Action) → IsLawful H → IsValidAction a → verdict H (by o a) ≡ Accepted → AnyIsFound (acts o H) → AnyIsFound (a ∷ acts o H)
  found_more o H (Record x) lawful valid accepted before any =
      or_cases (p x) (list_any is_recorded (acts o H)) any
      (λ passes. (x, ap (λ b. or_else (where_so b x) (movement_of (acts o H) x.key)) (same_bytes-refl x.key), passes))
      (λ earlier. consumed_still (acts o H) x (key_is_new H o x accepted) (before earlier))
  found_more o H a lawful valid accepted before any = before any

  -- the rows that have each movement at its key have one that passes just where an action recorded one
  any_is : (o : Bytes) (H : History) → IsLawful H → (rows : List MoveRow) → IsInKeyOrder bytes_cmp (λ r. r.key) rows → ((k : Bytes) → row_at bytes_cmp (λ r. r.key) rows k ≡ movement_of (acts o H) k) → list_any p rows ≡ list_any is_recorded (acts o H)
  any_is o H lawful rows ordered at =
      same_test _ _
      (λ any. let found = consumed_any_of (row_at bytes_cmp (λ r. r.key) rows) rows (each_found bytes_cmp nat_list_cmp_total (λ r. r.key) rows ordered) any in consumed_found_recorded (acts o H) found.0.key found.0 (sym (at found.0.key) ∙ found.1) found.2)
      (λ any. let found = along_acts AnyIsFound o (λ none. absurd (false≢true none)) (found_more o) H lawful any in found_any rows found.0.key found.0 (at found.0.key ∙ found.1) found.2)

pub consumed_is : (H : History) → IsLawful H → (s : Slice) → IsRowsOf H s → IsInKeyOrder bytes_cmp (λ row. row.key) s.moves → (lot : LotId) → has_consumed_in s lot ≡ has_consumed (acts s.owner H) lot
consumed_is H lawful s there ordered lot =
    ap (λ (t : OwnerFacts). list_any (λ (row : MoveRow). consumes_lot lot row.what && not (t.voided row.key)) s.moves) there
    ∙ any_is (λ row. consumes_lot lot row.what && not (voided_in (acts s.owner H) row.key)) s.owner H lawful s.moves ordered (λ k. ap (λ (t : OwnerFacts). t.movement k) there)
