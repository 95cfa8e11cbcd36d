-- Which movement an owner's key finds, and which keys are voided, after one command more.
use Rattle.std.proofs.Common.{◌≡◌, true, false, cond, Option, Some, None, List, [], ◌∷◌, refl, sym, ap, ◌∙◌}
use Rattle.toll_history.proofs.Common.{Bytes, same_bytes, or_else, where_so, MoveRow, same_bytes-symm, Action, Record, by, History, acts, has_move_key, movement_of, movement_recorded, Accepted, verdict}
use Rattle.toll_history.proofs.Options.{none_of, or_none, or_else_where}
use Rattle.toll_history.proofs.Passed.{accepted_passes}
use Rattle.toll_history.proofs.Acts.{first_acts}

-- One more movement is found by its key.
pub movement_of-recorded : (H : History) (owner : Bytes) (row : MoveRow) (o key : Bytes) → movement_of (acts o (by owner (Record row) ∷ H)) key ≡ cond (has_move_key o key (owner, row)) (Some row) (movement_of (acts o H) key)
movement_of-recorded H owner row o key =
    first_acts _ o (by owner (Record row)) H
    ∙ ap (λ b. or_else (cond b (where_so (same_bytes key row.key) row) None) (movement_of (acts o H) key)) (same_bytes-symm owner o)
    ∙ or_else_where (same_bytes o owner) (same_bytes key row.key) row _

-- An action that records nothing leaves the movements.
pub movement_of-kept : (H : History) (owner : Bytes) (a : Action) (o key : Bytes) → movement_recorded a ≡ None → movement_of (acts o (by owner a ∷ H)) key ≡ movement_of (acts o H) key
movement_of-kept H owner a o key none =
    first_acts _ o (by owner a) H
    ∙ ap (λ (f : Option MoveRow). or_else (cond (same_bytes owner o) (elim f [ Some row ↦ where_so (same_bytes key row.key) row | None ↦ None ]) None) (movement_of (acts o H) key)) none
    ∙ or_none (same_bytes owner o) _

-- A movement that was found has the key.
pub key_found : (own : List Action) (key : Bytes) (row : MoveRow) → movement_of own key ≡ Some row → same_bytes key row.key ≡ true
key_found [] key row is = (cc)
key_found (Record new ∷ own) key row is =
    elim (same_bytes key new.key) as (λ b. same_bytes key new.key ≡ b → or_else (cond b (Some new) None) (movement_of own key) ≡ Some row → same_bytes key row.key ≡ true) [
      | true ↦ λ hit is. let r : new ≡ row = (cc) in ap (λ x. same_bytes key x.key) (sym r) ∙ hit
      | false ↦ λ miss is. key_found own key row is
    ] refl is
key_found (_ ∷ own) key row is = key_found own key row is

-- The key of an accepted movement is new.
pub key_is_new : (H : History) (o : Bytes) (row : MoveRow) → verdict H (by o (Record row)) ≡ Accepted → movement_of (acts o H) row.key ≡ None
key_is_new H o row accepted = none_of _ (accepted_passes H o (Record row) accepted 2)
