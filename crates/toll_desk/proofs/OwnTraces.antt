-- Traces over the edges that a keep has.
use Rattle.std.specs.Prelude.{if◌then◌else◌}
use Rattle.std.proofs.Common.{◌≡◌, ◌⊎◌, Bool, true, false, Some, ◌||◌, is_some, List, [], ◌∷◌, Contains, Result, IfOk, refl, sym, ap, subst, inl, inr, ◌∙◌}
use Rattle.toll_desk.proofs.Common.{false≢true, list_any, Bytes, same_bytes, same_bytes-refl, same_bytes-symm, house_name, lot_id, Slice, Edge, LotId, History, acts, IsRowsOf, lot_row, IsLawful, Contains-here, Contains-later, IsOwnEdge, IsOwnJoined, lots_known, IsTraceOr, OwnerReply, KeepFault, Content, slice_of, Represents, Contains-cases}
use Rattle.toll_keep.specs.HeldFor.{AreAmong}
use Rattle.toll_trace.proofs.Members.{Contains-none}
use Rattle.toll_answers.specs.Views.{has_consumed}
use Rattle.toll_trace.specs.declared.way.Way.{Way}
use Rattle.toll_desk.specs.Clauses.{AnswersTrace}
use Rattle.toll_desk.proofs.OwnerPlans.{slice_read, some_read}

-- ---- members that pass a test

module _ {X : Type 0} (p : X → Bool) where
  pub any_member : (xs : List X) → list_any p xs ≡ true → (x : X) × Contains xs x × (p x ≡ true)
  any_member [] any = absurd (false≢true any)
  any_member (x ∷ xs) any =
      elim (p x) as (λ b. p x ≡ b → (b || list_any p xs) ≡ true → (y : X) × Contains (x ∷ xs) y × (p y ≡ true)) [
        | true ↦ λ passes any. (x, Contains-here x xs, passes)
        | false ↦ λ fails any. let later = any_member xs any in (later.0, Contains-later x xs later.0 later.1, later.2)
      ] refl any

-- An owner who is one of these is among them.
pub one_among : (os : List Bytes) (x o : Bytes) → x ≡ o → Contains os o → AreAmong (x ∷ []) os
one_among os x o is own p i = elim (Contains-cases x [] p i) [ inl same ↦ subst (Contains os) (sym is ∙ same) own | inr none ↦ absurd (Contains-none p none) ]

-- ---- rows

-- the rows of an owner that a keep has are those of the history
pub rows_read : (c : Content) (H : History) (o : Bytes) (s : Slice) → Represents c H → Some s ≡ slice_of c o → IsRowsOf H s × (s.owner ≡ o)
rows_read c H o s stands there =
    let is = slice_read c o s there in
    (subst (IsRowsOf H) (sym is) (stands.known o (some_read c H o s stands there)), ap (λ t. t.owner) is ∙ stands.own o)

-- ---- an owner's traces

-- the lot of an edge is known to its owner
pub joined_known : (H : History) (o : Bytes) (lot : LotId) (e : Edge) → IsLawful H → IsOwnEdge (acts o H) e → (e.from ≡ lot) ⊎ (e.to ≡ lot) → is_some (lot_row H lot.owner lot.lot) ≡ true
joined_known H o lot e lawful is (inl from) = subst (λ (l : LotId). is_some (lot_row H l.owner l.lot) ≡ true) from (lots_known H lawful o e is).0
joined_known H o lot e lawful is (inr to) = subst (λ (l : LotId). is_some (lot_row H l.owner l.lot) ≡ true) to (lots_known H lawful o e is).1

module _ (H : History) (o lot : Bytes) (w : Way) (reported : Result OwnerReply KeepFault) where
  abbrev AnswersFrom : LotId → Bool → Type 0
  AnswersFrom from may = IfOk reported (IsTraceOr (IsOwnJoined (acts o H) w) from may)

  -- a trace from a lot of the owner, and from one of HOUSE
  pub traced_own : AnswersTrace H o (lot_id o lot) w reported → AnswersFrom (lot_id o lot) (is_some (lot_row H o lot))
  traced_own = subst (λ b. AnswersFrom (lot_id o lot) (if b then is_some (lot_row H o lot) else has_consumed (acts o H) (lot_id o lot))) (same_bytes-refl o)

  pub traced_house : same_bytes o house_name ≡ false → AnswersTrace H o (lot_id house_name lot) w reported → AnswersFrom (lot_id house_name lot) (has_consumed (acts o H) (lot_id house_name lot))
  traced_house other = subst (λ b. AnswersFrom (lot_id house_name lot) (if b then is_some (lot_row H o lot) else has_consumed (acts o H) (lot_id house_name lot))) (same_bytes-symm house_name o ∙ other)
