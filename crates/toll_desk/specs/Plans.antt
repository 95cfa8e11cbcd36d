-- What a plan owes, and what a decision.
use Rattle.std.specs.Prelude.{◌≡◌, Bool, true, false, ◌||◌, Option, is_none, List, ◌∷◌}
use Rattle.std.specs.Option.{option_map, option_map_or}
use Rattle.toll_desk.specs.Common.{Bytes, Slice, house_name, Change, Decision, Disposition, Action, by, History, acts, owner_known, IsRowsOf, lot_row, sublot_row, Accepted, verdict, grow, Command, Judged, IsVerdictOr, IsLotOr, IsWritingReply, IsOwnerAnswer, after_answer, IsReply, after_reply, Request, OwnerReply, Content, content_after, AllChangesFit}
use Rattle.toll_desk.specs.Representing.{Represents}
use Rattle.toll_base.specs.Changes.{changes_of, after_changes}
use Rattle.toll_base.specs.declared.rows.LotRow.{LotRow}
use Rattle.toll_history.specs.Decision.{verdict_of, ChangesKeepRules, IsRightOver}
use Rattle.toll_history.specs.Dispositions.{result_of}
use Rattle.toll_history.specs.OwnChanges.{EachChange, is_put_of, PutsOnly}
use Rattle.toll_history.specs.Work.{measure_of}

-- the change puts a row of this owner or of HOUSE
abbrev pub is_shared_put : Bytes → Change → Bool
is_shared_put o change = is_put_of o change || is_put_of house_name change

-- each of the changes puts a row of this owner or of HOUSE: none adds an owner or a unit
abbrev pub PutsShared : Bytes → List Change → Type 0
PutsShared o changes = EachChange (is_shared_put o) changes

-- over the rows of an owner that is known, this is the answer, and the changes lead to the rows after it
pub record IsPlanOver (H : History) (s : Slice) (q : Request) (reported : OwnerReply) (changes : List Change) : Type 0 where
  pub answer : IsOwnerAnswer s.owner H q reported
  pub rows : (t : Slice) → IsRowsOf H t → IsRowsOf (after_answer s.owner H q) (after_changes changes t)
  pub rules : ChangesKeepRules changes s
  pub own : PutsOnly s.owner changes

-- from the one history to the other the owner's lot got this disposition, and all else that is shown of it stayed
pub record IsDisposed (H G : History) (o lot : Bytes) (d : Disposition) : Type 0 where
  pub row : lot_row G o lot ≡ option_map {T = LotRow} (λ row. record row { disposition = d }) (lot_row H o lot)
  pub measure : measure_of (acts o G) ≡ measure_of (acts o H)
  pub results : result_of (acts o G) ≡ result_of (acts o H)
  pub sublots : sublot_row G o ≡ sublot_row H o

-- The request asks for the action, which gives a known lot this disposition, and its reply is the lot.
pub record Disposes (H : History) (o lot : Bytes) (d : Disposition) (q : Request) (a : Action) : Type 0 where
  pub answers : (reported : OwnerReply) → IsWritingReply (verdict H (by o a)) (IsLotOr (grow H (by o a)) o (lot_row (grow H (by o a)) o lot) reported) reported → IsOwnerAnswer o H q reported
  pub grows : after_answer o H q ≡ grow H (by o a)
  pub known : verdict H (by o a) ≡ Accepted → is_none (lot_row H o lot) ≡ false
  pub disposed : verdict H (by o a) ≡ Accepted → IsDisposed H (by o a ∷ H) o lot d

-- the changes lead from this content to one that stands for that history
pub record ChangesLeadTo (c : Content) (changes : List Change) (G : History) : Type 0 where
  pub stands : Represents (content_after changes c) G
  pub fits : AllChangesFit c changes

-- over the content of a keep, this is the answer to an owner that is admitted, and the changes lead to the content after it
pub record IsPlanFor (c : Content) (H : History) (o : Bytes) (q : Request) (reported : OwnerReply) (changes : List Change) : Type 0 where
  pub answer : IsOwnerAnswer o H q reported
  pub leads : ChangesLeadTo c changes (after_answer o H q)
  pub own : PutsOnly o changes

-- the same for a client that claims this owner with this key
pub record IsPlan (c : Content) (H : History) (o key : Bytes) (q : Request) (reported : OwnerReply) (changes : List Change) : Type 0 where
  pub reply : IsReply o key H q reported
  pub leads : ChangesLeadTo c changes (after_reply o key H q)
  pub own : PutsOnly o changes

-- over the rows of an owner, where it is known, the decision is right, and its changes are of that owner's rows and keep their rules
pub record IsOwnDecision (H : History) (s : Slice) (a : Action) (d : Decision) : Type 0 where
  pub right : owner_known H s.owner ≡ true → IsRowsOf H s → IsRightOver H (by s.owner a) d
  pub rules : ChangesKeepRules (changes_of d) s
  pub own : PutsOnly s.owner (changes_of d)

-- over the content of a keep, the decision is the verdict on the command, and its changes lead to the content after it
pub record IsPlantDecision (c : Content) (H : History) (done : Option Command) (d : Decision) : Type 0 where
  pub answer : IsVerdictOr H done ⊥ (Judged (verdict_of d))
  pub leads : ChangesLeadTo c (changes_of d) (option_map_or (grow H) done H)
