-- What the desk's functions say of what they answer, where several say the same.
use Rattle.std.specs.Prelude.{◌≡◌, ◌≢◌, ◌++◌, [], ◌∷◌, List, OnOk, Bool, true, false, not, is_some, ℕ, Option, Result, IfOk, IfErr, Vec, Err}
use Rattle.toll_desk.specs.Common.{Global, Bytes, same_bytes, Slice, order_at, house_name, where_so, Decision, LotId, IsRowsOf, lot_row, acts, Step, IsRecall, RecallLine, HaveRead, Damaged, Disposition, Refusal, Action, Command, History, owner_known, Refused, IsPlantAnswer, Judged, PlantCmd, Shows, after_plant, IsOwnerAnswer, IsLotOr, IsOrderOr, has_owner_key, IsTraceOr, Request, Way, OwnerReply, Content, Meaning, OverContent, KeepFault}
use Rattle.toll_desk.specs.Representing.{Represents}
use Rattle.std.specs.declared.alloc.AllocError.{AllocError}
use Rattle.toll_trace.specs.declared.way.Way.TheVariants.{Forward}
use Rattle.toll_answers.specs.Agreement.{IsPlantTrace}
use Rattle.toll_answers.specs.Edges.{IsOwnJoined}
use Rattle.toll_base.specs.declared.request.Request.TheVariants.{Place}
use Rattle.toll_base.specs.declared.rows.Placing.{Placing}
use Rattle.toll_history.specs.Command.{by}
use Rattle.toll_history.specs.Decision.{Decides}
use Rattle.toll_history.specs.Holders.{holder}
use Rattle.toll_history.specs.Work.{order_of}
use Rattle.toll_desk.specs.Translations.{is_answer_accepted, may_change, meaning_of_plant_reply, meaning_of_reply, writes}
use Rattle.toll_desk.specs.Plans.{Disposes, IsOwnDecision, IsPlan, IsPlanFor, IsPlanOver, IsPlantDecision, ChangesLeadTo}
use Rattle.toll_desk.specs.Questions.{AreSlicesFor, is_known_lot, may_trace}
use Rattle.toll_desk.specs.Reads.{Over}
use Rattle.toll_desk.specs.Subjects.{IsCommandSuchThat}
use Rattle.toll_desk.specs.declared.request.Reply.{Reply}
use Rattle.toll_desk.specs.declared.plan.Plan.{Plan}
use Rattle.toll_desk.specs.declared.plant_cmd.PlantReply.{PlantReply}

-- ---- over the histories that know an owner

-- over the histories that know this owner, which isn't HOUSE
abbrev pub OverOwner : {K : Type 0} → Meaning K → (old new : K) → (o : Bytes) → (Content → History → Type 0) → Type 0
OverOwner meaning old new o P = Over meaning old new (λ c H. owner_known H o ≡ true → same_bytes o house_name ≡ false → P c H)

-- over these rows of an owner besides HOUSE that the history knows
abbrev pub IfRowsOf : History → Slice → Type 0 → Type 0
IfRowsOf H s P = IsRowsOf H s → owner_known H s.owner ≡ true → same_bytes s.owner house_name ≡ false → P

-- since the first of the keeps between which calls were answered
abbrev pub OverFirst : {K : Type 0} → Meaning K → (old new : K) → (Content → History → Type 0) → Type 0
OverFirst {K} meaning old new P = (first : K) → HaveRead meaning first old → Over meaning first new P

-- ---- traces and recalls

-- over the rows of HOUSE or its owner, the recall of a lot that is known finds no damage
abbrev pub IsUndamagedRecall : {X : Type 0} → History → Slice → List Step → Result X KeepFault → Type 0
IsUndamagedRecall H own steps result = (lot : LotId) → IsRowsOf H own → is_known_lot H lot ≡ true → IsPlantTrace H Forward lot steps → result ≢ Err Damaged

-- over these rows, the lines are those of the recall of the lot that the steps are traced from
abbrev pub IsRecallOver : History → Slice → List Step → Result (Vec RecallLine Global) KeepFault → Type 0
IsRecallOver H own steps result = (lot : LotId) → IsRowsOf H own → IsPlantTrace H Forward lot steps → IfOk result (λ lines. IsRecall H lot lines.items)

-- with slices for some steps there are slices for one more
abbrev pub AreMoreSlices : {X E : Type 0} → History → Step → (old new : List Slice) → Result X E → Type 0
AreMoreSlices H step old new result = (before : List Step) → AreSlicesFor H before old → OnOk result (AreSlicesFor H (before ++ step ∷ []) new)

-- ---- what is read

-- where rows are shown, they are the answer to what is asked
abbrev pub RowsAnswerOwner : History → (o : Bytes) → Request → Result Reply AllocError → Type 0
RowsAnswerOwner H o q result = IfOk result (λ reply. IfOk (meaning_of_reply reply) (IsOwnerAnswer o H q))

-- where a text is shown, it is the answer to what the plant asks
abbrev pub IsTextAs : History → PlantCmd → Result (Result (Vec ℕ Global) Refusal) AllocError → Type 0
IsTextAs H q result = IfOk result (λ reported. IfOk reported (λ text. IsPlantAnswer H q (Shows text.items)))

-- where a question of the plant is refused, that is the answer to it
abbrev pub IsRefusedAs : History → PlantCmd → Result (Result (Vec ℕ Global) Refusal) AllocError → Type 0
IsRefusedAs H q result = IfOk result (λ reported. IfErr reported (λ why. IsPlantAnswer H q (Judged (Refused why))))

-- where an order is shown, it is the order as it stands, and a refusal where there is none
abbrev pub IsOrderShown : History → (o order : Bytes) → Reply → Type 0
IsOrderShown H o order reply = IfOk (meaning_of_reply reply) (IsOrderOr (order_of (acts o H) order))

-- where a lot is shown, it is the lot as it stands, and a refusal where there is none
abbrev pub IsLotShown : History → (o lot : Bytes) → Result Reply AllocError → Type 0
IsLotShown H o lot result = IfOk result (λ reply. IfOk (meaning_of_reply reply) (IsLotOr H o (lot_row H o lot)))

-- ---- what is decided

-- where it was decided over these rows, the decision is right for the command
abbrev pub DecidesCommand : Slice → Option Command → Result Decision AllocError → Type 0
DecidesCommand s done result = IsCommandSuchThat (λ a. IfOk result (Decides (by s.owner a) s)) done

-- Unless it is a fault, the result is the decision on the command over the content.
abbrev pub IsDecidedOver : {K : Type 0} → Meaning K → (old new : K) → Option Command → Result Decision KeepFault → Type 0
IsDecidedOver meaning old new done result = Over meaning old new (λ c H. IfOk result (IsPlantDecision c H done))

-- whether no batch holds the unit in the history
abbrev pub IsFreeIn : History → (unit : Bytes) → Bool → Type 0
IsFreeIn H unit free = free ≡ not (is_some (holder H unit))

-- ---- what is planned

-- where a plan is made, it is the one for what is asked over the slice
abbrev pub IsPlannedOver : History → Slice → Request → Result (Plan Reply) AllocError → Type 0
IsPlannedOver H s q result = IfOk result (λ planned. IfOk (meaning_of_reply planned.reply) (λ reported. IsPlanOver H s q reported planned.changes.items))

-- where a reply is the answer to a request that changes nothing, so is the plan to change nothing
abbrev pub IsReadingPlan : History → Slice → Request → Result Reply AllocError → Result (Plan Reply) AllocError → Type 0
IsReadingPlan H s q reply result = writes q ≡ false → RowsAnswerOwner H s.owner q reply → IsPlannedOver H s q result

-- where a decision on the disposition of a lot is right, so is the plan for what asks for it
abbrev pub IsDisposedOver : History → Slice → (lot : Bytes) → Disposition → Decision → Result (Plan Reply) AllocError → Type 0
IsDisposedOver H s lot disposition decision result =
    (q : Request) (a : Action) → Disposes H s.owner lot disposition q a → IsOwnDecision H s a decision → IsPlannedOver H s q result

-- Unless its reply is a fault, the plan is the one for the owner's request.
abbrev pub IsPlannedFor : Content → History → (o : Bytes) → Request → Plan Reply → Type 0
IsPlannedFor c H o q planned = IfOk (meaning_of_reply planned.reply) (λ reported. IsPlanFor c H o q reported planned.changes.items)

-- Unless its reply is a fault, the plan is the one for the request with this key.
abbrev pub IsPlannedBy : Content → History → (o key : Bytes) → Request → Plan Reply → Type 0
IsPlannedBy c H o key q planned = IfOk (meaning_of_reply planned.reply) (λ reported. IsPlan c H o key q reported planned.changes.items)

-- Unless its reply is a fault, the plan answers the command, and its changes lead to the content after the command.
abbrev pub IsPlantPlanned : Content → History → PlantCmd → Plan PlantReply → Type 0
IsPlantPlanned c H q plan = IfOk (meaning_of_plant_reply plan.reply) (λ reported. IsPlantAnswer H q reported × ChangesLeadTo c plan.changes.items (after_plant H q))

-- this is so where an order is placed that is there already
abbrev pub IfPlacedAgain : Slice → Request → Type 0 → Type 0
IfPlacedAgain s q P = (placing : Placing) → q ≡ Place placing → is_some (order_at s placing.order) ≡ true → P

-- a plan that is not accepted makes no change
abbrev pub ChangesIfAccepted : Plan PlantReply → Type 0
ChangesIfAccepted plan = is_answer_accepted (meaning_of_plant_reply plan.reply) ≡ false → plan.changes.items ≡ []

-- so it is of these rows
abbrev pub OverSlice : Slice → (Slice → Type 0) → Type 0
OverSlice s P = P s

-- so it is of the rows that were held of the owner
abbrev pub OverContentRows : {K : Type 0} → Meaning K → (old new : K) → (o : Bytes) → (Slice → Type 0) → Type 0
OverContentRows meaning old new o P = OverContent meaning old new (λ c. P (c.rows o))

-- this is so where what was asked is to change nothing: it only asks, or isn't granted, or, over these rows, places an order that is there
pub record IfUnchanging (OverRows : (Slice → Type 0) → Type 0) (q : Request) (reported : Result OwnerReply KeepFault) (P : Type 0) : Type 0 where
  pub quiet : may_change q reported ≡ false → P
  pub once : OverRows (λ s. IfPlacedAgain s q P)

-- the plan makes no change where what was asked is to change nothing
abbrev pub ChangesIfMayWrite : ((Slice → Type 0) → Type 0) → Request → Plan Reply → Type 0
ChangesIfMayWrite OverRows q planned = IfUnchanging OverRows q (meaning_of_reply planned.reply) (planned.changes.items ≡ [])

-- whatever history the content stands for, the name is found where the owner has this key
abbrev pub IsFoundBy : Content → (o key : Bytes) → Result (Option Bytes) KeepFault → Type 0
IsFoundBy c o key result = (H : History) → Represents c H → IfOk result (λ found. found ≡ where_so (has_owner_key o key H) o)

-- Unless it is a fault, the reply is the trace of this lot over the edges of the owner's batches.
abbrev pub AnswersTrace : History → (o : Bytes) → LotId → Way → Result OwnerReply KeepFault → Type 0
AnswersTrace H o lot way reported = IfOk reported (IsTraceOr (IsOwnJoined (acts o H) way) lot (may_trace H o lot))

-- the same over a slice with the owner's rows
abbrev pub RowsAnswerTrace : History → Slice → LotId → Way → Result OwnerReply KeepFault → Type 0
RowsAnswerTrace H s lot way reported = IsRowsOf H s → AnswersTrace H s.owner lot way reported
