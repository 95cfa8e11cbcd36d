-- The answers to the plant over a list of commands.
use Rattle.std.specs.Prelude.{◌≡◌, not, Option, Some, None, is_none, IfSome, List, [], ◌∷◌, ◌++◌}
use Rattle.toll_base.specs.declared.movement.Move.TheVariants as move
use Rattle.toll_history.specs.Command.{AddMaterial, AddTest, CloseBatch, Record, RecordResult, Require, Void}
use Rattle.toll_answers.specs.Common.{Bytes, bytes_cmp, house_name, option_map_or, RequirementKey, requirement_cmp, AreRowsGiven, AddOwner, AddRecipe, AddUnit, CancelOrder, CommandBatch, OpenBatch, PlaceOrder, Reject, Release, Command, by, moves, IsValidAction, History, acts, owner_known, order_of, batch_of, facts_given, lot_row, Verdict, Refused, Checks, verdict_of_checks, verdict, grow, known_batch_checks, UnknownOwner, UnknownLot, LotId, BatchRow, OrderRow, Step, IsTrace, line_of, line_key, RequirementLine}
use Rattle.toll_answers.specs.Edges.{IsPlantJoined}
use Rattle.toll_trace.specs.declared.way.Way.{Way}
use Rattle.toll_answers.specs.Recall.{IsRecall}
use Rattle.toll_answers.specs.declared.plant_cmd.PlantCmd.{PlantCmd}
use Rattle.toll_answers.specs.declared.plant_cmd.PlantCmd.TheVariants as cmd
use Rattle.toll_answers.specs.declared.genealogy.recall.RecallLine.{RecallLine}
use Rattle.toll_answers.specs.Texts.{orders_text, IsStockText, batch_text, trace_text, recall_text}

-- ---- what a command of the plant is

-- what is recorded of it; nothing of a question, nor of words of which a value couldn't be read
abbrev pub recorded_command : PlantCmd → Option Command
recorded_command (cmd.OwnerAdd owner key) = Some (by owner (AddOwner key))
recorded_command (cmd.UnitAdd unit) = Some (by house_name (AddUnit unit))
recorded_command (cmd.MaterialAdd owner material measure) = Some (by owner (AddMaterial (record { material = material; measure = measure })))
recorded_command (cmd.TestAdd owner material test limits) = Some (by owner (AddTest (record { material = material; test = test; limits = limits })))
recorded_command (cmd.RecipeAdd owner recipe segments) = Some (by owner (AddRecipe (record { recipe = recipe; segments = segments })))
recorded_command (cmd.Require owner row) = Some (by owner (Require row))
recorded_command (cmd.Order placing) = Some (by house_name (PlaceOrder placing))
recorded_command (cmd.Cancel order) = Some (by house_name (CancelOrder order))
recorded_command (cmd.Open owner order unit) = Some (by owner (OpenBatch order unit))
recorded_command (cmd.Do owner order number command) = Some (by owner (CommandBatch order number command))
recorded_command (cmd.Close owner order number) = Some (by owner (CloseBatch order number))
recorded_command (cmd.Receive owner key material lot sublot amount day) = Some (moves owner key (move.Receive material lot sublot) amount day)
recorded_command (cmd.Split owner key lot sublot target amount day) = Some (moves owner key (move.Split lot sublot target) amount day)
recorded_command (cmd.Ship owner key lot sublot amount day) = Some (moves owner key (move.Ship lot sublot) amount day)
recorded_command (cmd.Scrap owner key lot sublot amount day) = Some (moves owner key (move.Scrap lot sublot) amount day)
recorded_command (cmd.Result owner lot test value day) = Some (by owner (RecordResult lot test value day))
recorded_command (cmd.Release lot) = Some (by house_name (Release lot))
recorded_command (cmd.Reject lot) = Some (by house_name (Reject lot))
recorded_command (cmd.Actual owner row) = Some (by owner (Record row.movement))
recorded_command (cmd.Void owner key) = Some (by owner (Void key))
recorded_command _ = None

-- the owner that a question is about; HOUSE, where it names none
abbrev pub asked_about : PlantCmd → Bytes
asked_about (cmd.Orders owner) = owner
asked_about (cmd.Stock owner) = owner
asked_about (cmd.Batch owner order number) = owner
asked_about (cmd.Trace lot way) = lot.owner
asked_about (cmd.Recall lot) = lot.owner
asked_about _ = house_name

-- whom it concerns
abbrev pub concerned : PlantCmd → Bytes
concerned q = option_map_or (λ c. c.owner) (recorded_command q) (asked_about q)

-- the values of what is recorded are within their bounds
abbrev pub IsValidCommand : PlantCmd → Type 0
IsValidCommand q = IfSome (recorded_command q) (λ c. IsValidAction c.action)

-- an answer to the plant: a verdict, or a text
pub data PlantAnswer : Type 0 where
  Judged : (verdict : Verdict) → PlantAnswer
  Shows : (text : Bytes) → PlantAnswer

-- ---- texts

pub record AreOrdersShown (H : History) (o : Bytes) (r : PlantAnswer) : Type 0 where
  pub orders : List OrderRow
  pub given : AreRowsGiven bytes_cmp (λ row. row.order) (order_of (acts o H)) orders
  pub shown : r ≡ Shows (orders_text orders)

pub record IsStockShown (H : History) (o : Bytes) (r : PlantAnswer) : Type 0 where
  pub text : Bytes
  pub is : IsStockText H o text
  pub shown : r ≡ Shows text

-- the batch with the requirements of its order's recipe
pub record IsBatchShown (given : RequirementKey → Option RequirementLine) (batch : BatchRow) (r : PlantAnswer) : Type 0 where
  pub lines : List RequirementLine
  pub are_given : AreRowsGiven requirement_cmp line_key given lines
  pub shown : r ≡ Shows (batch_text batch lines)

-- the batch of an order, if both are known; otherwise the refusal
abbrev pub IsBatchShownOr : History → Bytes → Option OrderRow → Option BatchRow → Verdict → PlantAnswer → Type 0
IsBatchShownOr H o (Some order) (Some batch) verdict r = IsBatchShown (line_of H o batch.order batch.number order.recipe) batch r
IsBatchShownOr H o _ _ (Refused why) r = r ≡ Judged (Refused why)
IsBatchShownOr H o _ _ _ r = ⊥

pub record IsTraceShown (H : History) (lot : LotId) (way : Way) (r : PlantAnswer) : Type 0 where
  pub trace : List Step
  pub traced : IsTrace (IsPlantJoined H way) lot trace
  pub shown : r ≡ Shows (trace_text trace)

pub record IsRecallShown (H : History) (lot : LotId) (r : PlantAnswer) : Type 0 where
  pub lines : List RecallLine
  pub recalled : IsRecall H lot lines
  pub shown : r ≡ Shows (recall_text lines)

-- ---- answers

-- the refusal of the first check that applies, otherwise the text
abbrev pub IsCheckedOr : Verdict → Type 0 → PlantAnswer → Type 0
IsCheckedOr (Refused why) shown r = r ≡ Judged (Refused why)
IsCheckedOr _ shown r = shown

abbrev pub owner_checks : History → Bytes → Checks
owner_checks H o = (not (owner_known H o), Some UnknownOwner) ∷ []

-- the owner is known, and so is its lot
abbrev pub lot_checks : History → LotId → Checks
lot_checks H lot = owner_checks H lot.owner ++ (is_none (lot_row H lot.owner lot.lot), Some UnknownLot) ∷ []

-- the verdict on what is recorded; where nothing is, what is so of the answer otherwise
abbrev pub IsVerdictOr : History → Option Command → Type 0 → PlantAnswer → Type 0
IsVerdictOr H (Some c) otherwise r = r ≡ Judged (verdict H c)
IsVerdictOr H None otherwise r = otherwise

-- the answer to a question, and to words that couldn't be read
abbrev pub IsQuestionAnswer : History → PlantCmd → PlantAnswer → Type 0
IsQuestionAnswer H (cmd.Orders o) r = IsCheckedOr (verdict_of_checks (owner_checks H o)) (AreOrdersShown H o r) r
IsQuestionAnswer H (cmd.Stock o) r = IsCheckedOr (verdict_of_checks (owner_checks H o)) (IsStockShown H o r) r
IsQuestionAnswer H (cmd.Batch o order number) r = IsCheckedOr (verdict_of_checks (owner_checks H o)) (IsBatchShownOr H o (order_of (acts o H) order) (batch_of (acts o H) (order, number)) (verdict_of_checks (known_batch_checks (facts_given H o) order number)) r) r
IsQuestionAnswer H (cmd.Trace lot way) r = IsCheckedOr (verdict_of_checks (lot_checks H lot)) (IsTraceShown H lot way r) r
IsQuestionAnswer H (cmd.Recall lot) r = IsCheckedOr (verdict_of_checks (lot_checks H lot)) (IsRecallShown H lot r) r
IsQuestionAnswer H (cmd.Unread why) r = r ≡ Judged (Refused why)
IsQuestionAnswer H _ r = ⊥

abbrev pub IsPlantAnswer : History → PlantCmd → PlantAnswer → Type 0
IsPlantAnswer H q r = IsVerdictOr H (recorded_command q) (IsQuestionAnswer H q r) r

-- the history after it
abbrev pub after_plant : History → PlantCmd → History
after_plant H q = option_map_or (grow H) (recorded_command q) H
