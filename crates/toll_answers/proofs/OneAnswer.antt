-- Over a list of commands the plant has one answer to a command or a question.
use Rattle.std.proofs.Common.{◌≡◌, Option, Some, None, List, [], ◌∷◌, map, refl, sym, ap, ◌∙◌}
use Rattle.toll_answers.proofs.Common.{nat_list_cmp_total, Bytes, bytes_cmp, RequirementKey, requirement_cmp, pair_cmp, History, acts, order_of, Verdict, Accepted, Repeated, Refused, verdict_of_checks, LotId, pair_cmp_total, requirement_cmp_total, trace_unique, Forward, IsPlantJoined, line_key, RequirementLine, BatchRow, OrderRow, orders_text, stock_text, shown_over, IsStockText, batch_text, trace_text, recall_text}
use Rattle.toll_trace.specs.declared.way.Way.{Way}
use Rattle.toll_history.specs.Command.{Command}
use Rattle.toll_answers.specs.declared.plant_cmd.PlantCmd.{PlantCmd}
use Rattle.toll_answers.specs.declared.plant_cmd.PlantCmd.TheVariants as cmd
use Rattle.toll_answers.specs.PlantAnswers.{recorded_command, PlantAnswer, Shows, AreOrdersShown, IsStockShown, IsBatchShown, IsBatchShownOr, IsTraceShown, IsRecallShown, IsCheckedOr, owner_checks, lot_checks, IsVerdictOr, IsQuestionAnswer, IsPlantAnswer}
use Rattle.toll_answers.specs.Recall.{recall_line_of, IsRecall}
use Rattle.toll_answers.specs.declared.genealogy.recall.RecallLine.{RecallLine}
use Rattle.toll_answers.proofs.OneReply.{IsOne, one_value, one_list_of_rows}

one_checked_or : (v : Verdict) (shown : PlantAnswer → Type 0) → IsOne shown → IsOne (λ r. IsCheckedOr v (shown r) r)
one_checked_or (Refused why) shown one = one_value _
one_checked_or Accepted shown one = one
one_checked_or Repeated shown one = one

somes_one : {X : Type 0} (xs ys : List X) → map (λ x. Some x) xs ≡ map (λ y. Some y) ys → xs ≡ ys
somes_one [] [] h = refl
somes_one [] (y ∷ ys) h = (cc)
somes_one (x ∷ xs) [] h = (cc)
somes_one (x ∷ xs) (y ∷ ys) h =
    let head : x ≡ y = (cc) in
    let tail : map (λ x. Some x) xs ≡ map (λ y. Some y) ys = (cc) in
    λ i. head i ∷ somes_one xs ys tail i

map_twice : {X Y Z : Type 0} (f : Y → Z) (g : X → Y) (xs : List X) → map (λ x. f (g x)) xs ≡ map f (map g xs)
map_twice f g [] = refl
map_twice f g (x ∷ xs) = ap (λ ys. f (g x) ∷ ys) (map_twice f g xs)

module _ (H : History) where
  pub one_recall : (lot : LotId) (lines lines' : List RecallLine) → IsRecall H lot lines → IsRecall H lot lines' → lines ≡ lines'
  one_recall lot lines lines' a b =
      let steps = trace_unique (IsPlantJoined H Forward) lot (map (λ line. line.step) lines) (map (λ line. line.step) lines') a.traced b.traced in
      somes_one lines lines'
      (a.each ∙ map_twice (recall_line_of H) (λ line. line.step) lines ∙ ap (map (recall_line_of H)) steps ∙ sym (map_twice (recall_line_of H) (λ line. line.step) lines') ∙ sym b.each)

  one_orders_shown : (o : Bytes) → IsOne (AreOrdersShown H o)
  one_orders_shown o r r' a b = a.shown ∙ ap (λ rows. Shows (orders_text rows)) (one_list_of_rows bytes_cmp nat_list_cmp_total (λ row. row.order) (order_of (acts o H)) a.orders b.orders a.given b.given) ∙ sym b.shown

  one_stock_text : (o : Bytes) (x y : Bytes) → IsStockText H o x → IsStockText H o y → x ≡ y
  one_stock_text o x y a b = a.is ∙ ap stock_text (one_list_of_rows pair_cmp pair_cmp_total (λ shown. (shown.row.lot, shown.row.sublot)) (shown_over H o) a.shown b.shown a.given b.given) ∙ sym b.is

  one_stock_shown : (o : Bytes) → IsOne (IsStockShown H o)
  one_stock_shown o r r' a b = a.shown ∙ ap Shows (one_stock_text o a.text b.text a.is b.is) ∙ sym b.shown

  one_batch_shown : (given : RequirementKey → Option RequirementLine) (batch : BatchRow) → IsOne (IsBatchShown given batch)
  one_batch_shown given batch r r' a b = a.shown ∙ ap (λ lines. Shows (batch_text batch lines)) (one_list_of_rows requirement_cmp requirement_cmp_total line_key given a.lines b.lines a.are_given b.are_given) ∙ sym b.shown

  plant_one_batch_or : (o : Bytes) (order : Option OrderRow) (batch : Option BatchRow) (v : Verdict) → IsOne (IsBatchShownOr H o order batch v)
  plant_one_batch_or o (Some order) (Some batch) v = one_batch_shown _ batch
  plant_one_batch_or o None batch (Refused why) = one_value _
  plant_one_batch_or o None batch Accepted = λ r r' a b. absurd a
  plant_one_batch_or o None batch Repeated = λ r r' a b. absurd a
  plant_one_batch_or o (Some order) None (Refused why) = one_value _
  plant_one_batch_or o (Some order) None Accepted = λ r r' a b. absurd a
  plant_one_batch_or o (Some order) None Repeated = λ r r' a b. absurd a

  one_trace_shown : (lot : LotId) (way : Way) → IsOne (IsTraceShown H lot way)
  one_trace_shown lot way r r' a b = a.shown ∙ ap (λ trace. Shows (trace_text trace)) (trace_unique (IsPlantJoined H way) lot a.trace b.trace a.traced b.traced) ∙ sym b.shown

  one_recall_shown : (lot : LotId) → IsOne (IsRecallShown H lot)
  one_recall_shown lot r r' a b = a.shown ∙ ap (λ lines. Shows (recall_text lines)) (one_recall lot a.lines b.lines a.recalled b.recalled) ∙ sym b.shown

  one_verdict_or : (c : Option Command) (otherwise : PlantAnswer → Type 0) → IsOne otherwise → IsOne (λ r. IsVerdictOr H c (otherwise r) r)
  one_verdict_or (Some c) otherwise one = one_value _
  one_verdict_or None otherwise one = one

  one_question_answer : (q : PlantCmd) → IsOne (IsQuestionAnswer H q)
  one_question_answer (cmd.Orders o) = one_checked_or (verdict_of_checks (owner_checks H o)) _ (one_orders_shown o)
  one_question_answer (cmd.Stock o) = one_checked_or (verdict_of_checks (owner_checks H o)) _ (one_stock_shown o)
  one_question_answer (cmd.Batch o order number) = one_checked_or (verdict_of_checks (owner_checks H o)) _ (plant_one_batch_or o _ _ _)
  one_question_answer (cmd.Trace lot way) = one_checked_or (verdict_of_checks (lot_checks H lot)) _ (one_trace_shown lot way)
  one_question_answer (cmd.Recall lot) = one_checked_or (verdict_of_checks (lot_checks H lot)) _ (one_recall_shown lot)
  one_question_answer (cmd.Unread why) = one_value _
  one_question_answer _ = λ r r' a b. absurd a

  pub one_plant_answer : (q : PlantCmd) → IsOne (IsPlantAnswer H q)
  one_plant_answer q = one_verdict_or (recorded_command q) (IsQuestionAnswer H q) (one_question_answer q)
