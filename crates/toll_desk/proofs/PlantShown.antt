-- What the plant is shown, over rows and edges that a keep has.
use Rattle.std.specs.Prelude.{ℕ, is_none}
use Rattle.toll_desk.proofs.Common.{option_map, false≢true, Bytes, bytes_cmp, Slice, IsInKeyOrder, Edge, LotId, UnknownOwner, UnknownLot, UnknownOrder, UnknownBatch, BatchRow, OrderRow, Record, History, acts, owner_known, IsRowsOf, lot_row, facts_given, Checks, Refused, verdict_of_checks, known_batch_checks, IsLawful, order_of, batch_of, unit_of, state_of, is_closed, Contains-none, IsOwnEdge, WasDone, lots_owned, IsViewOver, BatchView, orders_text, batch_text, recall_text, IsRecall, RecallLine, PlantCmd, PlantAnswer, concerned, Judged, Shows, AreOrdersShown, IsBatchShownOr, IsCheckedOr, IsPlantAnswer, owner_checks, lot_checks, Content, slice_of, Represents}
use Rattle.toll_answers.specs.declared.plant_cmd.PlantCmd.TheVariants as cmd
use Rattle.toll_desk.proofs.Unknown.{acts_of_unknown}
use Rattle.std.proofs.Common.{◌≡◌, ◌⊎◌, true, false, Option, Some, None, is_some, List, [], ◌∷◌, Result, Ok, Err, IfOk, IfErr, refl, sym, ap, subst, inl, inr, ◌∙◌, ◌&&◌}
use Rattle.toll_desk.specs.Questions.{is_known_lot}
use Rattle.toll_desk.specs.Subjects.{ConcernsRows, question_for_owner}
use Rattle.toll_desk.proofs.CommandPlans.{house_known}
use Rattle.toll_desk.proofs.OwnTraces.{rows_read}
use Rattle.toll_desk.proofs.OwnerPlans.{some_read}
use Rattle.toll_history.specs.OverRows.{OverOwnRows}
use Rattle.toll_base.proofs.Bools.{both}

-- what is so of an answer, where it is this one
pub if_ok_of : {X E : Type 0} (P : X → Type 0) (r : Result X E) (x : X) → r ≡ Ok x → IfOk r P → P x
if_ok_of P r x is so = subst (λ r. IfOk r P) is so

pub if_err_of : {X E : Type 0} (P : E → Type 0) (r : Result X E) (e : E) → r ≡ Err e → IfErr r P → P e
if_err_of P r e is so = subst (λ r. IfErr r P) is so

-- ---- an owner's rows

pub orders_shown : (H : History) (s : Slice) (text : Bytes) → IsInKeyOrder bytes_cmp (λ row. row.order) s.orders → IsRowsOf H s → text ≡ orders_text s.orders → AreOrdersShown H s.owner (Shows text)
orders_shown H s text ordered rows is = record { orders = s.orders; given = record { ordered = ordered; at = λ k i. (rows i).order k }; shown = ap Shows is }

pub rows_of_unknown : (H : History) (q : PlantCmd) → ConcernsRows q → owner_known H (concerned q) ≡ false → IsPlantAnswer H q (Judged (Refused UnknownOwner))
rows_of_unknown H (cmd.Orders o) asks unknown = rw unknown refl
rows_of_unknown H (cmd.Stock o) asks unknown = rw unknown refl
rows_of_unknown H (cmd.Batch o order number) asks unknown = rw unknown refl
rows_of_unknown H q asks unknown = absurd asks

question_itself : (q : PlantCmd) (o : Bytes) → o ≡ concerned q → question_for_owner o q ≡ q
question_itself (cmd.Orders owner) o is = ap cmd.Orders is
question_itself (cmd.Stock owner) o is = ap cmd.Stock is
question_itself (cmd.Batch owner order number) o is = ap (λ p. cmd.Batch p order number) is
question_itself q o is = refl

-- what is so of the rows that were read is so of those that are asked about
pub read_for_question : (c : Content) (H : History) (q : PlantCmd) (s : Slice) → IsLawful H → Represents c H → Some s ≡ slice_of c (concerned q)
    → (P : History → PlantCmd → Type 0) → OverOwnRows s (λ H. P H (question_for_owner s.owner q)) → P H q
read_for_question c H q s lawful stands there P over =
    let read = rows_read c H (concerned q) s stands there in
    subst (P H) (question_itself q s.owner read.1) (over H lawful (ap (owner_known H) read.1 ∙ some_read c H (concerned q) s stands there) read.0)

pub checked_owner : (H : History) (o : Bytes) (X : Type 0) (r : PlantAnswer) → owner_known H o ≡ true → X → IsCheckedOr (verdict_of_checks (owner_checks H o)) X r
checked_owner H o X r known x = rw known x

-- ---- a batch

module _ (H : History) (o order : Bytes) (number : ℕ) where
  batch_on : Bytes → BatchRow
  batch_on unit = record { order = order; number = number; unit = unit; state = state_of (acts o H) order number; closed = is_closed (acts o H) order number }

  abbrev batch_checks : Option OrderRow → Option BatchRow → Checks
  batch_checks known row = (is_none known, Some UnknownOrder) ∷ (is_none row, Some UnknownBatch) ∷ []

  shown_or : (known : Option OrderRow) (unit : Option Bytes) (checks : Checks) (view : BatchView) → IsViewOver H o order number known (option_map batch_on unit) (Some view) → IsBatchShownOr H o known (option_map batch_on unit) (verdict_of_checks checks) (Shows (batch_text view.row view.lines.items))
  unfolding batch_on
  shown_or None None checks view is = absurd is
  shown_or None (Some unit) checks view is = absurd is
  shown_or (Some known) None checks view is = absurd is
  shown_or (Some known) (Some unit) checks view is = record { lines = view.lines.items; are_given = is.1; shown = ap (λ row. Shows (batch_text row view.lines.items)) is.0 }

  no_order : (known : Option OrderRow) (row : Option BatchRow) → is_some known ≡ false → IsBatchShownOr H o known row (verdict_of_checks (batch_checks known row)) (Judged (Refused UnknownOrder))
  no_order None row none = refl
  no_order (Some known) row none = absurd (false≢true (sym none))

  no_batch : (known : Option OrderRow) (row : Option BatchRow) → is_some known ≡ true → IsViewOver H o order number known row None → IsBatchShownOr H o known row (verdict_of_checks (batch_checks known row)) (Judged (Refused UnknownBatch))
  no_batch None row some is = absurd (false≢true some)
  no_batch (Some known) None some is = refl
  no_batch (Some known) (Some row) some is = absurd is

  module _ (known : owner_known H o ≡ true) where
    abbrev plant_view_over : Option BatchView → Type 0
    plant_view_over view = IsViewOver H o order number (order_of (acts o H) order) (batch_of (acts o H) (order, number)) view

    pub batch_shown : (view : BatchView) → plant_view_over (Some view) → IsPlantAnswer H (cmd.Batch o order number) (Shows (batch_text view.row view.lines.items))
    unfolding batch_on
    batch_shown view is = checked_owner H o _ _ known (shown_or (order_of (acts o H) order) (unit_of (acts o H) order number) (known_batch_checks (facts_given H o) order number) view is)

    pub order_unknown : is_some (order_of (acts o H) order) ≡ false → IsPlantAnswer H (cmd.Batch o order number) (Judged (Refused UnknownOrder))
    order_unknown none = checked_owner H o _ _ known (no_order (order_of (acts o H) order) (batch_of (acts o H) (order, number)) none)

    pub batch_unknown : is_some (order_of (acts o H) order) ≡ true → plant_view_over None → IsPlantAnswer H (cmd.Batch o order number) (Judged (Refused UnknownBatch))
    batch_unknown some is = checked_owner H o _ _ known (no_batch (order_of (acts o H) order) (batch_of (acts o H) (order, number)) some is)

-- ---- a lot

not_none_if_some : {X : Type 0} (x : Option X) → is_some x ≡ true → is_none x ≡ false
not_none_if_some None some = absurd (false≢true some)
not_none_if_some (Some x) some = refl

none_if_not : {X : Type 0} (x : Option X) → is_some x ≡ false → is_none x ≡ true
none_if_not None none = refl
none_if_not (Some x) none = absurd (false≢true (sym none))

pub checked_lot : (H : History) (lot : LotId) (X : Type 0) (r : PlantAnswer) → owner_known H lot.owner ≡ true → is_some (lot_row H lot.owner lot.lot) ≡ true → X → IsCheckedOr (verdict_of_checks (lot_checks H lot)) X r
checked_lot H lot X r known there x = rw (known, not_none_if_some (lot_row H lot.owner lot.lot) there) x

pub lot_unknown : (H : History) (lot : LotId) (X : Type 0) → owner_known H lot.owner ≡ true → is_some (lot_row H lot.owner lot.lot) ≡ false → IsCheckedOr (verdict_of_checks (lot_checks H lot)) X (Judged (Refused UnknownLot))
lot_unknown H lot X known none = rw (known, none_if_not (lot_row H lot.owner lot.lot) none) refl

pub owner_unknown : (H : History) (lot : LotId) (X : Type 0) → owner_known H lot.owner ≡ false → IsCheckedOr (verdict_of_checks (lot_checks H lot)) X (Judged (Refused UnknownOwner))
owner_unknown H lot X unknown = rw unknown refl

-- ---- a lot of an edge

-- an owner of whom there is an edge is known
pub edge_owner : (H : History) (o : Bytes) (e : Edge) → IsLawful H → IsOwnEdge (acts o H) e → owner_known H o ≡ true
edge_owner H o e lawful is =
    elim (owner_known H o) as (λ b. owner_known H o ≡ b → b ≡ true) [
      | true ↦ λ known. refl
      | false ↦ λ unknown. let never = subst (λ own. WasDone own is.consumption) (acts_of_unknown o H lawful unknown) is.consumption_stands in absurd (Contains-none (Record is.consumption) never.recorded)
    ] refl

pub end_owner : (H : History) (o : Bytes) (lot : LotId) (e : Edge) → IsLawful H → IsOwnEdge (acts o H) e → (e.from ≡ lot) ⊎ (e.to ≡ lot) → owner_known H lot.owner ≡ true
end_owner H o lot e lawful is (inr to) = subst (λ (l : LotId). owner_known H l.owner ≡ true) to (ap (owner_known H) (lots_owned H lawful o e is).0 ∙ edge_owner H o e lawful is)
end_owner H o lot e lawful is (inl from) = subst (λ (l : LotId). owner_known H l.owner ≡ true) from (elim (lots_owned H lawful o e is).1 [
  | inl own ↦ ap (owner_known H) own ∙ edge_owner H o e lawful is
  | inr house ↦ ap (owner_known H) house ∙ house_known H
])

-- ---- recalls

pub lot_refused : (H : History) (lot : LotId) (X : Type 0) → owner_known H lot.owner ≡ true → is_known_lot H lot ≡ false → IsCheckedOr (verdict_of_checks (lot_checks H lot)) X (Judged (Refused UnknownLot))
lot_refused H lot X known unknown = lot_unknown H lot X known (sym (ap (λ b. b && is_some (lot_row H lot.owner lot.lot)) known) ∙ unknown)

pub recall_answered : (H : History) (lot : LotId) (lines : List RecallLine) (text : Bytes) → is_known_lot H lot ≡ true → IsRecall H lot lines → text ≡ recall_text lines → IsPlantAnswer H (cmd.Recall lot) (Shows text)
recall_answered H lot lines text known is text_is =
    let so = both (owner_known H lot.owner) (is_some (lot_row H lot.owner lot.lot)) known in
    checked_lot H lot _ _ so.0 so.1 (record { lines = lines; recalled = is; shown = ap Shows text_is })
