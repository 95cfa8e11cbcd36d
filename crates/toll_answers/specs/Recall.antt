-- Recalls: where a lot went, and what is left of it.
use Rattle.std.specs.Prelude.{◌≡◌, Option, Some, List, map}
use Rattle.std.specs.Option.{option_map}
use Rattle.toll_history.specs.Amounts.{on_hand, shipped}
use Rattle.toll_answers.specs.Common.{History, lot_row, LotId, Step, Forward, IsTrace}
use Rattle.toll_answers.specs.Edges.{IsPlantJoined}
use Rattle.toll_answers.specs.declared.genealogy.recall.RecallLine.{RecallLine}

-- the line of a step of the trace
abbrev pub recall_line_of : History → Step → Option RecallLine
recall_line_of H s =
    option_map (λ row. record { step = s; disposition = row.disposition; totals = record { on_hand = on_hand H s.lot; shipped = shipped H s.lot } }) (lot_row H s.lot.owner s.lot.lot)

-- the lots of the forward trace over all edges, each with what is on hand and was shipped of it
pub record IsRecall (H : History) (lot : LotId) (lines : List RecallLine) : Type 0 where
  pub traced : IsTrace (IsPlantJoined H Forward) lot (map (λ line. line.step) lines)
  pub each : map (λ line. Some line) lines ≡ map (λ line. recall_line_of H line.step) lines
