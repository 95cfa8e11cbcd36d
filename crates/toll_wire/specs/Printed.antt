-- Traces and recalls as the bytes that are replied and printed.
use Rattle.std.specs.Prelude.{◌≡◌, List, Contains}
use Rattle.toll_wire.specs.Common.{Bytes, LotId, Request, History, recall_line_text, recall_text, Way}
use Rattle.toll_answers.specs.Recall.{IsRecall}
use Rattle.toll_answers.specs.declared.genealogy.recall.RecallLine.{RecallLine}
use Rattle.toll_base.specs.declared.request.Request.TheVariants as request
use Rattle.toll_trace.specs.declared.way.Way.TheVariants as way

-- the request for an owner's trace this way
abbrev pub asks_trace : Way → Bytes → Request
asks_trace way.Back lot = request.Back lot
asks_trace way.Forward lot = request.Forward lot

-- the text is that of the recall, and this is its line of some lot of the owner
pub record PrintsLine (H : History) (lot : LotId) (o text line : Bytes) : Type 0 where
  pub lines : List RecallLine
  pub recalled : IsRecall H lot lines
  pub printed : text ≡ recall_text lines
  pub shown : RecallLine
  pub among : Contains lines shown
  pub own : shown.step.lot.owner ≡ o
  pub is : line ≡ recall_line_text shown
