-- The lines so far.
use Rattle.std.proofs.Common.{◌≡◌, take}
use Rattle.toll_answers.proofs.Common.{stock_text, shown_in, filter_map}
use Rattle.toll_answers.proofs.print.stock.text_in_slice.Given as goal

abbrev pub invariant-loop-row : goal.invariant-loop-row
invariant-loop-row l = l.text.items ≡ stock_text (filter_map (shown_in l.slice) (take l.row-index l.row-items))
