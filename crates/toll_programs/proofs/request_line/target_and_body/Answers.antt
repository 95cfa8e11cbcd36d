use Rattle.std.proofs.Common.{sym}
use Rattle.std.proofs.lemmas.List.Splits.{join_with_byte-slice_split}
use Rattle.toll_programs.specs.Pieces.{pieces_at}
use Rattle.toll_programs.proofs.request_line.target_and_body.Goals as goal

pub returns-in-Some : goal.returns-in-Some
returns-in-Some c = (pieces_at 32 c.in-Some.body.now, c.in-Some.ensures.pieces, sym (join_with_byte-slice_split 32 c.in-Some.body.now))
