use Rattle.std.proofs.Common.{sym}
use Rattle.toll_programs.proofs.PieceLemmas.{one_piece, pieces_at_place}
use Rattle.toll_programs.proofs.cutting.cut.Goals as goal

pub returns-in-None-clause-pieces : goal.returns-in-None-clause-pieces
returns-in-None-clause-pieces c = one_piece c.args.at c.args.text.now (sym c.in-None.ensures)

pub returns-in-Some-clause-pieces : goal.returns-in-Some-clause-pieces
returns-in-Some-clause-pieces c = pieces_at_place c.args.at c.args.text.now c.in-Some.place (sym c.in-Some.ensures)
