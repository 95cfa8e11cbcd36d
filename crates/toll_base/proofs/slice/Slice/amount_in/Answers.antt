use Rattle.std.proofs.Common.{sym, ◌∙◌}
use Rattle.toll_base.proofs.SliceFits.{amount_bound}
use Rattle.toll_base.proofs.slice.Slice.amount_in.Goals as goal

pub returns-in-Some-clause-bound : goal.returns-in-Some-clause-bound
returns-in-Some-clause-bound c = amount_bound c.args.self.now c.owner-owner.ensures.kept (c.args.lot.now, c.args.sublot.now) c.in-Some.row (sym c.sublot.ensures ∙ c.in-Some.is)
