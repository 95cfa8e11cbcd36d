use Rattle.std.proofs.Common.{◌∙◌, ap}
use Rattle.toll_base.proofs.Common.{put_row}
use Rattle.toll_base.proofs.KeyOrder.{put_at, put_in_gap}
use Rattle.toll_base.proofs.table.Table.put.Goals as goal

-- the row is written over the one with its key
pub invariant_of-self : goal.invariant_of-self
invariant_of-self g c = rw c.set.ensures (put_at g.R.Key.Ord.cmp g.met.R.Key.Ord.total g.R.Keyed.key_of c.self.inside.rows c.args.row c.key.result c.in-Ok.at c.key.ensures c.self.invariant (rw c.self.view_is c.in-Ok.ensures.bound) (rw c.self.view_is c.in-Ok.ensures.place)).ordered

pub returns-in-Ok-clause-ok : goal.returns-in-Ok-clause-ok
returns-in-Ok-clause-ok g c =
    rw c.set.ensures ((put_at g.R.Key.Ord.cmp g.met.R.Key.Ord.total g.R.Keyed.key_of c.self.inside.rows c.args.row c.key.result c.in-Ok.at c.key.ensures c.self.invariant (rw c.self.view_is c.in-Ok.ensures.bound) (rw c.self.view_is c.in-Ok.ensures.place)).same
    ∙ ap (λ rows. put_row g.R.Key.Ord.cmp g.R.Keyed.key_of rows c.args.row) c.self.view_is)

-- the row goes into the gap
pub invariant_of-self-in-Continue-1 : goal.invariant_of-self-in-Continue-1
invariant_of-self-in-Continue-1 g c = rw c.in_ok-insert-in-Err.ensures.ok (put_in_gap g.R.Key.Ord.cmp g.met.R.Key.Ord.total g.R.Keyed.key_of c.self.inside.rows c.args.row c.key.result c.in-Err.at c.key.ensures c.self.invariant (rw c.self.view_is c.in-Err.ensures.bound) (rw c.self.view_is c.in-Err.ensures.place)).ordered

pub returns-in_ok-insert-in-Err-clause-ok : goal.returns-in_ok-insert-in-Err-clause-ok
returns-in_ok-insert-in-Err-clause-ok g c =
    rw c.in_ok-insert-in-Err.ensures.ok ((put_in_gap g.R.Key.Ord.cmp g.met.R.Key.Ord.total g.R.Keyed.key_of c.self.inside.rows c.args.row c.key.result c.in-Err.at c.key.ensures c.self.invariant (rw c.self.view_is c.in-Err.ensures.bound) (rw c.self.view_is c.in-Err.ensures.place)).same
    ∙ ap (λ rows. put_row g.R.Key.Ord.cmp g.R.Keyed.key_of rows c.args.row) c.self.view_is)
