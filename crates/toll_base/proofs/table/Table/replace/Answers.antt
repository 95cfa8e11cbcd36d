use Rattle.std.proofs.Common.{◌∙◌, ap, sym, is_some}
use Rattle.toll_base.proofs.Common.{row_at, put_row}
use mathlib.Core.Bool.{false≢true}
use Rattle.toll_base.proofs.KeyOrder.{put_at, row_at_gap}
use Rattle.toll_base.proofs.table.Table.replace.Goals as goal

pub invariant_of-self : goal.invariant_of-self
invariant_of-self g c = rw c.set.ensures (put_at g.R.Key.Ord.cmp g.met.R.Key.Ord.total g.R.Keyed.key_of c.self.inside.rows c.args.row c.key.result c.in-Ok.at c.key.ensures c.self.invariant (rw c.self.view_is c.in-Ok.ensures.bound) (rw c.self.view_is c.in-Ok.ensures.place)).ordered

pub returns-in-Ok : goal.returns-in-Ok
returns-in-Ok g c =
    rw c.set.ensures ((put_at g.R.Key.Ord.cmp g.met.R.Key.Ord.total g.R.Keyed.key_of c.self.inside.rows c.args.row c.key.result c.in-Ok.at c.key.ensures c.self.invariant (rw c.self.view_is c.in-Ok.ensures.bound) (rw c.self.view_is c.in-Ok.ensures.place)).same
    ∙ ap (λ rows. put_row g.R.Key.Ord.cmp g.R.Keyed.key_of rows c.args.row) c.self.view_is)

-- the row is there, so the search does not end in a gap
pub returns-in_default : goal.returns-in_default
returns-in_default g c =
    let none = row_at_gap g.R.Key.Ord.cmp g.met.R.Key.Ord.total g.R.Keyed.key_of c.args.self.now c.key.result c.in_default.field-0 c.in_default.ensures.place in
    let there = ap (λ k. is_some (row_at g.R.Key.Ord.cmp g.R.Keyed.key_of c.args.self.now k)) c.key.ensures ∙ c.requires in
    absurd (false≢true (sym (ap is_some none) ∙ there))
