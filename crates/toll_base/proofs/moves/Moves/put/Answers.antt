use Rattle.std.proofs.Common.{◌∙◌}
use Rattle.toll_base.proofs.ActualCountLemmas.{has_known, few_counted, counts_after}
use Rattle.toll_base.proofs.moves.Moves.put.Goals as goal

pub recount-requires-clause-known : goal.recount-requires-clause-known
recount-requires-clause-known c =
    has_known c.self.inside.rows c.add_row.new.counts (λ o n. c.add_row.ensures.same o n ∙ c.self.invariant o n) c.args.row.key c.in_ok-known.known c.in_ok-known.ensures.known

pub recount-requires-clause-room : goal.recount-requires-clause-room
recount-requires-clause-room c =
    few_counted c.self.inside.rows c.add_row.new.counts (λ o n. c.add_row.ensures.same o n ∙ c.self.invariant o n) (rw c.self.view_is c.requires)

pub invariant_of-self-2 : goal.invariant_of-self-2
invariant_of-self-2 c =
    rw c.in_ok-known.ensures.ok (counts_after c.self.inside.rows c.add_row.new.counts (λ o n. c.add_row.ensures.same o n ∙ c.self.invariant o n) c.args.row c.recount.new.counts (λ o n. rw (← c.in_ok-known.ensures.known) (c.recount.ensures o n)))
