use Rattle.std.proofs.Common.{ap, subst, ◌∙◌}
use Rattle.toll_keep.proofs.Common.{AreGathered, IsOneEach}
use Rattle.toll_keep.proofs.AllOwners.{edges_of_some}
use Rattle.toll_keep.proofs.mem_keep.MemKeep.everyones_edges.Goals as goal

pub returns : goal.returns
returns c =
    edges_of_some c.args.self.now _ c.put_in_order.new.items.items (subst (λ k. IsOneEach k.slices) c.self.view_is c.self.invariant)
    (subst (λ slices. AreGathered slices c.in_ok-edges.edges.items) (c.deref.ensures.value ∙ ap (λ k. k.slices) c.self.view_is) c.in_ok-edges.ensures)
    c.put_in_order.ensures
