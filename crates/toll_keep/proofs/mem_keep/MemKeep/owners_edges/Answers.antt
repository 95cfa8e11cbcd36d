use Rattle.std.proofs.Common.{IfOk, position, sym, ap, subst, ◌∙◌}
use Rattle.toll_keep.proofs.Common.{AreEdges, IsEdge}
use Rattle.toll_keep.specs.Slices.{is_slice_of, rows_in}
use Rattle.toll_keep.proofs.Slicing.{found_there, absent_there}
use Rattle.toll_keep.proofs.mem_keep.MemKeep.owners_edges.Goals as goal

pub returns-in-Some : goal.returns-in-Some
returns-in-Some c =
    subst (λ rows. IfOk c.edges_of.result (λ edges. AreEdges (IsEdge rows) edges.items))
    (c.index.ensures
    ∙ found_there c.self.inside.slices.items c.args.owner.now c.in-Some.at c.index.result.now (ap (position (is_slice_of c.args.owner.now)) (sym c.deref.ensures.value) ∙ sym c.in-Some.ensures)
    ∙ ap (λ k. rows_in k.slices c.args.owner.now) c.self.view_is)
    c.edges_of.ensures

pub returns-in-None : goal.returns-in-None
returns-in-None c =
    subst (λ rows. IfOk c.edges_of-in-None.result (λ edges. AreEdges (IsEdge rows) edges.items))
    (c.new.ensures
    ∙ sym (absent_there c.self.inside.slices.items c.args.owner.now (ap (position (is_slice_of c.args.owner.now)) (sym c.deref.ensures.value) ∙ sym c.in-None.ensures))
    ∙ ap (λ k. rows_in k.slices c.args.owner.now) c.self.view_is)
    c.edges_of-in-None.ensures
