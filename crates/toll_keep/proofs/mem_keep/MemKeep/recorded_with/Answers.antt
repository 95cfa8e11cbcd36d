use Rattle.std.proofs.Common.{◌↔◌, position, sym, ap, subst, ◌∙◌, IfOk, ◌⊎◌}
use Rattle.toll_keep.proofs.Common.{Edge, Draws, is_slice_of, rows_in, IsEdge}
use Rattle.toll_keep.proofs.Slicing.{found_there, absent_there}
use Rattle.toll_keep.proofs.mem_keep.MemKeep.recorded_with.Goals as goal

pub returns-in-Some : goal.returns-in-Some
returns-in-Some c =
    subst (λ rows. IfOk c.with.result (λ all. (e : Edge) → Draws all e ↔ (Draws c.args.recorded e ⊎ IsEdge rows e)))
    (c.index.ensures
    ∙ found_there c.self.inside.slices.items c.args.owner.now c.in-Some.at c.index.result.now (ap (position (is_slice_of c.args.owner.now)) (sym c.deref.ensures.value) ∙ sym c.in-Some.ensures)
    ∙ ap (λ k. rows_in k.slices c.args.owner.now) c.self.view_is)
    c.with.ensures

pub returns-in-None : goal.returns-in-None
returns-in-None c =
    subst (λ rows. IfOk c.with-in-None.result (λ all. (e : Edge) → Draws all e ↔ (Draws c.args.recorded e ⊎ IsEdge rows e)))
    (c.new.ensures
    ∙ sym (absent_there c.self.inside.slices.items c.args.owner.now (ap (position (is_slice_of c.args.owner.now)) (sym c.deref.ensures.value) ∙ sym c.in-None.ensures))
    ∙ ap (λ k. rows_in k.slices c.args.owner.now) c.self.view_is)
    c.with-in-None.ensures
