use Rattle.std.proofs.Common.{◌≡◌, false, sym, subst, ◌∙◌}
use Rattle.toll_keep.proofs.Common.{content_after, AreFor, AreOf, AreCachedRows, is_addition, list_any}
use Rattle.toll_keep.proofs.RememberedLemmas.{all_after, all_after_for, owners_stay, slices_stay, units_stay}
use Rattle.toll_keep.proofs.DrawnStay.{graphs_left, graphs_left_for, graphs_still_for}
use Rattle.toll_keep.proofs.cache.Cache.follow.Goals as goal

pub returns-then-has_addition-clause-all : goal.returns-then-has_addition-clause-all
returns-then-has_addition-clause-all c = λ content of.
    let changes = c.args.changes.now in record {
      slices = subst (AreOf (content_after changes content)) (sym c.in_ok-follow_all.ensures) (all_after changes content c.args.self.now.slices.items of.slices);
      owners = tt;
      units = tt;
      graphs = rw c.forget_drawn.ensures (graphs_left changes content _ c.args.self.now.graphs.items (rw c.deref.ensures.value of.slices) of.graphs);
    }

pub returns-then-has_addition-clause-alone : goal.returns-then-has_addition-clause-alone
returns-then-has_addition-clause-alone c = λ os content of.
    let changes = c.args.changes.now in record {
      slices = subst (AreFor os (content_after changes content)) (sym c.in_ok-follow_all.ensures) (all_after_for os changes content c.args.self.now.slices.items of.slices);
      owners = tt;
      units = tt;
      graphs = rw c.forget_drawn.ensures (graphs_left_for os changes content _ c.args.self.now.graphs.items (rw c.deref.ensures.value of.slices) of.graphs);
    }

pub returns-then-has_addition-clause-others : goal.returns-then-has_addition-clause-others
returns-then-has_addition-clause-others c = λ os content outside of.
    let changes = c.args.changes.now in record {
      slices = subst (AreFor os content) (sym c.in_ok-follow_all.ensures) (slices_stay os changes content c.args.self.now.slices.items outside of.slices);
      owners = tt;
      units = tt;
      graphs = rw c.forget_drawn.ensures (graphs_still_for os changes content _ c.args.self.now.graphs.items of.graphs);
    }

pub returns-else-has_addition-clause-all : goal.returns-else-has_addition-clause-all
returns-else-has_addition-clause-all c = λ content of.
    let changes = c.args.changes.now in
    let old = c.args.self.now in
    let none : list_any is_addition changes ≡ false = sym c.has_addition.ensures ∙ c.if-has_addition.false in record {
      slices = subst (AreOf (content_after changes content)) (sym c.in_ok-follow_all.ensures) (all_after changes content old.slices.items of.slices);
      owners = subst (λ rows. AreCachedRows rows old.owners) (sym (owners_stay changes content.owners none)) of.owners;
      units = subst (λ rows. AreCachedRows rows old.units) (sym (units_stay changes content.units none)) of.units;
      graphs = rw c.forget_drawn.ensures (graphs_left changes content _ old.graphs.items (rw c.deref.ensures.value of.slices) of.graphs);
    }

pub returns-else-has_addition-clause-alone : goal.returns-else-has_addition-clause-alone
returns-else-has_addition-clause-alone c = λ os content of.
    let changes = c.args.changes.now in
    let old = c.args.self.now in
    let none : list_any is_addition changes ≡ false = sym c.has_addition.ensures ∙ c.if-has_addition.false in record {
      slices = subst (AreFor os (content_after changes content)) (sym c.in_ok-follow_all.ensures) (all_after_for os changes content old.slices.items of.slices);
      owners = subst (λ rows. AreCachedRows rows old.owners) (sym (owners_stay changes content.owners none)) of.owners;
      units = subst (λ rows. AreCachedRows rows old.units) (sym (units_stay changes content.units none)) of.units;
      graphs = rw c.forget_drawn.ensures (graphs_left_for os changes content _ old.graphs.items (rw c.deref.ensures.value of.slices) of.graphs);
    }

pub returns-else-has_addition-clause-others : goal.returns-else-has_addition-clause-others
returns-else-has_addition-clause-others c = λ os content outside of.
    let changes = c.args.changes.now in
    let old = c.args.self.now in record {
      slices = subst (AreFor os content) (sym c.in_ok-follow_all.ensures) (slices_stay os changes content old.slices.items outside of.slices);
      owners = of.owners;
      units = of.units;
      graphs = rw c.forget_drawn.ensures (graphs_still_for os changes content _ old.graphs.items of.graphs);
    }
