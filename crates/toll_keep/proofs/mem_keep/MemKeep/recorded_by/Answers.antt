use Rattle.std.proofs.Common.{◌↔◌, subst}
use Rattle.toll_keep.proofs.Common.{Draws, IsEdgeOfOne, content_of, take_all}
use Rattle.toll_keep.proofs.Learning.{drawn_none, drawn_more}
use Rattle.toll_keep.proofs.mem_keep.MemKeep.recorded_by.Goals as goal

pub loop-owner-init : goal.loop-owner-init
loop-owner-init c = drawn_none (content_of c.args.self.now) (Draws c.new-recorded.result) c.new-recorded.ensures

pub loop-owner-preserved : goal.loop-owner-preserved
loop-owner-preserved c = drawn_more (content_of c.args.self.now) c.args.owners.now c.loop-owner.owner-index c.owner-item.result (Draws c.loop-owner.recorded) (Draws c.in_ok-recorded.recorded) c.loop-owner-test.true c.owner-item.is c.loop-owner.invariant c.in_ok-recorded.ensures

pub returns : goal.returns
returns c = λ e. subst (λ owners. Draws c.loop-owner.recorded e ↔ IsEdgeOfOne (content_of c.args.self.now) owners e) (take_all c.loop-owner.owner-index c.args.owners.now c.loop-owner-test.false) (c.loop-owner.invariant e)
