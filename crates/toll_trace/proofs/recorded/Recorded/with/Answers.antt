use Rattle.std.proofs.Common.{◌≡◌, ◌+◌, ◌++◌, map, length, ap, ◌∙◌, arith}
use Rattle.toll_trace.proofs.Common.{Consumed, Produced, placed_use, uses}
use Rattle.toll_trace.proofs.Recording.{all_numbered, recorded_more}
use Rattle.toll_trace.proofs.recorded.Recorded.with.Goals as goal
use Rattle.toll_trace.proofs.recorded.Recorded.with.Goals.{After-drop-branch-3}

consumed : (c : After-drop-branch-3) → c.add_placed.new.all.items ≡ c.args.self.consumptions.items ++ map (placed_use (c.len.result + c.len-2.result)) (uses Consumed c.args.slice.now)
consumed c = c.in_ok-add_placed.ensures ∙ ap (λ used. c.args.self.consumptions.items ++ map (placed_use (c.len.result + c.len-2.result)) used) (c.deref.ensures.value ∙ c.in_ok-uses.ensures.found)

produced : (c : After-drop-branch-3) → c.add_placed-2.new.all.items ≡ c.args.self.productions.items ++ map (placed_use (c.len.result + c.len-2.result)) (uses Produced c.args.slice.now)
produced c = c.in_ok-add_placed-2.ensures ∙ ap (λ used. c.args.self.productions.items ++ map (placed_use (c.len.result + c.len-2.result)) used) (c.deref-2.ensures.value ∙ c.in_ok-uses-2.ensures.found)

number_is : (c : After-drop-branch-3) → c.len.result + c.len-2.result ≡ length c.args.self.consumptions.items + length c.args.self.productions.items
number_is c = let l = c.len.ensures in let m = c.len-2.ensures in let p = c.args.self.consumptions.ok.0 in let q = c.args.self.productions.ok.0 in omega arith

pub invariant_of-result : goal.invariant_of-result
invariant_of-result c = record { numbered = rw (consumed c, produced c) (all_numbered c.args.self.consumptions.items c.args.self.productions.items (uses Consumed c.args.slice.now) (uses Produced c.args.slice.now) (c.len.result + c.len-2.result) (number_is c) c.args.self.numbered) }

pub returns : goal.returns
returns r = let c = (goal.at.returns r).After-drop-branch-3 in λ e. rw (consumed c, produced c) (recorded_more c.args.self.consumptions.items c.args.self.productions.items (c.len.result + c.len-2.result) c.args.slice.now (number_is c) c.args.self.numbered c.in_ok-uses.ensures.key_order e)
