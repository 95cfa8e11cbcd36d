use Rattle.std.proofs.Common.{◌≡◌, ◌∙◌, arith, Contains}
use Rattle.toll_trace.proofs.Common.{IsPermutation, LotId, with_items_is, HaveNumbers, ChainSegment, Back, Forward}
use Rattle.toll_trace.proofs.Recording.{exits_below, graph_drawn, joined_moved, leads_passes}
use Rattle.toll_trace.proofs.graph.Graph.of_recorded.Goals as goal

pub numbered-requires-clause-listed : goal.numbered-requires-clause-listed
numbered-requires-clause-listed c = λ u i. rw c.deref-3.ensures.value (c.in_ok-lots.ensures.used.consumed u (rw c.deref.ensures.value (rw c.deref-4.ensures.value at i)))

pub numbered-requires-2-clause-listed : goal.numbered-requires-2-clause-listed
numbered-requires-2-clause-listed c = λ u i. rw c.deref-5.ensures.value (c.in_ok-lots.ensures.used.produced u (rw c.deref-2.ensures.value (rw c.deref-6.ensures.value at i)))

pub invariant_of-result : goal.invariant_of-result
invariant_of-result c =
    let lots = c.in_ok-lots.lots.items in
    let ins : HaveNumbers lots c.args.recorded.consumptions.items c.in_ok-consumptions.consumptions.items = rw (← c.deref-3.ensures.value, ← c.deref-4.ensures.value) c.in_ok-consumptions.ensures in
    let outs : HaveNumbers lots c.args.recorded.productions.items c.in_ok-productions.productions.items = rw (← c.deref-5.ensures.value, ← c.deref-6.ensures.value) c.in_ok-productions.ensures in
    record {
      sorted = c.in_ok-lots.ensures.sorted;
      forward_within = exits_below lots c.args.recorded.productions.items c.in_ok-productions.productions.items c.in_ok-forward.forward.targets.items outs (rw (← c.deref_mut.ensures.value) c.in_ok-forward.ensures.targets);
      back_within = exits_below lots c.args.recorded.consumptions.items c.in_ok-consumptions.consumptions.items c.in_ok-back.back.targets.items ins (rw (← c.deref_mut-2.ensures.value) c.in_ok-back.ensures.targets);
    }

pub returns : goal.returns
returns c =
    let lots = c.in_ok-lots.lots.items in
    let consumptions = c.args.recorded.consumptions.items in
    let productions = c.args.recorded.productions.items in
    let consumed = c.in_ok-consumptions.consumptions.items in
    let produced = c.in_ok-productions.productions.items in
    let ins : HaveNumbers lots consumptions consumed = rw (← c.deref-3.ensures.value, ← c.deref-4.ensures.value) c.in_ok-consumptions.ensures in
    let outs : HaveNumbers lots productions produced = rw (← c.deref-5.ensures.value, ← c.deref-6.ensures.value) c.in_ok-productions.ensures in
    let ins_listed : (u : ChainSegment × LotId) → Contains consumptions u → Contains lots u.1 = rw (← c.deref.ensures.value) c.in_ok-lots.ensures.used.consumed in
    let outs_listed : (v : ChainSegment × LotId) → Contains productions v → Contains lots v.1 = rw (← c.deref-2.ensures.value) c.in_ok-lots.ensures.used.produced in
    let sorted : c.deref-8.result.now ≡ c.of_uses.new.leaving = c.deref-8.ensures.value ∙ with_items_is c.in_ok-productions.productions c.of_uses.new.leaving (omega arith) in
    let moved : IsPermutation produced c.deref-8.result.now = rw (sorted, ← c.deref_mut.ensures.value) c.in_ok-forward.ensures.moved in
    graph_drawn consumptions productions _
    (leads_passes Forward lots c.in_ok-forward.forward consumptions productions consumed produced ins outs ins_listed outs_listed (rw (← c.deref-7.ensures.value, ← c.deref_mut.ensures.value) c.in_ok-forward.ensures.joined))
    (leads_passes Back lots c.in_ok-back.back productions consumptions produced consumed outs ins outs_listed ins_listed (joined_moved Back c.in_ok-back.back produced c.deref-8.result.now consumed moved (rw (← c.deref_mut-2.ensures.value) c.in_ok-back.ensures.joined)))
