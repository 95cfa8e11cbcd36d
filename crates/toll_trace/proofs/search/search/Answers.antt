use Rattle.std.proofs.Common.{◌≡◌, ◌+◌, ◌<◌, ◌++◌, [], ◌∷◌, List, length, map, ap, ◌∙◌, sym, subst, arith}
use Rattle.toll_trace.proofs.Common.{flat_map, nil_from_length, length-append, length-map, eqb-true, LotId, EdgeIndex, IsLevel, is_found, step_at, AreLedTo, LeadThrough, all_steps}
use Rattle.toll_trace.proofs.Levels.{IsReached, count_unfound, reached_start, reached_more, trace_done, fewer_unfound, some_lots}
use Rattle.toll_trace.proofs.Parts.{out_of_all}
use Rattle.toll_trace.proofs.Walks.{level_first, level_next}
use Rattle.toll_trace.proofs.search.search.Goals as goal

pub advance-requires : goal.advance-requires
advance-requires c = record { walked = λ part i. rw c.new-found.ensures.items (c.requires part i) }

pub levels-init : goal.levels-init
levels-init c =
    let all = all_steps c.args.parts.now.items in
    let start : c.advance.new.found.items ≡ step_at 0 c.args.from.now ∷ [] = c.in_ok-front.ensures.added ∙ ap (λ found. found ++ step_at 0 c.args.from.now ∷ []) c.new-found.ensures.items in
    let led = subst (λ found. AreLedTo (is_found found) (c.args.from.now ∷ []) c.advance.new.parts.items c.in_ok-front.front.items) start c.in_ok-front.ensures.led in
    record {
      all = c.in_ok-front.ensures.steps;
      reached = subst (λ found. IsReached (LeadThrough all) c.args.from.now found 0) (sym start) (reached_start _ _);
      level = subst (λ found. IsLevel (LeadThrough all) found c.in_ok-front.front.items) (sym start) (subst (λ all. IsLevel (LeadThrough all) (step_at 0 c.args.from.now ∷ []) c.in_ok-front.front.items) c.in_ok-front.ensures.steps (level_first c.advance.new.parts.items c.args.from.now c.in_ok-front.front.items led));
      walked = c.in_ok-front.ensures.led.walked;
      counted = omega (arith, ap length start);
    }

pub overflow_add-steps : goal.overflow_add-steps
overflow_add-steps c = let counted = c.levels.invariant.counted in let k = c.levels.found.ok in omega arith

pub returns : goal.returns
returns c =
    let all = all_steps c.args.parts.now.items in
    let none : c.levels.front.items ≡ [] = nil_from_length c.levels.front.items (let k = c.levels.front.ok in let z = eqb-true _ _ (sym c.is_empty.ensures ∙ c.levels-test.false) in omega arith) in
    trace_done _ _ _ c.levels.steps c.levels.invariant.reached (subst (λ lots. IsLevel (LeadThrough all) c.levels.found.items lots) none c.levels.invariant.level)

pub advance-requires-in-levels : goal.advance-requires-in-levels
advance-requires-in-levels c = record { walked = λ part i. rw c.deref.ensures.value (c.levels.invariant.walked part i) }

found_are : (c : goal.After-drop-front-in-levels) → c.advance-in-levels.new.found.items ≡ c.levels.found.items ++ map (step_at (c.levels.steps + 1)) c.levels.front.items
found_are c = c.in_ok-front-2.ensures.added ∙ ap (λ lots. c.levels.found.items ++ map (step_at (c.levels.steps + 1)) lots) c.deref.ensures.value

pub levels-smaller : goal.levels-smaller
levels-smaller c =
    let old = all_steps c.args.parts.now.items in
    let targets = flat_map (λ (one : List LotId × EdgeIndex). one.0) old in
    let less = subst (λ found. count_unfound found targets < count_unfound c.levels.found.items targets) (sym (found_are c))
    (fewer_unfound (LeadThrough old) c.levels.found.items (c.levels.steps + 1) c.levels.front.items targets c.levels.invariant.level (out_of_all old) (some_lots _ _ c.levels.front.ok.0 (sym c.is_empty.ensures ∙ c.levels-test.true))) in
    rw (c.in_ok-front-2.ensures.steps, c.levels.invariant.all) less

pub levels-preserved : goal.levels-preserved
levels-preserved c =
    let old = all_steps c.args.parts.now.items in
    let parts = c.advance-in-levels.new.parts.items in
    let front = c.in_ok-front-2.front.items in
    let all = c.in_ok-front-2.ensures.steps ∙ c.levels.invariant.all in
    let led = subst (λ last. AreLedTo (is_found c.advance-in-levels.new.found.items) last parts front) c.deref.ensures.value c.in_ok-front-2.ensures.led in
    let next = subst (λ found. AreLedTo (is_found found) c.levels.front.items parts front) (found_are c) led in
    record {
      all = all;
      reached = subst (λ found. IsReached (LeadThrough old) c.args.from.now found (c.levels.steps + 1)) (sym (found_are c)) (reached_more _ _ c.levels.found.items c.levels.steps c.levels.front.items c.levels.invariant.reached c.levels.invariant.level);
      level = subst (λ found. IsLevel (LeadThrough old) found front) (sym (found_are c)) (subst (λ all. IsLevel (LeadThrough all) (c.levels.found.items ++ map (step_at (c.levels.steps + 1)) c.levels.front.items) front) all (level_next parts c.levels.found.items c.levels.front.items (c.levels.steps + 1) front (subst (λ all. IsLevel (LeadThrough all) c.levels.found.items c.levels.front.items) (sym all) c.levels.invariant.level) next));
      walked = led.walked;
      counted = (let k = c.levels.invariant.counted in let some = some_lots _ _ c.levels.front.ok.0 (sym c.is_empty.ensures ∙ c.levels-test.true) in omega (arith, simp (length-append, length-map) at (ap length (found_are c))));
    }
