use Rattle.std.proofs.Common.{◌≡◌, ◌+◌, ◌<◌, ◌++◌, [], length, map, ap, ◌∙◌, sym, subst, arith}
use Rattle.toll_trace.proofs.Common.{nil_from_length, length-append, length-map, eqb-true, IsJoined, step_ends, IsTrace, IsLevel, step_at}
use Rattle.toll_trace.proofs.Levels.{IsReached, count_unfound, reached_start, reached_more, trace_done, fewer_unfound, some_lots}
use Rattle.toll_trace.proofs.Rounds.{targets_all}
use Rattle.toll_trace.proofs.plain.plain_trace.Goals as goal

pub rounds-init : goal.rounds-init
rounds-init c = record {
  reached = subst (λ found. IsReached (IsJoined c.args.edges.now c.args.way) c.args.from.now found 0) (sym c.in_ok-found.ensures.start) (reached_start _ _);
  level = c.in_ok-lots.ensures;
  counted = omega (arith, ap length c.in_ok-found.ensures.start);
  fits = c.in_ok-found.ensures.fits;
}

pub overflow_add-steps : goal.overflow_add-steps
overflow_add-steps c = let counted = c.rounds.invariant.counted in let fits = c.rounds.invariant.fits in omega arith

pub returns : goal.returns
returns c =
    let none : c.rounds.lots.items ≡ [] = nil_from_length c.rounds.lots.items (let k = c.rounds.lots.ok in let z = eqb-true _ _ (sym c.is_empty.ensures ∙ c.rounds-test.false) in omega arith) in
    subst (λ trace. IsTrace (IsJoined c.args.edges.now c.args.way) c.args.from.now trace) (sym c.into_steps.ensures)
    (trace_done _ _ _ c.rounds.steps c.rounds.invariant.reached (subst (λ lots. IsLevel (IsJoined c.args.edges.now c.args.way) c.rounds.found lots) none c.rounds.invariant.level))

found_are : (c : goal.After-drop-lots-in-rounds) → c.add.new.self ≡ c.rounds.found ++ map (step_at (c.rounds.steps + 1)) c.rounds.lots.items
found_are c = c.in_ok-add.ensures.added ∙ ap (λ lots. c.rounds.found ++ map (step_at (c.rounds.steps + 1)) lots) c.deref.ensures.value

pub rounds-smaller : goal.rounds-smaller
rounds-smaller c =
    subst (λ found. count_unfound found (map (λ e. (step_ends c.args.way e).1) c.args.edges.now) < count_unfound c.rounds.found (map (λ e. (step_ends c.args.way e).1) c.args.edges.now)) (sym (found_are c))
    (fewer_unfound (IsJoined c.args.edges.now c.args.way) c.rounds.found (c.rounds.steps + 1) c.rounds.lots.items _ c.rounds.invariant.level (targets_all c.args.edges.now c.args.way) (some_lots _ _ c.rounds.lots.ok.0 (sym c.is_empty.ensures ∙ c.rounds-test.true)))

pub rounds-preserved : goal.rounds-preserved
rounds-preserved c = record {
  reached = subst (λ found. IsReached (IsJoined c.args.edges.now c.args.way) c.args.from.now found (c.rounds.steps + 1)) (sym (found_are c)) (reached_more _ _ c.rounds.found c.rounds.steps c.rounds.lots.items c.rounds.invariant.reached c.rounds.invariant.level);
  level = c.in_ok-lots-2.ensures;
  counted = (let k = c.rounds.invariant.counted in let some = some_lots _ _ c.rounds.lots.ok.0 (sym c.is_empty.ensures ∙ c.rounds-test.true) in omega (arith, simp (length-append, length-map) at (ap length (found_are c))));
  fits = c.in_ok-add.ensures.fits;
}
