use Rattle.std.proofs.Common.{ℕ, ◌<◌, ◌≤◌, length, get_or, take, arith, rules}
use Rattle.toll_trace.proofs.Common.{take_more, Contains-get_or, Span, is_marked}
use Rattle.toll_trace.proofs.Walks.{entered_again, entered_more, range_below}
use Rattle.toll_trace.proofs.search.enter.Goals as goal
use Rattle.toll_trace.proofs.search.enter.Goals.{then-span-low+in_ok-add_new, else-span-low}

pub bounds-lows-span : goal.bounds-lows-span
bounds-lows-span c = let within = c.requires.within (get_or c.args.sources.now c.loop-span.span-index (0, record { start = 0; end = 0 })) (Contains-get_or c.args.sources.now c.loop-span.span-index (0, record { start = 0; end = 0 }) c.loop-span-test.true) in omega arith

pub offset_bounds-lows-span : goal.offset_bounds-lows-span
offset_bounds-lows-span c = let within = c.requires.within (get_or c.args.sources.now c.loop-span.span-index (0, record { start = 0; end = 0 })) (Contains-get_or c.args.sources.now c.loop-span.span-index (0, record { start = 0; end = 0 }) c.loop-span-test.true) in let lt : (get_or c.args.sources.now c.loop-span.span-index (0, record { start = 0; end = 0 })).1.end < length c.loop-span.lows = omega arith in search rules

pub add_new-requires : goal.add_new-requires
add_new-requires c = range_below (length c.args.marks.now) c.args.targets.now _ _ c.requires.numbers

pub loop-span-preserved : goal.loop-span-preserved
loop-span-preserved c =
    let entry : ℕ × Span = get_or c.args.sources.now c.loop-span.span-index (0, record { start = 0; end = 0 }) in
    let within : entry.1.end ≤ length c.args.targets.now = c.requires.within entry (Contains-get_or c.args.sources.now c.loop-span.span-index (0, record { start = 0; end = 0 }) c.loop-span-test.true) in
    let grown = take_more c.args.sources.now c.loop-span.span-index (0, record { start = 0; end = 0 }) c.loop-span-test.true in
    elim c.if-span-low.branch [
      | then-span-low+in_ok-add_new w ↦
          rw (grown, w.lows-is, w.numbers-is, w.in_ok-add_new.ensures)
          (entered_more c.args.targets.now (is_marked c.args.marks.now) (take c.loop-span.span-index c.args.sources.now) entry c.loop-span.lows c.args.numbers.now.items c.loop-span.numbers.items within (omega arith) w.if-span-low.true c.loop-span.invariant)
      | else-span-low w ↦
          rw (grown, w.lows-is, w.numbers-is)
          (entered_again c.args.targets.now (is_marked c.args.marks.now) (take c.loop-span.span-index c.args.sources.now) entry c.loop-span.lows c.args.numbers.now.items c.loop-span.numbers.items within w.if-span-low.false c.loop-span.invariant)
    ]
