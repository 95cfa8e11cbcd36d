use Rattle.std.proofs.Common.{[], get_or, take, sym, subst, arith}
use Rattle.toll_trace.proofs.Common.{is_eq, nat_cmp, take_all, get_or_default, AreEntered, is_marked}
use Rattle.toll_trace.proofs.Members.{Contains-from_filter}
use Rattle.toll_trace.proofs.Walks.{entered_both, entries_more, entries_of, led_in_order}
use Rattle.toll_trace.proofs.search.led_on.Goals as goal

pub enter-requires-clause-numbers : goal.enter-requires-clause-numbers
enter-requires-clause-numbers c = rw c.deref.ensures.value c.requires.within

pub enter-requires-clause-within : goal.enter-requires-clause-within
enter-requires-clause-within c = λ entry i.
    rw c.deref.ensures.value
    (c.args.joints.now.within entry (Contains-from_filter (λ entry. is_eq (nat_cmp entry.0 (get_or c.args.front.now c.loop-number.number-index 0))) c.args.joints.now.sources entry (rw c.at.ensures at i)).0)

pub loop-number-preserved : goal.loop-number-preserved
loop-number-preserved c =
    let joints = c.args.joints.now in
    let front = c.args.front.now in
    let i = c.loop-number.number-index in
    let lt = c.loop-number-test.true in
    let n = get_or front i 0 in
    let entered = subst (λ targets. AreEntered targets (is_marked c.args.marks.now) c.at.result.now c.enter.new.lows c.loop-number.numbers.items c.enter.new.numbers.items) c.deref.ensures.value c.in_ok-enter.ensures in
    record {
      sized = (let sized = c.loop-number.invariant.sized in let kept = c.enter.auto.lows in omega arith);
      entered = rw (entries_more joints.sources c.at.result.now front i n lt (sym (get_or_default front i n 0 lt)) c.at.ensures)
          (entered_both joints.targets.items (is_marked c.args.marks.now) (entries_of joints.sources (take i front)) c.at.result.now c.loop-number.lows c.enter.new.lows [] c.loop-number.numbers.items c.enter.new.numbers.items c.loop-number.invariant.entered entered);
    }

pub returns-clause-led : goal.returns-clause-led
returns-clause-led c =
    led_in_order (is_marked c.args.marks.now) c.args.front.now c.args.joints.now.sources c.args.joints.now.targets.items c.loop-number.lows c.loop-number.numbers.items c.put_in_order.new.items.items
    (subst (λ front. AreEntered c.args.joints.now.targets.items (is_marked c.args.marks.now) (entries_of c.args.joints.now.sources front) c.loop-number.lows [] c.loop-number.numbers.items) (take_all c.loop-number.number-index c.args.front.now c.loop-number-test.false) c.loop-number.invariant.entered)
    c.put_in_order.ensures
