use Rattle.std.proofs.Common.{◌≡◌, ◌+◌, length, arith}
use Rattle.toll_trace.proofs.Parts.{new_part}
use Rattle.toll_trace.proofs.search.Part.of.Goals as goal

pub returns-clause-walked : goal.returns-clause-walked
returns-clause-walked c =
    let sized : length c.in_ok-lows.lows.items ≡ length c.args.joints.now.targets.items + 1 = (let n = c.in_ok-lows.ensures.length in let l = c.len.ensures in let k = c.args.joints.now.targets.ok in omega arith) in
    new_part _ c.args.from.now c.requires.sorted c.requires.within (c.in_ok-marks.ensures.items_if_clones_equal (λ y same. same)) sized
    (λ end lt. c.in_ok-lows.ensures.lows end (let l = c.len.ensures in let k = c.args.joints.now.targets.ok in omega arith)) c.in_ok-add_numbers.ensures
