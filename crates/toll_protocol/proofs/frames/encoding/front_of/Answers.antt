use Rattle.std.proofs.Common.{◌≤◌, ◌∙◌, length, drop, sym, arith}
use Rattle.toll_protocol.proofs.Common.{take_rest}
use Rattle.std.proofs.lemmas.Grind.{common_steps}
use Rattle.toll_protocol.proofs.FrameLemmas.{claimed_frame}
use Rattle.toll_protocol.proofs.frames.encoding.front_of.Goals as goal

pub returns-clause-found : goal.returns-clause-found
returns-clause-found c =
    let within : c.in_ok-len.len ≤ length (drop 4 c.args.text.now) = grind (arith, common_steps) in
    let whole = claimed_frame c.args.text.now c.in_ok-len.len (λ i. omega (arith, c.type_inv.text i)) (sym c.claimed.ensures ∙ c.in_ok-len.was) within in
    (rw (c.split_at.ensures.front, c.split_at.ensures.back, take_rest c.args.text.now 4) whole, grind (arith, common_steps))
