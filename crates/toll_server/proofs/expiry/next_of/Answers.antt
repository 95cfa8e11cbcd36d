use Rattle.std.proofs.Common.{sym, Option, None, Some, arith, IfNone, IfSome}
use Rattle.toll_server.proofs.Common.{NobodyWaits, queue_in, IsNext}
use Rattle.toll_server.specs.declared.expiry.Next.{Next}
use Rattle.toll_server.proofs.ExpiryLemmas.{FoundNext, next_all, next_left_out, next_passed, next_taken, nobody_all}
use Rattle.toll_server.proofs.expiry.next_of.Goals as goal

pub loop-key-preserved-in_default : goal.loop-key-preserved-in_default
loop-key-preserved-in_default g c = next_passed c.args.connections.now c.loop-key.key c.loop-key.next (sym c.in_default.ensures) c.loop-key.invariant

pub loop-key-preserved-then-not-is_longer : goal.loop-key-preserved-then-not-is_longer
loop-key-preserved-then-not-is_longer g c =
    next_left_out c.args.connections.now c.loop-key.key c.in-Some.wait c.loop-key.next (sym c.in-Some.ensures)
    (λ p. let yes = c.is_longer.ensures.1 p in absurd cc) c.loop-key.invariant

pub loop-key-preserved : goal.loop-key-preserved
loop-key-preserved g c =
    next_taken c.args.connections.now c.loop-key.key c.in-Some.wait c.loop-key.next (sym c.in-Some.ensures)
    (c.is_longer.ensures.0 cc) c.loop-key.invariant

pub returns-clause-found : goal.returns-clause-found
returns-clause-found g c = every c.loop-key.next c.loop-key.invariant where
  every : (next : Option Next) → FoundNext c.args.connections.now c.loop-key.key next → IfSome next (λ n. IsNext (queue_in c.args.connections.now) n.key)
  every None p = tt
  every (Some n) p = next_all c.args.connections.now c.loop-key.key n (omega arith) p

pub returns-clause-none : goal.returns-clause-none
returns-clause-none g c = every c.loop-key.next c.loop-key.invariant where
  every : (next : Option Next) → FoundNext c.args.connections.now c.loop-key.key next → IfNone next (NobodyWaits c.args.connections.now)
  every None p = nobody_all c.args.connections.now c.loop-key.key (omega arith) p
  every (Some n) p = tt
