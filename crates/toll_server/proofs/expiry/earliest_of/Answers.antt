use Rattle.std.proofs.Common.{sym, Option, None, Some, arith, IfSome}
use Rattle.toll_server.proofs.Common.{IsEarliest}
use Rattle.toll_server.specs.declared.expiry.Earliest.{Earliest}
use Rattle.toll_server.proofs.ExpiryLemmas.{Found, found_all, left_out, passed, earliest_taken}
use Rattle.toll_server.proofs.expiry.earliest_of.Goals as goal

pub loop-key-preserved-in_default : goal.loop-key-preserved-in_default
loop-key-preserved-in_default g c = passed c.args.filter c.args.connections.now c.loop-key.key c.loop-key.first (sym c.in_default.ensures) c.loop-key.invariant

pub loop-key-preserved-then-not-includes : goal.loop-key-preserved-then-not-includes
loop-key-preserved-then-not-includes g c =
    left_out c.args.filter c.args.connections.now c.loop-key.key c.in-Some.connection.now c.loop-key.first (sym c.in-Some.ensures)
    (λ p. let yes = c.includes.ensures.includes.1 p.0 in absurd cc) c.loop-key.invariant

pub loop-key-preserved-then-not-is_before : goal.loop-key-preserved-then-not-is_before
loop-key-preserved-then-not-is_before g c =
    left_out c.args.filter c.args.connections.now c.loop-key.key c.in-Some.connection.now c.loop-key.first (sym c.in-Some.ensures)
    (λ p. let yes = c.is_before.ensures.1 p.1 in absurd cc) c.loop-key.invariant

pub loop-key-preserved : goal.loop-key-preserved
loop-key-preserved g c =
    earliest_taken c.args.filter c.args.connections.now c.loop-key.key c.in-Some.connection.now c.loop-key.first (sym c.in-Some.ensures)
    (c.includes.ensures.includes.0 cc) (c.is_before.ensures.0 cc) c.loop-key.invariant

pub returns-clause-found : goal.returns-clause-found
returns-clause-found g c = every c.loop-key.first c.loop-key.invariant where
  every : (first : Option Earliest) → Found c.args.filter c.args.connections.now c.loop-key.key first → IfSome first (λ f. IsEarliest c.args.filter c.args.connections.now f.key f.deadline)
  every None p = tt
  every (Some f) p = found_all c.args.filter c.args.connections.now c.loop-key.key f.key f.deadline (omega arith) p
