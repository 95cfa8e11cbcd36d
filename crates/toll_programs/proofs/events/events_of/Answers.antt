use Rattle.std.proofs.Common.{Option, rules, subst}
use Rattle.std.specs.Borrow.{Bor}
use Rattle.toll_base.specs.Bytes.{Bytes}
use Rattle.toll_programs.proofs.LineLemmas.{ReadSoFar, lines_left, line_done, lines_done}
use Rattle.toll_programs.proofs.events.events_of.Goals as goal

pub loop-rest-preserved : goal.loop-rest-preserved
loop-rest-preserved c =
    let read = subst (λ (rest : Option (Bor Bytes)). ReadSoFar c.args.text.now c.loop-rest.number c.loop-rest.events.items (lines_left rest)) c.in-Some.is
    c.loop-rest.invariant.read in
    record {
      counted = search rules;
      read = line_done c.args.text.now c.loop-rest.number c.loop-rest.events.items c.add_event.new.events.items c.in-Some.lines.now c.first_line.result.0.now
          c.first_line.result.1 read c.first_line.ensures.pieces c.in-Ok.ensures.ok;
    }

pub returns-clause-events : goal.returns-clause-events
returns-clause-events c = lines_done c.args.text.now c.loop-rest.number c.loop-rest.events.items c.loop-rest.rest c.loop-rest.invariant.read c.in_default.not-Some
