-- The events so far were answered, one after another, and there is room for the others.
use Rattle.std.proofs.Common.{◌≡◌, ◌≤◌, List, length, take, vec_len, vec_capacity}
use Rattle.toll_wire.proofs.Common.{AreServed, Bytes, IsRun}
use Rattle.toll_wire.proofs.OwnRuns.{IsAnsweredIfRequest}
use Rattle.toll_wire.proofs.run.run_events.Given as goal

abbrev pub invariant-loop-event : goal.invariant-loop-event
invariant-loop-event g l =
    let K = g.K.Keep in
    record {
      count : vec_len l.answers ≡ l.event-index;
      room : length l.events ≤ vec_capacity l.answers;
      served : AreServed K.meaning l.fn.keep (take l.event-index l.events) l.answers.items l.keep;
      requests : (os : List Bytes) → IsRun (IsAnsweredIfRequest os K.meaning K.part) l.fn.keep (take l.event-index l.events) l.answers.items l.keep;
    }
