use Rattle.std.proofs.Common.{◌≡◌, ◌∙◌, ◌≤◌, ◌++◌, ◌↔◌, ℕ, Bool, false, IsTrue, List, length, take, drop, rules, arith, subst}
use Rattle.toll_protocol.proofs.Common.{IsSettled}
use Rattle.toll_protocol.proofs.Fronts.{search_more}
use Rattle.toll_protocol.proofs.ReadLemmas.{reads_once_more}
use Rattle.toll_protocol.proofs.StreamLemmas.{none_more_blocked, none_more_failed}
use Rattle.toll_protocol.proofs.Onward.{front_onward, gave_onward, read_onward, whole_onward}
use Rattle.toll_protocol.proofs.http_messages.request_reader.fill_on.Goals as goal

-- The bytes weren't settled yet, as the first bytes and those after them.
unsettled_onward : (start old : List ℕ) (begun m : ℕ) (is_settled : Bool) → begun ≤ m → take begun old ≡ take begun start → is_settled ≡ false
    → IsTrue is_settled ↔ IsSettled (take m old) → ¬ (IsSettled (take begun start ++ drop begun (take m old)))
unsettled_onward start old begun m is_settled le same unready is settled =
    let yes : IsTrue is_settled = is.1 (subst IsSettled (whole_onward start old begun m le same) settled) in absurd (cc yes)

pub loop-reader-preserved : goal.loop-reader-preserved
loop-reader-preserved g c =
    let at = c.loop-reader in
    let old = at.text in
    let new = c.read_behind.new.buffer in
    let same = c.read_behind.ensures.front in
    let within : at.filled ≤ length old = omega (arith, at.invariant.filled.size, at.invariant.filled.within) in
    let unready = unsettled_onward c.args.text.now old c.args.begun at.filled _ at.invariant.begun at.invariant.front c.loop-reader-test.true c.search_on.ensures.settled in
    record {
      filled = record {
        size = search rules;
        within = search rules;
        searched = search_more old new at.filled c.in-Ok.n c.search_on.new.self same c.search_on.ensures.search;
      };
      begun = omega arith;
      front = front_onward c.args.text.now old new c.args.begun at.filled at.invariant.begun at.invariant.front same;
      given = read_onward _ _ _ old new c.args.begun at.filled c.in-Ok.n at.invariant.begun within same at.invariant.given c.in-Ok.ensures.given;
      only = gave_onward _ _ _ _ old new c.args.begun at.filled c.in-Ok.n (omega arith) c.in-Ok.ensures.fits at.invariant.begun within same at.invariant.only unready c.in-Ok.ensures.one_read;
      sound = none_more_failed _ _ _ at.invariant.sound c.in-Ok.ensures.failures;
      unblocked = none_more_blocked _ _ _ at.invariant.unblocked c.in-Ok.ensures.blocked;
      write_side = c.read_behind.ensures.write_side ∙ at.invariant.write_side;
    }

pub returns-in-Ok-eq0-clause-no_further : goal.returns-in-Ok-eq0-clause-no_further
returns-in-Ok-eq0-clause-no_further g c =
    let at = c.loop-reader in
    let unready = unsettled_onward c.args.text.now at.text c.args.begun at.filled _ at.invariant.begun at.invariant.front c.loop-reader-test.true c.search_on.ensures.settled in
    reads_once_more _ _ _ _ _ _ at.invariant.only unready c.in-Ok-eq0.ensures.one_read

pub returns-in-Err-clause-no_further : goal.returns-in-Err-clause-no_further
returns-in-Err-clause-no_further g c =
    let at = c.loop-reader in
    let unready = unsettled_onward c.args.text.now at.text c.args.begun at.filled _ at.invariant.begun at.invariant.front c.loop-reader-test.true c.search_on.ensures.settled in
    reads_once_more _ _ _ _ _ _ at.invariant.only unready c.in-Err.ensures.one_read
