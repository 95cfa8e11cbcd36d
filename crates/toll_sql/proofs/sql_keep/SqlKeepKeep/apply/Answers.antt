use Rattle.std.proofs.Common.{rules, List}
use Rattle.toll_sql.proofs.Common.{state, Bytes, Content, Holds, HoldsFor, content_after}
use Rattle.toll_sql.proofs.HoldsAfter.{held_all, held_still, holds_all}
use Rattle.toll_sql.proofs.KeepLemmas.{Applied, BecomesAfter, applied, made_held, unapplied, unchanged}
use Rattle.toll_sql.proofs.PassLemmas.{IsMadeOrRefused}
use Rattle.toll_sql.proofs.sql_keep.SqlKeepKeep.apply.Goals as goal

pub returns-in_err-begin : goal.returns-in_err-begin
returns-in_err-begin g c =
    let changes = c.args.changes.now in
    let it = unapplied g.S.Store Holds (content_after changes) {r = c.from_residual.result} (λ k live db may. g.met.S.Store.settled k.conn.store db live.is_open may) c.in_err-begin.ensures.reading (search rules) in
    record {
      goes = it.goes;
      all = λ clean c held _. it.all clean c held;
      none = it.none;
      spared = it.spared;
      whole = it.whole;
      crash = λ clean live c held _. it.crash clean live c held;
      alone = λ os. made_held g.S.Store (HoldsFor os) changes (unapplied g.S.Store (HoldsFor os) (content_after changes) {r = c.from_residual.result} (λ k live db may. g.met.S.Store.settled k.conn.store db live.is_open may) (c.in_err-begin.ensures.apart os) (search rules));
      others = λ os outside. unchanged g.S.Store (HoldsFor os) (unapplied g.S.Store (HoldsFor os) (λ c. c) {r = c.from_residual.result} (λ k live db may. g.met.S.Store.settled k.conn.store db live.is_open may) (c.in_err-begin.ensures.apart os) (search rules));
    }

pub returns : goal.returns
returns g c =
    let changes = c.args.changes.now in
    let made = c.make_changes-made.ensures in
    let is_made : IsMadeOrRefused changes (state g.S.Store c.begin.new.self.conn) (state g.S.Store c.make_changes-made.new.conn) c.make_changes-made.result = record { survives = made.crash; live = made.live; shown = made.shown; cause = made.cause; unclosed = made.unclosed; whole = made.whole; all = made.all; none = λ _ _. made.none } in
    let it = applied g.S.Store Holds c.args.self.now c.begin.new.self c.pass_on.new.self c.in_ok-begin.ensures.reading changes (content_after changes) (λ c old new held put. holds_all changes c old new held put) (λ k live db may. g.met.S.Store.settled k.conn.store db live.is_open may) c.pass_on.ensures.same c.pass_on.ensures.requested c.pass_on.ensures.closed is_made in
    let part : (os : List Bytes) (becomes : Content → Content) → BecomesAfter (HoldsFor os) changes becomes → Applied g.S.Store (HoldsFor os) becomes c.args.self.now c.pass_on.new.self c.pass_on.result = λ os becomes after.
    applied g.S.Store (HoldsFor os) c.args.self.now c.begin.new.self c.pass_on.new.self (c.in_ok-begin.ensures.apart os) changes becomes after (λ k live db may. g.met.S.Store.settled k.conn.store db live.is_open may) c.pass_on.ensures.same c.pass_on.ensures.requested c.pass_on.ensures.closed is_made in
    record {
      goes = it.goes;
      all = λ clean c held _. it.all clean c held;
      none = it.none;
      spared = it.spared;
      whole = it.whole;
      crash = λ clean live c held _. it.crash clean live c held;
      alone = λ os. made_held g.S.Store (HoldsFor os) changes (part os (content_after changes) (held_all os changes));
      others = λ os outside. unchanged g.S.Store (HoldsFor os) (part os (λ c. c) (held_still os changes outside));
    }
