use Rattle.std.proofs.Common.{◌≡◌, ◌↔◌, ◌⊎◌, rules, Contains, Err, IfOk, sym, subst}
use Rattle.toll_sql.proofs.Common.{sql_meaning, sql_part, Draws, IsReading, reads_then, read_ok, read_fault, read_memory, IsEdge, Memory}
use Rattle.std.proofs.lemmas.List.{take_all}
use Rattle.toll_keep.specs.Holding.{DrawsFor, IsEdgeOfOne}
use Rattle.toll_keep.specs.HeldFor.{KeepsHeld}
use Rattle.toll_sql.specs.HeldFor.{LearnsOneMore}
use Rattle.toll_trace.specs.declared.recorded.Recorded.{Recorded}
use Rattle.toll_sql.proofs.Keeping.{LearntSoFar, kept_as, kept_fault, kept_memory, kept_then, learnt_all, learnt_more, learnt_none}
use Rattle.toll_keep.proofs.Learning.{drawn_none, drawn_more}
use Rattle.toll_sql.proofs.sql_keep.SqlKeep.recorded.Goals as goal

pub loop-owner-init : goal.loop-owner-init
loop-owner-init g c = record {
  read = λ first have. have;
  kept = λ honest. (honest, λ content held. held);
  reported = λ honest content held. drawn_none content (Draws c.new-recorded.result) c.new-recorded.ensures;
  alone = λ os among. learnt_none (sql_part g.S.Store os) (Draws c.new-recorded.result) c.new-recorded.ensures c.args.self.now;
  others = λ os first kept. kept;
}

pub returns-in_err-slice-clause-reads : goal.returns-in_err-slice-clause-reads
returns-in_err-slice-clause-reads g c = λ first have.
    let m = sql_meaning g.S.Store in
    let e = c.in_err-slice.field-0.0 in
    let r = c.in_err-slice.ensures.reading in
    let is : c.from_residual.result ≡ Err e = search rules in
    subst (λ reported. IsReading m first c.rows_of.new.self reported) (sym is) (reads_then m first c.loop-owner.self c.rows_of.new.self tt (Err e) (c.loop-owner.invariant.read first have) (read_fault m c.loop-owner.self c.rows_of.new.self e r.goes r.keeps r.whole))

pub returns-in_err-slice-clause-kept : goal.returns-in_err-slice-clause-kept
returns-in_err-slice-clause-kept g c = λ honest.
    let r = c.rows_of.ensures.reading in let before = c.loop-owner.invariant.kept (r.goes.honest honest) in
    (before.0, λ content held. (r.keeps honest).content content (before.1 content held))

pub returns-in_err-recorded-clause-reads : goal.returns-in_err-recorded-clause-reads
returns-in_err-recorded-clause-reads g c = λ first have.
    let m = sql_meaning g.S.Store in
    let r = c.in_ok-slice.ensures.reading in
    let now = reads_then m first c.loop-owner.self c.rows_of.new.self tt _ (c.loop-owner.invariant.read first have) r in
    let is : c.from_residual-in_err-recorded.result ≡ Err Memory = search rules in
    subst (λ reported. IsReading m first c.rows_of.new.self reported) (sym is) (read_memory m first c.rows_of.new.self c.in_ok-slice.slice now.goes now.keeps)

pub returns-in_err-recorded-clause-kept : goal.returns-in_err-recorded-clause-kept
returns-in_err-recorded-clause-kept g c = λ honest.
    let r = c.rows_of.ensures.reading in let before = c.loop-owner.invariant.kept (r.goes.honest honest) in
    (before.0, λ content held. (r.keeps honest).content content (before.1 content held))

pub loop-owner-preserved : goal.loop-owner-preserved
loop-owner-preserved g c =
    let m = sql_meaning g.S.Store in
    let before = c.loop-owner.invariant in
    let r = c.in_ok-slice.ensures.reading in
    record {
      read = λ first have. let now = reads_then m first c.loop-owner.self c.rows_of.new.self tt _ (before.read first have) r in read_ok m first c.rows_of.new.self c.in_ok-slice.slice tt now.goes now.keeps;
      kept = λ honest. let earlier = before.kept (r.goes.honest honest) in (earlier.0, λ content held. (r.keeps honest).content content (earlier.1 content held));
      reported = λ honest content held.
          let was = r.goes.honest honest in
          let rows = c.in_ok-slice.ensures.reads honest content ((before.kept was).1 content held) in
          drawn_more content c.args.owners.now c.loop-owner.owner-index c.owner-item.result (Draws c.loop-owner.recorded) (Draws c.in_ok-recorded.recorded) c.loop-owner-test.true c.owner-item.is (before.reported was content held)
          (λ e. subst (λ s. Draws c.in_ok-recorded.recorded e ↔ (Draws c.loop-owner.recorded e ⊎ IsEdge s e)) rows (c.in_ok-recorded.ensures e));
      alone = λ os among.
          let own : Contains os c.owner-item.result = among c.owner-item.result (c.loop-owner.owner-index, c.loop-owner-test.true, sym c.owner-item.is) in
          learnt_more (sql_part g.S.Store os) c.args.owners.now c.loop-owner.owner-index c.owner-item.result (Draws c.loop-owner.recorded) (Draws c.in_ok-recorded.recorded) c.args.self.now c.loop-owner.self c.rows_of.new.self c.in_ok-slice.slice c.loop-owner-test.true c.owner-item.is (before.alone os among) (c.in_ok-slice.ensures.alone os own) c.in_ok-recorded.ensures;
      others = λ os first kept. let k = sql_part g.S.Store os in kept_as k first c.rows_of.new.self c.in_ok-slice.slice tt (kept_then k first c.loop-owner.self c.rows_of.new.self tt _ (before.others os first kept) (c.in_ok-slice.ensures.others os));
    }

pub returns-clause-reported : goal.returns-clause-reported
returns-clause-reported g c = λ honest content held e. subst (λ owners. Draws c.loop-owner.recorded e ↔ IsEdgeOfOne content owners e) (take_all c.loop-owner.owner-index c.args.owners.now c.loop-owner-test.false) (c.loop-owner.invariant.reported honest content held e)

pub returns-clause-alone : goal.returns-clause-alone
returns-clause-alone g c = λ os among.
    let all = subst (λ owners. LearntSoFar (sql_part g.S.Store os) owners (Draws c.loop-owner.recorded) c.args.self.now c.loop-owner.self) (take_all c.loop-owner.owner-index c.args.owners.now c.loop-owner-test.false) (c.loop-owner.invariant.alone os among) in
    learnt_all (sql_part g.S.Store os) c.args.owners.now c.loop-owner.recorded c.args.self.now c.loop-owner.self all

pub returns-clause-others : goal.returns-clause-others
returns-clause-others g c = λ os first kept. kept_as (sql_part g.S.Store os) first c.loop-owner.self tt c.loop-owner.recorded (c.loop-owner.invariant.others os first kept)

pub returns-in_err-slice-clause-alone : goal.returns-in_err-slice-clause-alone
returns-in_err-slice-clause-alone g c = λ os among.
    let m = sql_part g.S.Store os in
    let e = c.in_err-slice.field-0.0 in
    let own : Contains os c.owner-item.result = among c.owner-item.result (c.loop-owner.owner-index, c.loop-owner-test.true, sym c.owner-item.is) in
    let r = (c.in_err-slice.ensures.alone os own).reading in
    let so_far = c.loop-owner.invariant.alone os among in
    let is : c.from_residual.result ≡ Err e = search rules in
    let learns : LearnsOneMore {X = Recorded} m c.args.self.now c.rows_of.new.self (Err e) (λ _. Unit {0}) = record {
      reads = λ first have. reads_then m first c.loop-owner.self c.rows_of.new.self tt (Err e) (so_far.read first have) (read_fault m c.loop-owner.self c.rows_of.new.self e r.goes r.keeps r.whole);
      kept = λ honest. let before = so_far.kept (r.goes.honest honest) in (before.0, λ content held. (r.keeps honest).content content (before.1 content held));
      reported = λ _ _ _. tt;
    } in
    subst (λ reported. LearnsOneMore m c.args.self.now c.rows_of.new.self reported (λ content. IfOk reported (DrawsFor content c.args.owners.now))) (sym is) learns

pub returns-in_err-slice-clause-others : goal.returns-in_err-slice-clause-others
returns-in_err-slice-clause-others g c = λ os first kept.
    let m = sql_part g.S.Store os in
    let e = c.in_err-slice.field-0.0 in
    let is : c.from_residual.result ≡ Err e = search rules in
    let failed = kept_fault m c.loop-owner.self c.rows_of.new.self e (c.in_err-slice.ensures.others os) in
    subst (λ reported. KeepsHeld m first c.rows_of.new.self reported) (sym is) (kept_then m first c.loop-owner.self c.rows_of.new.self tt (Err e) (c.loop-owner.invariant.others os first kept) failed)

pub returns-in_err-recorded-clause-alone : goal.returns-in_err-recorded-clause-alone
returns-in_err-recorded-clause-alone g c = λ os among.
    let m = sql_part g.S.Store os in
    let own : Contains os c.owner-item.result = among c.owner-item.result (c.loop-owner.owner-index, c.loop-owner-test.true, sym c.owner-item.is) in
    let r = (c.in_ok-slice.ensures.alone os own).reading in
    let so_far = c.loop-owner.invariant.alone os among in
    let is : c.from_residual-in_err-recorded.result ≡ Err Memory = search rules in
    let learns : LearnsOneMore {X = Recorded} m c.args.self.now c.rows_of.new.self (Err Memory) (λ _. Unit {0}) = record {
      reads = λ first have. let now = reads_then m first c.loop-owner.self c.rows_of.new.self tt _ (so_far.read first have) r in read_memory m first c.rows_of.new.self c.in_ok-slice.slice now.goes now.keeps;
      kept = λ honest. let before = so_far.kept (r.goes.honest honest) in (before.0, λ content held. (r.keeps honest).content content (before.1 content held));
      reported = λ _ _ _. tt;
    } in
    subst (λ reported. LearnsOneMore m c.args.self.now c.rows_of.new.self reported (λ content. IfOk reported (DrawsFor content c.args.owners.now))) (sym is) learns

pub returns-in_err-recorded-clause-others : goal.returns-in_err-recorded-clause-others
returns-in_err-recorded-clause-others g c = λ os first kept.
    let m = sql_part g.S.Store os in
    let is : c.from_residual-in_err-recorded.result ≡ Err Memory = search rules in
    let so_far = kept_then m first c.loop-owner.self c.rows_of.new.self tt _ (c.loop-owner.invariant.others os first kept) (c.in_ok-slice.ensures.others os) in
    subst (λ reported. KeepsHeld m first c.rows_of.new.self reported) (sym is) (kept_memory m first c.rows_of.new.self c.in_ok-slice.slice so_far)
