use Rattle.std.proofs.Common.{[], IfOk, IfErr, subst}
use Rattle.toll_sql.proofs.Common.{IfOk-weaker, state, CommitsShowing, FailsToQuery, HasCleanDisk, Shown, Survives, select_text, Meta}
use Rattle.toll_sql.proofs.AskInside.{asked_first, asked_same, first_rows}
use Rattle.toll_sql.proofs.AskedLemmas.{read_of}
use Rattle.toll_sql.proofs.version.first_rows.Goals as goal

pub returns : goal.returns
returns g c =
    let old = state g.S.Store c.args.conn.now in
    let new = state g.S.Store c.query_all.new.self in
    let r = c.query_all.result in
    let is = c.select_text.ensures in
    let called = c.query_all.ensures in
    let needs = c.requires in
    let ok = λ (clean : HasCleanDisk new). subst (λ sql. IfOk r (λ rows. Shown sql [] old new rows.items)) is (called.ok clean) in
    let err = λ (clean : HasCleanDisk new). subst (λ sql. IfErr r (FailsToQuery sql [] old new)) is (called.err clean) in
    record {
      left = asked_first (λ rows. rows.items) old new needs.autocommit needs.settled needs.first r ok err called.mode (subst (λ sql. Survives old new (CommitsShowing sql [] old)) is called.survives);
      unchanged = λ clean. asked_same (λ rows. rows.items) old new needs.autocommit needs.settled needs.first r (ok clean);
      rows = λ clean. IfOk-weaker r _ _ (λ rows h. first_rows old new needs.first rows.items h) (ok clean);
      read = λ clean. read_of (λ rows. rows.items) (select_text Meta) old new r (ok clean);
    }
