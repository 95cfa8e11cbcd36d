use Rattle.std.proofs.Common.{◌⊎◌, [], IfOk, IfErr, rules, subst}
use Rattle.toll_sql.proofs.Common.{state, FailsToQuery, HasCleanDisk, IsTooLate, Shown, select_text, Meta}
use Rattle.toll_sql.proofs.AskInside.{query_leaves_store}
use Rattle.toll_sql.proofs.AskedLemmas.{read_of, unread_of}
use Rattle.toll_sql.proofs.version.query_version.Goals as goal

pub returns : goal.returns
returns g c =
    let old = state g.S.Store c.args.tx.now.conn.now in
    let new = state g.S.Store c.query_all.new.self.conn.now in
    let r = c.query_all.result in
    let called = c.query_all.ensures in
    let ok = λ (clean : HasCleanDisk new). subst (λ sql. IfOk r (λ rows. Shown sql [] old new rows.items)) c.select_text.ensures (called.ok clean) in
    let err = λ (clean : HasCleanDisk new). subst (λ sql. IfErr r (λ e. FailsToQuery sql [] old new e ⊎ IsTooLate sql [] old new e)) c.select_text.ensures (called.err clean) in
    record {
      same_reference = search rules;
      asks = query_leaves_store (λ rows. rows.items) (select_text Meta) [] old new r ok err called.survives;
      read = λ clean. read_of (λ rows. rows.items) (select_text Meta) old new r (ok clean);
      unread = λ clean. unread_of (λ rows. rows.items) (select_text Meta) old new r (err clean);
    }
