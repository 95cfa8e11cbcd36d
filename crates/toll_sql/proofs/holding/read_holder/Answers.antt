use Rattle.std.proofs.Common.{[], ◌∷◌, IfOk, OnOk, subst}
use Rattle.toll_sql.proofs.Common.{state, Text, unit_text, AreBatchRows, HasNoBatch, IsShownIn, open_on}
use Rattle.toll_sql.proofs.HolderShown.{holder_each_named, holder_read_from, shown_whole, told_too, unnamed_too, whole_too}
use Rattle.toll_sql.proofs.LookLemmas.{looking}
use Rattle.toll_sql.proofs.holding.read_holder.Goals as goal

pub returns-in-Ok : goal.returns-in-Ok
returns-in-Ok g c =
    let r = c.holder_in.result in
    let rows = c.in-Ok.rows.items in
    let listed = open_on c.args.unit.now (state g.S.Store c.args.conn.now).now.trees in
    let read = subst (λ rows. IfOk r (IsShownIn rows)) c.deref.ensures.value c.holder_in.ensures.shown in
    let whole = subst (λ rows. OnOk r (AreBatchRows rows)) c.deref.ensures.value c.holder_in.ensures.whole in
    record {
      looks = looking (state g.S.Store c.args.conn.now) (state g.S.Store c.open_batches.new.conn) c.in-Ok.rows r c.in-Ok.ensures.asks.asks c.holder_in.ensures.disk c.holder_in.ensures.closed;
      reads = λ clean content held. holder_read_from content c.args.unit.now rows (c.in-Ok.ensures.rows clean content held) r read;
      shown = λ clean. shown_whole (state g.S.Store c.args.conn.now).now unit_text (Text c.args.unit.now ∷ []) rows (c.in-Ok.ensures.read clean) r read whole;
      whole = λ clean content held is. holder_each_named content c.args.unit.now rows (c.in-Ok.ensures.rows clean content held) (subst HasNoBatch c.deref.ensures.value (c.holder_in.ensures.damaged is));
      lack = λ is. absurd (c.holder_in.ensures.memory is);
      alone = λ clean has. record {
        reported = told_too listed rows (c.in-Ok.ensures.found clean has) r read;
        whole = whole_too listed rows (c.in-Ok.ensures.found clean has) r whole;
        damaged = λ is. unnamed_too listed rows (c.in-Ok.ensures.found clean has) (subst HasNoBatch c.deref.ensures.value (c.holder_in.ensures.damaged is));
      };
    }
