use Rattle.std.proofs.Common.{[], ◌∷◌, ap}
use Rattle.toll_sql.proofs.Common.{IfOk-weaker, state, Bytes, Text, select_text}
use Rattle.toll_sql.proofs.AskLemmas.{select_passed, owners_selected, select_plain}
use Rattle.toll_sql.proofs.queries.owners_rows.Goals as goal

pub returns : goal.returns
returns g c =
    let old = state g.S.Store c.args.conn.now in
    let new = state g.S.Store c.query_all.new.self in
    let called = c.query_all.ensures in
    let it = select_passed (select_text c.args.table) (Text c.args.owner.now ∷ []) old new (select_plain c.args.table old new) (λ rows. rows.items) c.query_all.result c.of_store.result c.of_store.ensures _ _ c.select_text.ensures (ap (λ (o : Bytes). Text o ∷ []) c.as_bytes.ensures.bytes) called.mode called.ok called.err called.survives in
    record { asks = λ owned. it.0; rows = λ owned clean has. IfOk-weaker c.of_store.result _ _ (λ rows h. owners_selected c.args.table old new c.args.owner.now owned has rows.items h) (it.1 clean) }
