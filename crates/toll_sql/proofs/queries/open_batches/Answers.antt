use Rattle.std.proofs.Common.{[], ◌∷◌, refl, ap}
use Rattle.toll_sql.proofs.Common.{IfOk-weaker, state, Bytes, Text, unit_text}
use Rattle.toll_sql.proofs.AskLemmas.{select_passed}
use Rattle.toll_sql.proofs.AskedLemmas.{read_with}
use Rattle.toll_sql.proofs.HolderShown.{unit_plain, unit_answered, found_on, holders_shown}
use Rattle.toll_sql.proofs.queries.open_batches.Goals as goal

pub returns : goal.returns
returns g c =
    let unit = c.args.unit.now in
    let old = state g.S.Store c.args.conn.now in
    let new = state g.S.Store c.query_all.new.self in
    let called = c.query_all.ensures in
    let it = select_passed unit_text (Text unit ∷ []) old new unit_plain (λ rows. rows.items) c.query_all.result c.of_store.result c.of_store.ensures unit_text _ refl (ap (λ (u : Bytes). Text u ∷ []) c.as_bytes.ensures.bytes) called.mode called.ok called.err called.survives in
    record {
      asks = it.0;
      read = λ clean. IfOk-weaker c.of_store.result _ _ (λ rows h. read_with unit_text (Text unit ∷ []) old new rows.items h) (it.1 clean);
      rows = λ clean content held. IfOk-weaker c.of_store.result _ _ (λ rows h. holders_shown old.now.trees content held.rows unit rows.items (unit_answered old new held.ours.schema (Text unit ∷ []) rows.items h)) (it.1 clean);
      found = λ clean has. IfOk-weaker c.of_store.result _ _ (λ rows h. found_on old.now.trees unit rows.items (unit_answered old new has (Text unit ∷ []) rows.items h)) (it.1 clean);
    }
