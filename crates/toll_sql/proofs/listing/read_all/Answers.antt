use Rattle.std.proofs.Common.{◌≡◌, false, map, sym, ap, subst, ◌∙◌}
use Rattle.toll_sql.proofs.Common.{IfOk-weaker, state, AreReadBy, columns_from, is_owned, select_text, width_of}
use Rattle.toll_sql.proofs.LookLemmas.{looking, plant_rows}
use Rattle.toll_sql.proofs.listing.read_all.Goals as goal

pub returns-in-Ok-clause-looks : goal.returns-in-Ok-clause-looks
returns-in-Ok-clause-looks g c alone =
    let own : is_owned c.table.result ≡ false = subst (λ k. is_owned k ≡ false) (sym c.table.ensures) alone.unowned in
    looking (state g.S.Store c.args.conn.now) (state g.S.Store c.all_rows.new.conn) c.in-Ok.rows c.list_rows.result (c.in-Ok.ensures.asks own).asks c.list_rows.ensures.disk c.list_rows.ensures.closed

pub returns-in-Ok-clause-reads : goal.returns-in-Ok-clause-reads
returns-in-Ok-clause-reads g c alone clean has l held =
    let X = g.X.StoredPlantRow in
    let are = plant_rows X.kind alone c.table.result c.table.ensures (state g.S.Store c.args.conn.now).now.trees c.in-Ok.rows.items (λ own. c.in-Ok.ensures.rows own clean has) l held in
    c.list_rows.ensures.reads alone l (c.deref.ensures.value ∙ are) held.valid

pub returns-in-Ok-clause-whole : goal.returns-in-Ok-clause-whole
returns-in-Ok-clause-whole g c alone clean has l held =
    let X = g.X.StoredPlantRow in
    let are = plant_rows X.kind alone c.table.result c.table.ensures (state g.S.Store c.args.conn.now).now.trees c.in-Ok.rows.items (λ own. c.in-Ok.ensures.rows own clean has) l held in
    c.list_rows.ensures.whole alone l (c.deref.ensures.value ∙ are) held.valid

pub returns-in-Ok-clause-shown : goal.returns-in-Ok-clause-shown
returns-in-Ok-clause-shown g c clean =
    let X = g.X.StoredPlantRow in
    let old = state g.S.Store c.args.conn.now in
    IfOk-weaker c.list_rows.result _ _ (λ listed it. record {
      rows = c.in-Ok.rows.items;
      read = subst (λ k. AreReadBy old.now (select_text k) c.in-Ok.rows.items) c.table.ensures (c.in-Ok.ensures.read clean);
      shown = it.0 ∙ ap (map (columns_from 0 (width_of X.kind.table))) c.deref.ensures.value;
      valid = it.1;
    }) c.list_rows.ensures.shown
