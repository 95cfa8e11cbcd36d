use Rattle.std.proofs.Common.{◌≡◌, true, List, inl, inr, refl, sym, subst}
use Rattle.toll_sql.proofs.Common.{state, Row, HasCleanDisk, Slice, on_ok_weaker, AllByRecursion, IsStoredAs, TakesRows, AreOfOwner, HoldsPartIn, HasOurs, ReadsNext, is_owned, AreOwnedBy, IsRowOfOwner}
use Rattle.toll_sql.proofs.LookLemmas.{looking, stored_as}
use Rattle.toll_sql.proofs.SoFar.{read_owned, stored_shown}
use Rattle.toll_sql.proofs.reading.read_table.Goals as goal

pub returns-in-Ok-clause-reads : goal.returns-in-Ok-clause-reads
returns-in-Ok-clause-reads g c is stand =
    let X = g.X.StoredRow in
    let old = state g.S.Store c.args.conn.now in
    let new = state g.S.Store c.owners_rows.new.conn in
    let o = c.args.owner.now in
    let own : is_owned c.args.table ≡ true = subst (λ k. is_owned k ≡ true) (sym is) stand.owned in
    let rows : (clean : HasCleanDisk new) → HasOurs old.now.schema → AreOfOwner X.kind.table o old.now.trees c.in-Ok.rows.items = λ clean has. subst (λ k. AreOfOwner k o old.now.trees c.in-Ok.rows.items) is (c.in-Ok.ensures.rows own clean has) in
    let stored : (s : Slice) → HasCleanDisk new → HoldsPartIn is_owned old o s → IsStoredAs X.kind.table s c.deref.result.now = λ s clean held.
    subst (λ (rows : List Row). IsStoredAs X.kind.table s rows) (sym c.deref.ensures.value) (stored_as old o s held X.kind.table stand.owned c.in-Ok.rows.items (rows clean held.ours)) in
    let takes : HasCleanDisk new → HasOurs old.now.schema → TakesRows X.kind.table o c.in-Ok.rows.items c.args.slice.now c.read_rows.new.slice c.read_rows.result = λ clean has.
    subst (λ (rows : List Row). TakesRows X.kind.table o rows c.args.slice.now c.read_rows.new.slice c.read_rows.result) c.deref.ensures.value
    (c.read_rows.ensures.takes stand o (subst (λ (rows : List Row). AreOwnedBy o rows) (sym c.deref.ensures.value) (read_owned X.kind.table o old.now.trees c.in-Ok.rows.items (rows clean has)))) in
    subst (λ k. ReadsNext k o old new c.args.slice.now c.read_rows.new.slice c.read_rows.result) (sym is) (record {
      looks = looking old new c.in-Ok.rows c.read_rows.result (c.in-Ok.ensures.asks own).asks c.read_rows.ensures.disk c.read_rows.ensures.closed;
      shows = λ clean has idle.
          let here = subst (λ (rows : List Row). AreOwnedBy o rows) (sym c.deref.ensures.value) (read_owned X.kind.table o old.now.trees c.in-Ok.rows.items (rows clean has)) in
          on_ok_weaker c.read_rows.result (λ all. (stand.shown o old.now.trees (stored_shown X.kind o old.now.trees c.in-Ok.rows.items (rows clean has) (subst (λ (rows : List Row). AllByRecursion (IsRowOfOwner X.kind o) rows) c.deref.ensures.value all)), tt)) (c.read_rows.ensures.shown o here);
      reads = λ clean s held first. c.read_rows.ensures.reads stand s (stored s clean held) first;
      whole = λ clean s held keeps first. c.read_rows.ensures.whole stand s (stored s clean held) first keeps;
      taken = λ clean has idle. on_ok_weaker c.read_rows.result (λ all. (c.in-Ok.rows.items, rows clean has, (c.read_rows.new.slice, all, refl))) (takes clean has).taken;
      lacks = λ clean has idle lack. inr (c.in-Ok.rows.items, rows clean has, inl ((takes clean has).lacks lack));
    })
