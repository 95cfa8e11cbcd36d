use Rattle.std.proofs.Common.{◌≡◌, ◌∙◌, Err, ap, arith, length, rules, subst, take_all}
use Rattle.toll_sql.proofs.Common.{AllByRecursion, column, Text, front_slice, rows_for, AreTaken, TakesRows, IsRowOfOwner}
use Rattle.toll_sql.proofs.ReadOn.{front_of_next}
use Rattle.toll_sql.proofs.SoFar.{all_with_one_more, value_there}
use Rattle.toll_sql.proofs.Taken.{lacks_here, one_more_taken}
use Rattle.toll_sql.proofs.RowsIn.{table_item, table_item_is, table_item_valid, with_table_item, with_it_keeps}
use Rattle.toll_sql.proofs.reading.read_rows.Goals as goal

pub loop-row-preserved : goal.loop-row-preserved
loop-row-preserved g c =
    let X = g.X.StoredRow in
    let i = c.loop-row.row-index in
    let lt = c.loop-row-test.true in
    let rows = c.args.rows.now in
    let row = c.row-item.result in
    record {
      reads = λ stand s stored first.
          let x = table_item X.kind stand s rows stored i lt in
          let is = c.row-item.is ∙ table_item_is X.kind stand s rows stored i lt row in
          c.in_ok-read_row.ensures.reads stand s.owner x (table_item_valid X.kind stand s rows stored i lt) is
          ∙ with_table_item X.kind stand s rows stored i lt c.loop-row.slice (c.loop-row.invariant.reads stand s stored first);
      taken = λ stand o all. one_more_taken X.kind.table o rows i row lt c.row-item.is c.args.slice.now c.loop-row.slice c.read_row.new.slice (c.loop-row.invariant.taken stand o all) (c.in_ok-read_row.ensures.takes stand o (value_there (λ r. column r 0 ≡ Text o) rows i row lt c.row-item.is all, tt)).taken;
      shown = λ o all. all_with_one_more (IsRowOfOwner X.kind o) rows i row lt c.row-item.is (c.loop-row.invariant.shown o all) (c.in_ok-read_row.ensures.shown o (value_there (λ r. column r 0 ≡ Text o) rows i row lt c.row-item.is all));
      named = c.in_ok-read_row.ensures.named ∙ c.loop-row.invariant.named;
    }

pub returns-in_err-read_row-clause-whole : goal.returns-in_err-read_row-clause-whole
returns-in_err-read_row-clause-whole g c = λ stand s stored first keeps.
    let X = g.X.StoredRow in
    let i = c.loop-row.row-index in
    let lt = c.loop-row-test.true in
    let rows = c.args.rows.now in
    let x = table_item X.kind stand s rows stored i lt in
    let is = c.row-item.is ∙ table_item_is X.kind stand s rows stored i lt c.row-item.result in
    let fits = with_it_keeps X.kind stand s rows stored i lt c.loop-row.slice (c.loop-row.invariant.reads stand s stored first) keeps in
    let whole = c.in_err-read_row.ensures.whole stand s.owner x (table_item_valid X.kind stand s rows stored i lt) is fits in
    let f = c.from_residual.ensures in
    search rules

pub returns-clause-shown : goal.returns-clause-shown
returns-clause-shown g c = λ o all.
    let X = g.X.StoredRow in
    subst (AllByRecursion (IsRowOfOwner X.kind o)) (take_all c.loop-row.row-index c.args.rows.now c.loop-row-test.false) (c.loop-row.invariant.shown o all)

pub returns-clause-takes : goal.returns-clause-takes
returns-clause-takes g c = λ stand o all. record { taken = subst (λ rows. AreTaken g.X.StoredRow.kind.table o rows c.args.slice.now c.loop-row.slice) (take_all c.loop-row.row-index c.args.rows.now c.loop-row-test.false) (c.loop-row.invariant.taken stand o all); lacks = λ is. absurd (cc) }

pub returns-in_err-read_row-clause-takes : goal.returns-in_err-read_row-clause-takes
returns-in_err-read_row-clause-takes g c = λ stand o all.
    let X = g.X.StoredRow in
    let i = c.loop-row.row-index in
    let lt = c.loop-row-test.true in
    let rows = c.args.rows.now in
    let row = c.row-item.result in
    let one = c.in_err-read_row.ensures.takes stand o (value_there (λ r. column r 0 ≡ Text o) rows i row lt c.row-item.is all, tt) in
    let q : TakesRows {X = Unit {0}} X.kind.table o rows c.args.slice.now c.read_row.new.slice (Err c.in_err-read_row.field-0.0) = record {
      taken = tt;
      lacks = λ is. lacks_here X.kind.table o rows i row lt c.row-item.is c.args.slice.now c.loop-row.slice c.read_row.new.slice (c.loop-row.invariant.taken stand o all) (one.lacks is);
    } in
    let f = c.from_residual.ensures in
    search rules

pub returns-clause-reads : goal.returns-clause-reads
returns-clause-reads g c = λ stand s stored first.
    let k = g.X.StoredRow.kind.table in
    let many : length c.args.rows.now ≡ length (rows_for k s) = ap length stored.are in
    let all : c.loop-row.row-index ≡ length (rows_for k s) = omega (arith, many, c.loop-row-test.false, c.loop-row.auto.row-index-end) in
    c.loop-row.invariant.reads stand s stored first ∙ ap (λ n. front_slice k n s) all ∙ front_of_next k s stand.owned
