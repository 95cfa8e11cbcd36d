use Rattle.std.proofs.Common.{◌≡◌, OnOk, sym, ap, subst, ◌∙◌}
use Rattle.toll_sql.proofs.Common.{KeepsRules, IsRowOfOwner, with_row}
use Rattle.toll_sql.proofs.RowsIn.{read_back}
use Rattle.toll_sql.proofs.SoFar.{when_ok}
use Rattle.toll_sql.proofs.Taken.{takes_one}
use Rattle.toll_sql.proofs.reading.read_row.Goals as goal

pub returns-in-Some-clause-shown : goal.returns-in-Some-clause-shown
returns-in-Some-clause-shown g c = λ o first.
    let X = g.X.StoredRow in
    when_ok (IsRowOfOwner X.kind o c.args.row.now) c.put_read.result (c.in-Some.it, c.in-Some.ensures.valid, c.in-Some.ensures.some o first)

pub returns-in-Some-clause-takes : goal.returns-in-Some-clause-takes
returns-in-Some-clause-takes g c = λ stand o owned.
    let X = g.X.StoredRow in
    let x = c.in-Some.it in
    let put = c.put_read.ensures in
    takes_one X.kind stand o c.args.row.now x c.in-Some.ensures.valid (c.in-Some.ensures.some o owned.0) c.into_row.result c.into_row.ensures c.args.slice.now c.put_read.new.slice c.put_read.result put.made put.fits put.lacks

pub returns-in-Some-clause-reads : goal.returns-in-Some-clause-reads
returns-in-Some-clause-reads g c = λ stand o x valid is.
    let kind = g.X.StoredRow.kind in
    let same = read_back kind stand o x c.args.row.now c.in-Some.it valid c.in-Some.ensures.valid is (c.in-Some.ensures.some o) in
    subst (λ row. OnOk c.put_read.result (c.put_read.new.slice ≡ with_row c.args.slice.now row)) (c.into_row.ensures ∙ ap kind.any_row same) c.put_read.ensures.made

pub returns-in-Some-clause-whole : goal.returns-in-Some-clause-whole
returns-in-Some-clause-whole g c = λ stand o x valid is keeps.
    let kind = g.X.StoredRow.kind in
    let same = read_back kind stand o x c.args.row.now c.in-Some.it valid c.in-Some.ensures.valid is (c.in-Some.ensures.some o) in
    c.put_read.ensures.whole (subst (λ row. KeepsRules (with_row c.args.slice.now row)) (sym (c.into_row.ensures ∙ ap kind.any_row same)) keeps)
