use Rattle.std.proofs.Common.{◌∙◌, [], ◌∷◌, ap, map, rules, take_all}
use Rattle.toll_sql.proofs.Common.{columns_from, width_of, ShowsRow}
use Rattle.toll_sql.proofs.ListLemmas.{list_item, list_item_is, list_item_valid, more_shown, read_it, with_list_item}
use Rattle.toll_sql.proofs.SoFar.{all_append, first_good}
use Rattle.toll_sql.proofs.listing.list_rows.Goals as goal

pub loop-row-preserved : goal.loop-row-preserved
loop-row-preserved g c =
    let X = g.X.StoredPlantRow in
    let i = c.loop-row.row-index in
    let lt = c.loop-row-test.true in
    let rows = c.args.rows.now in
    let pushed = c.in_ok-append.ensures.items in
    record {
      reads = λ alone l are valid.
          let is = c.row-item.is ∙ list_item_is X.kind alone l rows are valid i lt c.row-item.result in
          let same = read_it X.kind alone l rows are valid i lt c.row-item.result c.in-Some.it is c.in-Some.ensures.valid c.in-Some.ensures.some in
          let more = with_list_item X.kind alone l rows are valid i lt c.loop-row.listed.items c.in-Some.it (c.loop-row.invariant.reads alone l are valid) same in
          search rules;
      shown =
          let more = more_shown X.kind.cells (columns_from 0 (width_of X.kind.table)) rows i lt c.row-item.result c.row-item.is c.loop-row.listed.items c.in-Some.it c.loop-row.invariant.shown c.in-Some.ensures.some in
          search rules;
      valid =
          let more = all_append X.kind.is_valid c.loop-row.listed.items (c.in-Some.it ∷ []) c.loop-row.invariant.valid (c.in-Some.ensures.valid, tt) in
          search rules;
      first = λ _. first_good (ShowsRow X.kind) rows i c.row-item.result lt c.row-item.is c.loop-row.invariant.first (c.in-Some.it, c.in-Some.ensures.valid, c.in-Some.ensures.some);
    }

pub returns-clause-shown : goal.returns-clause-shown
returns-clause-shown g c =
    let X = g.X.StoredPlantRow in
    (c.loop-row.invariant.shown ∙ ap (map (columns_from 0 (width_of X.kind.table))) (take_all c.loop-row.row-index c.args.rows.now c.loop-row-test.false), c.loop-row.invariant.valid)

pub returns-in_default-clause-whole : goal.returns-in_default-clause-whole
returns-in_default-clause-whole g c = λ alone l are valid.
    let X = g.X.StoredPlantRow in
    let i = c.loop-row.row-index in
    let lt = c.loop-row-test.true in
    let rows = c.args.rows.now in
    let x = list_item X.kind alone l rows are valid i lt in
    let is = c.row-item.is ∙ list_item_is X.kind alone l rows are valid i lt c.row-item.result in
    let none = c.in_default.ensures.none in
    let good = list_item_valid X.kind alone l rows are valid i lt in
    search rules
