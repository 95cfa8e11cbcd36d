use Rattle.toll_wire.proofs.Office.{route_found, office_missing, nowhere_if_no_text, none_ok, read, some_ok, unread}
use Rattle.toll_wire.proofs.routes.path.endpoint_of.Goals as goal

pub returns-in_err-ok : goal.returns-in_err-ok
returns-in_err-ok c =
    let error = none_ok _ _ c.from_utf8.result c.in_err-ok.ensures.value c.from_utf8.ensures.cases in
    rw c.from_residual.ensures (nowhere_if_no_text c.args.path.now error.1.0)

pub returns-in_err-found : goal.returns-in_err-found
returns-in_err-found c =
    let text = some_ok _ _ c.from_utf8.result c.in_ok-ok.field-0 c.in_ok-ok.ensures.value c.from_utf8.ensures.cases in
    let error = none_ok _ _ c.at.result c.in_err-found.ensures.value c.at.ensures.missing in
    rw c.from_residual-in_err-found.ensures (office_missing c.args.router.now c.args.path.now c.requires c.type_inv.path (rw text.0 at error.1))

pub read-requires : goal.read-requires
read-requires c =
    let text = some_ok _ _ c.from_utf8.result c.in_ok-ok.field-0 c.in_ok-ok.ensures.value c.from_utf8.ensures.cases in
    let row = some_ok _ _ c.at.result c.in_ok-found.found c.in_ok-found.ensures.value c.at.ensures.found in
    let path = some_ok _ _ c.at.result c.in_ok-found.found c.in_ok-found.ensures.value c.at.ensures.path in
    let is = route_found c.args.router.now c.args.path.now _ _ _ c.iter.result c.requires c.type_inv.path text row path c.iter.ensures.value c.iter.ensures.len in
    record { count = is.few; text = is.are }

pub returns-in_err-values : goal.returns-in_err-values
returns-in_err-values c =
    let text = some_ok _ _ c.from_utf8.result c.in_ok-ok.field-0 c.in_ok-ok.ensures.value c.from_utf8.ensures.cases in
    let row = some_ok _ _ c.at.result c.in_ok-found.found c.in_ok-found.ensures.value c.at.ensures.found in
    let path = some_ok _ _ c.at.result c.in_ok-found.found c.in_ok-found.ensures.value c.at.ensures.path in
    let is = route_found c.args.router.now c.args.path.now _ _ _ c.iter.result c.requires c.type_inv.path text row path c.iter.ensures.value c.iter.ensures.len in
    rw c.from_residual-in_err-values.ensures (unread c.args.path.now _ c.iter.result is c.in_err-values.ensures)

pub returns : goal.returns
returns c =
    let text = some_ok _ _ c.from_utf8.result c.in_ok-ok.field-0 c.in_ok-ok.ensures.value c.from_utf8.ensures.cases in
    let row = some_ok _ _ c.at.result c.in_ok-found.found c.in_ok-found.ensures.value c.at.ensures.found in
    let path = some_ok _ _ c.at.result c.in_ok-found.found c.in_ok-found.ensures.value c.at.ensures.path in
    let is = route_found c.args.router.now c.args.path.now _ _ _ c.iter.result c.requires c.type_inv.path text row path c.iter.ensures.value c.iter.ensures.len in
    read c.args.path.now _ c.iter.result c.in_ok-values.values is c.in_ok-values.ensures
