use Rattle.std.proofs.Common.{◌+◌, cond, sym, ap, ◌∙◌}
use Rattle.std.specs.BTreeMap.{get}
use Rattle.toll_stock.proofs.Common.{unwrap_or, bytes_cmp, same_bytes, is_some_where, same_bytes-exact, amount_of}
use Rattle.toll_stock.proofs.ShippedLots.{amount_put}
use Rattle.toll_stock.proofs.shipped.Shipped.add.Goals as goal

pub returns : goal.returns
returns c = λ lot.
    let old = c.args.self.now in
    let own = c.in-Some.lot in
    ap (λ x. unwrap_or x 0) (c.in_ok-insert.ensures.updates.0 lot)
    ∙ amount_put (same_bytes own lot) (get bytes_cmp old.amounts lot) _ c.args.amount (λ same. ap (λ n. n + c.args.amount) (c.amount.ensures ∙ ap (amount_of old) (same_bytes-exact own lot same)))
    ∙ ap (λ shipped. amount_of old lot + cond (is_some_where (λ l. same_bytes l lot) shipped) c.args.amount 0) (sym c.in-Some.is ∙ c.lot_shipped.ensures)
