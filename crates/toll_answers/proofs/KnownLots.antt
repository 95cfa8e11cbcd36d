-- The lots that an edge joins are known, and whose they are.
use Rattle.std.proofs.Common.{◌≡◌, ◌⊎◌, true, ◌&&◌, is_some, sym, subst, ◌∙◌}
use Rattle.toll_answers.proofs.Common.{Bytes, same_bytes, house_name, lot_id, same_lot, History, acts, BringsOwn, TakesKnown, lot_made, brings_into, takes_from, lot_row, IsLawful, Edge, LotId, same_bytes-refl, member_of_all, IsOwnEdge}
use Rattle.toll_base.proofs.Bools.{and_is}
use Rattle.toll_history.proofs.Lots.{sublot_lot}
use Rattle.toll_history.proofs.Owned.{all_bring_own, all_take_known}
pub use Rattle.toll_stock.proofs.Mapped.{some_mapped}
use Rattle.toll_answers.proofs.OwnEdges.{edge_end, edge_start}
use Rattle.toll_answers.proofs.Standing.{recorded_moved}

-- a sublot of a lot is the one that its names say
same_sublot : (lot : LotId) (sublot : Bytes) → (same_lot lot lot && same_bytes sublot sublot) ≡ true
same_sublot lot sublot = and_is _ _ (and_is _ _ (same_bytes-refl lot.owner) (same_bytes-refl lot.lot)) (same_bytes-refl sublot)

module _ (H : History) (lawful : IsLawful H) (o : Bytes) where
  made_row : (lot : LotId) → is_some (lot_made H lot) ≡ true → is_some (lot_row H lot.owner lot.lot) ≡ true
  made_row lot made = some_mapped _ (lot_made H (lot_id lot.owner lot.lot)) ∙ made

  pub lots_known : (e : Edge) → IsOwnEdge (acts o H) e → (is_some (lot_row H e.from.owner e.from.lot) ≡ true) × (is_some (lot_row H e.to.owner e.to.lot) ≡ true)
  lots_known e is =
      let came = member_of_all (BringsOwn H) _ (o, is.production) (all_bring_own H lawful) (recorded_moved H o is.production is.production_stands.recorded) in
      let went = member_of_all (TakesKnown H) _ (o, is.consumption) (all_take_known H lawful) (recorded_moved H o is.consumption is.consumption_stands.recorded) in
      let brings : brings_into e.to is.produces.sublot o is.production.what ≡ true = subst (λ what. brings_into e.to is.produces.sublot o what ≡ true) (sym is.produces.is) (same_sublot e.to is.produces.sublot) in
      let takes : takes_from e.from is.consumes.sublot o is.consumption.what ≡ true = subst (λ what. takes_from e.from is.consumes.sublot o what ≡ true) (sym is.consumes.is) (same_sublot e.from is.consumes.sublot) in (
        made_row e.from (sublot_lot H e.from is.consumes.sublot lawful (went e.from is.consumes.sublot takes).0),
        made_row e.to (sublot_lot H e.to is.produces.sublot lawful (came e.to is.produces.sublot brings).1),
      )

  pub lots_owned : (e : Edge) → IsOwnEdge (acts o H) e → (e.to.owner ≡ o) × ((e.from.owner ≡ o) ⊎ (e.from.owner ≡ house_name))
  lots_owned e is = (edge_end H o e.from e.to lawful is, edge_start H o e.from e.to lawful is)
