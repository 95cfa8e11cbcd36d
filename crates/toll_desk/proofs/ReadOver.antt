-- The replies to an owner over its rows.
use Rattle.std.proofs.Common.{◌≡◌, ℕ, Option, Some, None, Bool, true, false, not, is_some, is_none, List, [], ◌∷◌, refl, sym, ap, subst, ◌∙◌}
use Rattle.toll_desk.proofs.Common.{option_map, false≢true, Bytes, bytes_cmp, requirement_cmp, Slice, order_at, row_at, IsInKeyOrder, AreRowsGiven, History, acts, order_of, batch_of, unit_of, state_of, is_closed, OwnerFacts, IsRowsOf, Action, Verdict, verdict_of_checks, UnknownOrder, UnknownBatch, UnknownLot, BatchRow, LotRow, OrderRow, IsLotViewOf, LotView, IsViewOver, line_of, line_key, BatchView, ReplyOrders, ReplyBatch, ReplyLot, ReplyRefused, IsOrdersReply, IsLotOr, IsBatchOr}

-- the orders that a slice has are those of the history
pub given_orders : (H : History) (s : Slice) → IsRowsOf H s → (k : Bytes) → order_at s k ≡ order_of (acts s.owner H) k
given_orders H s there k = ap (λ (t : OwnerFacts). t.order k) there

pub orders_replied : (H : History) (s : Slice) (rows : List OrderRow) → IsInKeyOrder bytes_cmp (λ row. row.order) s.orders → rows ≡ s.orders → IsRowsOf H s → IsOrdersReply (order_of (acts s.owner H)) (ReplyOrders rows)
orders_replied H s rows ordered is there = record {
  orders = rows;
  are_given = record { ordered = subst (IsInKeyOrder bytes_cmp (λ row. row.order)) (sym is) ordered; at = λ k. ap (λ all. row_at bytes_cmp (λ row. row.order) all k) is ∙ given_orders H s there k };
  reported = refl;
}

-- ---- a batch

batch_replied_where : (H : History) (o order : Bytes) (number : ℕ) (known : Option OrderRow) (row : Option BatchRow) (view : BatchView) → ((r : BatchRow) → row ≡ Some r → (r.order ≡ order) × (r.number ≡ number)) →
    (v : Verdict) → IsViewOver H o order number known row (Some view) → IsBatchOr H o known row v (ReplyBatch view.row view.lines.items)
batch_replied_where H o order number (Some known) (Some row) view named v is =
    let names = named row refl in record {
      lines = view.lines.items;
      are_given = coe 0 1 (i. AreRowsGiven requirement_cmp line_key (line_of H o (sym names.0 i) (sym names.1 i) known.recipe) view.lines.items) is.1;
      reported = ap (λ r. ReplyBatch r view.lines.items) is.0;
    }
batch_replied_where H o order number (Some known) None view named v is = absurd is
batch_replied_where H o order number None row view named v is = absurd is

batch_named : (own : List Action) (order : Bytes) (number : ℕ) (x : Option Bytes) (r : BatchRow) →
    option_map {T = Bytes} {U = BatchRow} (λ unit. record { order = order; number = number; unit = unit; state = state_of own order number; closed = is_closed own order number }) x ≡ Some r → (r.order ≡ order) × (r.number ≡ number)
batch_named own order number None r e = (cc)
batch_named own order number (Some unit) r e = ((cc), (cc))

pub batch_replied : (H : History) (o order : Bytes) (number : ℕ) (view : BatchView) (v : Verdict) → IsViewOver H o order number (order_of (acts o H) order) (batch_of (acts o H) (order, number)) (Some view) →
    IsBatchOr H o (order_of (acts o H) order) (batch_of (acts o H) (order, number)) v (ReplyBatch view.row view.lines.items)
batch_replied H o order number view v is =
    batch_replied_where H o order number (order_of (acts o H) order) (batch_of (acts o H) (order, number)) view (batch_named (acts o H) order number (unit_of (acts o H) order number)) v is

pub batch_absent : (H : History) (o order : Bytes) (number : ℕ) (known : Option OrderRow) (row : Option BatchRow) → is_none known ≡ false → IsViewOver H o order number known row None →
    IsBatchOr H o known row (verdict_of_checks ((is_none known, Some UnknownOrder) ∷ (is_none row, Some UnknownBatch) ∷ [])) (ReplyRefused UnknownBatch)
batch_absent H o order number None row there is = absurd (false≢true (sym there))
batch_absent H o order number (Some known) None there is = refl
batch_absent H o order number (Some known) (Some row) there is = absurd is

pub order_absent : (H : History) (o : Bytes) (known : Option OrderRow) (row : Option BatchRow) → is_none known ≡ true →
    IsBatchOr H o known row (verdict_of_checks ((is_none known, Some UnknownOrder) ∷ (is_none row, Some UnknownBatch) ∷ [])) (ReplyRefused UnknownOrder)
order_absent H o None None none = refl
order_absent H o None (Some row) none = refl
order_absent H o (Some known) row none = absurd (false≢true none)

-- ---- a lot

pub lot_replied : (H : History) (o : Bytes) (known : Option LotRow) (view : LotView) → IsLotViewOf H o known (Some view) → IsLotOr H o known (ReplyLot view.row view.measure view.results.items view.sublots.items)
lot_replied H o None view is = absurd is
lot_replied H o (Some row) view is = record {
  results = view.results.items;
  sublots = view.sublots.items;
  are_results = is.results;
  are_sublots = is.sublots;
  reported = λ i. ReplyLot (is.row i) (is.measure i) view.results.items view.sublots.items;
}

pub lot_absent : (H : History) (o : Bytes) (known : Option LotRow) → IsLotViewOf H o known None → IsLotOr H o known (ReplyRefused UnknownLot)
lot_absent H o None is = refl
lot_absent H o (Some row) is = absurd is

-- what is none of the slice is none of the history
pub none_by : {X : Type 0} (x y : Option X) (b : Bool) → is_some x ≡ not b → x ≡ y → is_none y ≡ b
none_by None y true e same = ap is_none (sym same)
none_by None y false e same = absurd (false≢true e)
none_by (Some x) y true e same = absurd (false≢true (sym e))
none_by (Some x) y false e same = ap is_none (sym same)
