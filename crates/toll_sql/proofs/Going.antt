-- Changes that are put one after another.
use Rattle.std.proofs.Common.{◌≡◌, List, ◌∷◌, ◌∙◌}
use Rattle.toll_sql.proofs.Common.{State, Trees, Change, IsReady, MakesPuts, PutsAll, PutsChange}

-- So far: the changes that are left make of the trees what all changes make of the first trees.
pub record GoesOn (all rest : List Change) (old now : State) : Type 0 where
  pub ready : IsReady now
  pub schema : now.now.schema ≡ old.now.schema
  pub committed : now.committed ≡ old.committed
  pub rest_puts : (last : Trees) → PutsAll rest now.now.trees last → PutsAll all old.now.trees last

pub one_put_more : (all rest : List Change) (change : Change) (old now next : State) → GoesOn all (change ∷ rest) old now → MakesPuts (PutsChange change) now next → GoesOn all rest old next
one_put_more all rest change old now next so h = record {
  ready = h.ready;
  schema = h.schema ∙ so.schema;
  committed = h.committed ∙ so.committed;
  rest_puts = λ last more. so.rest_puts last (next.now.trees, h.put, more);
}
