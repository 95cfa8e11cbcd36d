-- A fact of all slices in a list, of which no owner has two, is a fact of the content, and the other way round.
use Rattle.std.proofs.Common.{◌≡◌, ◌⊎◌, ℕ, ◌+◌, ◌<◌, true, false, cond, Option, Some, None, is_some, List, [], ◌∷◌, ◌++◌, length, get_or, take, refl, sym, ap, subst, ◌∙◌, inl, inr, Contains, Any}
use Rattle.toll_keep.proofs.Common.{false≢true, take_more, All-contains, Contains-append_left, Contains-append_right, Contains-append_cases, Contains-push, Contains-push_cases, Bytes, is_some_where, row_at, Slice, empty_slice, batch_at, Edge, same_bytes-refl, same_bytes-symm, IsInOrder, edge_cmp, IsEdge, AreEdges, Contains-none, Contains-here, Contains-later, Contains-cases, member_of_all, kept_in_order, edges_exact, is_on, IsHolder, IsHolderIn, IsHolderAmong, IsEdgeOfSome, AreGathered, is_slice_of, rows_in, IsOneEach, Kept, content_of}
use Rattle.toll_keep.specs.declared.holder.Holder.{Holder}

-- ---- a slice of the list has its owner's rows

pub own_rows : (slices : List Slice) (s : Slice) → IsOneEach slices → Contains slices s → rows_in slices s.owner ≡ s
own_rows [] s one there = absurd (Contains-none s there)
own_rows (first ∷ slices) s one there = elim (Contains-cases first slices s there) [
  | inl e ↦ subst (λ t. cond (is_slice_of t.owner first) first (rows_in slices t.owner) ≡ t) e (let same : is_slice_of first.owner first ≡ true = same_bytes-refl first.owner in rw same refl)
  | inr later ↦
      let others : is_slice_of first.owner s ≡ false = member_of_all (λ other. is_slice_of first.owner other ≡ false) slices s one.0 later in
      let differs : is_slice_of s.owner first ≡ false = same_bytes-symm first.owner s.owner ∙ others in
      rw differs (own_rows slices s one.1 later)
]

-- An owner's rows are a slice of the list, or none.
pub there_or_none : (slices : List Slice) (o : Bytes) → Contains slices (rows_in slices o) ⊎ (rows_in slices o ≡ empty_slice o)
there_or_none [] o = inr refl
there_or_none (s ∷ slices) o =
    elim (is_slice_of o s) as (λ b. Contains (s ∷ slices) (cond b s (rows_in slices o)) ⊎ (cond b s (rows_in slices o) ≡ empty_slice o)) [
      | true ↦ inl (Contains-here s slices)
      | false ↦ elim (there_or_none slices o) [
        | inl there ↦ inl (Contains-later s slices (rows_in slices o) there)
        | inr none ↦ inr none
      ]
    ]

-- A fact of each slice and of no rows holds of each owner's rows.
each_owner : (P : Slice → Type 0) (slices : List Slice) → ((s : Slice) → Contains slices s → P s) → ((o : Bytes) → P (empty_slice o)) → (o : Bytes) → P (rows_in slices o)
each_owner P slices each none o = elim (there_or_none slices o) [ inl there ↦ each (rows_in slices o) there | inr e ↦ subst P (sym e) (none o) ]

-- ---- the batch that holds a unit

no_batches : (unit o : Bytes) → IsHolderIn (empty_slice o) unit None
unfolding row_at
no_batches unit o = λ k. refl

pub holder_of_some : (k : Kept) (unit : Bytes) (answer : Option Holder) → IsOneEach k.slices → IsHolderAmong k.slices unit answer → IsHolder (content_of k) unit answer
holder_of_some k unit (Some h) one (i, s, lt, at, is) =
    let rows : rows_in k.slices h.owner ≡ s = ap (rows_in k.slices) is.0 ∙ own_rows k.slices s one (i, lt, at) in
    ap (λ t. is_some_where (is_on unit) (batch_at t (h.order, h.number))) rows ∙ is.1
holder_of_some k unit None one none = each_owner (λ s. IsHolderIn s unit None) k.slices (λ s there. All-contains (λ t. IsHolderIn t unit None) k.slices s none there) (no_batches unit)

-- ---- edges

pub no_edges : (o : Bytes) (e : Edge) → IsEdge (empty_slice o) e → ⊥
unfolding row_at
no_edges o e edge = false≢true (ap is_some edge.consumption_stands.recorded)

pub edges_of_some : (k : Kept) (edges sorted : List Edge) → IsOneEach k.slices → AreGathered k.slices edges → IsInOrder edge_cmp edges sorted → AreEdges (IsEdgeOfSome (content_of k)) sorted
edges_of_some k edges sorted one gathered in_order = record {
  only = λ e i. one_owners e (gathered.only e (in_order.none_new e i));
  every = λ e of_some. kept_in_order edge_cmp edges_exact edges sorted in_order e
      (each_owner (λ s. IsEdge s e → Contains edges e) k.slices (λ s there edge. gathered.every s e there edge) (λ o edge. absurd (no_edges o e edge)) of_some.owner of_some.edge);
  ordered = in_order.ordered;
}
  where
    one_owners : (e : Edge) → Any (λ s. IsEdge s e) k.slices → IsEdgeOfSome (content_of k) e
    one_owners e (i, s, lt, at, edge) = record { owner = s.owner; edge = subst (λ t. IsEdge t e) (sym (own_rows k.slices s one (i, lt, at))) edge }

any_of_member : {X : Type 0} (P : X → Type 0) (xs : List X) (x : X) → Contains xs x → P x → Any P xs
any_of_member P xs x (i, lt, at) h = (i, x, lt, at, h)

pub gathered_more : (slices : List Slice) (s : Slice) (edges more : List Edge) → AreGathered slices edges → AreEdges (IsEdge s) more → AreGathered (slices ++ s ∷ []) (edges ++ more)
gathered_more slices s edges more so_far own = record {
  only = λ e i. elim (Contains-append_cases edges more e i) [
    | inl before ↦ earlier e (so_far.only e before)
    | inr new ↦ any_of_member (λ t. IsEdge t e) (slices ++ s ∷ []) s (Contains-push slices s) (own.only e new)
  ];
  every = λ t e i edge. elim (Contains-push_cases slices s t i) [
    | inl before ↦ Contains-append_left edges more e (so_far.every t e before edge)
    | inr same ↦ Contains-append_right edges more e (own.every e (subst (λ u. IsEdge u e) (sym same) edge))
  ];
}
  where
    earlier : (e : Edge) → Any (λ t. IsEdge t e) slices → Any (λ t. IsEdge t e) (slices ++ s ∷ [])
    earlier e (i, t, lt, at, edge) = any_of_member (λ u. IsEdge u e) (slices ++ s ∷ []) t (Contains-append_left slices (s ∷ []) t (i, lt, at)) edge

pub gathered_next : (slices : List Slice) (i : ℕ) (s : Slice) (edges more : List Edge) → i < length slices → s ≡ get_or slices i s → AreGathered (take i slices) edges → AreEdges (IsEdge s) more → AreGathered (take (i + 1) slices) (edges ++ more)
gathered_next slices i s edges more lt is so_far own =
    subst (λ all. AreGathered all (edges ++ more)) (sym (take_more slices i s lt ∙ ap (λ t. take i slices ++ t ∷ []) (sym is)))
    (gathered_more (take i slices) s edges more so_far own)
