-- Edges stay through changes that add none and remove none.
use Rattle.std.proofs.Common.{◌≡◌, Bool, true, false, not, ◌&&◌, ◌||◌, cond, Option, Some, None, is_some, List, [], ◌∷◌, refl, sym, ap, subst, ◌∙◌, Contains, filter}
use Rattle.std.proofs.lemmas.Cmp.{nat_list_cmp_total}
use Rattle.std.proofs.lemmas.Map.Lookups.{exact_bytes}
use Rattle.std.proofs.lemmas.Map.Views.{tells_apart}
use Rattle.toll_base.proofs.KeyOrder.{row_at-put_row, none_of}
use Rattle.toll_base.specs.Slice.{move_at, void_at}
use Rattle.toll_base.specs.declared.movement.MoveRow.{MoveRow}
use Rattle.toll_base.specs.declared.rows.Row.{Row}
use Rattle.toll_base.specs.declared.rows.Row.TheVariants as row
use Rattle.toll_trace.proofs.Members.{Contains-from_filter}
use Rattle.toll_trace.proofs.Recording.{graph_same}
use Rattle.toll_keep.proofs.Common.{false≢true, list_any, is_eq, All-contains, Bytes, bytes_cmp, same_bytes, same_bytes-exact, Slice, with_row, after_change, after_changes, Change, Owner, Unit as UnitAdded, Put, Edge, IsEdge, Contains-here, Contains-later, Stands, Content, slice_of, knows, content_after, AreGraphsFor, AreGraphsOf, IsKnownGraph, is_actual, may_change_graph, lacks_key, may_draw, AreFor, AreOf, is_slice_of, and_parts, not-true}
use Rattle.toll_keep.specs.declared.known_graph.KnownGraph.{KnownGraph}
use Rattle.toll_keep.proofs.Changed.{own_after}
use Rattle.toll_keep.proofs.RememberedLemmas.{cached_known_slice, owner_after}

-- The two slices have the same actuals and the same voids.
pub record SameActuals (s t : Slice) : Type 0 where
  pub there : (row : MoveRow) → is_actual row.what ≡ true → move_at s row.key ≡ Some row → move_at t row.key ≡ Some row
  pub back : (row : MoveRow) → is_actual row.what ≡ true → move_at t row.key ≡ Some row → move_at s row.key ≡ Some row
  pub voids : s.voids ≡ t.voids

-- Then they have the same edges.
drawn_there : (s t : Slice) → ((row : MoveRow) → is_actual row.what ≡ true → move_at s row.key ≡ Some row → move_at t row.key ≡ Some row) → s.voids ≡ t.voids → (e : Edge) → IsEdge s e → IsEdge t e
drawn_there s t there voids e edge = record {
  order = edge.order;
  number = edge.number;
  consumption = edge.consumption;
  production = edge.production;
  consumed_in = edge.consumed_in;
  produced_in = edge.produced_in;
  consumption_stands = stands edge.consumption (ap is_actual edge.consumes.is) edge.consumption_stands;
  production_stands = stands edge.production (ap is_actual edge.produces.is) edge.production_stands;
  consumes = edge.consumes;
  produces = edge.produces;
  not_above = edge.not_above;
}
  where
    stands : (row : MoveRow) → is_actual row.what ≡ true → Stands s row → Stands t row
    stands row actual old = record { recorded = there row actual old.recorded; not_voided = ap (λ voids. is_some (void_at (record s { voids = voids }) row.key)) (sym voids) ∙ old.not_voided }

pub edges_stay : (s t : Slice) → SameActuals s t → ((e : Edge) → IsEdge s e → IsEdge t e) × ((e : Edge) → IsEdge t e → IsEdge s e)
edges_stay s t same = (drawn_there s t same.there same.voids, drawn_there t s same.back (sym same.voids))

-- ---- one change

-- a movement that is no actual, with a key that no movement had
put_other : (s t : Slice) (moved : MoveRow) → is_actual moved.what ≡ false → move_at s moved.key ≡ None → SameActuals s t → SameActuals s (with_row t (row.Move moved))
put_other s t moved other new same = record { there = there; back = back; voids = same.voids }
  where
    at : (k : Bytes) → move_at (with_row t (row.Move moved)) k ≡ cond (is_eq (bytes_cmp k moved.key)) (Some moved) (move_at t k)
    at k = row_at-put_row bytes_cmp nat_list_cmp_total (λ (r : MoveRow). r.key) t.moves moved k

    there : (r : MoveRow) → is_actual r.what ≡ true → move_at s r.key ≡ Some r → move_at (with_row t (row.Move moved)) r.key ≡ Some r
    there r actual h = at r.key ∙ go (is_eq (bytes_cmp r.key moved.key)) refl
      where
        go : (b : Bool) → is_eq (bytes_cmp r.key moved.key) ≡ b → cond b (Some moved) (move_at t r.key) ≡ Some r
        go true e = absurd (false≢true (ap is_some (sym new) ∙ ap (λ k. is_some (move_at s k)) (sym (tells_apart exact_bytes r.key moved.key e)) ∙ ap is_some h))
        go false e = same.there r actual h

    back : (r : MoveRow) → is_actual r.what ≡ true → move_at (with_row t (row.Move moved)) r.key ≡ Some r → move_at s r.key ≡ Some r
    back r actual h = go (is_eq (bytes_cmp r.key moved.key)) refl (sym (at r.key) ∙ h)
      where
        go : (b : Bool) → is_eq (bytes_cmp r.key moved.key) ≡ b → cond b (Some moved) (move_at t r.key) ≡ Some r → move_at s r.key ≡ Some r
        go true e is = absurd (false≢true (sym other ∙ ap (λ o. is_actual_in o) is ∙ actual))
          where
            is_actual_in : Option MoveRow → Bool
            is_actual_in (Some x) = is_actual x.what
            is_actual_in None = false
        go false e is = same.back r actual is

module _ (slices : List Slice) (o named : Bytes) (s : Slice) (lacks : (key : Bytes) → lacks_key slices o key ≡ true → move_at s key ≡ None) where
  -- a movement that is no actual, with a key that the rows lack
  quiet : (a l : Bool) → (a || not l) ≡ false → (a ≡ false) × (l ≡ true)
  quiet true l e = absurd (false≢true (sym e))
  quiet false true e = (refl, refl)
  quiet false false e = absurd (false≢true (sym e))

  put_stays : (p : Bytes) (r : Row) (t : Slice) → same_bytes p named ≡ true → may_draw slices o named (Put p r) ≡ false → SameActuals s t → SameActuals s (with_row t r)
  put_stays p (row.Material r) t own quiet_so same = record { there = same.there; back = same.back; voids = same.voids }
  put_stays p (row.Test r) t own quiet_so same = record { there = same.there; back = same.back; voids = same.voids }
  put_stays p (row.Recipe r) t own quiet_so same = record { there = same.there; back = same.back; voids = same.voids }
  put_stays p (row.Requirement r) t own quiet_so same = record { there = same.there; back = same.back; voids = same.voids }
  put_stays p (row.Order r) t own quiet_so same = record { there = same.there; back = same.back; voids = same.voids }
  put_stays p (row.Batch r) t own quiet_so same = record { there = same.there; back = same.back; voids = same.voids }
  put_stays p (row.Lot r) t own quiet_so same = record { there = same.there; back = same.back; voids = same.voids }
  put_stays p (row.Sublot r) t own quiet_so same = record { there = same.there; back = same.back; voids = same.voids }
  put_stays p (row.Result r) t own quiet_so same = record { there = same.there; back = same.back; voids = same.voids }
  put_stays p (row.Void r) t own quiet_so same = absurd (false≢true (sym quiet_so ∙ own))
  put_stays p (row.Move r) t own quiet_so same =
      let q = quiet (is_actual r.what) (lacks_key slices o r.key) (ap (λ b. b && (is_actual r.what || not (lacks_key slices o r.key))) (sym own) ∙ quiet_so) in
      put_other s t r q.0 (lacks r.key q.1) same

  one_stays : (change : Change) (t : Slice) → t.owner ≡ named → may_draw slices o named change ≡ false → SameActuals s t → SameActuals s (after_change change t)
  one_stays (Owner r) t own quiet_so same = same
  one_stays (UnitAdded r) t own quiet_so same = same
  one_stays (Put p r) t own quiet_so same = go (same_bytes p t.owner) refl
    where
      go : (b : Bool) → same_bytes p t.owner ≡ b → SameActuals s (cond b (with_row t r) t)
      go true e = put_stays p r t (ap (same_bytes p) (sym own) ∙ e) quiet_so same
      go false e = same

  -- ---- changes one after another
  all_stay : (changes : List Change) (t : Slice) → t.owner ≡ named → list_any (may_draw slices o named) changes ≡ false → SameActuals s t → SameActuals s (after_changes changes t)
  all_stay [] t own none same = same
  all_stay (change ∷ changes) t own none same = go (may_draw slices o named change) refl none (λ h now. all_stay changes (after_change change t) (own_after change t ∙ own) h now)
    where
      go : (b : Bool) → may_draw slices o named change ≡ b → (b || list_any (may_draw slices o named) changes) ≡ false → (list_any (may_draw slices o named) changes ≡ false → SameActuals s (after_change change t) → SameActuals s (after_changes changes (after_change change t))) → SameActuals s (after_changes changes (after_change change t))
      go true e h later = absurd (false≢true (sym h))
      go false e h later = later h (one_stays change t own e same)

-- ---- slices of a content that lack a key

any_where : {X : Type 0} (p : X → Bool) (x : X) (xs : List X) (b : Bool) → p x ≡ b → (b || list_any p xs) ≡ true → (list_any p xs ≡ true → (y : X) × Contains xs y × (p y ≡ true)) → (y : X) × Contains (x ∷ xs) y × (p y ≡ true)
any_where p x xs true e t later = (x, Contains-here x xs, e)
any_where p x xs false e t later = let r = later t in (r.0, Contains-later x xs r.0 r.1, r.2)

pub drawn_any_member : {X : Type 0} (p : X → Bool) (xs : List X) → list_any p xs ≡ true → (x : X) × Contains xs x × (p x ≡ true)
drawn_any_member p [] h = absurd (false≢true h)
drawn_any_member p (x ∷ xs) h = any_where p x xs (p x) refl h (λ t. drawn_any_member p xs t)

lacks_in : (c : Content) (slices : List Slice) (o : Bytes) (key : Bytes) → ((s : Slice) → Contains slices s → s.owner ≡ o → slice_of c s.owner ≡ Some s) → lacks_key slices o key ≡ true → move_at (c.rows o) key ≡ None
lacks_in c slices o key are h =
    let (s, there, test) = drawn_any_member (λ s. is_slice_of o s && not (is_some (move_at s key))) slices h in
    let two = and_parts (is_slice_of o s) (not (is_some (move_at s key))) test in
    let own : s.owner ≡ o = same_bytes-exact s.owner o two.0 in
    let rows : c.rows s.owner ≡ s = (cached_known_slice (knows c s.owner) (c.rows s.owner) s (are s there own)).1 in
    ap (λ p. move_at (c.rows p) key) (sym own) ∙ ap (λ t. move_at t key) rows ∙ none_of (move_at s key) (not-true _ two.1)

-- ---- the graphs that are kept

-- A graph that the changes leave is of the content after them.
graph_left : (changes : List Change) (c : Content) (slices : List Slice) (known : KnownGraph) → ((s : Slice) → Contains slices s → s.owner ≡ known.owner → slice_of c s.owner ≡ Some s) → not (may_change_graph slices changes known) ≡ true → IsKnownGraph c known → IsKnownGraph (content_after changes c) known
graph_left changes c slices known are left is =
    let o = known.owner in
    let start : SameActuals (c.rows o) (c.rows o) = record { there = λ row a h. h; back = λ row a h. h; voids = refl } in
    let same = all_stay slices o known.named (c.rows o) (λ key h. lacks_in c slices o key are h) changes (c.rows o) is.named (not-true _ left) start in
    let edges = edges_stay (c.rows o) (after_changes changes (c.rows o)) same in
    record {
      named = owner_after changes (c.rows o) ∙ is.named;
      graph = graph_same (IsEdge (c.rows o)) (IsEdge (after_changes changes (c.rows o))) edges.0 edges.1 known.graph is.graph;
    }

-- the graphs that the changes leave
abbrev pub left_graphs : List Slice → List Change → List KnownGraph → List KnownGraph
left_graphs slices changes old = filter (λ known. not (may_change_graph slices changes known)) old

pub graphs_left : (changes : List Change) (c : Content) (slices : List Slice) (old : List KnownGraph) → AreOf c slices → AreGraphsOf c old → AreGraphsOf (content_after changes c) (left_graphs slices changes old)
graphs_left changes c slices old all of known i =
    let r = Contains-from_filter (λ (k : KnownGraph). not (may_change_graph slices changes k)) old known i in
    graph_left changes c slices known (λ s there own. All-contains (λ s. slice_of c s.owner ≡ Some s) slices s all there) r.1 (of known r.0)

pub graphs_left_for : (os : List Bytes) (changes : List Change) (c : Content) (slices : List Slice) (old : List KnownGraph) → AreFor os c slices → AreGraphsFor os c old → AreGraphsFor os (content_after changes c) (left_graphs slices changes old)
graphs_left_for os changes c slices old all of known i mine =
    let r = Contains-from_filter (λ (k : KnownGraph). not (may_change_graph slices changes k)) old known i in
    graph_left changes c slices known (λ s there own. All-contains (λ s. Contains os s.owner → slice_of c s.owner ≡ Some s) slices s all there (subst (Contains os) (sym own) mine)) r.1 (of known r.0 mine)

-- They are of the content that they were of before.
pub graphs_still_for : (os : List Bytes) (changes : List Change) (c : Content) (slices : List Slice) (old : List KnownGraph) → AreGraphsFor os c old → AreGraphsFor os c (left_graphs slices changes old)
graphs_still_for os changes c slices old of known i mine = of known (Contains-from_filter (λ (k : KnownGraph). not (may_change_graph slices changes k)) old known i).0 mine
