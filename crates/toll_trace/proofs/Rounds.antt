-- The next level, by a look at every edge.
use Rattle.std.proofs.Common.{◌≡◌, false, not, ◌&&◌, List, map, refl, sym, ap, ◌∙◌, subst, Contains}
use Rattle.toll_trace.proofs.Common.{filter_map, and_parts, and_from, not-true, not_from_false, LotId, Edge, lot_cmp, Step, Way, IsInOrder, edge_of, step_ends, IsJoined, lots_of, is_found, next_lot, IsLevel}
use Rattle.toll_trace.proofs.Ends.{ends_of, edge_of_ends}
use Rattle.toll_trace.proofs.Members.{Contains-map, Contains-filter_map, Contains-from_filter_map, some_by_test}
use Rattle.toll_trace.proofs.Levels.{lot_is_found, level_found_lot, level_of}

-- the lots that these edges reach from the lots that were found
abbrev pub led_to : List Edge → Way → List Step → List LotId
led_to edges way found = filter_map (next_lot way found) edges

pub level_by_edges : (edges : List Edge) (way : Way) (found : List Step) (lots : List LotId) → IsInOrder lot_cmp (led_to edges way found) lots → IsLevel (IsJoined edges way) found lots
level_by_edges edges way found lots order = level_of (IsJoined edges way) found (led_to edges way found) lots only enough order
  where
    only : (b : LotId) → Contains (led_to edges way found) b → (is_found found b ≡ false) × ((a : LotId) × Contains (lots_of found) a × IsJoined edges way a b)
    only b i =
        let (e, listed, leads) = Contains-from_filter_map (next_lot way found) edges b i in
        let (on, is) = some_by_test (is_found found (step_ends way e).0 && not (is_found found (step_ends way e).1)) (step_ends way e).1 b leads in
        let t = and_parts (is_found found (step_ends way e).0) (not (is_found found (step_ends way e).1)) on in
        let joined : e ≡ edge_of way (step_ends way e).0 b = sym (edge_of_ends way e) ∙ ap (edge_of way (step_ends way e).0) is in
        (subst (λ l. is_found found l ≡ false) is (not-true _ t.1), ((step_ends way e).0, level_found_lot found (step_ends way e).0 t.0, subst (Contains edges) joined listed))

    enough : (a b : LotId) → Contains (lots_of found) a → IsJoined edges way a b → is_found found b ≡ false → Contains (led_to edges way found) b
    enough a b i j n =
        let on = and_from _ _ (lot_is_found found a i) (not_from_false _ n) in
        Contains-filter_map (next_lot way found) edges (edge_of way a b) b j (rw (ends_of way a b, on) refl)

pub targets_all : (edges : List Edge) (way : Way) (a b : LotId) → IsJoined edges way a b → Contains (map (λ e. (step_ends way e).1) edges) b
targets_all edges way a b j = subst (λ p. Contains (map (λ e. (step_ends way e).1) edges) p.1) (ends_of way a b) (Contains-map (λ e. (step_ends way e).1) edges (edge_of way a b) j)
