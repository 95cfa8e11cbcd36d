use Rattle.std.proofs.Common.{◌≡◌, true, sym, ◌∙◌, Any}
use Rattle.std.proofs.lemmas.List.Filters.{dedup_is}
use Rattle.toll_trace.proofs.Common.{Any-dedup, Contains-from_dedup, IsStrictlySortedBy-dedup, Contains-permutation, IsPermutation-sym}
use Rattle.toll_trace.proofs.in_order.put_in_order.Goals as goal

pub returns : goal.returns
returns g c =
    let is = dedup_is _ _ _ c.dedup.ensures.filtered in
    let moved = c.sort_unstable.ensures.permutation in
    record {
      ordered = rw is (IsStrictlySortedBy-dedup g.met.T.Ord.total g.met.T.Ord.matches_eq _ c.sort_unstable.ensures.sorted);
      none_new = λ x h. Contains-permutation _ _ x (IsPermutation-sym _ _ moved) (Contains-from_dedup _ _ x (rw is at h));
      none_lost = λ x h.
          let kept : Any (λ y. g.T.PartialEq.eq x y ≡ true) c.dedup.new.self.items = rw is (Any-dedup g.met.T.Eq.laws _ x (Contains-permutation _ _ x moved h)) in
          (kept.0, kept.1, kept.2, kept.3, sym (g.met.T.Ord.matches_eq x kept.1) ∙ kept.4);
    }
