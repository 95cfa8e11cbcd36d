-- The rows of a plain query.
use Rattle.std.proofs.Common.{◌≡◌, ◌<◌, ◌+◌, ℕ, Bool, true, false, cond, List, [], ◌∷◌, ◌++◌, map, length, get_or, refl, sym, ap, subst, subst₂, ◌∙◌, arith, All, filter, IsPermutation, IsSorted}
use Rattle.toll_sql.proofs.Common.{list_all, flat_map, on, get_or-map, All-map, IsPermutation-map, All-permutation, Row, Term, Env, eval_all, holds, Output, IsAnswer, output, key_cmp, Trees, Key, plain_query, AreShown}

flat_hits : (p : Row → Bool) (params : Row) (rows : List Row) → flat_map (λ r. cond (p r) ((params ∷ r ∷ []) ∷ []) []) rows ≡ map (λ r. params ∷ r ∷ []) (filter p rows)
flat_hits p params [] = refl
flat_hits p params (r ∷ rows) = go (p r) (flat_hits p params rows)
  where
    go : (b : Bool) → flat_map (λ r. cond (p r) ((params ∷ r ∷ []) ∷ []) []) rows ≡ map (λ r. params ∷ r ∷ []) (filter p rows)
        → cond b ((params ∷ r ∷ []) ∷ []) [] ++ flat_map (λ r. cond (p r) ((params ∷ r ∷ []) ∷ []) []) rows ≡ map (λ r. params ∷ r ∷ []) (cond b (r ∷ filter p rows) (filter p rows))
    go true h = ap (λ es. (params ∷ r ∷ []) ∷ es) h
    go false h = h

map_map : {A B C : Type 0} (f : B → C) (g : A → B) (xs : List A) → map f (map g xs) ≡ map (λ x. f (g x)) xs
map_map f g [] = refl
map_map f g (x ∷ xs) = ap (λ ys. f (g x) ∷ ys) (map_map f g xs)

len_map : {A B : Type 0} (f : A → B) (xs : List A) → length (map f xs) ≡ length xs
len_map f [] = refl
len_map f (x ∷ xs) = omega (arith, len_map f xs)

module _ (t : ℕ) (flt project : List Term) (order : List (Term × Key)) (ord : Row → Row) (reported : (env : Env) → eval_all (map (λ k. k.0) order) env ≡ ord (eval_all project env)) where
  pub shown_by : (db : Trees) (params : Row) (rows : List Row) → IsAnswer (plain_query t flt project order) db params rows
      → AreShown (λ r. eval_all project (params ∷ r ∷ [])) ord (map (λ k. k.1) order) (filter (λ r. list_all (holds (params ∷ r ∷ [])) flt) (db t)) rows
  shown_by db params rows a =
      let q = plain_query t flt project order in
      let hits = filter (λ r. list_all (holds (params ∷ r ∷ [])) flt) (db t) in
      let staged : a.staged ≡ map (λ r. params ∷ r ∷ []) hits = a.grouped ∙ flat_hits _ params (db t) in
      let kept : a.kept ≡ map (λ r. output q (params ∷ r ∷ [])) hits = a.distinct ∙ ap (map (output q)) staged ∙ map_map (output q) (λ r. params ∷ r ∷ []) hits in
      let same : IsPermutation (map (λ r. output q (params ∷ r ∷ [])) hits) a.ordered = subst (λ k. IsPermutation k a.ordered) kept a.same in
      let told_all : All (λ (o : Output). o.0 ≡ ord o.1) a.ordered =
      All-permutation (λ (o : Output). o.0 ≡ ord o.1) _ _ same (All-map (λ (o : Output). o.0 ≡ ord o.1) (λ r. output q (params ∷ r ∷ [])) hits (λ i d low. reported _)) in
      let shown : rows ≡ map (λ (o : Output). o.1) a.ordered = a.shown in
      let low : (k : ℕ) (d : Row) → k < length a.ordered → get_or (map (λ (o : Output). o.1) a.ordered) k d ≡ (get_or a.ordered k ([], d)).1 = λ k d below. get_or-map (λ (o : Output). o.1) a.ordered k ([], d) d below in
      record {
        same = subst₂ (λ xs ys. IsPermutation xs ys) (map_map (λ (o : Output). o.1) (λ r. output q (params ∷ r ∷ [])) hits) (sym shown) (IsPermutation-map (λ (o : Output). o.1) _ _ same);
        sorted = subst (IsSorted (on ord (key_cmp 0 (map (λ k. k.1) order)))) (sym shown) (λ k d _ below.
            let long : k + 1 < length a.ordered = omega (arith, below, len_map (λ (o : Output). o.1) a.ordered) in
            rw (low (k + 1) d long, low k d (omega arith), sym (told_all (k + 1) ([], d) long), sym (told_all k ([], d) (omega arith))) (a.sorted k ([], d) (omega arith) long));
      }
