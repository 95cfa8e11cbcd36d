-- What the router of the office holds.
use Rattle.std.proofs.Common.{◌≡◌, ◌⊎◌, ◌∙◌, ◌&&◌, map, ℕ, ◌+◌, ◌<◌, ◌≤◌, suc, arith, length, drop, get_or, Bool, true, false, cond, List, [], ◌∷◌, refl, sym, ap, subst, inl, inr, Some, Result, Ok, Err}
use Rattle.toll_wire.proofs.Common.{is_none, drop-cons, and_parts, InsertsRead, RouteOf, nearest, route_from, RowsOf, comes_before, count_parts, In, IsOffice, OfficeRows, tokens, routes, Endpoint}
use Rattle.std.proofs.Math.ListN.{drop_of_length-le}
use Rattle.matchit.specs.Order.{placed}
use Rattle.matchit.specs.Route.{Scan, parse_route}
use Rattle.matchit.specs.declared.error.InsertError.{InsertError}
use Rattle.matchit.specs.declared.error.InsertError.TheVariants.{Conflict, InvalidParam, InvalidParamSegment, InvalidCatchAll, OutOfMemory}
use Rattle.toll_wire.specs.Routes as spec
use Rattle.toll_wire.specs.declared.routes.route.Route.{Route}

-- ---- inserts

-- the rows with that of this route, if its pattern reads so
abbrev put : Result Scan InsertError → Route → OfficeRows → OfficeRows
put (Ok scan) r rows = placed (scan.pattern, route_from scan r.endpoint) rows
put (Err why) r rows = rows

abbrev pub put_all : List Route → OfficeRows → OfficeRows
put_all [] rows = rows
put_all (r ∷ rs) rows = put_all rs (put (parse_route r.pattern.now) r rows)

-- the pattern reads, and can stand with the rows
abbrev pattern_fits : Result Scan InsertError → OfficeRows → Bool
pattern_fits (Ok scan) rows = is_none (nearest scan.pattern rows)
pattern_fits (Err why) rows = false

abbrev pub all_fit : List Route → OfficeRows → Bool
all_fit [] rows = true
all_fit (r ∷ rs) rows = pattern_fits (parse_route r.pattern.now) rows && all_fit rs (put (parse_route r.pattern.now) r rows)

-- the router of these routes is made once the routes from the i-th on are put
pub record IsUpTo (i : ℕ) (rs : List Route) (router : OfficeRows) : Type 0 where
  pub rows : put_all (drop i rs) router ≡ put_all rs []
  pub fit : all_fit (drop i rs) router ≡ true

module _ (rs : List Route) (i : ℕ) (d : Route) (old new : OfficeRows) (within : i < length rs) (before : IsUpTo i rs old) where
  router_rest_is : drop i rs ≡ get_or rs i d ∷ drop (i + 1) rs
  router_rest_is = let one : suc i ≡ i + 1 = omega arith in drop-cons rs i d within ∙ ap (λ n. get_or rs i d ∷ drop n rs) one

  fit_is : (pattern_fits (parse_route (get_or rs i d).pattern.now) old ≡ true) × (all_fit (drop (i + 1) rs) (put (parse_route (get_or rs i d).pattern.now) (get_or rs i d) old) ≡ true)
  fit_is = and_parts _ _ (sym (ap (λ l. all_fit l old) router_rest_is) ∙ before.fit)

  -- an insert puts the next route, or there is no memory
  pub entered : (u : Unit {0}) → InsertsRead (parse_route (get_or rs i d).pattern.now) (get_or rs i d).endpoint old new (Ok u) → IsUpTo (i + 1) rs new
  entered u does =
      let put_is = on (parse_route (get_or rs i d).pattern.now) fit_is.0 does in
      record {
        rows = ap (put_all (drop (i + 1) rs)) put_is ∙ (sym (ap (λ l. put_all l old) router_rest_is) ∙ before.rows);
        fit = ap (all_fit (drop (i + 1) rs)) put_is ∙ fit_is.1;
      }
    where
      on : (p : Result Scan InsertError) → pattern_fits p old ≡ true → InsertsRead p (get_or rs i d).endpoint old new (Ok u) → new ≡ put p (get_or rs i d) old
      on (Ok s) fit does = does.1
      on (Err why) fit does = does.0

  pub insert_refused : (e : InsertError) → InsertsRead (parse_route (get_or rs i d).pattern.now) (get_or rs i d).endpoint old new (Err e) → e ≡ OutOfMemory
  insert_refused e does = on (parse_route (get_or rs i d).pattern.now) e fit_is.0 does
    where
      none_is : (p : List ℕ) (n : RouteOf Endpoint) → is_none (nearest p old) ≡ true → nearest p old ≡ Some n → ⊥
      none_is p n fit e = let never : is_none (nearest p old) ≡ false = ap is_none e in cc (fit, never)

      on : (p : Result Scan InsertError) (e : InsertError) → pattern_fits p old ≡ true → InsertsRead p (get_or rs i d).endpoint old new (Err e) → e ≡ OutOfMemory
      on (Err why) e fit does = absurd (cc fit)
      on (Ok s) OutOfMemory fit does = refl
      on (Ok s) (Conflict with) fit does = absurd (none_is s.pattern does.1.0 fit does.1.1)
      on (Ok s) InvalidParamSegment fit does = absurd does.1
      on (Ok s) InvalidParam fit does = absurd does.1
      on (Ok s) InvalidCatchAll fit does = absurd does.1

-- ---- the rows of the routes

router_placed_in : {K : Type 0} (row : List ℕ × K) (rows : RowsOf K) (x : List ℕ × K) → (row ≡ x) ⊎ In rows x → In (placed row rows) x
router_placed_in row [] x i = i
router_placed_in {K} row (y ∷ rows) x i = on (comes_before row.0 y.0) i (router_placed_in row rows x)
  where
    on : (t : Bool) → (row ≡ x) ⊎ In (y ∷ rows) x → ((row ≡ x) ⊎ In rows x → In (placed row rows) x) → In (cond t (row ∷ y ∷ rows) (y ∷ placed row rows)) x
    on true i later = i
    on false (inl e) later = inr (later (inl e))
    on false (inr (inl e)) later = inl e
    on false (inr (inr i)) later = inr (later (inr i))

in_placed : {K : Type 0} (row : List ℕ × K) (rows : RowsOf K) (x : List ℕ × K) → In (placed row rows) x → (row ≡ x) ⊎ In rows x
in_placed row [] x i = i
in_placed {K} row (y ∷ rows) x i = on (comes_before row.0 y.0) i (in_placed row rows x)
  where
    swap : {A B C : Type 0} → A ⊎ (B ⊎ C) → B ⊎ (A ⊎ C)
    swap (inl a) = inr (inl a)
    swap (inr (inl b)) = inl b
    swap (inr (inr c)) = inr (inr c)

    on : (t : Bool) → In (cond t (row ∷ y ∷ rows) (y ∷ placed row rows)) x → (In (placed row rows) x → (row ≡ x) ⊎ In rows x) → (row ≡ x) ⊎ In (y ∷ rows) x
    on true i later = i
    on false (inl e) later = inr (inl e)
    on false (inr i) later = swap (inr (later i))

-- the routes in the order of a router
abbrev pub sorted : List spec.Route → RowsOf spec.Route
sorted [] = []
sorted (r ∷ rs) = placed (tokens r, r) (sorted rs)

sorted_in : (rs : List spec.Route) (r : spec.Route) → In rs r → In (sorted rs) (tokens r, r)
sorted_in [] r i = i
sorted_in (q ∷ rs) r (inl e) = router_placed_in (tokens q, q) (sorted rs) (tokens r, r) (inl (ap (λ x. (tokens x, x)) e))
sorted_in (q ∷ rs) r (inr i) = router_placed_in (tokens q, q) (sorted rs) (tokens r, r) (inr (sorted_in rs r i))

in_sorted : (rs : List spec.Route) (row : List ℕ × spec.Route) → In (sorted rs) row → In rs row.1
in_sorted [] row i = i
in_sorted (q ∷ rs) row i = on (in_placed (tokens q, q) (sorted rs) row i) (in_sorted rs row)
  where
    on : ((tokens q, q) ≡ row) ⊎ In (sorted rs) row → (In (sorted rs) row → In rs row.1) → In (q ∷ rs) row.1
    on (inl e) later = inl (ap (λ (x : List ℕ × spec.Route). x.1) e)
    on (inr i) later = inr (later i)

in_map : {A B : Type 0} (f : A → B) (xs : List A) (x : A) → In xs x → In (map f xs) (f x)
in_map f [] x i = i
in_map f (y ∷ xs) x (inl e) = inl (ap f e)
in_map f (y ∷ xs) x (inr i) = inr (in_map f xs x i)

of_map : {A B : Type 0} (f : A → B) (xs : List A) (y : B) → In (map f xs) y → (x : A) × In xs x × (f x ≡ y)
of_map f [] y i = absurd i
of_map f (x ∷ xs) y (inl e) = (x, inl refl, e)
of_map f (x ∷ xs) y (inr i) = let later = of_map f xs y i in (later.0, inr later.1, later.2)

-- what a row says of its route, and what the route says
abbrev Entry : Type 0
Entry = List ℕ × List ℕ × ℕ × Endpoint

abbrev pub entry_of_row : List ℕ × RouteOf Endpoint → List ℕ × List ℕ × ℕ × Endpoint
entry_of_row row = (row.0, row.1.pattern, length row.1.names, row.1.value)

abbrev pub entry_of_route : List ℕ × spec.Route → List ℕ × List ℕ × ℕ × Endpoint
entry_of_route row = (tokens row.1, tokens row.1, count_parts row.1.endpoint.parts, row.1.endpoint)

-- the router of the routes is the office's, if its rows say what the routes do
pub router_complete : (rs : List Route) (i : ℕ) (router : OfficeRows) → length rs ≤ i → IsUpTo i rs router → map entry_of_row (put_all rs []) ≡ map entry_of_route (sorted routes) → IsOffice router
router_complete rs i router end is table =
    let whole : router ≡ put_all rs [] = sym (ap (λ l. put_all l router) (drop_of_length-le rs end)) ∙ is.rows in
    let same = ap (map entry_of_row) whole ∙ table in
    record {
      from = λ row i.
          let (q, there, e) = of_map entry_of_route (sorted routes) (entry_of_row row) (subst (λ l. In l (entry_of_row row)) same (in_map entry_of_row router row i)) in (
            q.1,
            in_sorted routes q there,
            record {
              tokens_are = sym (ap (λ (s : Entry). s.0) e);
              pattern_is = sym (ap (λ (s : Entry). s.1) e);
              names_are = sym (ap (λ (s : Entry). s.2) e);
              value_is = sym (ap (λ (s : Entry). s.3) e);
            },
          );
      to = λ r i.
          let (row, there, e) = of_map entry_of_row router (entry_of_route (tokens r, r)) (subst (λ l. In l (entry_of_route (tokens r, r))) (sym same) (in_map entry_of_route (sorted routes) (tokens r, r) (sorted_in routes r i))) in
          (row.1, subst (λ t. In router (t, row.1)) (ap (λ (s : Entry). s.0) e) there);
    }
