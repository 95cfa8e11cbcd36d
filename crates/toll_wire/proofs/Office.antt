-- What the office's router finds is what a path leads to.
use Rattle.std.proofs.Common.{◌≡◌, ◌∙◌, ℕ, ◌<◌, zero, suc, true, List, [], ◌∷◌, length, get_or, map, refl, sym, ap, subst, arith, inl, inr, Some, None, Result, Ok, Err, Fits, w8, nat_le}
use Rattle.toll_wire.proofs.Common.{MatchResult, result_ok, AllByRecursion, list_all, IsAscii, IsUtf8, and_parts, nat_tests, IsUtf8-from_ascii, walk, RouteOf, first, Bytes, AreValuesReadFrom, IsPath, PathLeadsTo, count_parts, parts_of, texts_of, In, IsOffice, OfficeRows, tokens, Route, routes, spelled, Endpoint, Values}
use Rattle.toll_wire.proofs.Patterns.{MatchesPattern, filled_length, filled_once, is_plain_pattern, pattern_path_once}
use Rattle.toll_wire.proofs.Places.{good, is_path_byte, place_leads_nowhere, leads_to, path_bytes, path_is, same_route, spelled_is}
use Rattle.toll_wire.proofs.RouterSearch.{AreBytes, ArePlain, Finds, finds}
use Rattle.toll_wire.proofs.Taken.{are_texts, parts_taken}

-- ---- what is found

-- the path is of the route whose row this is, with these parts
pub record IsRouteFound (path : Bytes) (e : RouteOf Endpoint) (taken : List (Bytes × Bytes)) : Type 0 where
  pub route : Route
  pub there : In routes route
  pub endpoint_is : e.value ≡ route.endpoint
  pub filled : MatchesPattern (tokens route) (map (λ p. p.1) taken) path
  pub few : length taken ≡ count_parts e.value.parts
  pub are : AllByRecursion (λ p. IsUtf8 p.1) taken

all_before_map : {A B : Type 0} (P : B → Type 0) (f : A → B) (xs : List A) → AllByRecursion P (map f xs) → AllByRecursion (λ x. P (f x)) xs
all_before_map P f [] all = tt
all_before_map P f (x ∷ xs) all = (all.0, all_before_map P f xs all.1)

are_bytes : (path : Bytes) → ((i : ℕ) → Fits w8 (get_or path i 0)) → AreBytes path
are_bytes [] small = tt
are_bytes (b ∷ path) small = (omega (arith, small 0), are_bytes path (λ i. small (suc i)))

plain_rows : (rows : OfficeRows) → ((row : List ℕ × RouteOf Endpoint) → In rows row → is_plain_pattern row.0 ≡ true) → ArePlain rows
plain_rows [] each = tt
plain_rows (row ∷ rows) each = (each row (inl refl), plain_rows rows (λ r i. each r (inr i)))

row_plain : (router : OfficeRows) (row : List ℕ × RouteOf Endpoint) → IsOffice router → In router row → is_plain_pattern row.0 ≡ true
row_plain router row is i = let (r, there, of_row) = is.from row i in ap is_plain_pattern of_row.tokens_are ∙ (good r there).flat

path_searched : (router : OfficeRows) (path : Bytes) → IsOffice router → ((i : ℕ) → Fits w8 (get_or path i 0)) → Finds router path (first router path)
path_searched router path is small = finds router path (are_bytes path small) (plain_rows router (λ row i. row_plain router row is i))

pub route_found : (router : OfficeRows) (path text other : Bytes) (e : RouteOf Endpoint) (taken : List (Bytes × Bytes)) → IsOffice router → ((i : ℕ) → Fits w8 (get_or path i 0)) → (text ≡ path) × IsUtf8 path
    → first router text ≡ Some e → other ≡ text → taken ≡ walk e.pattern e.text other e.names 0 0 → length taken ≡ length e.names → IsRouteFound path e taken
route_found router path text other e taken is small texts_is f same walked long =
    let (t, texts, i, filled) = subst (Finds router path) (ap (first router) (sym texts_is.0) ∙ f) (path_searched router path is small) in
    let (r, there, row) = is.from (t, e) i in
    let of_route = good r there in
    let here : MatchesPattern (tokens r) texts path = subst (λ p. MatchesPattern p texts path) row.tokens_are filled in
    let size : length texts ≡ count_parts r.endpoint.parts = filled_length (tokens r) texts path here ∙ of_route.parts in
    let reported : map (λ p. p.1) taken ≡ texts =
    ap (map (λ p. p.1)) (walked ∙ (ap (λ p. walk e.pattern e.text p e.names 0 0) (same ∙ texts_is.0) ∙ ap (λ p. walk p e.text path e.names 0 0) row.pattern_is))
    ∙ parts_taken (tokens r) e.text path e.names texts of_route.short of_route.flat here (row.names_are ∙ sym size) in
    let given = subst (λ l. MatchesPattern (tokens r) l path) (sym reported) here in
    record {
      route = r;
      there = there;
      endpoint_is = row.value_is;
      filled = given;
      few = long ∙ (row.names_are ∙ ap (λ (s : Endpoint). count_parts s.parts) (sym row.value_is));
      are = all_before_map IsUtf8 (λ p. p.1) taken (are_texts (tokens r) (map (λ p. p.1) taken) path of_route.flat given texts_is.1);
    }

-- ---- what a path leads to

nowhere : (path : Bytes) → ((r : Route) (v : Values) → In routes r → IsPath r v path → ⊥) → PathLeadsTo routes path None
nowhere path none = place_leads_nowhere routes path none

-- no row is found
pub office_missing : (router : OfficeRows) (path : Bytes) → IsOffice router → ((i : ℕ) → Fits w8 (get_or path i 0)) → first router path ≡ None → PathLeadsTo routes path None
office_missing router path is small e =
    let none = subst (Finds router path) e (path_searched router path is small) in
    nowhere path (λ r v i of_path. let (entry, there) = is.to r i in none (tokens r) entry (texts_of v) there (path_is r v path (good r i) of_path))

-- the texts in the parts write no values
pub unread : (path : Bytes) (e : RouteOf Endpoint) (taken : List (Bytes × Bytes)) → IsRouteFound path e taken → AreValuesReadFrom e.value.parts (map (λ p. p.1) taken) None → PathLeadsTo routes path None
unread path e taken is none = nowhere path (λ r v i of_path.
    let other = path_is r v path (good r i) of_path in
    let same = same_route routes is.route r (map (λ p. p.1) taken) (texts_of v) path refl refl is.there i is.filled other in
    let here = subst (λ q. MatchesPattern (tokens q) (texts_of v) path) (sym same) other in
    let parts : e.value.parts ≡ r.endpoint.parts = ap (λ (s : Endpoint). s.parts) (is.endpoint_is ∙ ap (λ (q : Route). q.endpoint) same) in
    none v (record {
      fill = of_path.parts ∙ sym parts;
      valid = of_path.valid;
      texts_are = filled_once (tokens is.route) (map (λ p. p.1) taken) (texts_of v) path (good is.route is.there).flat is.filled here;
    }))

-- they write these
pub read : (path : Bytes) (e : RouteOf Endpoint) (taken : List (Bytes × Bytes)) (v : Values) → IsRouteFound path e taken → AreValuesReadFrom e.value.parts (map (λ p. p.1) taken) (Some v)
    → PathLeadsTo routes path (Some (e.value, v))
read path e taken v is are =
    let parts : parts_of v ≡ is.route.endpoint.parts = are.fill ∙ ap (λ (s : Endpoint). s.parts) is.endpoint_is in
    let here = subst (λ l. MatchesPattern (tokens is.route) l path) are.texts_are is.filled in
    let of_path : IsPath is.route v path = record {
      parts = parts;
      valid = are.valid;
      text = pattern_path_once (tokens is.route) (texts_of v) path (spelled is.route v) here (spelled_is is.route v (good is.route is.there) are.valid parts);
    } in
    subst (λ s. PathLeadsTo routes path (Some (s, v))) (sym is.endpoint_is) (leads_to routes is.route v path refl refl is.there of_path)

-- a path that is no text is of no route
path_is_ascii : (bytes : Bytes) → list_all is_path_byte bytes ≡ true → IsAscii bytes
path_is_ascii [] all = λ i. omega arith
path_is_ascii (b ∷ bytes) all =
    let parts = and_parts (is_path_byte b) (list_all is_path_byte bytes) all in
    let small : b < 128 = grind (arith, nat_tests, (and_parts (nat_le b 127) _ parts.0).0) in at small (path_is_ascii bytes parts.1)
  where
    at : b < 128 → IsAscii bytes → IsAscii (b ∷ bytes)
    at small later zero = small
    at small later (suc i) = later i

pub nowhere_if_no_text : (path : Bytes) → ¬ (IsUtf8 path) → PathLeadsTo routes path None
nowhere_if_no_text path never = nowhere path (λ r v i is. never (IsUtf8-from_ascii path (path_is_ascii path (path_bytes r v path (good r i) is))))

-- ---- what `ok` keeps

pub some_ok : {T E : Type 0} (P : T → Type 0) (Q : E → Type 0) (r : Result T E) (x : T) → Some x ≡ result_ok r → MatchResult r P Q → P x
some_ok P Q (Ok y) x e is = let same : y ≡ x = cc e in subst P same is
some_ok P Q (Err why) x e is = absurd (cc e)

pub none_ok : {T E : Type 0} (P : T → Type 0) (Q : E → Type 0) (r : Result T E) → None ≡ result_ok r → MatchResult r P Q → (e : E) × Q e
none_ok P Q (Ok y) e is = absurd (cc e)
none_ok P Q (Err why) e is = (why, is)
