-- Each request is asked for at its address, and nowhere else.
use Rattle.std.proofs.Common.{◌≡◌, ◌∙◌, ℕ, ◌+◌, ◌<◌, zero, suc, true, false, Bool, cond, List, [], ◌∷◌, ◌++◌, length, take, drop, get_or, refl, sym, ap, subst, arith, inl, inr, Option, Some, None, Result, Ok, append-nil, rules, ◌==◌, nat_le, not, IsSome, IsSomeAnd, option_map}
use Rattle.toll_wire.proofs.Common.{AllByRecursion, IfSome, list_all, position_or_len, nat_tests, take-append_seam, and_parts, Bytes, Request, Failure, Verb, Get, Post, Placing, IsBodyOf, IsAsking, IsRequestAt, IsRequestOf, MakesRequest, ValuesFit, kind_for, placing_request, AreValues, IsPath, PathLeadsTo, parts_of, path_of, In, IsAskable, Route, address_of, path_text_of, request_from, routes, Endpoint, Values, take-append-drop, RequestKind}
use Rattle.toll_base.specs.declared.request.Request.TheVariants as request
use Rattle.toll_wire.specs.Addresses.{HasAddress, IsBodyFor, IsQuery}
use Rattle.toll_wire.specs.declared.routes.parts.Parts.{Parts}
use Rattle.toll_wire.specs.declared.routes.parts.Parts.TheVariants as part
use Rattle.toll_wire.specs.declared.routes.route.RequestKind.TheVariants as ask
use Rattle.toll_wire.specs.declared.routes.values.Values.TheVariants.{Nothing, Name, NameAndNumber}
use Rattle.toll_wire.proofs.BodyWithin.{order_body_within}
use Rattle.toll_wire.proofs.Places.{good, is_path_byte, leads_to, path_bytes}

-- ---- paths as addresses have them: nothing is added if nothing stands behind the values

abbrev joined : Bytes → Bytes → Bytes
joined text [] = text
joined text (b ∷ back) = text ++ (b ∷ back)

joined_is : (text back : Bytes) → text ++ back ≡ joined text back
joined_is text [] = append-nil text
joined_is text (b ∷ back) = refl

abbrev path_at : Route → Values → Bytes
path_at r v = r.front ++ joined (path_text_of v) r.back

path_at_is : (r : Route) (v : Values) (path : Bytes) → IsPath r v path → path ≡ path_at r v
path_at_is r v path is = is.text ∙ ap (λ t. r.front ++ t) (joined_is (path_text_of v) r.back)

-- ---- each route's values make its requests, whose address is the route's

-- the fact holds of all values of these parts
abbrev HoldsOfParts : Parts → (Values → Type 0) → Type 0
HoldsOfParts part.Nothing P = P Nothing
HoldsOfParts part.Name P = (name : Bytes) → P (Name name)
HoldsOfParts part.NameAndNumber P = (name : Bytes) (number : ℕ) → P (NameAndNumber name number)

holds_of : (parts : Parts) (P : Values → Type 0) (v : Values) → HoldsOfParts parts P → parts_of v ≡ parts → P v
holds_of part.Nothing P Nothing all e = all
holds_of part.Nothing P (Name name) all e = absurd (cc e)
holds_of part.Nothing P (NameAndNumber name number) all e = absurd (cc e)
holds_of part.Name P Nothing all e = absurd (cc e)
holds_of part.Name P (Name name) all e = all name
holds_of part.Name P (NameAndNumber name number) all e = absurd (cc e)
holds_of part.NameAndNumber P Nothing all e = absurd (cc e)
holds_of part.NameAndNumber P (Name name) all e = absurd (cc e)
holds_of part.NameAndNumber P (NameAndNumber name number) all e = all name number

-- the values make a request of the kind, and its address is this one
abbrev IsMadeAt : Verb × Bytes → RequestKind → Values → Type 0
IsMadeAt address ask.Place v = (placing : Placing) → address_of (request.Place placing) ≡ address
IsMadeAt address kind v = IsSomeAnd (request_from kind v) (λ requested. address_of requested ≡ address)

-- the same if the method asks for anything
abbrev IsMadeIf : Verb × Bytes → Option RequestKind → Values → Type 0
IsMadeIf address None v = Unit {0}
IsMadeIf address (Some kind) v = IsMadeAt address kind v

abbrev MakesRequests : Route → Type 0
MakesRequests r = HoldsOfParts r.endpoint.parts (λ v. IsMadeIf (Get, path_at r v) r.endpoint.get v × IsMadeIf (Post, path_at r v) r.endpoint.post v)

every_route : AllByRecursion MakesRequests routes
every_route = (
  (refl, λ placing. refl),
  (
    (λ n. (refl, tt)),
    (
      (λ n. (tt, refl)),
      (
        (λ n k. (refl, tt)),
        (
          (refl, tt),
          (
            (λ n. (refl, tt)),
            (
              (λ n. (tt, refl)),
              (
                (λ n. (tt, refl)),
                ((λ n. (refl, tt)), ((λ n. (refl, tt)), ((λ n. (refl, tt)), tt))),
              ),
            ),
          ),
        ),
      ),
    ),
  ),
)

by_method : (verb : Verb) (r : Route) (v : Values) → IsMadeIf (Get, path_at r v) r.endpoint.get v × IsMadeIf (Post, path_at r v) r.endpoint.post v → IsMadeIf (verb, path_at r v) (kind_for verb r.endpoint) v
by_method Get r v made = made.0
by_method Post r v made = made.1

same_place : (p q : Endpoint × Values) → Some p ≡ Some q → p ≡ q
same_place p q e = cc e

-- a path with this verb is the address of what is made of its values, and they are values
record IsMade (verb : Verb) (path : Bytes) (place : Endpoint × Values) : Type 0 where
  made : IsMadeIf (verb, path) (kind_for verb place.0) place.1
  valid : AreValues place.1

made_among : (rs : List Route) (verb : Verb) (path : Bytes) (place : Endpoint × Values) → AllByRecursion MakesRequests rs → PathLeadsTo rs path (Some place) → IsMade verb path place
made_among [] verb path place all e = absurd (cc e)
made_among (q ∷ rs) verb path place all (inl (w, is, e)) =
    let here = by_method verb q w (holds_of q.endpoint.parts (λ v. IsMadeIf (Get, path_at q v) q.endpoint.get v × IsMadeIf (Post, path_at q v) q.endpoint.post v) w all.0 is.parts) in
    subst (IsMade verb path) (sym (same_place place (q.endpoint, w) e)) (record {
      made = subst (λ p. IsMadeIf (verb, p) (kind_for verb q.endpoint) w) (sym (path_at_is q w path is)) here;
      valid = is.valid;
    })
made_among (q ∷ rs) verb path place all (inr (none, leads)) = made_among rs verb path place all.1 leads

fits_if_some : (P : Request → Type 0) (o : Option Request) → IsSomeAnd o P → IsSome o
fits_if_some P None is = absurd is
fits_if_some P (Some r) is = refl

fits_if_made : (address : Verb × Bytes) (kind : RequestKind) (v : Values) → IsMadeAt address kind v → ValuesFit kind v
fits_if_made address ask.Place v made = tt
fits_if_made address kind v made = fits_if_some (λ requested. address_of requested ≡ address) (request_from kind v) made

pub route_values_fit : (verb : Verb) (path : Bytes) (s : Endpoint) (v : Values) (kind : RequestKind) → PathLeadsTo routes path (Some (s, v)) → kind_for verb s ≡ Some kind → ValuesFit kind v
route_values_fit verb path s v kind leads e = fits_if_made (verb, path) kind v (subst (λ k. IsMadeIf (verb, path) k v) e (made_among routes verb path (s, v) every_route leads).made)

-- ---- what is asked for has its address

at_query : (query : Bytes) → IsQuery query → position_or_len (λ b. b == 63) query ≡ 0
at_query [] is = refl
at_query (b ∷ rest) is = rw is refl

-- behind the path stands a query
behind_path : (target : Bytes) → IsQuery (drop (position_or_len (λ b. b == 63) target) target)
behind_path [] = tt
behind_path (b ∷ rest) = on (position_or_len (λ b. b == 63) rest) (b == 63) refl (behind_path rest)
  where
    on : (n : ℕ) (mark : Bool) → (b == 63) ≡ mark → IsQuery (drop n rest) → IsQuery (drop (cond (not mark) (1 + n) 0) (b ∷ rest))
    on n true is later = grind (arith, nat_tests)
    on n false is later = let one : suc n ≡ 1 + n = omega arith in subst (λ m. IsQuery (drop m (b ∷ rest))) one later

-- the request is made of values, or of a body, that are right
record IsRightFor (address : Verb × Bytes) (body : Bytes) (requested : Request) : Type 0 where
  address_is : address_of requested ≡ address
  askable : IsAskable requested
  body_is : IsBodyFor requested body

askable_values : (v : Values) (kind : RequestKind) → AreValues v → IfSome (request_from kind v) IsAskable
askable_values Nothing ask.Orders valid = tt
askable_values (Name name) ask.Order valid = valid
askable_values (NameAndNumber name number) ask.Batch valid = valid
askable_values _ _ valid = search rules

any_body : (v : Values) (kind : RequestKind) (body : Bytes) → IfSome (request_from kind v) (λ requested. IsBodyFor requested body)
any_body Nothing ask.Orders body = tt
any_body (Name name) ask.Order body = tt
any_body (NameAndNumber name number) ask.Batch body = tt
any_body _ _ body = tt

right_values : (address : Verb × Bytes) (body : Bytes) (requested : Request) (asks : Result Request Failure) (o : Option Request) → IsSomeAnd o (λ r. address_of r ≡ address) → IfSome o IsAskable → IfSome o (λ r. IsBodyFor r body)
    → Some asks ≡ option_map (λ r. Ok r) o → asks ≡ Ok requested → IsRightFor address body requested
right_values address body requested asks None made askable body_is e is = absurd made
right_values address body requested asks (Some r) made askable body_is e is =
    let same : r ≡ requested = cc (e, is) in subst (IsRightFor address body) same (record { address_is = made; askable = askable; body_is = body_is })

right_order : (address : Verb × Bytes) (body : Bytes) (requested : Request) (order : Option Placing) → ((placing : Placing) → address_of (request.Place placing) ≡ address)
    → IsBodyOf body order → Ok requested ≡ placing_request order → IsRightFor address body requested
right_order address body requested None made is e = absurd (cc e)
right_order address body requested (Some p) made is e =
    let same : request.Place p ≡ requested = cc e in
    subst (IsRightFor address body) same (record { address_is = made p; askable = order_body_within body p is; body_is = is })

right_by : (address : Verb × Bytes) (kind : RequestKind) (v : Values) (body : Bytes) (requested : Request) → IsMadeAt address kind v → AreValues v → MakesRequest kind v body (Ok requested) → IsRightFor address body requested
right_by address ask.Place v body requested made valid is = right_order address body requested is.0 made is.1 is.2
right_by address kind v body requested made valid is = right_values address body requested (Ok requested) (request_from kind v) made (askable_values v kind valid) (any_body v kind body) is refl

right_of : (address : Verb × Bytes) (verb : Verb) (kind : Option RequestKind) (v : Values) (body : Bytes) (requested : Request) → IsMadeIf address kind v → AreValues v → IsRequestOf verb kind v body (Ok requested) → IsRightFor address body requested
right_of address verb None v body requested made valid is = absurd (cc is)
right_of address verb (Some kind) v body requested made valid is = right_by address kind v body requested made valid is

right_at : (verb : Verb) (path body : Bytes) (place : Option (Endpoint × Values)) (requested : Request) → PathLeadsTo routes path place → IsRequestAt verb place body (Ok requested) → IsRightFor (verb, path) body requested
right_at verb path body None requested leads is = absurd (cc is)
right_at verb path body (Some place) requested leads is =
    let at = made_among routes verb path place every_route leads in right_of (verb, path) verb (kind_for verb place.0) place.1 body requested at.made at.valid is

pub each_has_address : (verb : Verb) (target body : Bytes) (requested : Request) → IsAsking verb target body (Ok requested) → HasAddress verb target body requested
each_has_address verb target body requested is =
    let right = right_at verb (path_of target) body is.place requested is.leads is.requested in
    let query = drop (position_or_len (λ b. b == 63) target) target in
    record {
      query = query;
      queried = behind_path target;
      verb_is = sym (ap (λ (a : Verb × Bytes). a.0) right.address_is);
      target_is = sym (take-append-drop (position_or_len (λ b. b == 63) target) target) ∙ ap (λ (a : Verb × Bytes). a.1 ++ query) (sym right.address_is);
      askable = right.askable;
      body_is = right.body_is;
    }

-- ---- each request is asked for at its address

to_the_query : (path query : Bytes) → list_all is_path_byte path ≡ true → IsQuery query → position_or_len (λ b. b == 63) (path ++ query) ≡ length path
to_the_query [] query all is = at_query query is
to_the_query (b ∷ path) query all is =
    let parts = and_parts (is_path_byte b) (list_all is_path_byte path) all in
    ap (λ t. cond t (1 + position_or_len (λ b. b == 63) (path ++ query)) 0) (and_parts (nat_le b 127) _ parts.0).1 ∙ (ap (λ n. 1 + n) (to_the_query path query parts.1 is) ∙ omega arith)

path_before : (path query : Bytes) → list_all is_path_byte path ≡ true → IsQuery query → path_of (path ++ query) ≡ path
path_before path query all is =
    ap (λ n. take n (path ++ query)) (to_the_query path query all is) ∙ take-append_seam path query

-- the n-th route
abbrev route_at : ℕ → Route
route_at n = get_or routes n (record { front = []; back = []; endpoint = record { parts = part.Nothing; get = None; post = None } })

in_at : {A : Type 0} (xs : List A) (n : ℕ) (d : A) → n < length xs → In xs (get_or xs n d)
in_at [] n d within = omega arith
in_at (x ∷ xs) zero d within = inl refl
in_at (x ∷ xs) (suc n) d within = inr (in_at xs n d (omega arith))

-- this is asked for at a path of the n-th route
asked_at : (verb : Verb) (n : ℕ) (v : Values) (query body : Bytes) (asks : Result Request Failure) → IsQuery query → n < length routes → parts_of v ≡ (route_at n).endpoint.parts → AreValues v
    → IsRequestOf verb (kind_for verb (route_at n).endpoint) v body asks → IsAsking verb (path_at (route_at n) v ++ query) body asks
asked_at verb n v query body asks queried within parts valid requested =
    let there = in_at routes n _ within in
    let path = path_at (route_at n) v in
    let is : IsPath (route_at n) v path = record { parts = parts; valid = valid; text = ap (λ t. (route_at n).front ++ t) (sym (joined_is (path_text_of v) (route_at n).back)) } in
    let plain = path_bytes (route_at n) v path (good (route_at n) there) is in
    record {
      place = Some ((route_at n).endpoint, v);
      leads = subst (λ p. PathLeadsTo routes p (Some ((route_at n).endpoint, v))) (sym (path_before path query plain queried)) (leads_to routes (route_at n) v path refl refl there is);
      requested = requested;
    }

pub each_address_asks : (requested : Request) (query body : Bytes) → IsAskable requested → IsQuery query → IsBodyFor requested body
    → IsAsking (address_of requested).0 ((address_of requested).1 ++ query) body (Ok requested)
each_address_asks request.Orders query body is queried by = asked_at Get 0 Nothing query body _ queried (omega arith) refl is refl
each_address_asks (request.Order order) query body is queried by = asked_at Get 1 (Name order) query body _ queried (omega arith) refl is refl
each_address_asks (request.Place placing) query body is queried by =
    asked_at Post 0 Nothing query body _ queried (omega arith) refl tt (Some placing, by, refl)
each_address_asks (request.Cancel order) query body is queried by = asked_at Post 2 (Name order) query body _ queried (omega arith) refl is refl
each_address_asks (request.Batch order number) query body is queried by = asked_at Get 3 (NameAndNumber order number) query body _ queried (omega arith) refl is refl
each_address_asks request.Stock query body is queried by = asked_at Get 4 Nothing query body _ queried (omega arith) refl is refl
each_address_asks (request.Lot lot) query body is queried by = asked_at Get 5 (Name lot) query body _ queried (omega arith) refl is refl
each_address_asks (request.Release lot) query body is queried by = asked_at Post 6 (Name lot) query body _ queried (omega arith) refl is refl
each_address_asks (request.Reject lot) query body is queried by = asked_at Post 7 (Name lot) query body _ queried (omega arith) refl is refl
each_address_asks (request.Back lot) query body is queried by = asked_at Get 8 (Name lot) query body _ queried (omega arith) refl is refl
each_address_asks (request.Forward lot) query body is queried by = asked_at Get 9 (Name lot) query body _ queried (omega arith) refl is refl
each_address_asks (request.HouseForward lot) query body is queried by = asked_at Get 10 (Name lot) query body _ queried (omega arith) refl is refl
